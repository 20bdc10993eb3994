use Rattle.pb_pmem.proofs.OperationSteps.{does_none, on_err}
use Rattle.pb_pmem.proofs.WrittenLines.{writes_from-none}
use Rattle.pb_pmem.proofs.WriteSteps.{does_write, stops_write}
use Rattle.pb_pmem.proofs.operations.write_lines.Goals as goal

pub loop-place-init : goal.loop-place-init
loop-place-init g c = rw (writes_from-none c.args.first) (does_none (g.P.Pmem.seen c.args.device.now))

pub returns-in_err-make-clause-err : goal.returns-in_err-make-clause-err
returns-in_err-make-clause-err g c =
    on_err c.from_residual.result
    (stops_write c.args.first c.loop-place.place c.args.lines.now c.index-lines-place.result (g.P.Pmem.seen c.args.device.now) (g.P.Pmem.seen c.loop-place.device) (g.P.Pmem.seen c.make.new.device) c.loop-place-test.true c.index-lines-place.is c.loop-place.invariant c.in_err-make.ensures.err)

pub loop-place-preserved : goal.loop-place-preserved
loop-place-preserved g c =
    does_write c.args.first c.loop-place.place c.args.lines.now c.index-lines-place.result (g.P.Pmem.seen c.args.device.now) (g.P.Pmem.seen c.loop-place.device) (g.P.Pmem.seen c.make.new.device) c.loop-place-test.true c.index-lines-place.is c.loop-place.invariant c.in_ok-make.ensures.ok
