use Rattle.pb_pmem.proofs.OperationSteps.{does_none, does_next, stops_next, on_err, within_at}
use Rattle.pb_pmem.proofs.operations.make_all.Goals as goal

pub loop-place-init : goal.loop-place-init
loop-place-init g c = does_none (g.P.Pmem.seen c.args.device.now)

pub make-requires : goal.make-requires
make-requires g c = within_at c.args.ops.now c.loop-place.place c.index-ops-place.result c.requires c.loop-place-test.true c.index-ops-place.is

pub returns-in_err-make-clause-err : goal.returns-in_err-make-clause-err
returns-in_err-make-clause-err g c =
    on_err c.from_residual.result
    (stops_next c.args.ops.now c.loop-place.place c.index-ops-place.result (g.P.Pmem.seen c.args.device.now) (g.P.Pmem.seen c.loop-place.device) (g.P.Pmem.seen c.make.new.device) c.loop-place-test.true c.index-ops-place.is c.loop-place.invariant c.in_err-make.ensures.err)

pub loop-place-preserved : goal.loop-place-preserved
loop-place-preserved g c =
    does_next c.args.ops.now c.loop-place.place c.index-ops-place.result (g.P.Pmem.seen c.args.device.now) (g.P.Pmem.seen c.loop-place.device) (g.P.Pmem.seen c.make.new.device) c.loop-place-test.true c.index-ops-place.is c.loop-place.invariant c.in_ok-make.ensures.ok
