use Rattle.pb_pair.specs.Format.{IsFormatStop}
use Rattle.pb_pair.specs.declared.why.Stop.TheVariants.{Fault}
use Rattle.pb_pair.proofs.Formatting.{stopped}
use Rattle.pb_pair.proofs.Tests.{passed_up}
use Rattle.pb_pair.proofs.format.make_region.Goals as goal

pub returns-in_err-write_region-clause-err : goal.returns-in_err-write_region-clause-err
returns-in_err-write_region-clause-err g c =
    let old = g.P.Pmem.seen c.args.device.now in
    let mid = g.P.Pmem.seen c.read.new.self in
    let new = g.P.Pmem.seen c.write_region.new.device in
    passed_up c.from_residual-in_err-write_region.result Fault (IsFormatStop c.args.head.now c.args.first.now c.args.second.now old new) c.from_residual-in_err-write_region.ensures.1
    (stopped c.args.head.now c.args.first.now c.args.second.now old mid new c.read.new.into c.in_ok-read.ensures.ok c.if-line-eq-MAGIC.false c.in_err-write_region.ensures.err)
