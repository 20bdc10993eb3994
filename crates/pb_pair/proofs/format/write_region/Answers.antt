use Rattle.pb_layout.specs.RegionOps.{prepare_ops, publish_ops}
use Rattle.pb_pmem.proofs.OperationSteps.{ok_then, err_second}
use Rattle.pb_pair.proofs.format.write_region.Goals as goal

pub returns-clause-ok : goal.returns-clause-ok
returns-clause-ok g c =
    ok_then c.publish.result (prepare_ops c.args.head.now c.args.first.now c.args.second.now) publish_ops (g.P.Pmem.seen c.args.device.now) (g.P.Pmem.seen c.prepare.new.device) (g.P.Pmem.seen c.publish.new.device) c.in_ok-prepare.ensures.ok c.publish.ensures.ok

pub returns-clause-err : goal.returns-clause-err
returns-clause-err g c =
    err_second c.publish.result (prepare_ops c.args.head.now c.args.first.now c.args.second.now) publish_ops (g.P.Pmem.seen c.args.device.now) (g.P.Pmem.seen c.prepare.new.device) (g.P.Pmem.seen c.publish.new.device) c.in_ok-prepare.ensures.ok c.publish.ensures.err
