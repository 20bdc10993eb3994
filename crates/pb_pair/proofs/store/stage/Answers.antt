use Rattle.std.proofs.Common.{[], ◌∷◌, length}
use Rattle.pb_pmem.specs.declared.log.LogOp.TheVariants.{Back, Fence}
use Rattle.pb_pmem.proofs.OperationSteps.{ok_then, err_then}
use Rattle.pb_layout.specs.RegionOps.{writes_over}
use Rattle.pb_pair.specs.View.{if_known}
use Rattle.pb_pair.proofs.store.stage.Goals as goal

pub returns-clause-ok : goal.returns-clause-ok
returns-clause-ok g c =
    ok_then c.make_all.result (writes_over c.args.first (if_known c.args.known c.args.spare.now) c.args.lines.now) (Back c.args.first (length c.args.lines.now) ∷ Fence ∷ []) (g.P.Pmem.seen c.args.device.now) (g.P.Pmem.seen c.write_over.new.device) (g.P.Pmem.seen c.make_all.new.device) c.in_ok-write_over.ensures.ok c.make_all.ensures.ok

pub returns-clause-err : goal.returns-clause-err
returns-clause-err g c =
    err_then c.make_all.result (writes_over c.args.first (if_known c.args.known c.args.spare.now) c.args.lines.now) (Back c.args.first (length c.args.lines.now) ∷ Fence ∷ []) (g.P.Pmem.seen c.args.device.now) (g.P.Pmem.seen c.write_over.new.device) (g.P.Pmem.seen c.make_all.new.device) c.in_ok-write_over.ensures.ok c.make_all.ensures.err
