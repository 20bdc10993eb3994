use Rattle.std.proofs.Common.{◌≡◌, List, [], ◌∷◌, OnOk, OnErr, subst}
use Rattle.pb_pmem.specs.declared.log.LogOp.{LogOp}
use Rattle.pb_pmem.specs.declared.log.LogOp.TheVariants.{Whole, Back}
use Rattle.pb_pmem.specs.Operations.{IsFailedPrefix, Does, Stops}
use Rattle.pb_layout.specs.PutCell.{put_ops}
use Rattle.pb_pair.proofs.cells.put.Goals as goal

pub returns-clause-ok : goal.returns-clause-ok
returns-clause-ok g c =
    let made : List LogOp = Whole c.cell_line-line.result c.cell-to.result ∷ Back c.cell_line-line.result 1 ∷ [] in
    let same : made ≡ put_ops c.args.head.now c.args.position c.args.value = cc in
    subst (λ (ops : List LogOp). OnOk c.make_all.result (Does ops (g.P.Pmem.seen c.args.device.now) (g.P.Pmem.seen c.make_all.new.device))) same c.make_all.ensures.ok

pub returns-clause-err : goal.returns-clause-err
returns-clause-err g c =
    let made : List LogOp = Whole c.cell_line-line.result c.cell-to.result ∷ Back c.cell_line-line.result 1 ∷ [] in
    let same : made ≡ put_ops c.args.head.now c.args.position c.args.value = cc in
    subst (λ (ops : List LogOp). OnErr c.make_all.result (Stops (IsFailedPrefix ops) (g.P.Pmem.seen c.args.device.now) (g.P.Pmem.seen c.make_all.new.device))) same c.make_all.ensures.err
