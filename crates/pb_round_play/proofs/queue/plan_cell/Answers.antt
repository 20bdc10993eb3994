use Rattle.std.proofs.Common.{◌++◌, ap, ◌∙◌, List, [], ◌∷◌, append_assoc}
use Rattle.pb_pmem.specs.declared.log.LogOp.{LogOp}
use Rattle.pb_pmem.specs.declared.log.LogOp.TheVariants.{Whole, Back}
use Rattle.pb_round_play.proofs.queue.plan_cell.Goals as goal

pub returns-clause-plan : goal.returns-clause-plan
returns-clause-plan c =
    c.push-2.ensures.plan
    ∙ (ap (λ (l : List LogOp). l ++ Back c.cell_of-line.result 1 ∷ []) c.push.ensures.plan
    ∙ (append_assoc c.args.plan.now.items (Whole c.cell_of-line.result c.cell-to.result ∷ []) (Back c.cell_of-line.result 1 ∷ [])
    ∙ (λ i. c.args.plan.now.items ++ Whole (c.cell_of-line.ensures.is i) (c.cell-to.ensures i) ∷ Back (c.cell_of-line.ensures.is i) 1 ∷ [])))
