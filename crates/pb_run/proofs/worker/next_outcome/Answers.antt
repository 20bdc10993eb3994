use Rattle.std.proofs.Common.{refl, ap}
use Rattle.pb_report.specs.declared.outcome.Outcome.TheVariants as outcome
use Rattle.pb_shared.specs.declared.answers.Again.TheVariants.{Gap}
use Rattle.pb_shared.specs.Passes.{PassSeen}
use Rattle.pb_run.proofs.Judging.{goes_by, tries_after}
use Rattle.pb_run.proofs.worker.next_outcome.Goals as goal

pub returns-in-Announced-clause-next : goal.returns-in-Announced-clause-next
returns-in-Announced-clause-next g c =
    tries_after c.args.left c.args.ask.now c.args.pass.now c.again.new.pass c.perform.new.pass c.perform.result c.if-left.false c.requires.line.kept
    c.in-Announced.ensures.judged c.in-Announced.ensures.announced c.perform.ensures.tried

pub returns-in-Gap-clause-next : goal.returns-in-Gap-clause-next
returns-in-Gap-clause-next g c =
    goes_by c.args.left c.args.ask.now c.args.pass.now.view c.again.new.pass.view outcome.Gap (Gap c.in-Gap.last) c.if-left.false c.requires.line.kept
    c.in-Gap.ensures.judged (refl, ap (λ (p : PassSeen). p.view) c.in-Gap.ensures.announced)
