use Rattle.std.proofs.Common.{ap, ◌∙◌}
use Rattle.pb_play.specs.declared.calls.Calls.{Calls}
use Rattle.pb_play.proofs.Opening.{settles_region, reads_region, reopening_callable}
use Rattle.pb_play.proofs.reopen.reopen.Goals as goal

pub returns-then-world-clause-stepped : goal.returns-then-world-clause-stepped
returns-then-world-clause-stepped c = λ w is s opening. settles_region opening (c.call.ensures.made w s (reopening_callable s opening c.if-world.true))

pub returns-else-world-clause-stepped : goal.returns-else-world-clause-stepped
returns-else-world-clause-stepped c = λ w is s opening.
    reads_region is s opening c.if-world.false (ap (λ (q : Calls). q.going) c.begin.ensures) (ap (λ (q : Calls). q.made) c.begin.ensures) (ap (λ (q : Calls). q.plan.items) c.begin.ensures ∙ c.plan_settling.ensures.plan)
