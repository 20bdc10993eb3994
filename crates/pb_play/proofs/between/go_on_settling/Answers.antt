use Rattle.std.proofs.Common.{ap, ◌∙◌}
use Rattle.pb_core.specs.Memory as core
use Rattle.pb_play.specs.declared.calls.Calls.{Calls}
use Rattle.pb_play.proofs.Silently.{begins, ends_settling, goes_nowhere, is_callable, not_left}
use Rattle.pb_play.proofs.between.go_on_settling.Goals as goal

pub returns-then-not-world-clause-on : goal.returns-then-not-world-clause-on
returns-then-not-world-clause-on c = λ w client side is s holds there at.
    begins client side is s holds at c.if-not-world.true c.rounds_ahead-rounds.ensures (ap (λ (q : Calls). q.going) c.begin.ensures) (ap (λ (q : Calls). q.made) c.begin.ensures) (ap (λ (q : Calls). q.plan.items) c.begin.ensures ∙ c.plan_settling.ensures.plan)

pub returns-then-are_left-clause-on : goal.returns-then-are_left-clause-on
returns-then-are_left-clause-on c = λ w client side is s holds there at.
    goes_nowhere core.Settling s at (is_callable s.device c.if-not-world.false (c.are_left.ensures.0 c.if-are_left.true))

pub returns-clause-on : goal.returns-clause-on
returns-clause-on c = λ w client side is s holds there at.
    ends_settling client side s holds there at c.if-not-world.false (not_left c.are_left.ensures c.if-are_left.false) c.end_settling.ensures c.end.ensures
