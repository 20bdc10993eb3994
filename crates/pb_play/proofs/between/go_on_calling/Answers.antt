use Rattle.pb_core.specs.Memory as core
use Rattle.pb_play.proofs.Silently.{ends_call, goes_nowhere, is_callable, not_left, calls_going}
use Rattle.pb_play.proofs.between.go_on_calling.Goals as goal

pub returns-then-not-world-clause-on : goal.returns-then-not-world-clause-on
returns-then-not-world-clause-on c = λ w client side is s holds there at.
    absurd (calls_going client side is s holds at c.if-not-world.true)

pub returns-then-are_left-clause-on : goal.returns-then-are_left-clause-on
returns-then-are_left-clause-on c = λ w client side is s holds there at.
    goes_nowhere core.Calling s at (is_callable s.device c.if-not-world.false (c.are_left.ensures.0 c.if-are_left.true))

pub returns-clause-on : goal.returns-clause-on
returns-clause-on c = λ w client side is s holds there at.
    ends_call client side s holds there at c.if-not-world.false (not_left c.are_left.ensures c.if-are_left.false) c.record_round.ensures c.end.ensures
