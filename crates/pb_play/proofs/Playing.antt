-- Which events happen, and that what they leave is shown too.
use Rattle.std.proofs.Common.{◌≡◌, ◌⊎◌, subst, sym, inl, inr}
use Rattle.pb_layout.specs.declared.header.Header.{Header}
use Rattle.pb_events.specs.declared.event.Event.{Event}
use Rattle.pb_events.specs.declared.event.Event.TheVariants.{Ask as AskEvent, Step, Fail, Crash, Reopen, ReopenFail}
use Rattle.pb_events.specs.declared.event.Stepped.{Stepped}
use Rattle.pb_events.specs.declared.event.Stepped.TheVariants.{Impossible}
use Rattle.pb_core.specs.DeviceParts.{IsWorld}
use Rattle.pb_core.specs.Possible.{IsPossible}
use Rattle.pb_core.specs.World.{World}
use Rattle.pb_core.proofs.Exactness.{exact}
use Rattle.pb_core.proofs.Plays.{next_of}
use Rattle.pb_core.proofs.Runs.{fresh_is_world}
use Rattle.pb_core.proofs.Worlds.{keeps-event}
use Rattle.pb_play.specs.declared.world.World.{World as CodeWorld}
use Rattle.pb_play.specs.Worlds.{IsShown, HasStepped, MayHappen, PlaysExactly, PlaysEvent, HappensWhereItMay, IsBegun}

-- an event that can happen may
may_where_it_can : {w : World} → IsWorld w → (event : Event) → IsPossible w event → MayHappen w event
may_where_it_can is (AskEvent ask) possible = ((exact is).asks ask).0 possible
may_where_it_can is (Step client) possible = (exact is).steps client possible
may_where_it_can is (Fail client how) possible = (exact is).fails client how possible
may_where_it_can is (Crash cut pick) possible = ((exact is).crashes cut pick).0 possible
may_where_it_can is Reopen possible = (exact is).reopens.0 possible
may_where_it_can is (ReopenFail how) possible = ((exact is).fails_to_reopen how).0 possible

pub plays : {old new : CodeWorld} {event : Event} {answer : Stepped} → PlaysExactly old event new answer → PlaysEvent old event new answer
plays {old} {new} {event} {answer} exactly = λ w is s. go w is (exactly w is s)
  where
    go : (w : World) → IsWorld w → HasStepped w event new answer ⊎ ((answer ≡ Impossible) × (new ≡ old) × ¬ MayHappen w event) → HasStepped w event new answer ⊎ ((answer ≡ Impossible) × (new ≡ old) × ¬ IsPossible w event)
    go w is (inl stepped) = inl stepped
    go w is (inr (says, same, never)) = inr (says, same, λ possible. never (may_where_it_can is event possible))

pub happens : {old new : CodeWorld} {event : Event} {answer : Stepped} → PlaysExactly old event new answer → HappensWhereItMay old event new answer
happens {old} {new} {event} {answer} exactly = λ w is s may. go w may (exactly w is s)
  where
    go : (w : World) → MayHappen w event → HasStepped w event new answer ⊎ ((answer ≡ Impossible) × (new ≡ old) × ¬ MayHappen w event) → HasStepped w event new answer
    go w may (inl stepped) = stepped
    go w may (inr (says, same, never)) = absurd (never may)

pub stays_shown : {old new : CodeWorld} {event : Event} {answer : Stepped} → IsShown old → PlaysExactly old event new answer → IsShown new
stays_shown {old} {new} {event} {answer} shown exactly = go (exactly shown.world shown.is shown.shows)
  where
    go : HasStepped shown.world event new answer ⊎ ((answer ≡ Impossible) × (new ≡ old) × ¬ MayHappen shown.world event) → IsShown new
    go (inl stepped) = record { world = stepped.next; is = keeps-event shown.world event stepped.next answer shown.is (next_of stepped.step); shows = stepped.shows }
    go (inr (says, same, never)) = subst IsShown (sym same) shown

-- and so is a world that was just made
pub begun_shown : {head : Header} {new : CodeWorld} → IsBegun head new → IsShown new
begun_shown {head} begun = record { world = begun.world; is = fresh_is_world begun.fresh; shows = begun.shows }
