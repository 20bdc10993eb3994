-- What is played is a run of the world.
use Rattle.std.proofs.Common.{List, [], ◌∷◌, subst, sym, inl, inr}
use Rattle.pb_events.specs.declared.event.Event.{Event}
use Rattle.pb_events.specs.declared.event.Event.TheVariants.{Ask as AskEvent, Step, Fail, Crash, Reopen, ReopenFail}
use Rattle.pb_events.specs.declared.event.Stepped.{Stepped}
use Rattle.pb_core.specs.DeviceParts.{IsWorld}
use Rattle.pb_core.specs.Play.{ComesBefore, at_once, silently, PlaysMove, NextPlayed, Play}
use Rattle.pb_core.specs.World.{World}
use Rattle.pb_core.specs.WorldMoves.{Moves, Next, Run}
use Rattle.pb_core.proofs.Possible.{one_silent}
use Rattle.pb_core.proofs.Worlds.{keeps-silents}

pub moves_of : (old : World) (event : Event) (new : World) (answer : Stepped) → PlaysMove old event new answer → Moves old event new answer
moves_of old (AskEvent ask) new answer move = move
moves_of old (Step client) new answer (inl step) = inl step
moves_of old (Step client) new answer (inr (calling, step)) = inr step
moves_of old (Fail client how) new answer (count, move) = move
moves_of old (Crash cut pick) new answer move = move
moves_of old Reopen new answer move = move
moves_of old (ReopenFail how) new answer move = move

after_moves : {old middle : World} {now : Type 0} (event : Event) (new : World) (answer : Stepped) → ComesBefore now old middle → Moves middle event new answer → Next old event new answer
after_moves {old} {middle} event new answer (at_once here same) move = record { silent = 0; middle = middle; silents = same; move = move }
after_moves {old} {middle} event new answer (silently later step played) move = record { silent = 1; middle = middle; silents = one_silent step; move = move }

pub next_of : {old new : World} {event : Event} {answer : Stepped} → NextPlayed old event new answer → Next old event new answer
next_of {old} {new} {event} {answer} next =
    after_moves event new answer next.before (moves_of next.middle event new answer next.move)

pub run_of : (old : World) (events : List Event) (answers : List Stepped) (new : World) → Play old events answers new → Run old events answers new
run_of old [] answers new (none, same) = (none, same)
run_of old (event ∷ events) answers new (middle, answer, rest, all, next, play) = (middle, answer, rest, all, next_of next, run_of middle events rest new play)

pub keeps_before : {old middle : World} {now : Type 0} → IsWorld old → ComesBefore now old middle → IsWorld middle
keeps_before {old} {middle} is (at_once here same) = subst IsWorld (sym same) is
keeps_before {old} {middle} is (silently later step played) = keeps-silents 1 old middle is (one_silent step)

-- the same where it comes at once for another reason
pub comes_as : {old middle : World} {now here : Type 0} → (now → here) → (here → now) → ComesBefore now old middle → ComesBefore here old middle
comes_as on back (at_once now same) = at_once (on now) same
comes_as on back (silently later step played) = silently (λ here. later (back here)) step played
