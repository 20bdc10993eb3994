-- Events that happen one after the other.
use Rattle.std.proofs.Common.{◌≡◌, ℕ, ◌+◌, ◌≤◌, Bool, true, false, List, [], ◌∷◌, ◌++◌, Result, Ok, Err, length, replicate, refl, sym, ap, subst, ◌∙◌, inl, inr, arith}
use Rattle.std.specs.Prelude.{IfOk}
use Rattle.std.proofs.lemmas.Bool.{false≢true}
use Rattle.std.proofs.lemmas.List.{append-nil, append_assoc, replicate_more}
use Rattle.pb_object.specs.declared.request.Ask.{Ask}
use Rattle.pb_object.specs.declared.request.Reply.{Reply}
use Rattle.pb_layout.specs.declared.header.Header.{Header}
use Rattle.pb_events.specs.declared.event.Event.{Event}
use Rattle.pb_events.specs.declared.event.Stepped.{Stepped}
use Rattle.pb_events.specs.declared.event.Stepped.TheVariants.{Went, Done, Busy, Fault, Impossible}
use Rattle.pb_core.specs.DeviceParts.{IsWorld}
use Rattle.pb_core.specs.Laws.{IsCaused}
use Rattle.pb_core.specs.World.{World}
use Rattle.pb_core.specs.Play.{NextPlayed, Play}
use Rattle.pb_core.proofs.Causes.{caused-event}
use Rattle.pb_core.proofs.Plays.{next_of, run_of}
use Rattle.pb_core.proofs.Runs.{fresh_is_world, run_keeps}
use Rattle.pb_play.specs.declared.world.World.{World as CodeWorld}
use Rattle.pb_play.specs.Worlds.{HasStepped, PlaysEvent, IsBegun}
use Rattle.pb_replay.specs.declared.playing.Playing.{Playing}
use Rattle.pb_replay.specs.AnswerText.{given_by, given}
use Rattle.pb_replay.specs.Playing.{HasMade, IsStuck, MakesOr, MakesEvent}
use Rattle.pb_replay.specs.Replay.{AreMade}

-- Answers

given-append : (xs ys : List Stepped) → given (xs ++ ys) ≡ given xs ++ given ys
unfolding given
given-append [] ys = refl
given-append (x ∷ xs) ys = ap (λ (l : List Stepped). given_by x ++ l) (given-append xs ys) ∙ sym (append_assoc (given_by x) (given xs) (given ys))

given-one : (answer : Stepped) → given (answer ∷ []) ≡ given_by answer
unfolding given
given-one answer = append-nil (given_by answer)

pub given-none : given [] ≡ []
unfolding given
given-none = refl

given-more : (answers : List Stepped) (answer : Stepped) → given (answers ++ answer ∷ []) ≡ given answers ++ given_by answer
given-more answers answer = given-append answers (answer ∷ []) ∙ ap (λ (l : List Stepped). given answers ++ l) (given-one answer)

-- One more event

play-more : (first : World) (events : List Event) (answers : List Stepped) (last : World) (event : Event) (new : World) (answer : Stepped) → Play first events answers last → NextPlayed last event new answer → Play first (events ++ event ∷ []) (answers ++ answer ∷ []) new
play-more first [] answers last event new answer (none, same) next =
    (new, answer, [], ap (λ (l : List Stepped). l ++ answer ∷ []) none, subst (λ (w : World). NextPlayed w event new answer) same next, (refl, refl))
play-more first (e ∷ events) answers last event new answer (middle, a, rest, all, step, play) next =
    (middle, a, rest ++ answer ∷ [], ap (λ (l : List Stepped). l ++ answer ∷ []) all, step, play-more middle events rest last event new answer play next)

made-more : {head : Header} {events : List Event} {answers : List Stepped} {last new : World} {event : Event} {answer : Stepped} → AreMade head events answers last → NextPlayed last event new answer → AreMade head (events ++ event ∷ []) (answers ++ answer ∷ []) new
made-more {head} {events} {answers} {last} {new} {event} {answer} made next = record {
  first = made.first;
  fresh = made.fresh;
  play = play-more made.first events answers last event new answer made.play next;
}

pub made_world : {head : Header} {events : List Event} {answers : List Stepped} {last : World} → AreMade head events answers last → IsWorld last
made_world {head} {events} {answers} {last} made = (run_keeps made.first events answers last (fresh_is_world made.fresh) (run_of made.first events answers last made.play)).world

-- nothing happened yet
pub none_made : {head : Header} (p : Playing) → IsBegun head p.world → p.answers.items ≡ [] → HasMade head [] p
none_made {head} p begun none = record {
  answers = [];
  last = begun.world;
  made = record { first = begun.world; fresh = begun.fresh; play = (refl, refl) };
  shows = begun.shows;
  listed = none ∙ sym given-none;
}

-- and all the room is left
pub begun_room : {head : Header} (world : CodeWorld) (room : ℕ) → world.device.room ≡ room → IsBegun head world → length world.device.log.items + room ≤ world.device.room
begun_room world room is begun =
    let empty : world.device.log.items ≡ [] = sym begun.shows.device.log ∙ ap (λ (w : World). w.tale.log) begun.fresh.is in
    omega (arith, is, ap length empty)

-- it happened
pub made_one : {head : Header} {events : List Event} {event : Event} {old new : Playing} {answer : Stepped} (made : HasMade head events old) → HasStepped made.last event new.world answer → new.answers.items ≡ old.answers.items ++ given_by answer → HasMade head (events ++ event ∷ []) new
made_one {head} {events} {event} {old} {new} {answer} made stepped listed = record {
  answers = made.answers ++ answer ∷ [];
  last = stepped.next;
  made = made-more made.made stepped.step;
  shows = stepped.shows;
  listed = listed ∙ (ap (λ (l : List Stepped). l ++ given_by answer) made.listed ∙ sym (given-more made.answers answer));
}

-- Which answers are given

is_impossible : Stepped → Type 0
is_impossible Went = ⊥
is_impossible (Done ask reply) = ⊥
is_impossible (Busy ask from to) = ⊥
is_impossible (Fault ask from to) = ⊥
is_impossible Impossible = Unit {0}

not_impossible : (answer : Stepped) → (is_impossible answer → ⊥) → ¬ (answer ≡ Impossible)
unfolding is_impossible
not_impossible answer other same = other (subst is_impossible (sym same) tt)

pub went_on : {answer : Stepped} → answer ≡ Went → ¬ (answer ≡ Impossible)
unfolding is_impossible
went_on {answer} is = not_impossible answer (λ i. subst is_impossible is i)

pub is_done : {answer : Stepped} {ask : Ask} {reply : Reply} → answer ≡ Done ask reply → ¬ (answer ≡ Impossible)
unfolding is_impossible
is_done {answer} is = not_impossible answer (λ i. subst is_impossible is i)

pub is_busy : {answer : Stepped} {ask : Ask} {from to : ℕ} → answer ≡ Busy ask from to → ¬ (answer ≡ Impossible)
unfolding is_impossible
is_busy {answer} is = not_impossible answer (λ i. subst is_impossible is i)

pub is_fault : {answer : Stepped} {ask : Ask} {from to : ℕ} → answer ≡ Fault ask from to → ¬ (answer ≡ Impossible)
unfolding is_impossible
is_fault {answer} is = not_impossible answer (λ i. subst is_impossible is i)

pub given_done : {answer : Stepped} {ask : Ask} {reply : Reply} → answer ≡ Done ask reply → given_by answer ≡ answer ∷ []
given_done is = ap given_by is ∙ ap (λ (a : Stepped). a ∷ []) (sym is)

pub given_busy : {answer : Stepped} {ask : Ask} {from to : ℕ} → answer ≡ Busy ask from to → given_by answer ≡ answer ∷ []
given_busy is = ap given_by is ∙ ap (λ (a : Stepped). a ∷ []) (sym is)

pub given_fault : {answer : Stepped} {ask : Ask} {from to : ℕ} → answer ≡ Fault ask from to → given_by answer ≡ answer ∷ []
given_fault is = ap given_by is ∙ ap (λ (a : Stepped). a ∷ []) (sym is)

-- an event that wasn't refused happened
pub happened : {head : Header} {events : List Event} {event : Event} {old : Playing} {world : CodeWorld} {answer : Stepped} (made : HasMade head events old) → PlaysEvent old.world event world answer → ¬ (answer ≡ Impossible) → HasStepped made.last event world answer
happened made plays some = elim (plays made.last (made_world made.made) made.shows) [
  | inl stepped ↦ stepped
  | inr refused ↦ absurd (some refused.0)
]

-- one that was isn't possible
pub stuck : {head : Header} {events : List Event} {event : Event} {old : Playing} {world : CodeWorld} {answer : Stepped} (made : HasMade head events old) → PlaysEvent old.world event world answer → answer ≡ Impossible → IsStuck head events event
stuck {head} {events} {event} {old} {world} {answer} made plays none = elim (plays made.last (made_world made.made) made.shows) [
  | inl stepped ↦ absurd (subst (λ (a : Stepped). IsCaused a made.last.memory stepped.next.memory) none (caused-event made.last event stepped.next answer (made_world made.made) (next_of stepped.step)))
  | inr refused ↦ record { answers = made.answers; stuck = made.last; made = made.made; impossible = refused.2 }
]

-- the answer to a client is listed, or there is no memory for it
pub gives : {E : Type 0} {head : Header} {events : List Event} {event : Event} {old : Playing} (new : Playing) {world : CodeWorld} {answer : Stepped} (made : HasMade head events old) (result : Result Bool E) → HasStepped made.last event world answer → new.world ≡ world → given_by answer ≡ answer ∷ [] → IfOk result (λ b. (b ≡ true) × (new.answers.items ≡ old.answers.items ++ answer ∷ [])) → MakesEvent head events event new result
gives {E} {head} {events} {event} {old} new {world} {answer} made (Ok true) stepped same it listed =
    made_one made (subst (λ (w : CodeWorld). HasStepped made.last event w answer) (sym same) stepped) (listed.1 ∙ ap (λ (l : List Stepped). old.answers.items ++ l) (sym it))
gives new made (Ok false) stepped same it listed = absurd (false≢true listed.0)
gives new made (Err none) stepped same it listed = tt

-- So often

pub repeated_more : (events : List Event) (count : ℕ) (event : Event) → (events ++ replicate count event) ++ event ∷ [] ≡ events ++ replicate (count + 1) event
repeated_more events count event = append_assoc events (replicate count event) (event ∷ []) ∙ ap (λ (l : List Event). events ++ l) (replicate_more count event)

-- several happened
abbrev pub MadeSoFar : Header → List Event → Event → ℕ → Playing → Type 0
MadeSoFar head events event count p = HasMade head (events ++ replicate count event) p

pub none_repeated : {head : Header} (events : List Event) {p : Playing} (event : Event) → HasMade head events p → MadeSoFar head events event 0 p
none_repeated {head} events {p} event made = subst (λ (l : List Event). HasMade head l p) (sym (append-nil events)) made

pub one_repeated : {head : Header} (events : List Event) {p : Playing} (event : Event) (count : ℕ) → HasMade head ((events ++ replicate count event) ++ event ∷ []) p → MadeSoFar head events event (count + 1) p
one_repeated {head} events {p} event count made = subst (λ (l : List Event). HasMade head l p) (repeated_more events count event) made

-- by the answer
pub made_by : (head : Header) (events : List Event) (event : Event) (p : Playing) (made : Bool) → made ≡ true → MakesOr head events event p made → HasMade head (events ++ event ∷ []) p
made_by head events event p true is made = made
made_by head events event p false is made = absurd (false≢true is)

pub stuck_by : (head : Header) (events : List Event) (event : Event) (p : Playing) (made : Bool) → made ≡ false → MakesOr head events event p made → IsStuck head events event
stuck_by head events event p true is made = absurd (false≢true (sym is))
stuck_by head events event p false is made = made
