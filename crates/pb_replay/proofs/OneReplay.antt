-- A source is replayed in one way.
use Rattle.std.proofs.Common.{◌≡◌, ◌⊎◌, ℕ, zero, suc, ◌+◌, ◌-◌, ◌<◌, ◌≤◌, List, [], ◌∷◌, ◌++◌, length, take, drop, replicate, refl, sym, ap, subst, ◌∙◌, inl, inr, arith}
use Rattle.std.proofs.lemmas.Bool.{cases_lt}
use Rattle.std.proofs.lemmas.Option.{same_Some}
use Rattle.std.proofs.lemmas.List.{append_assoc, take-append-drop}
use Rattle.pb_pmem.specs.Contents.{contents}
use Rattle.pb_object.specs.declared.kind.Kind.{Kind}
use Rattle.pb_object.specs.Standing.{Standing}
use Rattle.pb_layout.specs.declared.header.Header.{Header}
use Rattle.pb_layout.specs.Recovered.{Represents}
use Rattle.pb_layout.proofs.OneRecovery.{represents_one}
use Rattle.pb_events.specs.declared.event.Event.{Event}
use Rattle.pb_events.specs.declared.event.Stepped.{Stepped}
use Rattle.pb_core.specs.Play.{Play}
use Rattle.pb_core.specs.Possible.{IsPossible}
use Rattle.pb_core.specs.World.{World}
use Rattle.pb_core.proofs.Determined.{play_one}
use Rattle.pb_core.proofs.OneFresh.{fresh_one}
use Rattle.pb_core.proofs.Plays.{next_of}
use Rattle.pb_core.proofs.Runs.{fresh_is_world}
use Rattle.pb_script.specs.declared.event.Repeat.{Repeat}
use Rattle.pb_script.specs.Events.{event_of}
use Rattle.pb_script.specs.Request.{each}
use Rattle.pb_script.specs.Schedule.{IsSchedule}
use Rattle.pb_script.specs.Script.{request_lines}
use Rattle.pb_script.specs.Words.{lines}
use Rattle.pb_script.proofs.Arguments.{each_front}
use Rattle.pb_script.proofs.Steps.{request_lines_append}
use Rattle.pb_replay.specs.Replay.{events_of, AreMade, IsReplayed, AreMadeBefore, NamesNoEvent, NamesImpossible, IsRefusedLine, HasBadEvent}
use Rattle.pb_replay.proofs.Playings.{events-push}

-- Schedules

same_schedule : {kind : Kind} {clients : ℕ} {read : List (List ℕ)} (a b : List Repeat) → IsSchedule kind clients read a → IsSchedule kind clients read b → a ≡ b
same_schedule a b left right = same_Some a b (sym left.reads ∙ right.reads)

front_schedule : (kind : Kind) (clients : ℕ) (read more : List (List ℕ)) (repeats : List Repeat) → IsSchedule kind clients (read ++ more) repeats → IsSchedule kind clients read (take (length (request_lines read)) repeats)
front_schedule kind clients read more repeats h =
    record { reads = each_front (event_of kind clients) (request_lines read) (request_lines more) repeats (ap (each (event_of kind clients)) (sym (request_lines_append read more)) ∙ h.reads) }

-- Events

events-append : (xs ys : List Repeat) → events_of (xs ++ ys) ≡ events_of xs ++ events_of ys
unfolding events_of
events-append [] ys = refl
events-append (x ∷ xs) ys =
    ap (λ (l : List Event). replicate x.times x.event ++ l) (events-append xs ys) ∙ sym (append_assoc (replicate x.times x.event) (events_of xs) (events_of ys))

-- the events of a line from one on
events_from : (done more : ℕ) (event : Event) → replicate (done + suc more) event ≡ replicate done event ++ (event ∷ replicate more event)
events_from zero more event = let none : 0 + suc more ≡ suc more = omega arith in ap (λ (n : ℕ). replicate n event) none
events_from (suc done) more event =
    let next : suc done + suc more ≡ suc (done + suc more) = omega arith in
    ap (λ (n : ℕ). replicate n event) next ∙ ap (λ (l : List Event). event ∷ l) (events_from done more event)

-- a play by its parts
record IsCut (first : World) (events more : List Event) (last : World) : Type 0 where
  fronts : List Stepped
  backs : List Stepped
  middle : World
  front : Play first events fronts middle
  back : Play middle more backs last

cut : (first : World) (events more : List Event) (answers : List Stepped) (last : World) → Play first (events ++ more) answers last → IsCut first events more last
cut first [] more answers last play = record { fronts = []; backs = answers; middle = first; front = (refl, refl); back = play }
cut first (event ∷ events) more answers last (next, answer, rest, all, step, play) =
    let others = cut next events more rest last play in
    record { fronts = answer ∷ others.fronts; backs = others.backs; middle = others.middle; front = (next, answer, others.fronts, refl, step, others.front); back = others.back }

possible_first : (w : World) (event : Event) (more : List Event) (answers : List Stepped) (last : World) → Play w (event ∷ more) answers last → IsPossible w event
possible_first w event more answers last (next, answer, rest, all, step, play) = record { new = next; answer = answer; next = next_of step }

-- the world that events reach is one
one_reached : {head : Header} {events : List Event} {answers others : List Stepped} {a b : World} → AreMade head events answers a → AreMade head events others b → (a ≡ b) × (answers ≡ others)
one_reached {head} {events} {answers} {others} {a} {b} left right =
    play_one left.first events answers others a b (fresh_is_world left.fresh) left.play
    (subst (λ (w : World). Play w events others b) (fresh_one right.fresh left.fresh) right.play)

-- no event of a schedule that was played was impossible
none_stuck : {head : Header} (events : List Event) (event : Event) (more : List Event) {answers others : List Stepped} {last stuck : World} → AreMade head (events ++ event ∷ more) answers last → AreMade head events others stuck → ¬ IsPossible stuck event → ⊥
none_stuck {head} events event more {answers} {others} {last} {stuck} made before never =
    let parts = cut made.first events (event ∷ more) answers last made.play in
    let same = one_reached {head = head} {events = events} (record { first = made.first; fresh = made.fresh; play = parts.front }) before in
    never (subst (λ (w : World). IsPossible w event) same.0 (possible_first parts.middle event more parts.backs last parts.back))

-- Lines

-- lines that were played have no refused one
none_refused : {head : Header} (read : List (List ℕ)) (repeats : List Repeat) {answers : List Stepped} {last : World} (number : ℕ) → IsSchedule head.kind head.clients read repeats → AreMade head (events_of repeats) answers last → IsRefusedLine head read number → ⊥
none_refused {head} read repeats {answers} {last} number schedule made refused = go refused.refused
  where
    kept : List Repeat
    kept = take (length (request_lines (take number read))) repeats

    front : IsSchedule head.kind head.clients (take number read) kept
    front =
        front_schedule head.kind head.clients (take number read) (drop number read) repeats
        (subst (λ (ls : List (List ℕ)). IsSchedule head.kind head.clients ls repeats) (sym (take-append-drop number read)) schedule)

    go : NamesNoEvent head (take number read) ⊎ NamesImpossible head (take number read) refused.before → ⊥
    go (inl none) = none kept front
    go (inr names) =
        none_stuck (events_of refused.before ++ replicate names.done names.line.event) names.line.event (replicate left names.line.event ++ events_of rest)
        (subst (λ (l : List Event). AreMade head l answers last) whole made) names.made names.impossible
      where
        rest : List Repeat
        rest = drop (length (request_lines (take number read))) repeats

        left : ℕ
        left = names.line.times - suc names.done

        times : names.line.times ≡ names.done + suc left
        times = omega (arith, names.left)

        parts : repeats ≡ (refused.before ++ names.line ∷ []) ++ rest
        parts =
            sym (take-append-drop (length (request_lines (take number read))) repeats)
            ∙ ap (λ (l : List Repeat). l ++ rest) (same_schedule kept (refused.before ++ names.line ∷ []) front names.schedule)

        ahead : List Event
        ahead = events_of refused.before ++ replicate names.done names.line.event

        one : events_of (refused.before ++ names.line ∷ []) ≡ ahead ++ (names.line.event ∷ replicate left names.line.event)
        one =
            events-push refused.before names.line
            ∙ (ap (λ (l : List Event). events_of refused.before ++ l) (ap (λ (n : ℕ). replicate n names.line.event) times ∙ events_from names.done left names.line.event)
            ∙ sym (append_assoc (events_of refused.before) (replicate names.done names.line.event) (names.line.event ∷ replicate left names.line.event)))

        whole : events_of repeats ≡ ahead ++ (names.line.event ∷ (replicate left names.line.event ++ events_of rest))
        whole =
            ap events_of parts
            ∙ (events-append (refused.before ++ names.line ∷ []) rest
            ∙ (ap (λ (l : List Event). l ++ events_of rest) one ∙ append_assoc ahead (names.line.event ∷ replicate left names.line.event) (events_of rest)))

take_of_take : {A : Type 0} (a n : ℕ) (xs : List A) → a ≤ n → take a (take n xs) ≡ take a xs
take_of_take zero n xs most = refl
take_of_take (suc a) zero xs most = absurd (omega (arith, most))
take_of_take (suc a) (suc n) [] most = refl
take_of_take (suc a) (suc n) (x ∷ xs) most = ap (λ l. x ∷ l) (take_of_take a n xs (omega (arith, most)))

-- a line that is refused is so among fewer lines
refused_in_front : {head : Header} (all : List (List ℕ)) (a n : ℕ) → a ≤ n → IsRefusedLine head all a → IsRefusedLine head (take n all) a
refused_in_front {head} all a n most refused = record {
  before = refused.before;
  made = subst (λ (ls : List (List ℕ)). AreMadeBefore head ls refused.before) (sym (take_of_take (a - 1) n all (omega (arith, most)))) refused.made;
  refused = subst (λ (ls : List (List ℕ)). NamesNoEvent head ls ⊎ NamesImpossible head ls refused.before) (sym (take_of_take a n all most)) refused.refused;
}

none_before : {head : Header} (all : List (List ℕ)) (a b : ℕ) → a < b → IsRefusedLine head all a → IsRefusedLine head all b → ⊥
none_before all a b less first second =
    none_refused (take (b - 1) all) second.before a second.made.schedule second.made.made (refused_in_front all a (b - 1) (omega (arith, less)) first)

-- All of it

pub one_bad_line : (head : Header) (bytes : List ℕ) (a b : ℕ) → HasBadEvent head a bytes → HasBadEvent head b bytes → a ≡ b
one_bad_line head bytes a b first second = elim (cases_lt a b) [
  | inl less ↦ absurd (none_before (lines bytes) a b less first.1 second.1)
  | inr most ↦ elim (cases_lt b a) [
    | inl less ↦ absurd (none_before (lines bytes) b a less second.1 first.1)
    | inr least ↦ omega (arith, most, least)
  ]
]

pub replayed_or_bad : (head : Header) (bytes : List ℕ) (answers : List Stepped) (s : Standing) (number : ℕ) → IsReplayed head bytes answers s → HasBadEvent head number bytes → ⊥
replayed_or_bad head bytes answers s number replayed bad =
    none_refused (lines bytes) replayed.repeats number replayed.schedule replayed.made bad.1

pub one_replay : (head : Header) (bytes : List ℕ) (answers others : List Stepped) (s t : Standing) → IsReplayed head bytes answers s → IsReplayed head bytes others t → (answers ≡ others) × (s ≡ t)
one_replay head bytes answers others s t left right =
    let repeats = same_schedule right.repeats left.repeats right.schedule left.schedule in
    let same = one_reached left.made (subst (λ (l : List Repeat). AreMade head (events_of l) others right.last) repeats right.made) in (
      same.1,
      represents_one (contents left.last.tale.base left.last.tale.log) s t left.stands (subst (λ (w : World). Represents (contents w.tale.base w.tale.log) t) (sym same.0) right.stands),
    )
