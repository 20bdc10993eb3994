-- The events of a schedule are counted.
use Rattle.std.proofs.Common.{◌≡◌, ℕ, ◌+◌, ◌≤◌, Bool, true, false, List, [], ◌∷◌, Option, Some, None, Result, Ok, Err, length, refl, sym, ap, subst, ◌∙◌, inl, inr, arith}
use Rattle.std.specs.Result.{IsErrAnd}
use Rattle.std.proofs.lemmas.Bool.{cases_Bool, cond-true, cond-false}
use Rattle.pb_object.specs.declared.kind.Kind.{Kind}
use Rattle.pb_script.specs.declared.event.EventLine.{EventLine}
use Rattle.pb_script.specs.declared.event.EventLine.TheVariants.{Nothing, Refused, Events}
use Rattle.pb_script.specs.declared.event.Repeat.{Repeat}
use Rattle.pb_script.specs.declared.event.TheConstants.{MOST_EVENTS}
use Rattle.pb_script.specs.declared.script.ScriptFault.{ScriptFault}
use Rattle.pb_script.specs.declared.script.ScriptFault.TheVariants.{Memory, Many, Line}
use Rattle.pb_script.specs.Events.{event_of, event_line, event_line_by}
use Rattle.pb_script.specs.Script.{request_lines}
use Rattle.pb_script.specs.Words.{lines, fields, is_request}
use Rattle.pb_script.proofs.Counting.{one_more, no_more, none_left}
use Rattle.pb_script.proofs.Cuts.{lines_none}
use Rattle.pb_script.proofs.Steps.{request_lines_none, request_lines_skipping, request_lines_taking}
use Rattle.pb_replay.specs.declared.survey.Survey.{Survey}
use Rattle.pb_replay.specs.Playing.{event_times, IsAccepted}
use Rattle.pb_replay.specs.Survey.{count_with, count_events, IsCounted, events_more, counted, IsUncounted}

-- What a line says

-- by whether it asks for something, and what it is read as
pub data Said (kind : Kind) (clients : ℕ) (line : List ℕ) : EventLine → Type 0 where
  says_nothing : is_request (fields line) ≡ false → Said kind clients line Nothing
  says_refused : is_request (fields line) ≡ true → event_of kind clients (fields line) ≡ None → Said kind clients line Refused
  says_events : {repeat : Repeat} → is_request (fields line) ≡ true → event_of kind clients (fields line) ≡ Some repeat → Said kind clients line (Events repeat)

said_by : (kind : Kind) (clients : ℕ) (line : List ℕ) (o : Option Repeat) → is_request (fields line) ≡ true → event_of kind clients (fields line) ≡ o → Said kind clients line (event_line_by o)
said_by kind clients line None asks reads = says_refused asks reads
said_by kind clients line (Some repeat) asks reads = says_events asks reads

pub said : (kind : Kind) (clients : ℕ) (line : List ℕ) → Said kind clients line (event_line kind clients (fields line))
said kind clients line = elim (cases_Bool (is_request (fields line))) [
  | inl asks ↦ subst (Said kind clients line) (sym (cond-true (is_request (fields line)) (event_line_by (event_of kind clients (fields line))) Nothing asks)) (said_by kind clients line (event_of kind clients (fields line)) asks refl)
  | inr none ↦ subst (Said kind clients line) (sym (cond-false (is_request (fields line)) (event_line_by (event_of kind clients (fields line))) Nothing none)) (says_nothing none)
]

pub said_as : {kind : Kind} {clients : ℕ} {line : List ℕ} (event : EventLine) → event ≡ event_line kind clients (fields line) → Said kind clients line event
said_as {kind} {clients} {line} event is = subst (Said kind clients line) (sym is) (said kind clients line)

-- How many events there are behind it

abbrev count_in : Kind → ℕ → List ℕ → ℕ
count_in kind clients source = count_events kind clients (request_lines (lines source))

count_first : (kind : Kind) (clients : ℕ) (first : List (List ℕ)) (others : List (List (List ℕ))) → count_events kind clients (first ∷ others) ≡ count_with (event_of kind clients first) (count_events kind clients others)
unfolding count_events
count_first kind clients first others = refl

count_nothing : (kind : Kind) (clients : ℕ) → count_events kind clients [] ≡ 0
unfolding count_events
count_nothing kind clients = refl

pub count_skip : (kind : Kind) (clients : ℕ) (rest line after : List ℕ) → lines rest ≡ line ∷ lines after → is_request (fields line) ≡ false → count_events kind clients (request_lines (lines rest)) ≡ count_events kind clients (request_lines (lines after))
count_skip kind clients rest line after cut none = ap (λ (ls : List (List ℕ)). count_events kind clients (request_lines ls)) cut ∙ ap (count_events kind clients) (request_lines_skipping line (lines after) none)

count_line : (kind : Kind) (clients : ℕ) (rest line after : List ℕ) → lines rest ≡ line ∷ lines after → is_request (fields line) ≡ true → count_events kind clients (request_lines (lines rest)) ≡ count_with (event_of kind clients (fields line)) (count_events kind clients (request_lines (lines after)))
count_line kind clients rest line after cut asks =
    ap (λ (ls : List (List ℕ)). count_events kind clients (request_lines ls)) cut
    ∙ (ap (count_events kind clients) (request_lines_taking line (lines after) asks) ∙ count_first kind clients (fields line) (request_lines (lines after)))

pub count_refused : (kind : Kind) (clients : ℕ) (rest line after : List ℕ) → lines rest ≡ line ∷ lines after → is_request (fields line) ≡ true → event_of kind clients (fields line) ≡ None → count_events kind clients (request_lines (lines rest)) ≡ 0
count_refused kind clients rest line after cut asks none =
    count_line kind clients rest line after cut asks ∙ ap (λ (o : Option Repeat). count_with o (count_events kind clients (request_lines (lines after)))) none

pub count_more : (kind : Kind) (clients : ℕ) (rest line after : List ℕ) (repeat : Repeat) → lines rest ≡ line ∷ lines after → is_request (fields line) ≡ true → event_of kind clients (fields line) ≡ Some repeat → count_events kind clients (request_lines (lines rest)) ≡ repeat.times + count_events kind clients (request_lines (lines after))
count_more kind clients rest line after repeat cut asks some =
    count_line kind clients rest line after cut asks ∙ ap (λ (o : Option Repeat). count_with o (count_events kind clients (request_lines (lines after)))) some

pub count_none : (kind : Kind) (clients : ℕ) (rest : List ℕ) → rest ≡ [] → count_events kind clients (request_lines (lines rest)) ≡ 0
count_none kind clients rest none =
    ap (λ (text : List ℕ). count_events kind clients (request_lines (lines text))) none
    ∙ (ap (λ (ls : List (List ℕ)). count_events kind clients (request_lines ls)) lines_none ∙ (ap (count_events kind clients) request_lines_none ∙ count_nothing kind clients))

-- The loop

abbrev pub left_to_count : Bool → ℕ → ℕ
left_to_count true count = count
left_to_count false count = 0

-- some lines of a source were counted, and the others are those of the rest
pub record IsSurvey (kind : Kind) (clients : ℕ) (source rest : List ℕ) (survey : Survey) : Type 0 where
  pub line_count : survey.lines + length (request_lines (lines rest)) ≡ length (request_lines (lines source))
  pub few : survey.lines ≤ MOST_EVENTS
  pub event_count : survey.events + left_to_count survey.unrefused (count_events kind clients (request_lines (lines rest))) ≡ count_events kind clients (request_lines (lines source))

more_by : (unrefused : Bool) (times rest after : ℕ) → rest ≡ times + after → events_more unrefused times + left_to_count unrefused after ≡ left_to_count unrefused rest
more_by true times rest after is = sym is
more_by false times rest after is = refl

none_by : (unrefused : Bool) (rest : ℕ) → rest ≡ 0 → left_to_count unrefused rest ≡ 0
none_by true rest none = none
none_by false rest none = refl

survey_said : (kind : Kind) (clients : ℕ) (source rest line after : List ℕ) (survey : Survey) (event : EventLine) → lines rest ≡ line ∷ lines after → Said kind clients line event → (counted event survey).lines ≤ MOST_EVENTS → IsSurvey kind clients source rest survey → IsSurvey kind clients source after (counted event survey)
survey_said kind clients source rest line after survey Nothing cut (says_nothing none) few before = record {
  line_count = omega (arith, no_more rest line after cut none, before.line_count);
  few = few;
  event_count = ap (λ (n : ℕ). survey.events + left_to_count survey.unrefused n) (sym (count_skip kind clients rest line after cut none)) ∙ before.event_count;
}
survey_said kind clients source rest line after survey Refused cut (says_refused asks none) few before = record {
  line_count = omega (arith, one_more rest line after cut asks, before.line_count);
  few = few;
  event_count = omega (arith, before.event_count, none_by survey.unrefused (count_events kind clients (request_lines (lines rest))) (count_refused kind clients rest line after cut asks none));
}
survey_said kind clients source rest line after survey (Events repeat) cut (says_events asks some) few before = record {
  line_count = omega (arith, one_more rest line after cut asks, before.line_count);
  few = few;
  event_count = omega (arith, before.event_count, more_by survey.unrefused repeat.times (count_events kind clients (request_lines (lines rest))) (count_events kind clients (request_lines (lines after))) (count_more kind clients rest line after repeat cut asks some));
}

-- one more line was counted
pub survey_more : (kind : Kind) (clients : ℕ) (source rest line after : List ℕ) (survey new : Survey) (event : EventLine) → lines rest ≡ line ∷ lines after → event ≡ event_line kind clients (fields line) → new ≡ counted event survey → new.lines ≤ MOST_EVENTS → IsSurvey kind clients source rest survey → IsSurvey kind clients source after new
survey_more kind clients source rest line after survey new event cut is same few before =
    subst (IsSurvey kind clients source after) (sym same)
    (survey_said kind clients source rest line after survey event cut (said_as event is) (omega (arith, few, ap (λ (s : Survey). s.lines) same)) before)

uncounted_said : (kind : Kind) (clients : ℕ) (source rest line after : List ℕ) (survey : Survey) (event : EventLine) (fault : ScriptFault) → lines rest ≡ line ∷ lines after → Said kind clients line event → IsUncounted event survey fault → IsSurvey kind clients source rest survey → IsCounted kind clients (lines source) (Err fault)
uncounted_said kind clients source rest line after survey Nothing fault cut (says_nothing none) is before = absurd is
uncounted_said kind clients source rest line after survey Refused Memory cut (says_refused asks none) is before = tt
uncounted_said kind clients source rest line after survey Refused Many cut (says_refused asks none) is before = omega (arith, is, one_more rest line after cut asks, before.line_count)
uncounted_said kind clients source rest line after survey Refused (Line number) cut (says_refused asks none) is before = absurd is
uncounted_said kind clients source rest line after survey (Events repeat) Memory cut (says_events asks some) is before = tt
uncounted_said kind clients source rest line after survey (Events repeat) Many cut (says_events asks some) is before = omega (arith, is, one_more rest line after cut asks, before.line_count)
uncounted_said kind clients source rest line after survey (Events repeat) (Line number) cut (says_events asks some) is before = absurd is

passed_on : (kind : Kind) (clients : ℕ) (lines : List (List ℕ)) (result : Result ℕ ScriptFault) (fault : ScriptFault) → IsErrAnd result (λ e. e ≡ fault) → IsCounted kind clients lines (Err fault) → IsCounted kind clients lines result
passed_on kind clients lines (Ok count) fault e h = absurd e
passed_on kind clients lines (Err other) fault e h =
    let P : ScriptFault → Type 0 = λ f. IsCounted kind clients lines (Err f) in
    subst P (sym e) h

-- or it wasn't
pub survey_fault : (kind : Kind) (clients : ℕ) (source rest line after : List ℕ) (survey : Survey) (event : EventLine) (result : Result ℕ ScriptFault) (fault : ScriptFault) → lines rest ≡ line ∷ lines after → event ≡ event_line kind clients (fields line) → IsUncounted event survey fault → IsErrAnd result (λ e. e ≡ fault) → IsSurvey kind clients source rest survey → IsCounted kind clients (lines source) result
survey_fault kind clients source rest line after survey event result fault cut is uncounted e before =
    passed_on kind clients (lines source) result fault e (uncounted_said kind clients source rest line after survey event fault cut (said_as event is) uncounted before)

-- all lines were
pub surveyed : (kind : Kind) (clients : ℕ) (source rest : List ℕ) (survey : Survey) → rest ≡ [] → IsSurvey kind clients source rest survey → IsCounted kind clients (lines source) (Ok survey.events)
surveyed kind clients source rest survey none before = (
  omega (arith, before.line_count, before.few, none_left rest none),
  omega (arith, before.event_count, none_by survey.unrefused (count_events kind clients (request_lines (lines rest))) (count_none kind clients rest none)),
)

-- Room

room_said : (kind : Kind) (clients : ℕ) (rest line after : List ℕ) (event : EventLine) → lines rest ≡ line ∷ lines after → Said kind clients line event → IsAccepted event → count_events kind clients (request_lines (lines rest)) ≡ event_times event + count_events kind clients (request_lines (lines after))
room_said kind clients rest line after Nothing cut (says_nothing none) it = omega (arith, count_skip kind clients rest line after cut none)
room_said kind clients rest line after Refused cut (says_refused asks none) it = absurd it
room_said kind clients rest line after (Events repeat) cut (says_events asks some) it = count_more kind clients rest line after repeat cut asks some

pub room_after : (kind : Kind) (clients : ℕ) (rest line after : List ℕ) → lines rest ≡ line ∷ lines after → IsAccepted (event_line kind clients (fields line)) → count_events kind clients (request_lines (lines rest)) ≡ event_times (event_line kind clients (fields line)) + count_events kind clients (request_lines (lines after))
room_after kind clients rest line after cut it = room_said kind clients rest line after (event_line kind clients (fields line)) cut (said kind clients line) it

for_said : (kind : Kind) (clients : ℕ) (rest line after : List ℕ) (event : EventLine) → lines rest ≡ line ∷ lines after → Said kind clients line event → event_times event ≤ count_events kind clients (request_lines (lines rest))
for_said kind clients rest line after Nothing cut (says_nothing none) = omega arith
for_said kind clients rest line after Refused cut (says_refused asks none) = omega arith
for_said kind clients rest line after (Events repeat) cut (says_events asks some) = omega (arith, count_more kind clients rest line after repeat cut asks some)

pub room_for : (kind : Kind) (clients : ℕ) (rest line after : List ℕ) → lines rest ≡ line ∷ lines after → event_times (event_line kind clients (fields line)) ≤ count_events kind clients (request_lines (lines rest))
room_for kind clients rest line after cut = for_said kind clients rest line after (event_line kind clients (fields line)) cut (said kind clients line)
