-- How many events the lines of a schedule name.
use Rattle.std.specs.Prelude.{◌≡◌, ℕ, ◌+◌, ◌<◌, ◌≤◌, Bool, true, false, List, [], ◌∷◌, Option, Some, None, Result, Ok, Err, length}
use Rattle.pb_object.specs.declared.kind.Kind.{Kind}
use Rattle.pb_script.specs.declared.event.EventLine.{EventLine}
use Rattle.pb_script.specs.declared.event.EventLine.TheVariants.{Nothing, Refused, Events}
use Rattle.pb_script.specs.declared.event.Repeat.{Repeat}
use Rattle.pb_script.specs.declared.event.TheConstants.{MOST_EVENTS}
use Rattle.pb_script.specs.declared.script.ScriptFault.{ScriptFault}
use Rattle.pb_script.specs.declared.script.ScriptFault.TheVariants.{Memory, Many, Line}
use Rattle.pb_script.specs.Events.{event_of}
use Rattle.pb_script.specs.Schedule.{HasFewEvents}
use Rattle.pb_script.specs.Script.{request_lines}
use Rattle.pb_replay.specs.declared.survey.Survey.{Survey}

-- the events of a line that is read as these, and those of the lines behind it. Behind a line that is refused there are none
abbrev pub count_with : Option Repeat → ℕ → ℕ
count_with None more = 0
count_with (Some repeat) more = repeat.times + more

-- how many events event lines name, before the first that is refused
unfoldable pub count_events : Kind → ℕ → List (List (List ℕ)) → ℕ
count_events kind clients [] = 0
count_events kind clients (fields ∷ others) = count_with (event_of kind clients fields) (count_events kind clients others)

-- so many they are, where there are few event lines
abbrev pub IsCounted : Kind → ℕ → List (List ℕ) → Result ℕ ScriptFault → Type 0
IsCounted kind clients lines (Ok count) = HasFewEvents lines × (count ≡ count_events kind clients (request_lines lines))
IsCounted kind clients lines (Err Memory) = Unit {0}
IsCounted kind clients lines (Err Many) = MOST_EVENTS < length (request_lines lines)
IsCounted kind clients lines (Err (Line number)) = ⊥

-- One more line. Behind a refused one no events are counted
abbrev pub events_more : Bool → ℕ → ℕ
events_more true times = times
events_more false times = 0

abbrev pub counted : EventLine → Survey → Survey
counted Nothing survey = survey
counted Refused survey = record survey { lines = survey.lines + 1; unrefused = false }
counted (Events repeat) survey = record survey { lines = survey.lines + 1; events = survey.events + events_more survey.unrefused repeat.times }

-- why it isn't counted: it is an event line too many, or there are too many events
abbrev pub IsOneTooMany : Survey → ScriptFault → Type 0
IsOneTooMany survey Memory = Unit {0}
IsOneTooMany survey Many = MOST_EVENTS ≤ survey.lines
IsOneTooMany survey (Line number) = ⊥

abbrev pub IsUncounted : EventLine → Survey → ScriptFault → Type 0
IsUncounted Nothing survey fault = ⊥
IsUncounted Refused survey fault = IsOneTooMany survey fault
IsUncounted (Events repeat) survey fault = IsOneTooMany survey fault
