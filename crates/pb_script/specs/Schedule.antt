-- What a source says of the events of a schedule.
use Rattle.std.specs.Prelude.{◌≡◌, ℕ, ◌≤◌, List, Some, length}
use Rattle.pb_object.specs.declared.kind.Kind.{Kind}
use Rattle.pb_script.specs.declared.event.Repeat.{Repeat}
use Rattle.pb_script.specs.declared.event.TheConstants.{MOST_EVENTS}
use Rattle.pb_script.specs.Events.{event_of}
use Rattle.pb_script.specs.Request.{each}
use Rattle.pb_script.specs.Script.{request_lines}

-- the lines name just these events: each line that is neither blank nor a comment names its events
pub record IsSchedule (kind : Kind) (clients : ℕ) (lines : List (List ℕ)) (events : List Repeat) : Type 0 where
  pub reads : each (event_of kind clients) (request_lines lines) ≡ Some events

-- no more event lines than a schedule may have, refused ones counted
abbrev pub HasFewEvents : List (List ℕ) → Type 0
HasFewEvents lines = length (request_lines lines) ≤ MOST_EVENTS
