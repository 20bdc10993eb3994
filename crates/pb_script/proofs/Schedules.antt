-- A schedule is read line by line.
use Rattle.std.proofs.Common.{◌≡◌, ℕ, true, false, List, [], ◌∷◌, ◌++◌, Some, None, refl, ap, ◌∙◌}
use Rattle.std.proofs.lemmas.Option.{none-some}
use Rattle.pb_object.specs.declared.kind.Kind.{Kind}
use Rattle.pb_script.specs.declared.event.Repeat.{Repeat}
use Rattle.pb_script.specs.Events.{event_of}
use Rattle.pb_script.specs.Request.{each}
use Rattle.pb_script.specs.Schedule.{IsSchedule}
use Rattle.pb_script.specs.Script.{request_lines}
use Rattle.pb_script.specs.Words.{fields, is_request}
use Rattle.pb_script.proofs.Arguments.{each_push}
use Rattle.pb_script.proofs.Steps.{request_lines_no, request_lines_yes}

-- a line that names nothing changes nothing
pub schedule_skip : (kind : Kind) (clients : ℕ) (read : List (List ℕ)) (line : List ℕ) (events : List Repeat) → is_request (fields line) ≡ false → IsSchedule kind clients read events → IsSchedule kind clients (read ++ line ∷ []) events
schedule_skip kind clients read line events e h =
    record { reads = ap (each (event_of kind clients)) (request_lines_no read line e) ∙ h.reads }

-- one more line's events
pub schedule_push : (kind : Kind) (clients : ℕ) (read : List (List ℕ)) (line : List ℕ) (events : List Repeat) (more : Repeat) → is_request (fields line) ≡ true → event_of kind clients (fields line) ≡ Some more → IsSchedule kind clients read events → IsSchedule kind clients (read ++ line ∷ []) (events ++ more ∷ [])
schedule_push kind clients read line events more e reads h =
    record { reads = rw (request_lines_yes read line e, each_push (event_of kind clients) (request_lines read) (fields line), h.reads, reads) refl }

-- a line that reads as no event ends what is a schedule
pub schedule_none : (kind : Kind) (clients : ℕ) (read : List (List ℕ)) (line : List ℕ) (events : List Repeat) → is_request (fields line) ≡ true → event_of kind clients (fields line) ≡ None → IsSchedule kind clients read events → (all : List Repeat) → IsSchedule kind clients (read ++ line ∷ []) all → ⊥
schedule_none kind clients read line events e refuses h all schedule =
    none-some all (rw (request_lines_yes read line e, each_push (event_of kind clients) (request_lines read) (fields line), h.reads, refuses) at schedule.reads)
