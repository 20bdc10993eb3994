-- What comes of a schedule that is replayed.
use Rattle.std.specs.Prelude.{◌≡◌, ◌⊎◌, ℕ, ◌-◌, ◌<◌, List, [], ◌∷◌, ◌++◌, Result, Ok, Err, length, replicate, take}
use Rattle.pb_pmem.specs.Contents.{contents}
use Rattle.pb_object.specs.Standing.{Standing}
use Rattle.pb_layout.specs.declared.header.Header.{Header}
use Rattle.pb_layout.specs.Recovered.{Represents}
use Rattle.pb_events.specs.declared.event.Event.{Event}
use Rattle.pb_events.specs.declared.event.Stepped.{Stepped}
use Rattle.pb_core.specs.Fresh.{IsFreshWorld}
use Rattle.pb_core.specs.Play.{Play}
use Rattle.pb_core.specs.Possible.{IsPossible}
use Rattle.pb_core.specs.World.{World}
use Rattle.pb_engines.specs.AnyEngine.{view_of}
use Rattle.pb_region_report.specs.Writing.{ListsHeap}
use Rattle.pb_script.specs.declared.event.Repeat.{Repeat}
use Rattle.pb_script.specs.declared.event.TheConstants.{MOST_EVENTS}
use Rattle.pb_script.specs.declared.script.ScriptFault.{ScriptFault}
use Rattle.pb_script.specs.declared.script.ScriptFault.TheVariants.{Memory, Many, Line}
use Rattle.pb_script.specs.Schedule.{HasFewEvents, IsSchedule}
use Rattle.pb_script.specs.Script.{request_lines}
use Rattle.pb_script.specs.Words.{lines}
use Rattle.pb_replay.specs.declared.played.Played.{Played}
use Rattle.pb_replay.specs.AnswerText.{given}

-- the events of a schedule, one after the other
unfoldable pub events_of : List Repeat → List Event
events_of [] = []
events_of (repeat ∷ repeats) = replicate repeat.times repeat.event ++ events_of repeats

-- these events were played one after the other in a world over a region that was just formatted, with these answers
pub record AreMade (head : Header) (events : List Event) (answers : List Stepped) (last : World) : Type 0 where
  pub first : World
  pub fresh : IsFreshWorld head first
  pub play : Play first events answers last

-- a source is the schedule of events that were played, with these answers, and the device is left with this standing
pub record IsReplayed (head : Header) (bytes : List ℕ) (answers : List Stepped) (s : Standing) : Type 0 where
  pub few : HasFewEvents (lines bytes)
  pub repeats : List Repeat
  pub schedule : IsSchedule head.kind head.clients (lines bytes) repeats
  pub last : World
  pub made : AreMade head (events_of repeats) answers last
  pub stands : Represents (contents last.tale.base last.tale.log) s

-- Lines of which the last is the first that is refused. The events of those before it were played ..
pub record AreMadeBefore (head : Header) (front : List (List ℕ)) (before : List Repeat) : Type 0 where
  pub schedule : IsSchedule head.kind head.clients front before
  pub answers : List Stepped
  pub reached : World
  pub made : AreMade head (events_of before) answers reached

-- .. and it names no event, ..
abbrev pub NamesNoEvent : Header → List (List ℕ) → Type 0
NamesNoEvent head lines = (repeats : List Repeat) → IsSchedule head.kind head.clients lines repeats → ⊥

-- .. or one that can't happen: so often it was played, and then it wasn't possible in the world that was reached
pub record NamesImpossible (head : Header) (lines : List (List ℕ)) (before : List Repeat) : Type 0 where
  pub line : Repeat
  pub schedule : IsSchedule head.kind head.clients lines (before ++ line ∷ [])
  pub done : ℕ
  pub left : done < line.times
  pub answers : List Stepped
  pub stuck : World
  pub made : AreMade head (events_of before ++ replicate done line.event) answers stuck
  pub impossible : ¬ IsPossible stuck line.event

-- the first refused line has this number, counted from 1
pub record IsRefusedLine (head : Header) (lines : List (List ℕ)) (number : ℕ) : Type 0 where
  pub before : List Repeat
  pub made : AreMadeBefore head (take (number - 1) lines) before
  pub refused : NamesNoEvent head (take number lines) ⊎ NamesImpossible head (take number lines) before

-- a source has too many event lines; or few, and this is the first that is refused
abbrev pub HasTooManyEvents : List ℕ → Type 0
HasTooManyEvents bytes = MOST_EVENTS < length (request_lines (lines bytes))

abbrev pub HasBadEvent : Header → ℕ → List ℕ → Type 0
HasBadEvent head number bytes = HasFewEvents (lines bytes) × IsRefusedLine head (lines bytes) number

-- what is held of a replay: the answers that clients were given, and the region that was left
pub record Holds (played : Played) (answers : List Stepped) (s : Standing) : Type 0 where
  pub answers_are : played.answers.items ≡ given answers
  pub standing : (view_of played.engine).standing ≡ s
  pub rising : ListsHeap played.engine played.rising.items

-- a source was replayed, or wasn't
abbrev pub IsReplay : Header → List ℕ → Result Played ScriptFault → Type 0
IsReplay head bytes (Ok played) = (answers : List Stepped) × (s : Standing) × IsReplayed head bytes answers s × Holds played answers s
IsReplay head bytes (Err Memory) = Unit {0}
IsReplay head bytes (Err Many) = HasTooManyEvents bytes
IsReplay head bytes (Err (Line number)) = HasBadEvent head number bytes
