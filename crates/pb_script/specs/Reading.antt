-- What is held of a source whose first lines were read.
use Rattle.std.specs.Prelude.{◌≡◌, ℕ, ◌<◌, ◌≤◌, ◌+◌, List, [], ◌∷◌, ◌++◌, Option, Some, None, Result, Ok, Err, MatchOption, IfSome, if◌then◌else◌, ◌==◌, length, slice_index, slice_set}
use Rattle.std.specs.Global.{Vec}
use Rattle.pb_object.specs.declared.kind.Kind.{Kind}
use Rattle.pb_object.specs.declared.request.Ask.{Ask}
use Rattle.pb_script.specs.declared.script.Reading.{Reading}
use Rattle.pb_script.specs.declared.script.ScriptFault.{ScriptFault}
use Rattle.pb_script.specs.declared.script.ScriptFault.TheVariants.{Memory, Many, Line}
use Rattle.pb_script.specs.declared.command.TheConstants.{MOST_CLIENTS}
use Rattle.pb_script.specs.declared.script.TheConstants.{MOST_REQUESTS}
use Rattle.pb_script.specs.Script.{IsScript, IsRefused, last_number, request_lines}

-- a client's last number, where 0 stands for none
abbrev pub some_number : ℕ → Option ℕ
some_number number = if number == 0 then None else Some number

-- a request follows, by the last numbers that are held
abbrev pub FollowsLast : List ℕ → Ask → Type 0
FollowsLast last ask = IfSome (some_number (slice_index last ask.client)) (λ number. ask.number ≡ number + 1)

-- the last numbers are those of these requests
abbrev pub HoldsLast : List ℕ → List Ask → Type 0
HoldsLast last asks = (client : ℕ) → client < MOST_CLIENTS → last_number client asks ≡ some_number (slice_index last client)

-- the lines are a script of the requests that are held, or one of them is the first refused
abbrev pub HoldsScript : Kind → ℕ → List (List ℕ) → Reading → Type 0
HoldsScript kind clients read reading = MatchOption reading.refused
    (IsScript kind clients read reading.asks.items × HoldsLast reading.last reading.asks.items)
    (λ number. (number ≤ length read) × IsRefused kind clients read number)

-- what is held after these lines
pub record Holds (kind : Kind) (clients : ℕ) (read : List (List ℕ)) (reading : Reading) : Type 0 where
  pub lines : reading.lines ≡ length read
  pub requests : reading.requests ≡ length (request_lines read)
  pub last : length reading.last ≡ MOST_CLIENTS
  pub few : reading.requests ≤ MOST_REQUESTS
  pub script : HoldsScript kind clients read reading

-- the same after one more line, or there are too many request lines; want of memory apart
abbrev pub HoldsMore : Kind → ℕ → List (List ℕ) → Reading → Result (Unit {0}) ScriptFault → Type 0
HoldsMore kind clients read reading (Ok done) = Holds kind clients read reading
HoldsMore kind clients read reading (Err Memory) = Unit {0}
HoldsMore kind clients read reading (Err Many) = MOST_REQUESTS < length (request_lines read)
HoldsMore kind clients read reading (Err (Line number)) = ⊥

-- one more request is held, or there is no memory for it
abbrev pub AddsAsk : Reading → Ask → Reading → Result (Unit {0}) ScriptFault → Type 0
AddsAsk old ask new (Ok done) =
    (new.asks.items ≡ old.asks.items ++ ask ∷ []) × (new.last ≡ slice_set old.last ask.client ask.number) × (new.lines ≡ old.lines) × (new.requests ≡ old.requests) × (new.refused ≡ old.refused)
AddsAsk old ask new (Err fault) = fault ≡ Memory

-- what a reading answers at the end: its requests, or the first refused line
abbrev pub IsFinished : Reading → Result (Vec Ask) ScriptFault → Type 0
IsFinished reading (Ok asks) = (reading.refused ≡ None) × (asks.items ≡ reading.asks.items)
IsFinished reading (Err Memory) = ⊥
IsFinished reading (Err Many) = ⊥
IsFinished reading (Err (Line number)) = reading.refused ≡ Some number
