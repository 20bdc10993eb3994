-- What a source asks for, or the first of its lines that is refused.
use Rattle.std.specs.Prelude.{◌≡◌, ℕ, ◌+◌, ◌-◌, ◌<◌, ◌≤◌, List, Option, Some, None, Result, Ok, Err, if◌then◌else◌, ◌==◌, IfSome, length, take, map, filter, fold, slice_index_or}
use Rattle.std.specs.Global.{Vec}
use Rattle.pb_object.specs.declared.kind.Kind.{Kind}
use Rattle.pb_object.specs.declared.request.Ask.{Ask}
use Rattle.pb_object.specs.declared.request.TheConstants.{LAST_NUMBER}
use Rattle.pb_object.specs.Request.{IsOperation}
use Rattle.pb_script.specs.declared.script.ScriptFault.{ScriptFault}
use Rattle.pb_script.specs.declared.script.ScriptFault.TheVariants.{Memory, Many, Line}
use Rattle.pb_script.specs.declared.script.TheConstants.{MOST_REQUESTS}
use Rattle.pb_script.specs.Request.{each, request_of}
use Rattle.pb_script.specs.Words.{fields, is_request}

-- the request lines of a source, each as its fields: all lines but the blank ones and comments
unfoldable pub request_lines : List (List ℕ) → List (List (List ℕ))
request_lines lines = filter is_request (map fields lines)

-- the number of a client's last request among these, if it has one
abbrev pub last_number : ℕ → List Ask → Option ℕ
last_number client asks = fold (λ last ask. if ask.client == client then Some ask.number else last) None asks

-- a request has the number after the one of its client's last request before it, if there is one
abbrev pub Follows : List Ask → Ask → Type 0
Follows before ask = IfSome (last_number ask.client before) (λ last. ask.number ≡ last + 1)

-- each request follows those before it
abbrev pub NumbersFollow : List Ask → Type 0
NumbersFollow asks = (k : ℕ) (d : Ask) → k < length asks → Follows (take k asks) (slice_index_or asks k d)

-- a request of one of so many clients, with a number that a request can have, for an operation of the kind
pub record IsAskOf (kind : Kind) (clients : ℕ) (ask : Ask) : Type 0 where
  pub client : ask.client < clients
  pub some : 1 ≤ ask.number
  pub few : ask.number ≤ LAST_NUMBER
  pub operation : IsOperation kind ask.op

-- the lines ask for just these requests of this many clients: each request line reads as its request, and the numbers follow
pub record IsScript (kind : Kind) (clients : ℕ) (lines : List (List ℕ)) (asks : List Ask) : Type 0 where
  pub reads : each (request_of kind clients) (request_lines lines) ≡ Some asks
  pub follow : NumbersFollow asks

-- the first refused line has this number, counted from 1: the lines before it are a script, and with it they are none
pub record IsRefused (kind : Kind) (clients : ℕ) (lines : List (List ℕ)) (number : ℕ) : Type 0 where
  pub before : (asks : List Ask) × IsScript kind clients (take (number - 1) lines) asks
  pub none : (asks : List Ask) → IsScript kind clients (take number lines) asks → ⊥

-- no more request lines than a script may have, refused ones counted
abbrev pub IsShort : List (List ℕ) → Type 0
IsShort lines = length (request_lines lines) ≤ MOST_REQUESTS

-- what the lines are read as: their requests, or why they are no script; want of memory apart
abbrev pub IsReadAs : Kind → ℕ → List (List ℕ) → Result (Vec Ask) ScriptFault → Type 0
IsReadAs kind clients lines (Ok asks) = IsShort lines × IsScript kind clients lines asks.items
IsReadAs kind clients lines (Err Memory) = Unit {0}
IsReadAs kind clients lines (Err Many) = MOST_REQUESTS < length (request_lines lines)
IsReadAs kind clients lines (Err (Line number)) = IsShort lines × IsRefused kind clients lines number

-- the answer is these requests, want of memory apart
abbrev pub IsAnswer : List Ask → Result (Vec Ask) ScriptFault → Type 0
IsAnswer asks (Ok read) = read.items ≡ asks
IsAnswer asks (Err Memory) = Unit {0}
IsAnswer asks (Err Many) = ⊥
IsAnswer asks (Err (Line number)) = ⊥
