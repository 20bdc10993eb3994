-- How the fields of a line name events.
use Rattle.std.specs.Prelude.{ℕ, ◌+◌, List, [], ◌∷◌, Option, Some, None, codes, if◌then◌else◌}
use Rattle.std.specs.Str.{bytes_eq}
use Rattle.pb_crash.specs.declared.leaves.Leaves.{Leaves}
use Rattle.pb_crash.specs.declared.leaves.Leaves.TheVariants.{Left, Done, Torn, Fenced}
use Rattle.pb_object.specs.declared.kind.Kind.{Kind}
use Rattle.pb_object.specs.declared.request.Ask.{Ask}
use Rattle.pb_object.specs.Number.{number_of}
use Rattle.pb_events.specs.declared.event.Event.{Event}
use Rattle.pb_events.specs.declared.event.Event.TheVariants.{Ask as AskEvent, Step, Fail, Crash, Reopen, ReopenFail}
use Rattle.pb_script.specs.declared.event.EventLine.{EventLine}
use Rattle.pb_script.specs.declared.event.EventLine.TheVariants.{Nothing, Refused, Events}
use Rattle.pb_script.specs.declared.event.Repeat.{Repeat}
use Rattle.pb_script.specs.declared.event.TheConstants.{MOST_TIMES}
use Rattle.pb_script.specs.Readers.{first_number}
use Rattle.pb_script.specs.Request.{◌>>=◌, number_within, op_of}
use Rattle.pb_script.specs.Words.{is_request}

-- the number that the first of some words writes, whichever it is, and the words after it
unfoldable pub any_number : List (List ℕ) → Option (ℕ × List (List ℕ))
any_number [] = None
any_number (word ∷ others) = do
  number ← number_of word
  Some (number, others)

-- a value, where no words are left
abbrev pub if_last : {A : Type 0} → A → List (List ℕ) → Option A
if_last value [] = Some value
if_last value (word ∷ others) = None

-- how often an event happens: so often as a number says, and once where there is none
unfoldable pub times_of : List (List ℕ) → Option ℕ
times_of [] = Some 1
times_of (word ∷ others) = do
  times ← number_within 1 (MOST_TIMES + 1) word
  if_last times others

-- what a failing call leaves
unfoldable pub torn_of : List (List ℕ) → Option Leaves
torn_of words = do
  value ← any_number words
  if_last (Torn value.0) value.1

abbrev pub how_with : List ℕ → List (List ℕ) → Option Leaves
how_with word others =
    if bytes_eq word (codes "left") then if_last Left others else
    (if bytes_eq word (codes "done") then if_last Done others else
    (if bytes_eq word (codes "torn") then torn_of others else
    (if bytes_eq word (codes "fenced") then if_last Fenced others else None)))

unfoldable pub how_of : List (List ℕ) → Option Leaves
how_of [] = None
how_of (word ∷ others) = how_with word others

-- a request under any number
unfoldable pub asked_of : Kind → ℕ → List (List ℕ) → Option Ask
asked_of kind clients words = do
  client ← first_number 0 clients words
  number ← any_number client.1
  op ← op_of kind number.1
  Some (record { client = client.0; number = number.0; op = op })

-- an event that happens so often
abbrev pub repeated : Event → ℕ → Repeat
repeated event times = record { event = event; times = times }

-- `CLIENT NUMBER OPERATION`
unfoldable pub ask_event_of : Kind → ℕ → List (List ℕ) → Option Repeat
ask_event_of kind clients words = do
  ask ← asked_of kind clients words
  Some (repeated (AskEvent ask) 1)

-- `CLIENT` or `CLIENT TIMES`
unfoldable pub step_of : ℕ → List (List ℕ) → Option Repeat
step_of clients words = do
  client ← first_number 0 clients words
  times ← times_of client.1
  Some (repeated (Step client.0) times)

-- `CLIENT HOW`
unfoldable pub fail_of : ℕ → List (List ℕ) → Option Repeat
fail_of clients words = do
  client ← first_number 0 clients words
  how ← how_of client.1
  Some (repeated (Fail client.0 how) 1)

-- `CUT PICK`
unfoldable pub crash_of : List (List ℕ) → Option Repeat
crash_of words = do
  cut ← first_number 0 4294967296 words
  pick ← any_number cut.1
  if_last (repeated (Crash cut.0 pick.0) 1) pick.1

-- nothing, or `TIMES`
unfoldable pub open_of : List (List ℕ) → Option Repeat
open_of words = do
  times ← times_of words
  Some (repeated Reopen times)

-- `HOW`
unfoldable pub openfail_of : List (List ℕ) → Option Repeat
openfail_of words = do
  how ← how_of words
  Some (repeated (ReopenFail how) 1)

-- a crash, or a part of opening the region again
abbrev pub region_event_with : List ℕ → List (List ℕ) → Option Repeat
region_event_with word others =
    if bytes_eq word (codes "crash") then crash_of others else
    (if bytes_eq word (codes "open") then open_of others else
    (if bytes_eq word (codes "openfail") then openfail_of others else None))

abbrev pub event_with : Kind → ℕ → List ℕ → List (List ℕ) → Option Repeat
event_with kind clients word others =
    if bytes_eq word (codes "ask") then ask_event_of kind clients others else
    (if bytes_eq word (codes "step") then step_of clients others else
    (if bytes_eq word (codes "fail") then fail_of clients others else region_event_with word others))

-- the events that the fields of a line name, if they name any
unfoldable pub event_of : Kind → ℕ → List (List ℕ) → Option Repeat
event_of kind clients [] = None
event_of kind clients (word ∷ others) = event_with kind clients word others

-- what a line with these fields says
abbrev pub event_line_by : Option Repeat → EventLine
event_line_by None = Refused
event_line_by (Some repeat) = Events repeat

abbrev pub event_line : Kind → ℕ → List (List ℕ) → EventLine
event_line kind clients fields = if is_request fields then event_line_by (event_of kind clients fields) else Nothing
