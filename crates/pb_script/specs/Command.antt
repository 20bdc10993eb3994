-- The forms of a command line.
use Rattle.std.specs.Prelude.{ℕ, ◌*◌, ◌+◌, ◌≤◌, List, [], ◌∷◌, Option, Some, None, String, codes, map, nat_le, if◌then◌else◌, option_map}
use Rattle.std.specs.String.{string_bytes}
use Rattle.std.specs.Str.{bytes_eq}
use Rattle.pb_object.specs.declared.kind.Kind.{Kind}
use Rattle.pb_object.specs.Codes.{kind_named}
use Rattle.pb_object.specs.Number.{number_of}
use Rattle.pb_script.specs.declared.command.Command.{Command}
use Rattle.pb_script.specs.declared.command.Command.TheVariants.{Fresh, Run, Report, Replay, Drill}
use Rattle.pb_script.specs.declared.command.TheConstants.{MOST_CLIENTS, MOST_SIZE}
use Rattle.pb_script.specs.declared.script.TheConstants.{MOST_REQUESTS}
use Rattle.pb_script.specs.Request.{◌>>=◌, number_within}

-- `KIND CLIENTS SIZE`: a new object's kind, clients and size
unfoldable pub object_of : List (List ℕ) → Option (Kind × ℕ × ℕ)
object_of (kind ∷ clients ∷ size ∷ []) = do
  k ← kind_named kind
  c ← number_within 1 (MOST_CLIENTS + 1) clients
  s ← number_within 1 (MOST_SIZE + 1) size
  Some (k, c, s)
object_of _ = None

-- `SEED CLIENTS COUNT`: a drill of no more requests than a script may have
unfoldable pub drill_of : List (List ℕ) → Option Command
drill_of (seed ∷ clients ∷ count ∷ []) = do
  s ← number_of seed
  c ← number_within 1 (MOST_CLIENTS + 1) clients
  n ← number_within 1 (MOST_REQUESTS + 1) count
  if nat_le (c * n) MOST_REQUESTS then Some (Drill s c n) else None
drill_of _ = None

-- a command that has no arguments
abbrev pub alone : Command → List (List ℕ) → Option Command
alone command [] = Some command
alone command _ = None

-- the command that words spell, if they spell one
unfoldable pub command_of : List (List ℕ) → Option Command
command_of [] = None
command_of (word ∷ arguments) =
    if bytes_eq word (codes "fresh") then option_map (λ object. Fresh object.0 object.1 object.2) (object_of arguments) else
    (if bytes_eq word (codes "run") then alone Run arguments else
    (if bytes_eq word (codes "report") then alone Report arguments else
    (if bytes_eq word (codes "replay") then option_map (λ object. Replay object.0 object.1 object.2) (object_of arguments) else
    (if bytes_eq word (codes "drill") then drill_of arguments else None))))

-- the bytes of each word
abbrev pub texts : {A : Type 0} → List (String A) → List (List ℕ)
texts words = map (λ word. string_bytes word) words

-- what a command asks for is within the limits
pub record IsObjectWithin (clients size : ℕ) : Type 0 where
  pub some_clients : 1 ≤ clients
  pub few_clients : clients ≤ MOST_CLIENTS
  pub some_size : 1 ≤ size
  pub small_size : size ≤ MOST_SIZE

pub record IsDrillWithin (clients count : ℕ) : Type 0 where
  pub some_clients : 1 ≤ clients
  pub few_clients : clients ≤ MOST_CLIENTS
  pub some : 1 ≤ count
  pub few : clients * count ≤ MOST_REQUESTS

abbrev pub IsWithinLimits : Command → Type 0
IsWithinLimits (Fresh kind clients size) = IsObjectWithin clients size
IsWithinLimits Run = Unit {0}
IsWithinLimits Report = Unit {0}
IsWithinLimits (Replay kind clients size) = IsObjectWithin clients size
IsWithinLimits (Drill seed clients count) = IsDrillWithin clients count
