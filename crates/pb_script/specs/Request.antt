-- How the fields of a line ask for an operation.
use Rattle.std.specs.Prelude.{ℕ, ◌+◌, List, [], ◌∷◌, Option, Some, None, option_and_then, ◌&&◌, if◌then◌else◌, ◌==◌, nat_lt, nat_le, length, slice_index}
use Rattle.pb_object.specs.declared.kind.Kind.{Kind}
use Rattle.pb_object.specs.declared.codes.Action.{Action}
use Rattle.pb_object.specs.declared.request.Op.{Op}
use Rattle.pb_object.specs.declared.request.Ask.{Ask}
use Rattle.pb_object.specs.declared.request.TheConstants.{LAST_NUMBER}
use Rattle.pb_object.specs.Codes.{action_code, action_named, argument_count}
use Rattle.pb_object.specs.Number.{number_of}

infixl 10 ◌>>=◌
abbrev pub ◌>>=◌ : {A B : Type 0} → Option A → (A → Option B) → Option B
value >>= next = option_and_then next value

-- what each of these gives, if each gives something
unfoldable pub each : {A B : Type 0} → (A → Option B) → List A → Option (List B)
each give [] = Some []
each give (x ∷ xs) = do
  y ← give x
  ys ← each give xs
  Some (y ∷ ys)

-- a number that is at least `low` and below `high`
unfoldable pub number_within : ℕ → ℕ → List ℕ → Option ℕ
number_within low high word = do
  number ← number_of word
  if nat_le low number && nat_lt number high then Some number else None

-- so many numbers and no more
unfoldable pub arguments_of : ℕ → List (List ℕ) → Option (List ℕ)
arguments_of count words = do
  arguments ← each number_of words
  if length arguments == count then Some arguments else None

-- an action on these arguments: those that it doesn't use are 0
abbrev pub op_with : Action → List ℕ → Op
op_with action arguments = record { code = action_code action; a = slice_index arguments 0; b = slice_index arguments 1; c = slice_index arguments 2 }

-- an operation of a kind: its word, and as many numbers as it uses
unfoldable pub op_of : Kind → List (List ℕ) → Option Op
op_of kind [] = None
op_of kind (word ∷ numbers) = do
  action ← action_named kind word
  arguments ← arguments_of (argument_count action) numbers
  Some (op_with action arguments)

-- a request: a client below so many, its number, and an operation of the kind
unfoldable pub request_of : Kind → ℕ → List (List ℕ) → Option Ask
request_of kind clients (client ∷ number ∷ operation) = do
  c ← number_within 0 clients client
  n ← number_within 1 (LAST_NUMBER + 1) number
  op ← op_of kind operation
  Some (record { client = c; number = n; op = op })
request_of kind clients _ = None
