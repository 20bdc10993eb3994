-- What holds of all legal histories.
use Rattle.std.specs.Prelude.{◌≡◌, ℕ, List, [], ◌∷◌, ◌++◌, Some, slice_get, sum_by}
use Rattle.pb_object.specs.declared.request.Kept.{Kept}
use Rattle.pb_object.specs.History.{Entry, History}
use Rattle.pb_object.specs.Standing.{Standing, newest}

-- all entries of a history, in their order
unfoldable pub entries_of : History → List Entry
entries_of [] = []
entries_of (round ∷ history) = round.entries ++ entries_of history

-- no two entries have the same client and number
abbrev pub HasNumbersOnce : History → Type 0
HasNumbersOnce history =
    (a b : ℕ) (first second : Entry)
    → slice_get (entries_of history) a ≡ Some first
    → slice_get (entries_of history) b ≡ Some second
    → first.client ≡ second.client
    → first.number ≡ second.number
    → a ≡ b

-- the newest number of kept requests
abbrev pub newest_number_of : List Kept → ℕ
newest_number_of kept = (newest kept).number

-- the sum of all clients' newest numbers
abbrev pub numbers_of : Standing → ℕ
numbers_of s = sum_by newest_number_of s.kept
