-- What the readers of words answer, each from the words of its text.
use Rattle.std.specs.Prelude.{◌≡◌, ℕ, ◌≤◌, List, [], ◌∷◌, Option, Some, None, MatchOption, take, slice_index}
use Rattle.pb_script.specs.Request.{◌>>=◌, number_within, arguments_of}

-- the number that the first of some words writes, and the words after it
unfoldable pub first_number : ℕ → ℕ → List (List ℕ) → Option (ℕ × List (List ℕ))
first_number low high [] = None
first_number low high (word ∷ others) = do
  number ← number_within low high word
  Some (number, others)

-- three values: first the arguments that the words write, then 0
abbrev pub AreArguments : ℕ → List (List ℕ) → Option (List ℕ) → Type 0
AreArguments count words read = MatchOption read (arguments_of count words ≡ None)
    (λ values. (arguments_of count words ≡ Some (take count values)) × ((k : ℕ) → count ≤ k → slice_index values k ≡ 0))
