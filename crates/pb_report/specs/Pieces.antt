-- Text that is kept back and leaves in pieces, and text made of lines.
use Rattle.std.specs.Prelude.{◌≡◌, ℕ, zero, suc, List, [], Option, ◌++◌, codes}
use Rattle.std.specs.Io.KnownBytes.{Appends}
use Rattle.pb_object.specs.Text.{spaced}

-- what left, and what is pending now, is what was pending and the text
pub record Passes (old new : Option (List ℕ)) (before after text : List ℕ) : Type 0 where
  pub gone : List ℕ
  pub written : Appends old new gone
  pub whole : gone ++ after ≡ before ++ text

-- a line of a word and numbers, as `register 3 77 1`
abbrev pub numbered : List ℕ → List ℕ → List ℕ
numbered word numbers = word ++ (spaced numbers ++ codes "\n")

-- the first so many of these lines, one after the other
unfoldable pub joined : (ℕ → List ℕ) → ℕ → List ℕ
joined line zero = []
joined line (suc count) = joined line count ++ line count

-- a first text, and the first so many of these lines
unfoldable pub section_of : List ℕ → (ℕ → List ℕ) → ℕ → List ℕ
section_of first line count = first ++ joined line count
