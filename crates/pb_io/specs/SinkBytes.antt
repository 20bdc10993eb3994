-- What a failed write leaves.
use Rattle.std.specs.Prelude.{ℕ, List, Option, take}
use Rattle.std.specs.Io.KnownBytes.{Appends}

-- the bytes that are told grow by some of the first bytes of `from`, or by none
abbrev pub AppendsSome : Option (List ℕ) → Option (List ℕ) → List ℕ → Type 0
AppendsSome old new from = (count : ℕ) × Appends old new (take count from)
