-- What a count of failures does in a call.
use Rattle.std.specs.Prelude.{◌≡◌, ℕ, ◌+◌, ◌<◌, ◌⊎◌, min, Result, MatchResult}

-- the last value of a count, where it stands still
abbrev pub last_count : ℕ
last_count = 18446744073709551615

-- one more, up to the last value of a count
abbrev pub raised : ℕ → ℕ
raised count = min (count + 1) last_count

-- the count went up, or stands at its last value
abbrev pub Rose : ℕ → ℕ → Type 0
Rose before now = (before < now) ⊎ ((before ≡ last_count) × (now ≡ last_count))

-- an answer with its cause: an error comes only where the count rose, and Ok leaves the count
abbrev pub HasCause : {T E : Type 0} → ℕ → ℕ → Result T E → Type 0
HasCause before now result = MatchResult result (λ _. now ≡ before) (λ _. Rose before now)
