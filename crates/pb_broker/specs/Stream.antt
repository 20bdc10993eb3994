-- The bytes of a source or a sink over a call.
use Rattle.std.specs.Prelude.{◌≡◌, ℕ, List, Option}

-- the bytes that a source has left, or that a sink took, before a call and after it, where they are told; and how often it
-- had failed
pub record Stream : Type 0 where
  pub before : Option (List ℕ)
  pub after : Option (List ℕ)
  pub faults_before : ℕ
  pub faults : ℕ

abbrev pub stream : Option (List ℕ) → Option (List ℕ) → ℕ → ℕ → Stream
stream before after faults now = record { before = before; after = after; faults_before = faults; faults = now }

-- no call of it failed
abbrev pub IsSound : Stream → Type 0
IsSound of = of.faults ≡ of.faults_before
