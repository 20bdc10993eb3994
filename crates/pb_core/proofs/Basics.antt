-- Functions of a client or a place that are changed at one, and what holds for each client.
use Rattle.std.proofs.Common.{◌≡◌, ◌≢◌, ℕ, ◌⊎◌, eqb, subst, sym, refl, ◌∙◌, inl, inr}
use Rattle.std.proofs.lemmas.Bool.{cases_eq, eq-eqb, ne_eqb, cond-true, cond-false}
use Rattle.pb_core.specs.Memory.{with_at}

pub with_at-same : {X : Type 0} (place : ℕ) (value : X) (before : ℕ → X) → with_at place value before place ≡ value
with_at-same place value before = cond-true (eqb place place) value (before place) (eq-eqb place place refl)

pub with_at-other : {X : Type 0} (place : ℕ) (value : X) (before : ℕ → X) (other : ℕ) → other ≢ place → with_at place value before other ≡ before other
with_at-other place value before other apart =
    cond-false (eqb other place) value (before other) (ne_eqb other place apart)

-- what holds at a place of the new value, and at the others of the old ones, holds at each
pub at_each : {X : Type 0} (P : ℕ → X → Type 0) (place : ℕ) (value : X) (before : ℕ → X) → P place value → ((other : ℕ) → other ≢ place → P other (before other)) → (other : ℕ) → P other (with_at place value before other)
at_each P place value before here others other = go (cases_eq other place)
  where
    go : (other ≡ place) ⊎ (other ≢ place) → P other (with_at place value before other)
    go (inl same) =
        subst (λ (at : ℕ). P at (with_at place value before at)) (sym same) (subst (P place) (sym (with_at-same place value before)) here)
    go (inr apart) = subst (P other) (sym (with_at-other place value before other apart)) (others other apart)

-- the last of two changes at one place counts
pub with_at-twice : {X : Type 0} (place : ℕ) (value first : X) (before : ℕ → X) → with_at place value (with_at place first before) ≡ with_at place value before
with_at-twice {X} place value first before = λ i other. at_each (λ (at : ℕ) (x : X). x ≡ with_at place value before at) place value (with_at place first before) (sym (with_at-same place value before)) (λ at apart. with_at-other place first before at apart ∙ sym (with_at-other place value before at apart)) other i
