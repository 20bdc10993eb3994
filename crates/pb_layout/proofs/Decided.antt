-- Facts that hold or don't, and the first place where one doesn't.
use Rattle.std.proofs.Common.{◌≡◌, ◌⊎◌, ℕ, ◌<◌, ◌≤◌, zero, suc, Bool, true, false, Option, Some, None, IsSomeAnd, eqb, List, length, slice_index_or, Contains, refl, sym, ap, subst, inl, inr, arith}
use Rattle.std.proofs.lemmas.Bool.{cases_lt, cases_eq}
use Rattle.std.specs.Cmp.Lexicographic.{pointwise, bytes_decides}
use Rattle.pb_pmem.specs.declared.line.Line.{Line}
use Rattle.pb_layout.specs.Record.{IsFirstWithout}
use Rattle.pb_pmem.proofs.Lines.{same_line}

-- the fact holds, or it doesn't
abbrev pub Decided : Type 0 → Type 0
Decided A = A ⊎ ¬ A

pub decided_by : {A B : Type 0} → (A → B) → (B → A) → Decided A → Decided B
decided_by f g (inl a) = inl (f a)
decided_by f g (inr never) = inr (λ b. never (g b))

pub decided_both : {A B : Type 0} → Decided A → Decided B → Decided (A × B)
decided_both (inl a) (inl b) = inl (a, b)
decided_both (inl a) (inr never) = inr (λ p. never p.1)
decided_both (inr never) b = inr (λ p. never p.0)

pub decided_either : {A B : Type 0} → Decided A → Decided B → Decided (A ⊎ B)
decided_either (inl a) b = inl (inl a)
decided_either (inr never) (inl b) = inl (inr b)
decided_either (inr never) (inr neither) = inr (λ p. elim p [ inl a ↦ never a | inr b ↦ neither b ])

pub decided_if : {A B : Type 0} → Decided A → Decided B → Decided (A → B)
decided_if (inl a) (inl b) = inl (λ _. b)
decided_if (inl a) (inr never) = inr (λ f. never (f a))
decided_if (inr never) b = inl (λ a. absurd (never a))

pub decided_not : {A : Type 0} → Decided A → Decided (¬ A)
decided_not (inl a) = inr (λ never. never a)
decided_not (inr never) = inl never

pub decided_eq : (a b : ℕ) → Decided (a ≡ b)
decided_eq a b = cases_eq a b

pub decided_lt : (a b : ℕ) → Decided (a < b)
decided_lt a b = elim (cases_lt a b) [ inl below ↦ inl below | inr above ↦ inr (λ below. omega arith) ]

pub decided_le : (a b : ℕ) → Decided (a ≤ b)
decided_le a b = elim (cases_lt b a) [ inl above ↦ inr (λ below. omega arith) | inr below ↦ inl below ]

-- a fact holds below a number, or there is a first place where it doesn't
pub decided_below : (P : ℕ → Type 0) → ((k : ℕ) → Decided (P k)) → (n : ℕ) → ((k : ℕ) → k < n → P k) ⊎ ((k : ℕ) × IsFirstWithout P n k)
decided_below P each zero = inl (λ k inside. absurd (omega arith))
decided_below P each (suc n) =
    elim (decided_below P each n) [
      | inl all ↦ elim (each n) [
        | inl here ↦ inl (λ k inside. elim (cases_eq k n) [ inl same ↦ subst P (sym same) here | inr other ↦ all k (omega arith) ])
        | inr never ↦ inr (n, record { within = omega arith; before = all; refused = never })
      ]
      | inr first ↦ inr (first.0, record { within = omega (arith, first.1.within); before = first.1.before; refused = first.1.refused })
    ]

pub decided_all : (P : ℕ → Type 0) → ((k : ℕ) → Decided (P k)) → (n : ℕ) → Decided ((k : ℕ) → k < n → P k)
decided_all P each n =
    elim (decided_below P each n) [ inl all ↦ inl all | inr first ↦ inr (λ all. first.1.refused (all first.0 first.1.within)) ]

pub decided_some : (P : ℕ → Type 0) → ((k : ℕ) → Decided (P k)) → (n : ℕ) → Decided ((k : ℕ) × (k < n) × P k)
decided_some P each n =
    elim (decided_below (λ k. ¬ P k) (λ k. decided_not (each k)) n) [
      | inl never ↦ inr (λ w. never w.0 w.1 w.2)
      | inr first ↦ elim (each first.0) [ inl here ↦ inl (first.0, first.1.within, here) | inr never ↦ absurd (first.1.refused never) ]
    ]

-- there is one first place
pub one_first : (P : ℕ → Type 0) (n a b : ℕ) → IsFirstWithout P n a → IsFirstWithout P n b → a ≡ b
one_first P n a b left right =
    elim (cases_lt a b) [
      | inl below ↦ absurd (left.refused (right.before a below))
      | inr above ↦ elim (cases_lt b a) [ inl below ↦ absurd (right.refused (left.before b below)) | inr same ↦ omega arith ]
    ]

pub decided_option : {X : Type 0} (o : Option X) (P : X → Type 0) → ((x : X) → Decided (P x)) → Decided (IsSomeAnd o P)
decided_option None P each = inr (λ h. h)
decided_option (Some x) P each = each x

pub decided_contains : {X : Type 0} (xs : List X) (x : X) → ((a b : X) → Decided (a ≡ b)) → Decided (Contains xs x)
decided_contains xs x each = decided_some (λ k. slice_index_or xs k x ≡ x) (λ k. each (slice_index_or xs k x) x) (length xs)

line_by : (a b : Line) (t : Bool) → pointwise eqb a.words b.words ≡ t → Decided (a ≡ b)
line_by a b true e = inl (same_line a b ((bytes_decides a.words b.words).0 e))
line_by a b false e =
    inr (λ same. let yes = (bytes_decides a.words b.words).1 (ap (λ (l : Line). l.words) same) in cc)

pub decided_line : (a b : Line) → Decided (a ≡ b)
decided_line a b = line_by a b (pointwise eqb a.words b.words) refl
