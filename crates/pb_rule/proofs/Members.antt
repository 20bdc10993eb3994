-- Members of lists.
use Rattle.std.proofs.Common.{◌≡◌, ◌⊎◌, ℕ, ◌<◌, eqb, eq-eqb, Bool, true, false, cond, List, [], ◌∷◌, refl, sym, ap, subst, ◌∙◌, inl, inr, arith, Contains}
use Rattle.std.proofs.lemmas.Bool.{false≢true}
use Rattle.std.proofs.lemmas.List.Elements.{Contains-append_left, Contains-append_right, Contains-push, Contains-push_cases, Contains-append_cases}
use Rattle.pb_object.specs.History.{Entry, after_entry, AreLegal}
use Rattle.pb_object.specs.Standing.{Standing}
use Rattle.pb_core.specs.MemoryParts.{entries_with}

pub contains-here : {A : Type 0} (x : A) (xs : List A) → Contains (x ∷ xs) x
contains-here x xs = Contains-append_left (x ∷ []) xs x (Contains-push [] x)

pub contains-there : {A : Type 0} (x y : A) (xs : List A) → Contains xs y → Contains (x ∷ xs) y
contains-there x y xs is = Contains-append_right (x ∷ []) xs y is

pub contains-none : {A : Type 0} (x : A) → Contains [] x → ⊥
contains-none x is = omega (arith, is.1)

pub contains-one : {A : Type 0} (x y : A) → Contains (x ∷ []) y → x ≡ y
contains-one x y is = elim (Contains-push_cases [] x y is) [ inl none ↦ absurd (contains-none y none) | inr same ↦ same ]

pub contains-cases : {A : Type 0} (x y : A) (xs : List A) → Contains (x ∷ xs) y → (x ≡ y) ⊎ Contains xs y
contains-cases x y xs is = elim (Contains-append_cases (x ∷ []) xs y is) [
  | inl one ↦ inl (contains-one x y one)
  | inr more ↦ inr more
]

-- a client's entry among others is one of them
pub of_all : (c : ℕ) (entries : List Entry) (entry : Entry) → Contains (entries_with c entries) entry → Contains entries entry
of_all c [] entry is = is
of_all c (first ∷ entries) entry is = go (of_all c entries entry) (eqb first.client c) is
  where
    go : (Contains (entries_with c entries) entry → Contains entries entry) → (b : Bool) → Contains (cond b (first ∷ entries_with c entries) (entries_with c entries)) entry → Contains (first ∷ entries) entry
    go rest true own = elim (contains-cases first entry (entries_with c entries) own) [
      | inl same ↦ subst (Contains (first ∷ entries)) same (contains-here first entries)
      | inr more ↦ contains-there first entry entries (rest more)
    ]
    go rest false more = contains-there first entry entries (rest more)

-- and one of them is among its client's
pub with_own : (entries : List Entry) (entry : Entry) → Contains entries entry → Contains (entries_with entry.client entries) entry
with_own [] entry is = absurd (contains-none entry is)
with_own (first ∷ entries) entry is = go (with_own entries entry) (eqb first.client entry.client) refl (contains-cases first entry entries is)
  where
    own : first ≡ entry → eqb first.client entry.client ≡ true
    own same = eq-eqb first.client entry.client (ap (λ (e : Entry). e.client) same)

    go : (Contains entries entry → Contains (entries_with entry.client entries) entry) → (b : Bool) → eqb first.client entry.client ≡ b → (first ≡ entry) ⊎ Contains entries entry → Contains (cond b (first ∷ entries_with entry.client entries) (entries_with entry.client entries)) entry
    go rest true is_own (inl same) = subst (Contains (first ∷ entries_with entry.client entries)) same (contains-here first (entries_with entry.client entries))
    go rest true is_own (inr more) = contains-there first entry (entries_with entry.client entries) (rest more)
    go rest false other (inl same) = absurd (false≢true (sym other ∙ own same))
    go rest false other (inr more) = rest more

-- legal entries are of the standing's clients
pub legal-below : (s : Standing) (side : ℕ) (entries : List Entry) (entry : Entry) → AreLegal s side entries → Contains entries entry → entry.client < s.clients
legal-below s side [] entry legal is = absurd (contains-none entry is)
legal-below s side (first ∷ entries) entry legal is = elim (contains-cases first entry entries is) [
  | inl same ↦ subst (λ (e : Entry). e.client < s.clients) same legal.0.client
  | inr more ↦ legal-below (after_entry s first) side entries entry legal.1 more
]
