-- A legal history has one entry for each number of a client.
use Rattle.std.proofs.Common.{◌≡◌, ◌≢◌, ◌⊎◌, inl, inr, ℕ, zero, suc, ◌<◌, ◌≤◌, true, false, eqb, List, [], ◌∷◌, length, get_or, length-set, eq-eqb, refl, sym, ap, subst, ◌∙◌, arith}
use Rattle.std.proofs.lemmas.Bool.{eqb-true, false≢true}
use Rattle.std.proofs.lemmas.List.{get_or-set_same, get_or-set_other}
use Rattle.pb_object.specs.declared.request.Kept.{Kept}
use Rattle.pb_object.specs.History.{Entry, Round, History, kept_by, after_entry, after_entries, after_round, IsLegalEntry, AreLegal, IsLegalRound, IsLegal}
use Rattle.pb_object.specs.Standing.{Standing, keep, kept_list_of, newest, newest_of}
use Rattle.pb_report.specs.Outcomes.{HasEntry}

-- the entry is one of these
abbrev pub IsIn : Entry → List Entry → Type 0
IsIn entry [] = ⊥
IsIn entry (first ∷ entries) = (first ≡ entry) ⊎ IsIn entry entries

abbrev pub IsInHistory : Entry → History → Type 0
IsInHistory entry [] = ⊥
IsInHistory entry (round ∷ history) = IsIn entry round.entries ⊎ IsInHistory entry history

in_from : (entries : List Entry) (entry : Entry) (place : ℕ) → place < length entries → get_or entries place entry ≡ entry → IsIn entry entries
in_from [] entry place below is = absurd (omega arith)
in_from (first ∷ entries) entry zero below is = inl is
in_from (first ∷ entries) entry (suc place) below is = inr (in_from entries entry place (omega arith) is)

in_history_from : (history : History) (entry : Entry) (round : Round) (place : ℕ) → place < length history → get_or history place round ≡ round → IsIn entry round.entries → IsInHistory entry history
in_history_from [] entry round place below is member = absurd (omega arith)
in_history_from (first ∷ history) entry round zero below is member = inl (subst (λ (r : Round). IsIn entry r.entries) (sym is) member)
in_history_from (first ∷ history) entry round (suc place) below is member = inr (in_history_from history entry round place (omega arith) is member)

pub in_history : (history : History) (entry : Entry) → HasEntry history entry → IsInHistory entry history
in_history history entry h = in_history_from history entry h.round h.told.0 h.told.1 h.told.2 (in_from h.round.entries entry h.member.0 h.member.1 h.member.2)

-- the number of a client's newest kept request
abbrev pub last_of : Standing → ℕ → ℕ
last_of s client = (newest_of s client).number

-- there is a list of kept requests for each client
abbrev pub IsFull : Standing → Type 0
IsFull s = length s.kept ≡ s.clients

pub full_after : (s : Standing) (entry : Entry) → IsFull s → IsFull (after_entry s entry)
full_after s entry full = grind (arith, length-set)

pub last_same : (s : Standing) (entry : Entry) → entry.client < length s.kept → last_of (after_entry s entry) entry.client ≡ entry.number
last_same s entry below =
    ap (λ (kept : List Kept). (newest kept).number) (get_or-set_same s.kept entry.client (keep (kept_by entry) (kept_list_of s entry.client)) [] below)

pub last_other : (s : Standing) (entry : Entry) (client : ℕ) → client ≢ entry.client → last_of (after_entry s entry) client ≡ last_of s client
last_other s entry client other =
    ap (λ (kept : List Kept). (newest kept).number) (get_or-set_other s.kept entry.client client (keep (kept_by entry) (kept_list_of s entry.client)) [] other)

pub same_or_other : (m n : ℕ) → (m ≡ n) ⊎ (m ≢ n)
same_or_other m n = elim (eqb m n) as (λ test. eqb m n ≡ test → (m ≡ n) ⊎ (m ≢ n)) [
  | true ↦ λ e. inl (eqb-true m n e)
  | false ↦ λ e. inr (λ is. absurd (false≢true (sym e ∙ eq-eqb m n is)))
] refl

-- a legal entry raises its client's last number, and keeps those of others
last_rises : (s : Standing) (side : ℕ) (entry : Entry) (client : ℕ) → IsFull s → IsLegalEntry s side entry → last_of s client ≤ last_of (after_entry s entry) client
last_rises s side entry client full legal = elim (same_or_other client entry.client) [
  | inl is ↦ (let here = last_same s entry (omega (arith, legal.client, full)) in
      let same : last_of s client ≡ last_of s entry.client = ap (last_of s) is in
      let after : last_of (after_entry s entry) client ≡ last_of (after_entry s entry) entry.client = ap (last_of (after_entry s entry)) is in
      omega (arith, legal.number))
  | inr other ↦ (let there = last_other s entry client other in omega arith)
]

-- so it is after several entries
pub last_rises_over : (s : Standing) (side : ℕ) (entries : List Entry) (client : ℕ) → IsFull s → AreLegal s side entries → last_of s client ≤ last_of (after_entries s entries) client
last_rises_over s side [] client full legal = omega arith
last_rises_over s side (entry ∷ entries) client full legal =
    let first = last_rises s side entry client full legal.0 in
    let more = last_rises_over (after_entry s entry) side entries client (full_after s entry full) legal.1 in
    omega arith

pub full_after_all : (s : Standing) (entries : List Entry) → IsFull s → IsFull (after_entries s entries)
full_after_all s [] full = full
full_after_all s (entry ∷ entries) full = full_after_all (after_entry s entry) entries (full_after s entry full)

-- entries have numbers above the last ones before them
above : (s : Standing) (side : ℕ) (entries : List Entry) (entry : Entry) → IsFull s → AreLegal s side entries → IsIn entry entries → last_of s entry.client < entry.number
above s side [] entry full legal member = absurd member
above s side (first ∷ entries) entry full legal (inl is) = subst (λ (e : Entry). last_of s e.client < e.number) is (omega (arith, legal.0.number))
above s side (first ∷ entries) entry full legal (inr member) =
    let rise = last_rises s side first entry.client full legal.0 in
    let more = above (after_entry s first) side entries entry (full_after s first full) legal.1 member in
    omega arith

-- and none above the last ones after them
pub within : (s : Standing) (side : ℕ) (entries : List Entry) (entry : Entry) → IsFull s → AreLegal s side entries → IsIn entry entries → entry.number ≤ last_of (after_entries s entries) entry.client
within s side [] entry full legal member = absurd member
within s side (first ∷ entries) entry full legal (inl is) =
    subst (λ (e : Entry). e.number ≤ last_of (after_entries (after_entry s first) entries) e.client) is
    (let here = last_same s first (omega (arith, legal.0.client, full)) in
    let more = last_rises_over (after_entry s first) side entries first.client (full_after s first full) legal.1 in
    omega arith)
within s side (first ∷ entries) entry full legal (inr member) = within (after_entry s first) side entries entry (full_after s first full) legal.1 member

-- the number is not one of a later entry
not_later : (s : Standing) (side : ℕ) (first : Entry) (entries : List Entry) (a b : Entry) → IsFull s → IsLegalEntry s side first → AreLegal (after_entry s first) side entries
    → first ≡ a → IsIn b entries → a.client ≡ b.client → a.number ≡ b.number → ⊥
not_later s side first entries a b full legal more is member client number =
    let here = last_same s first (omega (arith, legal.client, full)) in
    let later = above (after_entry s first) side entries b (full_after s first full) more member in
    let same_client : first.client ≡ b.client = ap (λ (e : Entry). e.client) is ∙ client in
    let same_number : first.number ≡ b.number = ap (λ (e : Entry). e.number) is ∙ number in
    let same : last_of (after_entry s first) first.client ≡ last_of (after_entry s first) b.client = ap (last_of (after_entry s first)) same_client in
    omega arith

one_in : (s : Standing) (side : ℕ) (entries : List Entry) (a b : Entry) → IsFull s → AreLegal s side entries → IsIn a entries → IsIn b entries → a.client ≡ b.client → a.number ≡ b.number → a ≡ b
one_in s side [] a b full legal x y client number = absurd x
one_in s side (first ∷ entries) a b full legal (inl x) (inl y) client number = sym x ∙ y
one_in s side (first ∷ entries) a b full legal (inl x) (inr y) client number = absurd (not_later s side first entries a b full legal.0 legal.1 x y client number)
one_in s side (first ∷ entries) a b full legal (inr x) (inl y) client number = absurd (not_later s side first entries b a full legal.0 legal.1 y x (sym client) (sym number))
one_in s side (first ∷ entries) a b full legal (inr x) (inr y) client number = one_in (after_entry s first) side entries a b (full_after s first full) legal.1 x y client number

above_all : (s : Standing) (history : History) (entry : Entry) → IsFull s → IsLegal s history → IsInHistory entry history → last_of s entry.client < entry.number
above_all s [] entry full legal member = absurd member
above_all s (round ∷ history) entry full legal (inl member) = above s round.side round.entries entry full legal.0.legal member
above_all s (round ∷ history) entry full legal (inr member) =
    let rise = last_rises_over s round.side round.entries entry.client full legal.0.legal in
    let more = above_all (after_round s round) history entry (full_after_all s round.entries full) legal.1 member in
    omega arith

not_in_later : (s : Standing) (round : Round) (history : History) (a b : Entry) → IsFull s → IsLegalRound s round → IsLegal (after_round s round) history
    → IsIn a round.entries → IsInHistory b history → a.client ≡ b.client → a.number ≡ b.number → ⊥
not_in_later s round history a b full legal more x y client number =
    let here = within s round.side round.entries a full legal.legal x in
    let later = above_all (after_round s round) history b (full_after_all s round.entries full) more y in
    let same : last_of (after_round s round) a.client ≡ last_of (after_round s round) b.client = ap (last_of (after_round s round)) client in
    omega arith

one_in_history : (s : Standing) (history : History) (a b : Entry) → IsFull s → IsLegal s history → IsInHistory a history → IsInHistory b history → a.client ≡ b.client → a.number ≡ b.number → a ≡ b
one_in_history s [] a b full legal x y client number = absurd x
one_in_history s (round ∷ history) a b full legal (inl x) (inl y) client number = one_in s round.side round.entries a b full legal.0.legal x y client number
one_in_history s (round ∷ history) a b full legal (inl x) (inr y) client number = absurd (not_in_later s round history a b full legal.0 legal.1 x y client number)
one_in_history s (round ∷ history) a b full legal (inr x) (inl y) client number = absurd (not_in_later s round history b a full legal.0 legal.1 y x (sym client) (sym number))
one_in_history s (round ∷ history) a b full legal (inr x) (inr y) client number = one_in_history (after_round s round) history a b (full_after_all s round.entries full) legal.1 x y client number

-- two entries of a client with one number are one
abbrev pub HasOneForEach : History → Type 0
HasOneForEach history = (a b : Entry) → HasEntry history a → HasEntry history b → a.client ≡ b.client → a.number ≡ b.number → a ≡ b

pub one_for_each : (s : Standing) (history : History) → IsFull s → IsLegal s history → HasOneForEach history
one_for_each s history full legal = λ a b x y client number. one_in_history s history a b full legal (in_history history a x) (in_history history b y) client number
