-- Legal histories: a client's number rises by one with each of its entries, and with each entry the sum of the numbers.
use Rattle.std.proofs.Common.{◌≡◌, ◌≢◌, ℕ, zero, suc, ◌+◌, ◌<◌, ◌≤◌, ◌⊎◌, List, [], ◌∷◌, ◌++◌, Some, length, get_or, set, slice_get, ap, subst, sym, refl, ◌∙◌, inl, inr, arith}
use Rattle.std.proofs.lemmas.Bool.{cases_eq, cases_lt}
use Rattle.std.proofs.lemmas.List.{get_or-set_same, get_or-set_other, length-set}
use Rattle.std.proofs.lemmas.List.Sums.{sum_by-set}
use Rattle.pb_object.specs.declared.request.Kept.{Kept}
use Rattle.pb_object.specs.History.{Entry, Round, History, kept_by, after_entry, after_entries, after_round, state_after, AreLegal, IsLegal}
use Rattle.pb_object.specs.Standing.{Standing, keep}
use Rattle.pb_layout.specs.Once.{entries_of, HasNumbersOnce, newest_number_of, numbers_of}

-- the entries of no history
pub entries_of-none : entries_of [] ≡ []
unfolding entries_of
entries_of-none = refl

-- the entries of the first round
pub entries_of-first : (round : Round) (history : History) → entries_of (round ∷ history) ≡ round.entries ++ entries_of history
unfolding entries_of
entries_of-first round history = refl

-- a client's newest number
abbrev pub number_at : List (List Kept) → ℕ → ℕ
number_at kept client = newest_number_of (get_or kept client [])

-- what is kept of the clients after an entry
abbrev pub kept_after : Entry → List Kept → List Kept
kept_after entry before = keep (kept_by entry) before

abbrev pub kept_with : List (List Kept) → Entry → List (List Kept)
kept_with kept entry = set kept entry.client (kept_after entry (get_or kept entry.client []))

-- each of these entries has its client's next number
abbrev pub NumbersFollow : List (List Kept) → List Entry → Type 0
NumbersFollow kept [] = Unit {0}
NumbersFollow kept (entry ∷ entries) =
    (entry.client < length kept) × (entry.number ≡ number_at kept entry.client + 1) × NumbersFollow (kept_with kept entry) entries

-- a standing keeps a request for each client
abbrev pub KeepsAll : Standing → Type 0
KeepsAll s = length s.kept ≡ s.clients

after_entry-keeps : (s : Standing) (entry : Entry) → KeepsAll s → KeepsAll (after_entry s entry)
after_entry-keeps s entry all = length-set s.kept entry.client (kept_after entry (get_or s.kept entry.client [])) ∙ all

-- it does so after entries
pub after_entries-keeps : (s : Standing) (entries : List Entry) → KeepsAll s → KeepsAll (after_entries s entries)
after_entries-keeps s [] all = all
after_entries-keeps s (entry ∷ entries) all =
    after_entries-keeps (after_entry s entry) entries (after_entry-keeps s entry all)

-- the entries of a round have their clients' next numbers, and those after it
AreLegal-follow : (s : Standing) (side : ℕ) (entries more : List Entry) → KeepsAll s → AreLegal s side entries → NumbersFollow (after_entries s entries).kept more → NumbersFollow s.kept (entries ++ more)
AreLegal-follow s side [] more all legal follow = follow
AreLegal-follow s side (entry ∷ entries) more all legal follow =
    (subst (λ n. entry.client < n) (sym all) legal.0.client, legal.0.number, AreLegal-follow (after_entry s entry) side entries more (after_entry-keeps s entry all) legal.1 follow)

-- the entries of a legal history have their clients' next numbers
pub IsLegal-follow : (s : Standing) (history : History) → KeepsAll s → IsLegal s history → NumbersFollow s.kept (entries_of history)
IsLegal-follow s [] all legal = rw entries_of-none tt
IsLegal-follow s (round ∷ history) all legal =
    rw (entries_of-first round history) (AreLegal-follow s round.side round.entries (entries_of history) all legal.0.legal (IsLegal-follow (after_round s round) history (after_entries-keeps s round.entries all) legal.1))

some_same : (a b : Entry) → Some a ≡ Some b → a ≡ b
some_same a b e = cc

-- what is kept of a client after an entry is below each number above both
number_after : (kept : List (List Kept)) (first : Entry) (client number : ℕ) → first.client < length kept → first.number ≡ number_at kept first.client + 1 → number_at (kept_with kept first) client < number → number_at kept client < number
number_after kept first client number within next below = go (cases_eq client first.client)
  where
    go : (client ≡ first.client) ⊎ (client ≢ first.client) → number_at kept client < number
    go (inl same) =
        let here : number_at (kept_with kept first) client ≡ first.number = ap (number_at (kept_with kept first)) same ∙ ap newest_number_of (get_or-set_same kept first.client (kept_after first (get_or kept first.client [])) [] within) in
        let there : number_at kept client ≡ number_at kept first.client = ap (number_at kept) same in
        omega (arith, here, there, next, below)
    go (inr other) =
        let there : number_at (kept_with kept first) client ≡ number_at kept client = ap newest_number_of (get_or-set_other kept first.client client (kept_after first (get_or kept first.client [])) [] other) in
        omega (arith, there, below)

-- an entry's number is above the one that is kept of its client before
follow-above : (kept : List (List Kept)) (entries : List Entry) (k : ℕ) (entry : Entry) → NumbersFollow kept entries → slice_get entries k ≡ Some entry → number_at kept entry.client < entry.number
follow-above kept [] k entry follow at = absurd (cc)
follow-above kept (first ∷ entries) zero entry follow at =
    subst (λ (e : Entry). number_at kept e.client < e.number) (some_same first entry at) (omega (arith, follow.1))
follow-above kept (first ∷ entries) (suc k) entry follow at =
    number_after kept first entry.client entry.number follow.0 follow.1 (follow-above (kept_with kept first) entries k entry follow.2 at)

-- a client's numbers rise along the entries
follow-rise : (kept : List (List Kept)) (entries : List Entry) (a b : ℕ) (first second : Entry) → NumbersFollow kept entries → a < b → slice_get entries a ≡ Some first → slice_get entries b ≡ Some second → first.client ≡ second.client → first.number < second.number
follow-rise kept [] a b first second follow below at_a at_b same = absurd (cc)
follow-rise kept (entry ∷ entries) zero zero first second follow below at_a at_b same = absurd (omega arith)
follow-rise kept (entry ∷ entries) (suc a) zero first second follow below at_a at_b same = absurd (omega arith)
follow-rise kept (entry ∷ entries) (suc a) (suc b) first second follow below at_a at_b same =
    follow-rise (kept_with kept entry) entries a b first second follow.2 (omega arith) at_a at_b same
follow-rise kept (entry ∷ entries) zero (suc b) first second follow below at_a at_b same =
    let e : entry ≡ first = some_same entry first at_a in
    let here : number_at (kept_with kept entry) entry.client ≡ entry.number = ap newest_number_of (get_or-set_same kept entry.client (kept_after entry (get_or kept entry.client [])) [] follow.0) in
    let client : second.client ≡ entry.client = sym (ap (λ (x : Entry). x.client) e ∙ same) in
    let above : number_at (kept_with kept entry) second.client < second.number = follow-above (kept_with kept entry) entries b second follow.2 at_b in
    let there : number_at (kept_with kept entry) second.client ≡ entry.number = ap (number_at (kept_with kept entry)) client ∙ here in
    let number : entry.number ≡ first.number = ap (λ (x : Entry). x.number) e in
    omega (arith, above, there, number)

-- in a legal history no client's number stands twice
pub numbers_stand_once : (s : Standing) (history : History) → KeepsAll s → IsLegal s history → HasNumbersOnce history
numbers_stand_once s history all legal a b first second at_a at_b client number = go (cases_lt a b) (cases_lt b a)
  where
    follow : NumbersFollow s.kept (entries_of history)
    follow = IsLegal-follow s history all legal

    go : (a < b) ⊎ (b ≤ a) → (b < a) ⊎ (a ≤ b) → a ≡ b
    go (inl below) other = absurd (omega (arith, number, follow-rise s.kept (entries_of history) a b first second follow below at_a at_b client))
    go (inr above) (inl below) = absurd (omega (arith, number, follow-rise s.kept (entries_of history) b a second first follow below at_b at_a (sym client)))
    go (inr above) (inr below) = omega arith

-- each entry raises the sum of the numbers by one
after_entries-sum : (s : Standing) (side : ℕ) (entries : List Entry) → KeepsAll s → AreLegal s side entries → numbers_of (after_entries s entries) ≡ length entries + numbers_of s
after_entries-sum s side [] all legal = omega arith
after_entries-sum s side (entry ∷ entries) all legal =
    let one : numbers_of (after_entry s entry) + number_at s.kept entry.client ≡ numbers_of s + entry.number = sum_by-set newest_number_of s.kept entry.client (kept_after entry (get_or s.kept entry.client [])) [] (subst (λ n. entry.client < n) (sym all) legal.0.client) in
    let rest : numbers_of (after_entries (after_entry s entry) entries) ≡ length entries + numbers_of (after_entry s entry) = after_entries-sum (after_entry s entry) side entries (after_entry-keeps s entry all) legal.1 in
    omega (arith, one, rest, legal.0.number)

pub some-long : (entries : List Entry) → entries ≢ [] → 1 ≤ length entries
some-long [] some = absurd (some refl)
some-long (entry ∷ entries) some = omega arith

-- a legal history has at most as many rounds as the clients' numbers rose by
pub rounds_are_few : (s : Standing) (history : History) → KeepsAll s → IsLegal s history → length history + numbers_of s ≤ numbers_of (state_after s history)
rounds_are_few s [] all legal = omega arith
rounds_are_few s (round ∷ history) all legal =
    let one : numbers_of (after_round s round) ≡ length round.entries + numbers_of s = after_entries-sum s round.side round.entries all legal.0.legal in
    let some : 1 ≤ length round.entries = some-long round.entries legal.0.some in
    let rest : length history + numbers_of (after_round s round) ≤ numbers_of (state_after (after_round s round) history) = rounds_are_few (after_round s round) history (after_entries-keeps s round.entries all) legal.1 in
    omega (arith, one, some, rest)
