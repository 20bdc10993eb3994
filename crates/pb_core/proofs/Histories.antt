-- Standings after histories: what stays, what is kept of a client, and what is legal.
use Rattle.std.proofs.Common.{◌≡◌, ◌≢◌, ℕ, ◌<◌, ◌⊎◌, List, [], ◌∷◌, ◌++◌, length, set, get_or, eqb, ap, sym, refl, ◌∙◌, inl, inr, arith}
use Rattle.std.proofs.lemmas.Bool.{cases_eq, eq-eqb, ne_eqb, cond-true, cond-false}
use Rattle.std.proofs.lemmas.List.{append_assoc, length-set, get_or-set_same, get_or-set_other}
use Rattle.pb_object.specs.declared.request.Kept.{Kept}
use Rattle.pb_object.specs.History.{Entry, Round, History, kept_by, after_entry, after_entries, after_round, state_after, IsLegal, IsLegalRound}
use Rattle.pb_object.specs.Standing.{Standing, keep, kept_list_of}
use Rattle.pb_layout_laws.proofs.Histories.{state_after-append}
use Rattle.pb_core.specs.MemoryParts.{entries_with}

-- What stays

-- the kind, the number of clients, and a list for each
pub record HasShape (s t : Standing) : Type 0 where
  pub kind : t.kind ≡ s.kind
  pub clients : t.clients ≡ s.clients
  pub lists : length t.kept ≡ length s.kept

shape-entry : (s t : Standing) (entry : Entry) → HasShape s t → HasShape s (after_entry t entry)
shape-entry s t entry shape = record {
  kind = shape.kind;
  clients = shape.clients;
  lists = length-set t.kept entry.client (keep (kept_by entry) (kept_list_of t entry.client)) ∙ shape.lists;
}

shape-entries : (s t : Standing) (entries : List Entry) → HasShape s t → HasShape s (after_entries t entries)
shape-entries s t [] shape = shape
shape-entries s t (entry ∷ entries) shape =
    shape-entries s (after_entry t entry) entries (shape-entry s t entry shape)

shape-round : (s t : Standing) (round : Round) → HasShape s t → HasShape s (after_round t round)
shape-round s t round shape =
    let after : HasShape s (after_entries t round.entries) = shape-entries s t round.entries shape in
    record { kind = after.kind; clients = after.clients; lists = after.lists }

shape-history : (s t : Standing) (history : History) → HasShape s t → HasShape s (state_after t history)
shape-history s t [] shape = shape
shape-history s t (round ∷ history) shape =
    shape-history s (after_round t round) history (shape-round s t round shape)

pub shape_after : (s : Standing) (history : History) → HasShape s (state_after s history)
shape_after s history =
    shape-history s s history (record { kind = refl; clients = refl; lists = refl })

-- What is kept of a client

-- its entries, one after the other
abbrev pub keep_each : List Entry → List Kept → List Kept
keep_each [] kept = kept
keep_each (entry ∷ entries) kept = keep_each entries (keep (kept_by entry) kept)

kept-entry : (s : Standing) (entry : Entry) (entries : List Entry) (c : ℕ) → c < length s.kept → keep_each (entries_with c entries) (kept_list_of (after_entry s entry) c) ≡ keep_each (entries_with c (entry ∷ entries)) (kept_list_of s c)
kept-entry s entry entries c there = go (cases_eq entry.client c)
  where
    kept : List Kept
    kept = keep (kept_by entry) (kept_list_of s entry.client)

    go : (entry.client ≡ c) ⊎ (entry.client ≢ c) → keep_each (entries_with c entries) (kept_list_of (after_entry s entry) c) ≡ keep_each (entries_with c (entry ∷ entries)) (kept_list_of s c)
    go (inl same) =
        let with : entries_with c (entry ∷ entries) ≡ entry ∷ entries_with c entries = cond-true (eqb entry.client c) (entry ∷ entries_with c entries) (entries_with c entries) (eq-eqb entry.client c same) in
        let here : get_or (set s.kept entry.client kept) entry.client [] ≡ kept = get_or-set_same s.kept entry.client kept [] (omega (arith, there, same)) in
        let list : kept_list_of (after_entry s entry) c ≡ keep (kept_by entry) (kept_list_of s c) = ap (λ (d : ℕ). get_or (set s.kept entry.client kept) d []) (sym same) ∙ (here ∙ ap (λ (d : ℕ). keep (kept_by entry) (kept_list_of s d)) same) in
        ap (keep_each (entries_with c entries)) list ∙ ap (λ (l : List Entry). keep_each l (kept_list_of s c)) (sym with)
    go (inr apart) =
        let with : entries_with c (entry ∷ entries) ≡ entries_with c entries = cond-false (eqb entry.client c) (entry ∷ entries_with c entries) (entries_with c entries) (ne_eqb entry.client c apart) in
        ap (keep_each (entries_with c entries)) (get_or-set_other s.kept entry.client c kept [] (λ e. apart (sym e))) ∙ ap (λ (l : List Entry). keep_each l (kept_list_of s c)) (sym with)

pub kept-entries : (s : Standing) (entries : List Entry) (c : ℕ) → c < length s.kept → kept_list_of (after_entries s entries) c ≡ keep_each (entries_with c entries) (kept_list_of s c)
kept-entries s [] c there = refl
kept-entries s (entry ∷ entries) c there =
    kept-entries (after_entry s entry) entries c (omega (arith, there, length-set s.kept entry.client (keep (kept_by entry) (kept_list_of s entry.client)))) ∙ kept-entry s entry entries c there

pub kept-round : (s : Standing) (round : Round) (c : ℕ) → c < length s.kept → kept_list_of (after_round s round) c ≡ keep_each (entries_with c round.entries) (kept_list_of s c)
kept-round s round c there = kept-entries s round.entries c there

-- What is legal

pub legal-push : (s : Standing) (history : History) (round : Round) → IsLegal s history → IsLegalRound (state_after s history) round → IsLegal s (history ++ round ∷ [])
legal-push s [] round legal next = (next, tt)
legal-push s (first ∷ history) round legal next =
    (legal.0, legal-push (after_round s first) history round legal.1 next)

pub legal-front : (s : Standing) (a b : History) → IsLegal s (a ++ b) → IsLegal s a
legal-front s [] b legal = tt
legal-front s (round ∷ a) b legal = (legal.0, legal-front (after_round s round) a b legal.1)

pub legal-back : (s : Standing) (a b : History) → IsLegal s (a ++ b) → IsLegal (state_after s a) b
legal-back s [] b legal = legal
legal-back s (round ∷ a) b legal = legal-back (after_round s round) a b legal.1

-- one more round behind two histories
pub state_after-push : (s : Standing) (past published : History) (round : Round) → state_after s (past ++ (published ++ round ∷ [])) ≡ after_round (state_after s (past ++ published)) round
state_after-push s past published round =
    ap (state_after s) (sym (append_assoc past published (round ∷ []))) ∙ state_after-append s (past ++ published) (round ∷ [])
