-- Lists of kept requests stay what they are.
use Rattle.std.proofs.Common.{◌≡◌, ℕ, zero, suc, ◌+◌, ◌<◌, ◌≤◌, List, [], ◌∷◌, length, sym, ap, subst, ◌∙◌, inl, inr, arith}
use Rattle.std.proofs.lemmas.Bool.{cases_eq}
use Rattle.std.proofs.lemmas.List.{length-take, length-set, length-replicate, get_or-take, get_or-set_same, get_or-set_other, get_or-replicate}
use Rattle.std.proofs.lemmas.List.Elements.{All-cons, All-take, All-from_get_or}
use Rattle.pb_object.specs.declared.kind.Kind.{Kind}
use Rattle.pb_object.specs.declared.request.Kept.{Kept}
use Rattle.pb_object.specs.declared.request.TheConstants.{KEPT_REQUESTS, LAST_NUMBER}
use Rattle.pb_object.specs.History.{Entry, Round, History, kept_by, after_entry, after_entries, after_round, state_after, IsLegalEntry, AreLegal, IsLegalRound, IsLegal}
use Rattle.pb_object.specs.KeptLists.{kept_number, HasNumber, IsKeptList, HasKeptLists, HasNewestFirst}
use Rattle.pb_object.specs.Request.{none_kept}
use Rattle.pb_object.specs.Standing.{Standing, keep, kept_list_of, newest, empty_standing}

-- Numbers that fall from below a bound, none of them 0

abbrev pub FallsBelow : ℕ → List Kept → Type 0
FallsBelow bound [] = Unit {0}
FallsBelow bound (kept ∷ rest) = (kept.number < bound) × (1 ≤ kept.number) × FallsBelow kept.number rest

falls_at : (bound : ℕ) (kept : List Kept) (place : ℕ) → FallsBelow bound kept → place < length kept → kept_number kept place < bound
falls_at bound [] place falls inside = absurd (omega arith)
falls_at bound (first ∷ rest) zero falls inside = falls.0
falls_at bound (first ∷ rest) (suc place) falls inside =
    let below = falls_at first.number rest place falls.2 (omega arith) in omega (arith, below, falls.0)

some_at : (bound : ℕ) (kept : List Kept) (place : ℕ) → FallsBelow bound kept → place < length kept → 1 ≤ kept_number kept place
some_at bound [] place falls inside = absurd (omega arith)
some_at bound (first ∷ rest) zero falls inside = falls.1
some_at bound (first ∷ rest) (suc place) falls inside = some_at first.number rest place falls.2 (omega arith)

falls_from : (bound : ℕ) (kept : List Kept) (place later : ℕ) → FallsBelow bound kept → place < later → later < length kept → kept_number kept later < kept_number kept place
falls_from bound [] place later falls less inside = absurd (omega arith)
falls_from bound (first ∷ rest) place zero falls less inside = absurd (omega arith)
falls_from bound (first ∷ rest) zero (suc later) falls less inside = falls_at first.number rest later falls.2 (omega arith)
falls_from bound (first ∷ rest) (suc place) (suc later) falls less inside =
    falls_from first.number rest place later falls.2 (omega arith) (omega arith)

-- so few of them are a kept list
pub kept_list-falls : (kept : List Kept) → length kept ≤ KEPT_REQUESTS → FallsBelow (LAST_NUMBER + 1) kept → IsKeptList kept
kept_list-falls kept few falls = record {
  few = few;
  numbers = All-from_get_or HasNumber kept none_kept (λ place inside. record {
    some = some_at (LAST_NUMBER + 1) kept place falls inside;
    few = omega (arith, falls_at (LAST_NUMBER + 1) kept place falls inside);
  });
  falling = λ place later less inside. falls_from (LAST_NUMBER + 1) kept place later falls less inside;
}

-- A list with one more request

pub none_kept_list : IsKeptList []
none_kept_list = kept_list-falls [] (omega arith) tt

-- the first is the newest
pub at_most_newest : (kept : List Kept) (place : ℕ) → IsKeptList kept → place < length kept → kept_number kept place ≤ (newest kept).number
at_most_newest kept zero is inside = omega arith
at_most_newest kept (suc place) is inside = let less = is.falling 0 (suc place) (omega arith) inside in omega (arith, less)

-- the next request in front
pub keep_kept_list : (kept : Kept) (before : List Kept) → kept.number ≡ (newest before).number + 1 → kept.number ≤ LAST_NUMBER → IsKeptList before → IsKeptList (keep kept before)
keep_kept_list kept before next few is = record {
  few = omega (arith, length-take KEPT_REQUESTS all);
  numbers = All-take HasNumber KEPT_REQUESTS all (All-cons HasNumber kept before (record { some = omega (arith, next); few = few }) is.numbers);
  falling = falling;
}
  where
    all : List Kept
    all = kept ∷ before

    falls : (place later : ℕ) → place < later → later < length all → kept_number all later < kept_number all place
    falls place zero less inside = absurd (omega arith)
    falls zero (suc later) less inside =
        let most = at_most_newest before later is (omega arith) in omega (arith, most, next)
    falls (suc place) (suc later) less inside = is.falling place later (omega arith) (omega arith)

    falling : (place later : ℕ) → place < later → later < length (keep kept before) → kept_number (keep kept before) later < kept_number (keep kept before) place
    falling place later less inside =
        let long = length-take KEPT_REQUESTS all in
        let here = ap (λ (k : Kept). k.number) (get_or-take KEPT_REQUESTS all place none_kept (omega (arith, inside, long, less))) in
        let there = ap (λ (k : Kept). k.number) (get_or-take KEPT_REQUESTS all later none_kept (omega (arith, inside, long))) in
        omega (arith, falls place later less (omega (arith, inside, long)), here, there)

-- The lists of a standing

pub fresh_kept_lists : (kind : Kind) (clients size : ℕ) → HasKeptLists (empty_standing kind clients size)
fresh_kept_lists kind clients size = record {
  count = length-replicate {A = List Kept} clients [];
  lists = λ client inside. subst IsKeptList (sym (get_or-replicate {A = List Kept} clients client [] [] inside)) none_kept_list;
}

kept_lists_after_entry : (s : Standing) (side : ℕ) (entry : Entry) → HasKeptLists s → IsLegalEntry s side entry → HasKeptLists (after_entry s entry)
kept_lists_after_entry s side entry has legal = record {
  count = length-set s.kept entry.client after ∙ has.count;
  lists = λ client inside. elim (cases_eq client entry.client) [
    | inl same ↦ subst (λ (c : ℕ). IsKeptList (kept_list_of (after_entry s entry) c)) (sym same) (subst IsKeptList (sym here) sound)
    | inr other ↦ subst IsKeptList (sym (get_or-set_other s.kept entry.client client after [] other)) (has.lists client inside)
  ];
}
  where
    after : List Kept
    after = keep (kept_by entry) (kept_list_of s entry.client)

    sound : IsKeptList after
    sound = keep_kept_list (kept_by entry) (kept_list_of s entry.client) legal.number legal.few (has.lists entry.client legal.client)

    here : kept_list_of (after_entry s entry) entry.client ≡ after
    here = get_or-set_same s.kept entry.client after [] (omega (arith, legal.client, has.count))

kept_lists_after_entries : (s : Standing) (side : ℕ) (entries : List Entry) → HasKeptLists s → AreLegal s side entries → HasKeptLists (after_entries s entries)
kept_lists_after_entries s side [] has legal = has
kept_lists_after_entries s side (entry ∷ entries) has legal =
    kept_lists_after_entries (after_entry s entry) side entries (kept_lists_after_entry s side entry has legal.0) legal.1

pub kept_lists_after_round : (s : Standing) (round : Round) → HasKeptLists s → IsLegalRound s round → HasKeptLists (after_round s round)
kept_lists_after_round s round has legal =
    let after = kept_lists_after_entries s round.side round.entries has legal.legal in
    record { count = after.count; lists = after.lists }

pub kept_lists_after : (s : Standing) (history : History) → HasKeptLists s → IsLegal s history → HasKeptLists (state_after s history)
kept_lists_after s [] has legal = has
kept_lists_after s (round ∷ history) has legal =
    kept_lists_after (after_round s round) history (kept_lists_after_round s round has legal.0) legal.1

pub newest_first : (s : Standing) → HasKeptLists s → HasNewestFirst s
newest_first s has client place inside within = at_most_newest (kept_list_of s client) place (has.lists client inside) within
