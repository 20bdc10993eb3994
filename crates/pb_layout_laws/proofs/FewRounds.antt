-- Rounds are few: each of them recorded a request, and a client's numbers end at the last one.
use Rattle.std.proofs.Common.{◌≡◌, ℕ, zero, suc, ◌+◌, ◌-◌, ◌*◌, ◌<◌, ◌≤◌, ◌⊎◌, List, [], ◌∷◌, length, subst, sym, inl, inr, arith}
use Rattle.std.specs.List.{All, sum_by}
use Rattle.std.proofs.lemmas.Bool.{cases_lt}
use Rattle.std.proofs.lemmas.List.{get_or_past}
use Rattle.std.proofs.lemmas.List.Sums.{sum_by-set, sum_by-le}
use Rattle.pb_pmem.specs.declared.line.Line.{Line}
use Rattle.pb_object.specs.declared.request.Kept.{Kept}
use Rattle.pb_object.specs.declared.request.TheConstants.{LAST_NUMBER}
use Rattle.pb_object.specs.History.{Entry, History, AreLegal, IsLegal, kept_by, after_entry, after_entries, after_round}
use Rattle.pb_object.specs.Standing.{Standing, keep, kept_list_of, rounds_of, side_count}
use Rattle.pb_layout.specs.Once.{newest_number_of}
use Rattle.pb_layout.specs.Record.{number_sum, AreSmall}
use Rattle.pb_layout.specs.Recovered.{Represents}
use Rattle.pb_layout.specs.Represents.{header_for, record_of_side, AreRecords}
use Rattle.pb_object.specs.declared.limits.TheConstants.{MOST_CLIENTS}
use Rattle.pb_layout.proofs.LegalHistories.{KeepsAll, after_entries-keeps, some-long}
use Rattle.pb_layout.proofs.OneRecovery.{parts, region_records}
use Rattle.pb_layout.proofs.Records.{are_small, number_sum-none, number_sum-more}

-- The rounds of a region

number_sum-few : (lines : List Line) (clients : ℕ) → AreSmall lines clients → number_sum lines clients ≤ clients * LAST_NUMBER
number_sum-few lines zero small = omega (arith, number_sum-none lines)
number_sum-few lines (suc clients) small =
    omega (arith, number_sum-more lines clients, number_sum-few lines clients (λ client inside. small client (omega arith)), small clients (omega arith))

-- a side has at most as many rounds as its clients' numbers sum to
pub records_few : (records : ℕ → List Line) (s : Standing) → AreRecords records s → (side : ℕ) → rounds_of s side ≤ MOST_CLIENTS * LAST_NUMBER
records_few records s has side = go (cases_lt side (side_count s.kind))
  where
    go : (side < side_count s.kind) ⊎ (side_count s.kind ≤ side) → rounds_of s side ≤ MOST_CLIENTS * LAST_NUMBER
    go (inl here) =
        omega (arith, (has.own side here).rounds, number_sum-few (records side) s.clients (are_small (header_for s) side (records side) (has.own side here).slots), has.valid.few_clients)
    go (inr past) = omega (arith, get_or_past s.rounds side 0 (omega (arith, has.sides)))

pub side_rounds_few : (image : List Line) (s : Standing) (side : ℕ) → Represents image s → rounds_of s side ≤ MOST_CLIENTS * LAST_NUMBER
side_rounds_few image s side stands =
    records_few (record_of_side image s) s (region_records image s (parts image s stands)) side

-- and twice the sum and one more fit a word
pub rounds_fit : (image : List Line) (s : Standing) → Represents image s → 2 * (rounds_of s 0 + rounds_of s 1) + 1 < 18446744073709551616
rounds_fit image s stands = omega (arith, side_rounds_few image s 0 stands, side_rounds_few image s 1 stands)

-- The rounds of a legal history

-- how many numbers a client has left
abbrev left_to : List Kept → ℕ
left_to kept = LAST_NUMBER - newest_number_of kept

abbrev room : Standing → ℕ
room s = sum_by left_to s.kept

-- each legal entry takes one of them
entries_take : (s : Standing) (side : ℕ) (entries : List Entry) → KeepsAll s → AreLegal s side entries → length entries + room (after_entries s entries) ≡ room s
entries_take s side [] all legal = omega arith
entries_take s side (entry ∷ entries) all legal =
    let inside : entry.client < length s.kept = subst (λ (n : ℕ). entry.client < n) (sym all) legal.0.client in
    let one : sum_by left_to (after_entry s entry).kept + (LAST_NUMBER - newest_number_of (kept_list_of s entry.client)) ≡ sum_by left_to s.kept + (LAST_NUMBER - entry.number) = sum_by-set left_to s.kept entry.client (keep (kept_by entry) (kept_list_of s entry.client)) [] inside in
    let rest = entries_take (after_entry s entry) side entries (after_entries-keeps s (entry ∷ []) all) legal.1 in
    omega (arith, one, rest, legal.0.number, legal.0.few)

history_takes : (s : Standing) (history : History) → KeepsAll s → IsLegal s history → length history ≤ room s
history_takes s [] all legal = omega arith
history_takes s (round ∷ history) all legal =
    omega (arith, entries_take s round.side round.entries all legal.0.legal, some-long round.entries legal.0.some, history_takes (after_round s round) history (after_entries-keeps s round.entries all) legal.1)

all_left : (kept : List (List Kept)) → All (λ x. left_to x ≤ LAST_NUMBER) kept
all_left kept = λ k d inside. omega arith

-- so a legal history has at most as many rounds as all clients have numbers
pub legal_few : (s : Standing) (history : History) → length s.kept ≡ s.clients → s.clients ≤ MOST_CLIENTS → IsLegal s history → length history ≤ MOST_CLIENTS * LAST_NUMBER
legal_few s history all few legal =
    omega (arith, history_takes s history all legal, sum_by-le left_to LAST_NUMBER s.kept (all_left s.kept), all)
