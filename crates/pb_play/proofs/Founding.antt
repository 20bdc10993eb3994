-- What is found of the clients on the lines of a region.
use Rattle.std.proofs.Common.{◌≡◌, ◌≢◌, ℕ, zero, suc, ◌+◌, ◌*◌, ◌<◌, ◌≤◌, ◌⊎◌, List, [], ◌∷◌, length, ap, subst, sym, refl, ◌∙◌, inl, inr, arith, ltb}
use Rattle.std.proofs.lemmas.Bool.{cases_eq, cases_lt, cond-true, cond-false, lt-ltb, le-ltb}
use Rattle.std.proofs.lemmas.List.{append-nil}
use Rattle.pb_pmem.specs.declared.line.Line.{Line}
use Rattle.pb_pmem.specs.Lines.{line_at, word_of}
use Rattle.pb_object.specs.declared.kind.Kind.{Kind}
use Rattle.pb_object.specs.declared.kind.Kind.TheVariants.{Map, Stack, Heap, Queue}
use Rattle.pb_object.specs.declared.request.Kept.{Kept}
use Rattle.pb_object.specs.declared.request.TheConstants.{KEPT_REQUESTS}
use Rattle.pb_object.specs.History.{History, Entry, state_after}
use Rattle.pb_object.specs.Request.{none_kept}
use Rattle.pb_object.specs.Standing.{Standing, newest, newest_of, kept_list_of, rounds_of, side_count}
use Rattle.pb_layout.specs.ClientLine.{kept_in}
use Rattle.pb_layout.specs.Header.{slot_count, word}
use Rattle.pb_layout.specs.Record.{slot_line_at, kept_in_slots, kept_from, AreSlots}
use Rattle.pb_layout.specs.Recovered.{Represents}
use Rattle.pb_layout.specs.Represents.{header_for, record_of_side, newest_of_two, kept_list_by, RegionParts}
use Rattle.pb_layout.specs.Slots.{newer_of}
use Rattle.pb_layout.specs.declared.header.Header.{Header}
use Rattle.pb_layout.proofs.OneRecovery.{parts}
use Rattle.pb_layout.proofs.SlotLemmas.{kept_from-empty, kept_from-full, slots_fall, empty_slot, newest_of_two-second, newest_of_two-newer_first, newest_of_two-newer_second}
use Rattle.pb_layout.specs.Shape.{IsHeader}
use Rattle.pb_core.specs.Client.{fresh_client, ask_word, row_word}
use Rattle.pb_core.specs.Memory.{memory_at_opening}
use Rattle.pb_round_play.specs.declared.rounds.Rounds.{Rounds}
use Rattle.pb_round_play.specs.declared.seat.Row.{Row}
use Rattle.pb_round_play.specs.declared.seat.Seat.{Seat}
use Rattle.pb_play.specs.declared.work.Knowledge.TheVariants.{Doubtful}
use Rattle.pb_play.specs.declared.work.Owner.TheVariants.{Closed}
use Rattle.pb_round_play.specs.Seats.{row_of_kept, fresh_seat}
use Rattle.pb_play.specs.Found.{found_kept, found_row}
use Rattle.pb_play.specs.Maps.{stored_ask}
use Rattle.pb_round_play.specs.Seats.{seat_at}
use Rattle.pb_play.specs.Seats.{formatted_memory}
use Rattle.pb_round_play.specs.Counts.{ShowsRounds}
use Rattle.pb_play.specs.Shown.{ShowsSeat, IsRowOf, ShowsMemory}
use Rattle.pb_play.proofs.Fitting.{header_after}
use Rattle.pb_play.proofs.Publishing.{kept_word}

-- the newest request of a client is the one in its first slot
newest_is : (head : Header) (side : ℕ) (lines : List Line) (client : ℕ) → AreSlots head.kind side lines (slot_count head) → client < head.clients → newest (kept_in_slots lines client) ≡ kept_in (slot_line_at lines client 0)
newest_is head side lines client slots there = go (cases_eq (word (line_at lines first) 0) 0) ∙ ap (λ (n : ℕ). kept_in (line_at lines n)) at
  where
    first : ℕ
    first = 1 + KEPT_REQUESTS * client

    at : first ≡ 1 + (KEPT_REQUESTS * client + 0)
    at = omega arith

    go : (word (line_at lines first) 0 ≡ 0) ⊎ (word (line_at lines first) 0 ≢ 0) → newest (kept_from lines first KEPT_REQUESTS) ≡ kept_in (line_at lines first)
    go (inl empty) =
        ap newest (kept_from-empty lines first KEPT_REQUESTS (slots_fall head side lines client slots there) empty)
        ∙ sym (empty_slot head.kind side (kept_in (line_at lines first)) (slots (KEPT_REQUESTS * client) (omega (arith, there))).allowed empty)
    go (inr some) = ap newest (kept_from-full lines first 7 some)

-- the newest of two lists
abbrev IsSome : Kept → Type 0
IsSome kept = kept.number ≡ 0 → kept ≡ none_kept

newest_two : (a b : List Kept) → IsSome (newest b) → newest (newest_of_two KEPT_REQUESTS a b) ≡ newer_of (newest a) (newest b)
newest_two [] [] some = ap newest (newest_of_two-second KEPT_REQUESTS [])
newest_two [] (k ∷ b) some = ap newest (newest_of_two-second KEPT_REQUESTS (k ∷ b)) ∙ go (cases_lt 0 k.number)
  where
    go : (0 < k.number) ⊎ (k.number ≤ 0) → k ≡ newer_of none_kept k
    go (inl more) = sym (cond-true (ltb 0 k.number) k none_kept (lt-ltb 0 k.number more))
    go (inr none) = some (omega (arith, none)) ∙ sym (cond-false (ltb 0 k.number) k none_kept (le-ltb 0 k.number none))
newest_two (k ∷ a) [] some = ap newest (newest_of_two-newer_first 7 k a [] (omega arith)) ∙ sym (cond-false (ltb k.number 0) none_kept k (le-ltb k.number 0 (omega arith)))
newest_two (k ∷ a) (j ∷ b) some = go (cases_lt k.number j.number)
  where
    go : (k.number < j.number) ⊎ (j.number ≤ k.number) → newest (newest_of_two KEPT_REQUESTS (k ∷ a) (j ∷ b)) ≡ newer_of k j
    go (inl less) = ap newest (newest_of_two-newer_second 7 j (k ∷ a) b less) ∙ sym (cond-true (ltb k.number j.number) j k (lt-ltb k.number j.number less))
    go (inr more) = ap newest (newest_of_two-newer_first 7 k a (j ∷ b) more) ∙ sym (cond-false (ltb k.number j.number) j k (le-ltb k.number j.number more))

some_side : (kind : Kind) → 0 < side_count kind
some_side Map = omega arith
some_side Stack = omega arith
some_side Heap = omega arith
some_side Queue = omega arith

-- a client's row
row_is : (kept other : Kept) → kept ≡ other → IsRowOf kept (row_of_kept other)
row_is kept other same = record { number = ap (λ (k : Kept). k.number) same; reply = ap (λ (k : Kept). k.reply) same }

pub found_is : (lines : List Line) (head : Header) (rounds : Rounds) (s : Standing) (client : ℕ) → RegionParts lines s → header_for s ≡ head → rounds_of s 0 ≡ rounds.first → rounds_of s 1 ≡ rounds.second → client < s.clients → IsRowOf (newest_of s client) (found_row head.kind lines head rounds client)
found_is lines head rounds s client region heads first second there = go head.kind refl
  where
    kind_is : s.kind ≡ head.kind
    kind_is = ap (λ (h : Header). h.kind) heads

    one : (k : Kind) → s.kind ≡ k → newest_of s client ≡ newest (kept_list_by k (record_of_side lines s) client)
    one k is = ap newest (region.kept client there ∙ ap (λ (x : Kind). kept_list_by x (record_of_side lines s) client) is)

    side_kept : (side : ℕ) → side < side_count s.kind → newest (kept_in_slots (record_of_side lines s side) client) ≡ kept_in (slot_line_at (record_of_side lines s side) client 0)
    side_kept side here = newest_is (header_for s) side (record_of_side lines s side) client (region.records side here).slots there

    first_kept : (k : Kind) → s.kind ≡ k → newest (kept_in_slots (record_of_side lines s 0) client) ≡ found_kept lines head 0 rounds.first client
    first_kept k is = side_kept 0 (some_side s.kind) ∙ (λ i. found_kept lines (heads i) 0 (first i) client)

    some_newest : 1 < side_count s.kind → IsSome (newest (kept_in_slots (record_of_side lines s 1) client))
    some_newest two none =
        let is = side_kept 1 two in
        is ∙ empty_slot s.kind 1 (kept_in (slot_line_at (record_of_side lines s 1) client 0)) ((region.records 1 two).slots (KEPT_REQUESTS * client + 0) (omega (arith, there))).allowed (ap (λ (k : Kept). k.number) (sym is) ∙ none)

    go : (k : Kind) → head.kind ≡ k → IsRowOf (newest_of s client) (found_row k lines head rounds client)
    go Map is = row_is (newest_of s client) (found_kept lines head 0 rounds.first client) (one Map (kind_is ∙ is) ∙ first_kept Map (kind_is ∙ is))
    go Stack is = row_is (newest_of s client) (found_kept lines head 0 rounds.first client) (one Stack (kind_is ∙ is) ∙ first_kept Stack (kind_is ∙ is))
    go Heap is = row_is (newest_of s client) (found_kept lines head 0 rounds.first client) (one Heap (kind_is ∙ is) ∙ first_kept Heap (kind_is ∙ is))
    go Queue is =
        let queue : s.kind ≡ Queue = kind_is ∙ is in
        let two : 1 < side_count s.kind = subst (λ (k : Kind). 1 < side_count k) (sym queue) (omega arith) in
        let second_kept = side_kept 1 two ∙ (λ i. found_kept lines (heads i) 1 (second i) client) in
        row_is (newest_of s client) (newer_of (found_kept lines head 0 rounds.first client) (found_kept lines head 1 rounds.second client))
        (one Queue queue
        ∙ (newest_two (kept_in_slots (record_of_side lines s 0) client) (kept_in_slots (record_of_side lines s 1) client) (some_newest two)
        ∙ (λ i. newer_of (first_kept Queue queue i) (second_kept i))))

-- Memory over these lines

no_words : (row : Row) (place : ℕ) → 0 ≡ ask_word (stored_ask (fresh_seat row)) place
no_words row zero = refl
no_words row (suc zero) = refl
no_words row (suc (suc zero)) = refl
no_words row (suc (suc (suc zero))) = refl
no_words row (suc (suc (suc (suc more)))) = refl

pub seat_shown : (kept : List Kept) (row : Row) → IsRowOf (newest kept) row → ShowsSeat (fresh_client kept) (λ place. 0) (λ number place. row_word (newest kept) place) (fresh_seat row)
seat_shown kept row is = record {
  stage = refl;
  ask = refl;
  last = is.number;
  stored = λ place few. no_words row place;
  even = λ place few. kept_word (newest kept) row place is;
  odd = λ place few. kept_word (newest kept) row place is;
}

pub shows_found : (lines : List Line) (head : Header) (seats : List Seat) (rounds : Rounds) (start : Standing) (past : History) (answers : List Entry) → Represents lines (state_after start past) → header_for start ≡ head → rounds.first ≡ word_of lines 1 0 → rounds.second ≡ word_of lines 2 0 → length seats ≡ 16 → ((client : ℕ) → client < head.clients → seat_at seats client ≡ fresh_seat (found_row head.kind lines head rounds client)) → ShowsMemory (record (formatted_memory head) { seats = seats; owner = Closed; knowledge = Doubtful; rounds = rounds }) (memory_at_opening start past answers)
shows_found lines head seats rounds start past answers stands header first second long found = record {
  head = header;
  valid = subst IsHeader heads region.valid;
  places = long;
  clients = λ client there.
      let inside : client < head.clients = omega (arith, there, ap (λ (h : Header). h.clients) header) in
      let within : client < s.clients = omega (arith, there, ap (λ (h : Header). h.clients) (header_after start past)) in
      subst (λ (seat : Seat). ShowsSeat (fresh_client (kept_list_of s client)) (λ place. 0) (λ number place. row_word (newest (kept_list_of s client)) place) seat) (sym (found client inside))
      (seat_shown (kept_list_of s client) (found_row head.kind lines head rounds client) (found_is lines head rounds s client region heads (of_side 0 (omega arith) ∙ sym first) (of_side 1 (omega arith) ∙ sym second) within));
  next = tt;
  turn = refl;
  noted = refl;
  count = refl;
  owner = refl;
  room = refl;
  work = refl;
  met = omega arith;
  engine = refl;
  ahead = refl;
  rounds = subst (λ (h : History). ShowsRounds (state_after start h) rounds) (sym (append-nil past)) (record { first = of_side 0 (omega arith) ∙ sym first; second = of_side 1 (omega arith) ∙ sym second });
}
  where
    s : Standing
    s = state_after start past

    region : RegionParts lines s
    region = parts lines s stands

    heads : header_for s ≡ head
    heads = header_after start past ∙ header

    of_side : (side : ℕ) → side < 2 → rounds_of s side ≡ word_of lines (1 + side) 0
    of_side side small = sym (ap (λ (line : Line). word line 0) (region.rounds side small))
