-- What the record that a round makes of the one in use does to a region.
use Rattle.std.proofs.Common.{◌≡◌, ◌≢◌, ◌⊎◌, ℕ, zero, suc, ◌+◌, ◌*◌, ◌/◌, ◌%◌, ◌<◌, ◌≤◌, List, [], ◌∷◌, ◌++◌, length, take, drop, refl, sym, ap, ◌∙◌, subst, inl, inr, arith}
use Rattle.std.proofs.lemmas.Bool.{cases_eq}
use Rattle.std.specs.List.{All}
use Rattle.std.proofs.lemmas.List.{length-take, length-drop, length-append, length-set}
use Rattle.std.proofs.Math.Seq.{take-append_seam, drop-append_seam}
use Rattle.std.proofs.lemmas.List.Elements.{All-head}
use Rattle.pb_pmem.specs.declared.line.Line.{Line}
use Rattle.pb_pmem.specs.declared.line.TheConstants.{LINES}
use Rattle.pb_pmem.specs.Lines.{line_at}
use Rattle.pb_object.specs.declared.kind.Kind.{Kind}
use Rattle.pb_object.specs.declared.kind.Kind.TheVariants.{Map, Stack, Heap, Queue}
use Rattle.pb_object.specs.declared.request.Kept.{Kept}
use Rattle.pb_object.specs.declared.request.TheConstants.{KEPT_REQUESTS}
use Rattle.pb_object.specs.History.{Entry, Round, kept_by, after_round, AreLegal, IsLegalRound}
use Rattle.pb_object.specs.Object.{State, Registers, Items, Rising, Waits}
use Rattle.pb_object.specs.ObjectLines.{kind_of, size_of, object_line_count, object_lines_of_all_sides, LinesRepresent}
use Rattle.pb_object.specs.Standing.{Standing, side_count, rounds_of, keep, kept_list_of, newest, newest_of}
use Rattle.pb_layout.specs.ClientLine.{client_line_of, kept_in, IsKept}
use Rattle.pb_layout.specs.Header.{record_length, slot_count, word}
use Rattle.pb_layout.specs.LogHistory.{number_in}
use Rattle.pb_layout.specs.NextRecord.{HasEntryInFront, IsOfOther, IsNextOf, IsNextRecord}
use Rattle.pb_layout.specs.Record.{count_line_of, slot_line_at, client_line_at, kept_in_slots, number_sum, IsSlot, AreSlots, IsRecord}
use Rattle.pb_layout.specs.Recovered.{Represents}
use Rattle.pb_layout.specs.Shape.{IsHeader}
use Rattle.pb_layout.specs.Region.{record_place}
use Rattle.pb_layout.specs.Represents.{header_for, record_in_use, record_of_side, object_part, object_parts_by, object_parts, newest_of_two, kept_list_by, kept_list, number_at, AreApart, CellsRepresent, with_record, records_with, AreRecords, RegionParts}
use Rattle.pb_layout.specs.declared.header.Header.{Header}
use Rattle.pb_layout.proofs.ChangedRegion.{own_along, turn, with_here, with_other}
use Rattle.pb_layout.proofs.Lines.{line_from_words}
use Rattle.pb_layout.proofs.OneRecovery.{from_parts, region_records}
use Rattle.pb_layout.proofs.Records.{number_sum-none, number_sum-more}
use Rattle.pb_layout.proofs.SlotLemmas.{Falling, kept_from-same, kept_from-shifted, newest-kept_from, slot_at_most, slots_fall, newest_of_two-newer_first, newest_of_two-newer_second, newest_of_two-take_first, newest_of_two-take_second, take-newest_of_two, newest_of_two-at_least_first, newest_of_two-at_least_second}
use Rattle.pb_layout_laws.proofs.Rounds.{HasOwnEntry, entry_or_others, rise_from_zero, next_side, next_header, next_round_list, next_rounds, next_rounds_other, after_entries-kept, after_entries-kind_of, after_entries-size_of, after_entries-other}

-- where no client's newest number falls and one rises, the sum of a record's newest numbers does
number_sum-at_most : (old new : List Line) (count : ℕ) → ((client : ℕ) → client < count → number_in old client ≤ number_in new client) → number_sum old count ≤ number_sum new count
number_sum-at_most old new zero each = omega (arith, number_sum-none old, number_sum-none new)
number_sum-at_most old new (suc count) each =
    let rest = number_sum-at_most old new count (λ client inside. each client (omega arith)) in
    omega (arith, rest, each count (omega arith), number_sum-more old count, number_sum-more new count)

pub number_sum-rises : (old new : List Line) (at count : ℕ) → at < count → ((client : ℕ) → client < count → number_in old client ≤ number_in new client) → number_in old at < number_in new at → number_sum old count < number_sum new count
number_sum-rises old new at zero inside each more = absurd (omega arith)
number_sum-rises old new at (suc count) inside each more =
    elim (cases_eq at count) [
      | inl e ↦
          let rest = number_sum-at_most old new count (λ client below. each client (omega arith)) in
          let here = subst (λ (n : ℕ). number_in old n < number_in new n) e more in
          omega (arith, rest, here, number_sum-more old count, number_sum-more new count)
      | inr apart ↦
          let rest = number_sum-rises old new at count (omega arith) (λ client below. each client (omega arith)) more in
          omega (arith, rest, each count (omega arith), number_sum-more old count, number_sum-more new count)
    ]

-- the lines of a client's slots, counted from its first
pub slot_from : (lines : List Line) (client k : ℕ) → line_at lines (1 + KEPT_REQUESTS * client + k) ≡ slot_line_at lines client k
slot_from lines client k =
    let at : 1 + KEPT_REQUESTS * client + k ≡ 1 + (KEPT_REQUESTS * client + k) = omega arith in ap (line_at lines) at

pub first_slot : (lines : List Line) (client : ℕ) → line_at lines (1 + KEPT_REQUESTS * client) ≡ client_line_at lines client
first_slot lines client =
    let at : 1 + KEPT_REQUESTS * client ≡ 1 + (KEPT_REQUESTS * client + 0) = omega arith in ap (line_at lines) at

-- The kept requests of a client by side

list_same : (kind : Kind) (a b : ℕ → List Line) (client : ℕ) → ((x : ℕ) → x < side_count kind → kept_in_slots (a x) client ≡ kept_in_slots (b x) client) → kept_list_by kind a client ≡ kept_list_by kind b client
list_same Map a b client same = same 0 (omega arith)
list_same Stack a b client same = same 0 (omega arith)
list_same Heap a b client same = same 0 (omega arith)
list_same Queue a b client same =
    let first = same 0 (omega arith) in
    let second = same 1 (omega arith) in
    λ i. newest_of_two KEPT_REQUESTS (first i) (second i)

-- the newest request of a side is at most the newest of all
newest_at_most : (kind : Kind) (records : ℕ → List Line) (side client : ℕ) → side < side_count kind → (newest (kept_in_slots (records side) client)).number ≤ (newest (kept_list_by kind records client)).number
newest_at_most Map records zero client inside = omega arith
newest_at_most Stack records zero client inside = omega arith
newest_at_most Heap records zero client inside = omega arith
newest_at_most Map records (suc side) client inside = absurd (omega arith)
newest_at_most Stack records (suc side) client inside = absurd (omega arith)
newest_at_most Heap records (suc side) client inside = absurd (omega arith)
newest_at_most Queue records zero client inside = newest_of_two-at_least_first 7 (kept_in_slots (records 0) client) (kept_in_slots (records 1) client)
newest_at_most Queue records (suc zero) client inside = newest_of_two-at_least_second 7 (kept_in_slots (records 0) client) (kept_in_slots (records 1) client)
newest_at_most Queue records (suc (suc side)) client inside = absurd (omega arith)

-- a request that is newer than all stands in front of a side's, and of all
record IsInFront (kind : Kind) (before after : ℕ → List Line) (side client : ℕ) (kept : Kept) : Type 0 where
  here : kept_in_slots (after side) client ≡ keep kept (kept_in_slots (before side) client)
  others : (other : ℕ) → other < side_count kind → other ≢ side → kept_in_slots (after other) client ≡ kept_in_slots (before other) client
  newer : (x : ℕ) → x < side_count kind → (newest (kept_in_slots (before x) client)).number < kept.number

in_front_first : (a b : List Kept) (kept : Kept) → (newest b).number < kept.number → newest_of_two 8 (keep kept a) b ≡ keep kept (newest_of_two 8 a b)
in_front_first a b kept newer =
    newest_of_two-newer_first 7 kept (take 7 a) b (omega arith)
    ∙ ap (λ (rest : List Kept). kept ∷ rest) (newest_of_two-take_first 7 7 a b (omega arith) ∙ sym (take-newest_of_two 7 8 a b (omega arith)))

in_front_second : (a b : List Kept) (kept : Kept) → (newest a).number < kept.number → newest_of_two 8 a (keep kept b) ≡ keep kept (newest_of_two 8 a b)
in_front_second a b kept newer =
    newest_of_two-newer_second 7 kept a (take 7 b) newer
    ∙ ap (λ (rest : List Kept). kept ∷ rest) (newest_of_two-take_second 7 7 a b (omega arith) ∙ sym (take-newest_of_two 7 8 a b (omega arith)))

list_in_front : (kind : Kind) (before after : ℕ → List Line) (side client : ℕ) (kept : Kept) → side < side_count kind → IsInFront kind before after side client kept → kept_list_by kind after client ≡ keep kept (kept_list_by kind before client)
list_in_front Map before after zero client kept inside is = is.here
list_in_front Stack before after zero client kept inside is = is.here
list_in_front Heap before after zero client kept inside is = is.here
list_in_front Map before after (suc side) client kept inside is = absurd (omega arith)
list_in_front Stack before after (suc side) client kept inside is = absurd (omega arith)
list_in_front Heap before after (suc side) client kept inside is = absurd (omega arith)
list_in_front Queue before after zero client kept inside is =
    let here = is.here in
    let other = is.others 1 (omega arith) (λ e. absurd (omega (arith, e))) in
    let path : newest_of_two KEPT_REQUESTS (kept_in_slots (after 0) client) (kept_in_slots (after 1) client) ≡ newest_of_two KEPT_REQUESTS (keep kept (kept_in_slots (before 0) client)) (kept_in_slots (before 1) client) = λ i. newest_of_two KEPT_REQUESTS (here i) (other i) in
    path ∙ in_front_first (kept_in_slots (before 0) client) (kept_in_slots (before 1) client) kept (is.newer 1 (omega arith))
list_in_front Queue before after (suc zero) client kept inside is =
    let here = is.here in
    let other = is.others 0 (omega arith) (λ e. absurd (omega (arith, e))) in
    let path : newest_of_two KEPT_REQUESTS (kept_in_slots (after 0) client) (kept_in_slots (after 1) client) ≡ newest_of_two KEPT_REQUESTS (kept_in_slots (before 0) client) (keep kept (kept_in_slots (before 1) client)) = λ i. newest_of_two KEPT_REQUESTS (other i) (here i) in
    path ∙ in_front_second (kept_in_slots (before 0) client) (kept_in_slots (before 1) client) kept (is.newer 0 (omega arith))
list_in_front Queue before after (suc (suc side)) client kept inside is = absurd (omega arith)

-- the object's lines of all sides, where those of each are the same
object_parts-along : (kind : Kind) (head : Header) (f g : ℕ → List Line) → ((side : ℕ) → side < side_count kind → object_part head (f side) ≡ object_part head (g side)) → object_parts_by kind head f ≡ object_parts_by kind head g
object_parts-along Map head f g same = same 0 (omega arith)
object_parts-along Stack head f g same = same 0 (omega arith)
object_parts-along Heap head f g same = same 0 (omega arith)
object_parts-along Queue head f g same =
    let first = same 0 (omega arith) in
    let second = same 1 (omega arith) in
    λ i. first i ++ second i

-- two lines are a queue's tail and head
queue_line : (line : Line) (count : ℕ) → count ≡ word line 0 → ((place : ℕ) → 0 < place → place < 8 → word line place ≡ 0) → line ≡ count_line_of count
queue_line line count first rest =
    line_from_words line count 0 0 0 0 0 0 0 (sym first) (rest 1 (omega arith) (omega arith)) (rest 2 (omega arith) (omega arith)) (rest 3 (omega arith) (omega arith)) (rest 4 (omega arith) (omega arith)) (rest 5 (omega arith) (omega arith)) (rest 6 (omega arith) (omega arith)) (rest 7 (omega arith) (omega arith))

-- a queue's state has the same lines everywhere
queue_lines : (xs ys : List Line) (state : State) → kind_of state ≡ Queue → LinesRepresent xs state → LinesRepresent ys state → xs ≡ ys
queue_lines xs ys (Registers registers) queue left right = absurd (cc)
queue_lines xs ys (Items size items) queue left right = absurd (cc)
queue_lines xs ys (Rising size items) queue left right = absurd (cc)
queue_lines xs ys (Waits size waiting) queue left right = two xs left ∙ sym (two ys right)
  where
    pair : (lines : List Line) → length lines ≡ 2 → lines ≡ line_at lines 0 ∷ line_at lines 1 ∷ []
    pair [] long = absurd (omega arith)
    pair (x ∷ []) long = absurd (omega arith)
    pair (x ∷ y ∷ []) long = refl
    pair (x ∷ y ∷ z ∷ lines) long = absurd (omega arith)

    two : (lines : List Line) → LinesRepresent lines (Waits size waiting) → lines ≡ count_line_of (waiting.taken + length waiting.items) ∷ count_line_of waiting.taken ∷ []
    two lines stand =
        let tail = queue_line (line_at lines 0) (waiting.taken + length waiting.items) stand.hold.0 (stand.allowed 0 (omega (arith, stand.count))).rest in
        let head = queue_line (line_at lines 1) waiting.taken stand.hold.1 (stand.allowed 1 (omega (arith, stand.count))).rest in
        let path : line_at lines 0 ∷ line_at lines 1 ∷ [] ≡ count_line_of (waiting.taken + length waiting.items) ∷ count_line_of waiting.taken ∷ [] = λ i. tail i ∷ head i ∷ [] in
        pair lines stand.count ∙ path

take_front : (x y : List Line) (n : ℕ) → length x ≡ n → take n (x ++ y) ≡ x
take_front x y n long = subst (λ (k : ℕ). take k (x ++ y) ≡ x) long (take-append_seam x y)

drop_front : (x y : List Line) (n : ℕ) → length x ≡ n → drop n (x ++ y) ≡ y
drop_front x y n long = subst (λ (k : ℕ). drop k (x ++ y) ≡ y) long (drop-append_seam x y)

-- two lists of one each
one_each : (x y z w : List Line) → length x ≤ 1 → length y ≤ 1 → length z ≤ 1 → length w ≤ 1 → length (x ++ y) ≡ 2 → x ++ y ≡ z ++ w → (x ≡ z) × (y ≡ w)
one_each x y z w fx fy fz fw long same =
    let other : length (z ++ w) ≡ 2 = sym (ap length same) ∙ long in
    let lx : length x ≡ 1 = omega (arith, length-append x y) in
    let lz : length z ≡ 1 = omega (arith, length-append z w) in
    (sym (take_front x y 1 lx) ∙ (ap (take 1) same ∙ take_front z w 1 lz), sym (drop_front x y 1 lx) ∙ (ap (drop 1) same ∙ drop_front z w 1 lz))

-- the records in use of a region that represents s are no longer than a record
object_part_short : (image : List Line) (s : Standing) (side : ℕ) → s.kind ≡ Queue → length (object_part (header_for s) (record_of_side image s side)) ≤ 1
object_part_short image s side queue =
    let one : object_line_count s.kind s.size ≡ 1 = ap (λ (k : Kind). object_line_count k s.size) queue in
    let start = drop (record_place (header_for s) side (rounds_of s side % 2)) image in
    omega (arith, one, length-drop (1 + slot_count (header_for s)) (record_of_side image s side), length-take (record_length (header_for s)) start)

-- a queue's object lines are the same wherever it stands
same_parts : (c a : List Line) (s : Standing) → s.kind ≡ Queue → RegionParts c s → RegionParts a s → (side : ℕ) → side < 2 → object_part (header_for s) (record_of_side c s side) ≡ object_part (header_for s) (record_of_side a s side)
same_parts c a s queue left right side inside = go side inside
  where
    lines_of : (image : List Line) → List Line
    lines_of image = object_part (header_for s) (record_of_side image s 0) ++ object_part (header_for s) (record_of_side image s 1)

    parts : (k : Kind) (image : List Line) → k ≡ Queue → object_parts_by k (header_for s) (record_of_side image s) ≡ lines_of image
    parts k image e = ap (λ (x : Kind). object_parts_by x (header_for s) (record_of_side image s)) e

    stand : (image : List Line) → RegionParts image s → LinesRepresent (lines_of image) s.state
    stand image stands = subst (λ (ls : List Line). LinesRepresent ls s.state) (parts s.kind image queue) stands.state

    count : length (lines_of c) ≡ 2
    count = (stand c left).count ∙ ap (λ (k : Kind). object_lines_of_all_sides k (size_of s.state)) (left.kind ∙ queue)

    both : (object_part (header_for s) (record_of_side c s 0) ≡ object_part (header_for s) (record_of_side a s 0)) × (object_part (header_for s) (record_of_side c s 1) ≡ object_part (header_for s) (record_of_side a s 1))
    both = one_each _ _ _ _ (object_part_short c s 0 queue) (object_part_short c s 1 queue) (object_part_short a s 0 queue) (object_part_short a s 1 queue) count (queue_lines (lines_of c) (lines_of a) s.state (left.kind ∙ queue) (stand c left) (stand a right))

    go : (x : ℕ) → x < 2 → object_part (header_for s) (record_of_side c s x) ≡ object_part (header_for s) (record_of_side a s x)
    go zero below = both.0
    go (suc zero) below = both.1
    go (suc (suc x)) below = absurd (omega arith)

-- two sides are a queue's
queue_by_sides : (kind : Kind) (side other : ℕ) → side < side_count kind → other < side_count kind → other ≢ side → kind ≡ Queue
queue_by_sides Map side other inside below apart = absurd (apart (omega arith))
queue_by_sides Stack side other inside below apart = absurd (apart (omega arith))
queue_by_sides Heap side other inside below apart = absurd (apart (omega arith))
queue_by_sides Queue side other inside below apart = refl

-- in two regions that represent s, the object's lines beside a new record are the same
parts_with : (c a : List Line) (s : Standing) (side : ℕ) (lines : List Line) → RegionParts c s → RegionParts a s → side < side_count s.kind → object_parts (header_for s) (records_with c s side lines) ≡ object_parts (header_for s) (records_with a s side lines)
parts_with c a s side lines left right inside =
    object_parts-along s.kind (header_for s) (records_with c s side lines) (records_with a s side lines) (λ other below. elim (cases_eq other side) [
      | inl e ↦ ap (object_part (header_for s)) (with_here (record_of_side c s) side lines other e ∙ sym (with_here (record_of_side a s) side lines other e))
      | inr apart ↦
          let queue = queue_by_sides s.kind side other inside below apart in
          ap (object_part (header_for s)) (with_other (record_of_side c s) side lines other apart) ∙ (same_parts c a s queue left right other (omega (arith, ap side_count queue)) ∙ sym (ap (object_part (header_for s)) (with_other (record_of_side a s) side lines other apart)))
    ])

-- What a round does to the slots of a record

-- an own entry of a client among those of a round, said of the client's slots
pub record IsShifted (before lines : List Line) (client : ℕ) (kept : Kept) : Type 0 where
  pub newest_is : client_line_at lines client ≡ client_line_of kept
  pub shifted : (k : ℕ) → suc k < KEPT_REQUESTS → slot_line_at lines client (suc k) ≡ slot_line_at before client k

abbrev pub Own : (ℕ → List Line) → Standing → Round → List Line → ℕ → Type 0
Own records s round lines client = HasOwnEntry (HasEntryInFront (records round.side) lines) s round.side round.entries client

shift_of : (records : ℕ → List Line) (s : Standing) (round : Round) (lines : List Line) (client : ℕ) (has : Own records s round lines client) → IsShifted (records round.side) lines client (kept_by has.entry)
shift_of records s round lines client has = record {
  newest_is = subst (λ (n : ℕ). client_line_at lines n ≡ client_line_of (kept_by has.entry)) has.own has.holds.newest;
  shifted = λ k inside. subst (λ (n : ℕ). slot_line_at lines n (suc k) ≡ slot_line_at (records round.side) n k) has.own (has.holds.shifted k inside);
}

-- what a round's new record has of a client: its entry in front, or else the slots that it had
pub next_entry : (records : ℕ → List Line) (s : Standing) (round : Round) (lines : List Line) → AreRecords records s → IsNextOf records s round lines → (client : ℕ) → client < s.clients → Own records s round lines client ⊎ All (IsOfOther client) round.entries
next_entry records s round lines stands next client inside =
    entry_or_others (HasEntryInFront (records round.side) lines) s round.side 0 round.entries client (omega (arith, stands.clients)) stands.kind next.legal.legal (rise_from_zero round.entries next.legal.rising) next.entries

-- the numbers of a side's slots fall, and are at most the client's newest
falls_in_use : (records : ℕ → List Line) (s : Standing) (side client : ℕ) → AreRecords records s → side < side_count s.kind → client < s.clients → Falling (records side) (1 + KEPT_REQUESTS * client) KEPT_REQUESTS
falls_in_use records s side client stands here inside = slots_fall (header_for s) side (records side) client (stands.own side here).slots inside

newest_kept : (records : ℕ → List Line) (s : Standing) (side client : ℕ) → AreRecords records s → side < side_count s.kind → client < s.clients → (newest (kept_in_slots (records side) client)).number ≤ (newest_of s client).number
newest_kept records s side client stands here inside =
    omega (arith, newest_at_most s.kind (records) side client here, ap (λ (list : List Kept). (newest list).number) (stands.kept client inside))

pub slot_number_kept : (records : ℕ → List Line) (s : Standing) (side client k : ℕ) → AreRecords records s → side < side_count s.kind → client < s.clients → k < KEPT_REQUESTS → word (slot_line_at (records side) client k) 0 ≤ (newest_of s client).number
slot_number_kept records s side client k stands here inside below =
    let lines = records side in
    let falling = falls_in_use records s side client stands here inside in
    omega (arith, newest_kept records s side client stands here inside, newest-kept_from lines (1 + KEPT_REQUESTS * client) 7 falling, slot_at_most lines (1 + KEPT_REQUESTS * client) KEPT_REQUESTS k falling below, ap (λ (l : Line). word l 0) (slot_from lines client k))

-- a client's newest number in a record in use is at most that of its last request
pub number_kept : (records : ℕ → List Line) (s : Standing) (side client : ℕ) → AreRecords records s → side < side_count s.kind → client < s.clients → number_in (records side) client ≤ (newest_of s client).number
number_kept records s side client stands here inside = slot_number_kept records s side client 0 stands here inside (omega arith)

some_entry : (s : Standing) (round : Round) → IsLegalRound s round → (client : ℕ) × (client < s.clients) × ¬ All (IsOfOther client) round.entries
some_entry s round legal = go round.entries legal.some legal.legal
  where
    go : (entries : List Entry) → entries ≢ [] → AreLegal s round.side entries → (client : ℕ) × (client < s.clients) × ¬ All (IsOfOther client) entries
    go [] some are = absurd (some refl)
    go (entry ∷ entries) some are = (entry.client, are.0.client, λ others. All-head (IsOfOther entry.client) entry entries others refl)

entry_number : (records : ℕ → List Line) (s : Standing) (round : Round) (lines : List Line) (client : ℕ) (has : Own records s round lines client) → number_in lines client ≡ has.entry.number
entry_number records s round lines client has = ap (λ (l : Line). word l 0) (shift_of records s round lines client has).newest_is

-- no entry lowers its client's number on its side
number_rises : (records : ℕ → List Line) (s : Standing) (round : Round) (lines : List Line) → AreRecords records s → IsNextOf records s round lines → (client : ℕ) → client < s.clients → number_in (records round.side) client ≤ number_in lines client
number_rises records s round lines stands next client inside = go (next_entry records s round lines stands next client inside)
  where
    go : Own records s round lines client ⊎ All (IsOfOther client) round.entries → number_in (records round.side) client ≤ number_in lines client
    go (inl has) = omega (arith, number_kept records s round.side client stands (next_side s round next.legal) inside, has.number, entry_number records s round lines client has)
    go (inr others) = omega (arith, ap (λ (l : Line). word l 0) (next.others client 0 inside (omega arith) others))

-- an entry raises it
number_of_entry : (records : ℕ → List Line) (s : Standing) (round : Round) (lines : List Line) → AreRecords records s → IsNextOf records s round lines → (client : ℕ) → client < s.clients → ¬ All (IsOfOther client) round.entries → number_in (records round.side) client < number_in lines client
number_of_entry records s round lines stands next client inside some = go (next_entry records s round lines stands next client inside)
  where
    go : Own records s round lines client ⊎ All (IsOfOther client) round.entries → number_in (records round.side) client < number_in lines client
    go (inl has) = omega (arith, number_kept records s round.side client stands (next_side s round next.legal) inside, has.number, entry_number records s round lines client has)
    go (inr others) = absurd (some others)

-- a slot by its client and its place there
place_is : (place : ℕ) → place ≡ KEPT_REQUESTS * (place / KEPT_REQUESTS) + place % KEPT_REQUESTS
place_is place = omega arith

-- the slots of a client in front of which an entry stands are allowed
pub slot_of_entry : (kind : Kind) (side : ℕ) (before lines : List Line) (client : ℕ) (kept : Kept) (k : ℕ) → IsShifted before lines client kept → IsKept kind side kept → word (client_line_at before client) 0 < kept.number → ((j : ℕ) → j < KEPT_REQUESTS → IsSlot kind side before (KEPT_REQUESTS * client + j)) → k < KEPT_REQUESTS → IsSlot kind side lines (KEPT_REQUESTS * client + k)
slot_of_entry kind side before lines client kept zero shift allowed newer slots below = record {
  allowed = subst (λ (l : Line). IsKept kind side (kept_in l)) (sym shift.newest_is) allowed;
  falls = λ first. absurd (first (omega arith));
}
slot_of_entry kind side before lines client kept (suc zero) shift allowed newer slots below = record {
  allowed = subst (λ (l : Line). IsKept kind side (kept_in l)) (sym (shift.shifted 0 (omega arith))) (slots 0 (omega arith)).allowed;
  falls = λ first some.
      let at : KEPT_REQUESTS * client + 1 ≡ 1 + (KEPT_REQUESTS * client + 0) = omega arith in
      omega (arith, newer, ap (λ (l : Line). word l 0) (shift.shifted 0 (omega arith)), ap (λ (l : Line). word l 0) (ap (line_at lines) at ∙ shift.newest_is));
}
slot_of_entry kind side before lines client kept (suc (suc k)) shift allowed newer slots below = record {
  allowed = subst (λ (l : Line). IsKept kind side (kept_in l)) (sym (shift.shifted (suc k) (omega arith))) (slots (suc k) (omega arith)).allowed;
  falls = λ first some.
      let here = ap (λ (l : Line). word l 0) (shift.shifted (suc k) (omega arith)) in
      let at : KEPT_REQUESTS * client + suc (suc k) ≡ 1 + (KEPT_REQUESTS * client + suc k) = omega arith in
      let last = ap (λ (l : Line). word l 0) (ap (line_at lines) at ∙ shift.shifted k (omega arith)) in
      let back : KEPT_REQUESTS * client + suc k ≡ 1 + (KEPT_REQUESTS * client + k) = omega arith in
      let less = (slots (suc k) (omega arith)).falls (λ e. absurd (omega (arith, e, below))) (λ e. some (here ∙ e)) in
      omega (arith, here, last, less, ap (λ (n : ℕ). word (line_at before n) 0) back);
}

-- a client's slots that are as before are allowed
slot_of_other : (kind : Kind) (side : ℕ) (before lines : List Line) (client k : ℕ) → ((j : ℕ) → j < KEPT_REQUESTS → slot_line_at lines client j ≡ slot_line_at before client j) → ((j : ℕ) → j < KEPT_REQUESTS → IsSlot kind side before (KEPT_REQUESTS * client + j)) → k < KEPT_REQUESTS → IsSlot kind side lines (KEPT_REQUESTS * client + k)
slot_of_other kind side before lines client zero same slots below = record {
  allowed = subst (λ (l : Line). IsKept kind side (kept_in l)) (sym (same 0 (omega arith))) (slots 0 (omega arith)).allowed;
  falls = λ first. absurd (first (omega arith));
}
slot_of_other kind side before lines client (suc k) same slots below = record {
  allowed = subst (λ (l : Line). IsKept kind side (kept_in l)) (sym (same (suc k) below)) (slots (suc k) below).allowed;
  falls = λ first some.
      let here = ap (λ (l : Line). word l 0) (same (suc k) below) in
      let at : KEPT_REQUESTS * client + suc k ≡ 1 + (KEPT_REQUESTS * client + k) = omega arith in
      let last = ap (λ (l : Line). word l 0) (ap (line_at lines) at ∙ same k (omega arith)) in
      let less = (slots (suc k) below).falls first (λ e. some (here ∙ e)) in
      omega (arith, here, last, less, ap (λ (n : ℕ). word (line_at before n) 0) at);
}

next_slots : (records : ℕ → List Line) (s : Standing) (round : Round) (lines : List Line) → AreRecords records s → IsNextOf records s round lines → AreSlots s.kind round.side lines (slot_count (header_for s))
next_slots records s round lines stands next place inside =
    subst (IsSlot s.kind round.side lines) (sym (place_is place)) (go (next_entry records s round lines stands next client within))
  where
    client : ℕ
    client = place / KEPT_REQUESTS

    within : client < s.clients
    within = omega arith

    here : round.side < side_count s.kind
    here = next_side s round next.legal

    before : List Line
    before = records round.side

    slots : (j : ℕ) → j < KEPT_REQUESTS → IsSlot s.kind round.side before (KEPT_REQUESTS * client + j)
    slots j below = (stands.own round.side here).slots (KEPT_REQUESTS * client + j) (omega (arith, within, below))

    go : Own records s round lines client ⊎ All (IsOfOther client) round.entries → IsSlot s.kind round.side lines (KEPT_REQUESTS * client + place % KEPT_REQUESTS)
    go (inl has) =
        slot_of_entry s.kind round.side before lines client (kept_by has.entry) (place % KEPT_REQUESTS) (shift_of records s round lines client has) (inr has.recorded) (omega (arith, number_kept records s round.side client stands here within, has.number)) slots (omega arith)
    go (inr others) =
        slot_of_other s.kind round.side before lines client (place % KEPT_REQUESTS) (λ j below. next.others client j within below others) slots (omega arith)

-- the new record is one of its side's next round
pub next_own : (records : ℕ → List Line) (s : Standing) (round : Round) (lines : List Line) → AreRecords records s → IsNextOf records s round lines → IsRecord (header_for s) round.side (rounds_of s round.side + 1) lines
next_own records s round lines stands next =
    let here = next_side s round next.legal in
    let one = some_entry s round next.legal in
    let before = stands.own round.side here in
    let more = number_sum-rises (records round.side) lines one.0 s.clients one.1 (number_rises records s round lines stands next) (number_of_entry records s round lines stands next one.0 one.1 one.2) in
    record {
      carries = next.carries;
      slots = next_slots records s round lines stands next;
      rounds = omega (arith, before.rounds, more);
    }

-- what is switched where a side's index word is raised: its spare record holds these lines, the rest is as before, and the cells of a
-- queue's next state are there
pub record IsSwitched (a b : List Line) (s : Standing) (round : Round) (lines : List Line) : Type 0 where
  pub header : line_at b 0 ≡ line_at a 0
  pub index : line_at b (1 + round.side) ≡ count_line_of (rounds_of s round.side + 1)
  pub others : (other : ℕ) → other < 2 → other ≢ round.side → line_at b (1 + other) ≡ line_at a (1 + other)
  pub spare : record_in_use b (header_for s) round.side (rounds_of s round.side + 1) ≡ lines
  pub others_in_use : (other : ℕ) → other < side_count s.kind → other ≢ round.side → record_of_side b s other ≡ record_of_side a s other
  pub cells : CellsRepresent b (header_for s) (after_round s round).state

-- the kept requests in a client's slots of the new record
slots_in_front : (records : ℕ → List Line) (s : Standing) (round : Round) (lines : List Line) → AreRecords records s → round.side < side_count s.kind → (client : ℕ) → client < s.clients → (has : Own records s round lines client) → kept_in_slots lines client ≡ keep (kept_by has.entry) (kept_in_slots (records round.side) client)
slots_in_front records s round lines stands here client inside has =
    let shift = shift_of records s round lines client has in
    let before = records round.side in
    kept_from-shifted lines before (1 + KEPT_REQUESTS * client) 7 (kept_by has.entry) (λ e. absurd (omega (arith, has.number, e))) (first_slot lines client ∙ shift.newest_is) (λ k below. slot_from lines client (suc k) ∙ (shift.shifted k below ∙ sym (slot_from before client k))) (falls_in_use records s round.side client stands here inside)

slots_of_other : (before lines : List Line) (client : ℕ) → ((k : ℕ) → k < KEPT_REQUESTS → slot_line_at lines client k ≡ slot_line_at before client k) → kept_in_slots lines client ≡ kept_in_slots before client
slots_of_other before lines client same =
    kept_from-same lines before (1 + KEPT_REQUESTS * client) (1 + KEPT_REQUESTS * client) KEPT_REQUESTS (λ k below. slot_from lines client k ∙ (same k below ∙ sym (slot_from before client k)))

pub next_list : (records : ℕ → List Line) (s : Standing) (round : Round) (lines : List Line) → AreRecords records s → IsNextOf records s round lines → (client : ℕ) → client < s.clients → kept_list_of (after_round s round) client ≡ kept_list (header_for s) (with_record records round.side lines) client
next_list records s round lines stands next client inside = go (next_entry records s round lines stands next client inside)
  where
    here : round.side < side_count s.kind
    here = next_side s round next.legal

    after : ℕ → List Line
    after = with_record records round.side lines

    own : {x : ℕ} → x ≡ round.side → kept_in_slots (after x) client ≡ kept_in_slots lines client
    own {x} e = ap (λ (ls : List Line). kept_in_slots ls client) (with_here records round.side lines x e)

    beside : (x : ℕ) → x ≢ round.side → kept_in_slots (after x) client ≡ kept_in_slots (records x) client
    beside x apart = ap (λ (ls : List Line). kept_in_slots ls client) (with_other records round.side lines x apart)

    go : Own records s round lines client ⊎ All (IsOfOther client) round.entries → kept_list_of (after_round s round) client ≡ kept_list (header_for s) after client
    go (inl has) =
        has.kept ∙ (ap (keep (kept_by has.entry)) (stands.kept client inside) ∙ sym (list_in_front s.kind records after round.side client (kept_by has.entry) here (record {
          here = own refl ∙ slots_in_front records s round lines stands here client inside has;
          others = λ x below apart. beside x apart;
          newer = λ x below. omega (arith, newest_kept records s x client stands below inside, has.number);
        })))
    go (inr others) =
        after_entries-other s round.entries client others ∙ (stands.kept client inside ∙ sym (list_same s.kind after records client (λ x below. elim (cases_eq x round.side) [
          | inl e ↦ own e ∙ (slots_of_other (records round.side) lines client (λ k few. next.others client k inside few others) ∙ ap (λ (n : ℕ). kept_in_slots (records n) client) (sym e))
          | inr apart ↦ beside x apart
        ])))

-- No request of a client stands on both sides

abbrev pub IsApartAt : (ℕ → List Line) → ℕ → Type 0
IsApartAt records client =
    (k : ℕ) → k < KEPT_REQUESTS → word (slot_line_at (records 1) client k) 0 ≢ 0 → (slot : ℕ) → slot < KEPT_REQUESTS → word (slot_line_at (records 1) client k) 0 ≢ word (slot_line_at (records 0) client slot) 0

apart_at : (head : Header) (records : ℕ → List Line) (client : ℕ) → head.kind ≡ Queue → client < head.clients → AreApart head records → IsApartAt records client
apart_at head records client queue inside apart k below some slot few equal =
    let place : ℕ = KEPT_REQUESTS * client + k in
    let same : place / KEPT_REQUESTS ≡ client = omega arith in
    apart queue place (omega arith) some slot few (equal ∙ ap (λ (n : ℕ). number_at records 0 (KEPT_REQUESTS * n + slot)) (sym same))

are_apart : (head : Header) (records : ℕ → List Line) → ((client : ℕ) → client < head.clients → IsApartAt records client) → AreApart head records
are_apart head records each queue place inside some slot few equal =
    let at = place_is place in
    let number = ap (λ (n : ℕ). number_at records 1 n) at in
    each (place / KEPT_REQUESTS) (omega arith) (place % KEPT_REQUESTS) (omega arith) (λ e. some (number ∙ e)) slot few (sym number ∙ equal)

-- an entry of side 0, or of side 1, in front
apart_first : (before records : ℕ → List Line) (client : ℕ) (kept : Kept) → IsShifted (before 0) (records 0) client kept → records 1 ≡ before 1 → ((k : ℕ) → k < KEPT_REQUESTS → word (slot_line_at (before 1) client k) 0 < kept.number) → IsApartAt before client → IsApartAt records client
apart_first before records client kept shift other newer apart k below some zero few equal =
    omega (arith, equal, newer k below, ap (λ (ls : List Line). word (slot_line_at ls client k) 0) other, ap (λ (l : Line). word l 0) shift.newest_is)
apart_first before records client kept shift other newer apart k below some (suc slot) few equal =
    let number = ap (λ (ls : List Line). word (slot_line_at ls client k) 0) other in
    apart k below (λ e. some (number ∙ e)) slot (omega arith) (sym number ∙ (equal ∙ ap (λ (l : Line). word l 0) (shift.shifted slot few)))

apart_second : (before records : ℕ → List Line) (client : ℕ) (kept : Kept) → IsShifted (before 1) (records 1) client kept → records 0 ≡ before 0 → ((k : ℕ) → k < KEPT_REQUESTS → word (slot_line_at (before 0) client k) 0 < kept.number) → IsApartAt before client → IsApartAt records client
apart_second before records client kept shift other newer apart zero below some slot few equal =
    omega (arith, equal, newer slot few, ap (λ (ls : List Line). word (slot_line_at ls client slot) 0) other, ap (λ (l : Line). word l 0) shift.newest_is)
apart_second before records client kept shift other newer apart (suc k) below some slot few equal =
    let number = ap (λ (l : Line). word l 0) (shift.shifted k below) in
    apart k (omega arith) (λ e. some (number ∙ e)) slot few (sym number ∙ (equal ∙ ap (λ (ls : List Line). word (slot_line_at ls client slot) 0) other))

apart_same : (before records : ℕ → List Line) (client : ℕ) → ((x k : ℕ) → x < 2 → k < KEPT_REQUESTS → slot_line_at (records x) client k ≡ slot_line_at (before x) client k) → IsApartAt before client → IsApartAt records client
apart_same before records client same apart k below some slot few equal =
    let second = ap (λ (l : Line). word l 0) (same 1 k (omega arith) below) in
    let first = ap (λ (l : Line). word l 0) (same 0 slot (omega arith) few) in
    apart k below (λ e. some (second ∙ e)) slot few (sym second ∙ (equal ∙ first))

-- the side of an entry
apart_in_front : (before records : ℕ → List Line) (side client : ℕ) (kept : Kept) → side < 2 → IsShifted (before side) (records side) client kept → ((x : ℕ) → x < 2 → x ≢ side → records x ≡ before x) → ((x k : ℕ) → x < 2 → k < KEPT_REQUESTS → word (slot_line_at (before x) client k) 0 < kept.number) → IsApartAt before client → IsApartAt records client
apart_in_front before records zero client kept inside shift others newer apart =
    apart_first before records client kept shift (others 1 (omega arith) (λ e. absurd (omega (arith, e)))) (λ k below. newer 1 k (omega arith) below) apart
apart_in_front before records (suc zero) client kept inside shift others newer apart =
    apart_second before records client kept shift (others 0 (omega arith) (λ e. absurd (omega (arith, e)))) (λ k below. newer 0 k (omega arith) below) apart
apart_in_front before records (suc (suc side)) client kept inside shift others newer apart = absurd (omega arith)

pub next_apart : (records : ℕ → List Line) (s : Standing) (round : Round) (lines : List Line) → AreRecords records s → IsNextOf records s round lines → AreApart (header_for s) (with_record records round.side lines)
next_apart records s round lines stands next queue = are_apart (header_for s) after each queue
  where
    after : ℕ → List Line
    after = with_record records round.side lines

    two : side_count s.kind ≡ 2
    two = ap side_count queue

    here : round.side < side_count s.kind
    here = next_side s round next.legal

    each : (client : ℕ) → client < s.clients → IsApartAt after client
    each client inside = go (next_entry records s round lines stands next client inside)
      where
        before : IsApartAt records client
        before = apart_at (header_for s) records client queue inside stands.apart

        go : Own records s round lines client ⊎ All (IsOfOther client) round.entries → IsApartAt after client
        go (inl has) =
            apart_in_front records after round.side client (kept_by has.entry) (omega (arith, here, two)) (subst (λ (ls : List Line). IsShifted (records round.side) ls client (kept_by has.entry)) (sym (with_here records round.side lines round.side refl)) (shift_of records s round lines client has)) (λ x below apart. with_other records round.side lines x apart) (λ x k below few. omega (arith, slot_number_kept records s x client k stands (omega (arith, two)) inside few, has.number)) before
        go (inr others) =
            apart_same records after client (λ x k below few. elim (cases_eq x round.side) [
              | inl e ↦ ap (λ (ls : List Line). slot_line_at ls client k) (with_here records round.side lines x e) ∙ (next.others client k inside few others ∙ ap (λ (n : ℕ). slot_line_at (records n) client k) (sym e))
              | inr apart ↦ ap (λ (ls : List Line). slot_line_at ls client k) (with_other records round.side lines x apart)
            ]) before

-- Records that say a standing say the one after the round, where its record takes the place of the one before

round_at_side : (s : Standing) (round : Round) (x : ℕ) → x ≡ round.side → IsLegalRound s round → length s.rounds ≡ side_count s.kind → rounds_of s round.side + 1 ≡ rounds_of (after_round s round) x
round_at_side s round x e legal sides = sym (ap (rounds_of (after_round s round)) e ∙ next_rounds s round legal sides)

pub next_records : (records : ℕ → List Line) (s : Standing) (round : Round) (lines : List Line) → AreRecords records s → IsNextOf records s round lines → AreRecords (with_record records round.side lines) (after_round s round)
next_records records s round lines stands next =
    let same = next_header s round in
    let kind = ap (λ (h : Header). h.kind) same in
    let after : ℕ → List Line = with_record records round.side lines in
    record {
      valid = subst (λ (h : Header). IsHeader h) (sym same) stands.valid;
      sides = ap length (next_round_list s round) ∙ (length-set s.rounds round.side (rounds_of s round.side + 1) ∙ (stands.sides ∙ ap side_count (sym kind)));
      own = λ x below. elim (cases_eq x round.side) [
        | inl e ↦ own_along (header_for s) (header_for (after_round s round)) round.side x (rounds_of s round.side + 1) (rounds_of (after_round s round) x) lines (after x) (sym same) (sym e) (round_at_side s round x e next.legal stands.sides) (sym (with_here records round.side lines x e)) (next_own records s round lines stands next)
        | inr apart ↦ own_along (header_for s) (header_for (after_round s round)) x x (rounds_of s x) (rounds_of (after_round s round) x) (records x) (after x) (sym same) refl (sym (next_rounds_other s round x apart)) (sym (with_other records round.side lines x apart)) (stands.own x (omega (arith, below, ap side_count kind)))
      ];
      kind = after_entries-kind_of s round.entries ∙ (stands.kind ∙ sym kind);
      size = after_entries-size_of s round.entries ∙ (stands.size ∙ sym (ap (λ (h : Header). h.size) same));
      state = subst (λ (h : Header). LinesRepresent (object_parts h after) (after_round s round).state) (sym same) next.state;
      clients = after_entries-kept s round.entries ∙ (stands.clients ∙ sym (ap (λ (h : Header). h.clients) same));
      apart = subst (λ (h : Header). AreApart h after) (sym same) (next_apart records s round lines stands next);
      kept = λ client inside. next_list records s round lines stands next client (omega (arith, inside, ap (λ (h : Header). h.clients) same)) ∙ ap (λ (h : Header). kept_list h after client) (sym same);
    }

-- what a round makes of a record in use it makes of it in each region that represents the same and has that record in use
pub next_record_along : (c m : List Line) (s : Standing) (round : Round) (lines : List Line) → RegionParts c s → RegionParts m s → record_of_side m s round.side ≡ record_of_side c s round.side → IsNextRecord c s round lines → IsNextRecord m s round lines
next_record_along c m s round lines left right same next = record {
  legal = next.legal;
  long = next.long;
  carries = next.carries;
  entries = subst (λ (ls : List Line). All (HasEntryInFront ls lines) round.entries) (sym same) next.entries;
  others = λ client slot inside few others. next.others client slot inside few others ∙ ap (λ (ls : List Line). slot_line_at ls client slot) (sym same);
  state = subst (λ (ls : List Line). LinesRepresent ls (after_round s round).state) (parts_with c m s round.side lines left right (next_side s round next.legal)) next.state;
}

-- where the record that a round makes is switched to, the region represents what is after the round
pub next_stands : (c b : List Line) (s : Standing) (round : Round) (lines : List Line) → RegionParts c s → IsNextRecord c s round lines → length b ≡ LINES → IsSwitched c b s round lines → Represents b (after_round s round)
next_stands c b s round lines stands next whole switched =
    let same = next_header s round in
    let records = region_records c s stands in
    from_parts b (after_round s round) whole (turn c b s (after_round s round) round.side lines stands (record {
      here = next_side s round next.legal;
      same = same;
      rounds = next_round_list s round;
      header = switched.header;
      index = switched.index;
      others = switched.others;
      spare = switched.spare;
      others_in_use = switched.others_in_use;
      own = next_own (record_of_side c s) s round lines records next;
      kind = after_entries-kind_of s round.entries ∙ (stands.kind ∙ sym (ap (λ (h : Header). h.kind) same));
      size = after_entries-size_of s round.entries ∙ (stands.size ∙ sym (ap (λ (h : Header). h.size) same));
      state = next.state;
      cells = switched.cells;
      clients = after_entries-kept s round.entries ∙ (stands.clients ∙ sym (ap (λ (h : Header). h.clients) same));
      apart = next_apart (record_of_side c s) s round lines records next;
      kept = λ client inside. next_list (record_of_side c s) s round lines records next client (omega (arith, inside, ap (λ (h : Header). h.clients) same));
    }))
