-- The record that a round makes is one: where it is played, its lines can't be others.
use Rattle.std.proofs.Common.{◌≡◌, ◌≢◌, ◌⊎◌, ℕ, zero, suc, ◌+◌, ◌-◌, ◌*◌, ◌/◌, ◌%◌, ◌<◌, ◌≤◌, List, [], ◌∷◌, ◌++◌, length, refl, sym, ap, subst, ◌∙◌, inl, inr, arith, eqb}
use Rattle.std.specs.List.{All}
use Rattle.std.proofs.lemmas.Bool.{cases_eq, cases_lt, eq-eqb, ne_eqb, cond-true, cond-false}
use Rattle.std.proofs.Math.ListN.{get_or-append}
use Rattle.std.proofs.lemmas.List.{ext_get_or, get_or-drop, length-append, length-drop}
use Rattle.std.proofs.lemmas.List.Elements.{All-nil, All-cons, All-head, All-tail}
use Rattle.pb_pmem.specs.declared.line.Line.{Line}
use Rattle.pb_pmem.specs.Lines.{line_at, word_of, zero_line}
use Rattle.pb_object.specs.declared.kind.Kind.{Kind}
use Rattle.pb_object.specs.declared.kind.Kind.TheVariants.{Map, Stack, Heap, Queue}
use Rattle.pb_object.specs.declared.request.TheConstants.{KEPT_REQUESTS}
use Rattle.pb_object.specs.History.{Entry, Round, after_round}
use Rattle.pb_object.specs.ItemLines.{count_in, item_in, IsStackPlace, IsHeapPlace, IsItemLine, WordsRepresentItems}
use Rattle.pb_object.specs.Map.{Register}
use Rattle.pb_object.specs.MapLines.{register_in, IsMapLine, WordsRepresentRegisters}
use Rattle.pb_object.specs.Object.{State, Registers, Items, Rising, Waits}
use Rattle.pb_object.specs.ObjectLines.{kind_of, size_of, object_line_count, object_lines_of_all_sides, LinesRepresent}
use Rattle.pb_object.specs.Queue.{tail_of}
use Rattle.pb_object.specs.Standing.{Standing, side_count}
use Rattle.pb_layout.specs.declared.header.Header.{Header}
use Rattle.pb_layout.specs.Header.{record_length, slot_count, word}
use Rattle.pb_layout.specs.NextRecord.{HasEntryInFront, IsOfOther, IsNextOf}
use Rattle.pb_layout.specs.Record.{count_line_of, slot_line_at}
use Rattle.pb_layout.specs.Represents.{header_for, object_part, object_parts, object_parts_by, with_record}
use Rattle.pb_layout.proofs.Lines.{line_from_words}
use Rattle.pb_layout_laws.proofs.Rounds.{next_side}
use Rattle.pb_core.specs.Play.{ListsRising}

-- Lines with the same words

same_line : (a b : Line) → ((place : ℕ) → place < 8 → word a place ≡ word b place) → a ≡ b
same_line a b same =
    line_from_words a (word b 0) (word b 1) (word b 2) (word b 3) (word b 4) (word b 5) (word b 6) (word b 7) (same 0 (omega arith)) (same 1 (omega arith)) (same 2 (omega arith)) (same 3 (omega arith)) (same 4 (omega arith)) (same 5 (omega arith)) (same 6 (omega arith)) (same 7 (omega arith))
    ∙ sym (line_from_words b (word b 0) (word b 1) (word b 2) (word b 3) (word b 4) (word b 5) (word b 6) (word b 7) refl refl refl refl refl refl refl refl)

-- Lines of items

-- the words of an item's line, place by place
item_lines : (xs ys : List Line) (line : ℕ) → ((place : ℕ) → place / 8 + 1 ≡ suc line → item_in xs place ≡ item_in ys place) → line_at xs (suc line) ≡ line_at ys (suc line)
item_lines xs ys line same = same_line (line_at xs (suc line)) (line_at ys (suc line)) word_same
  where
    word_same : (w : ℕ) → w < 8 → word (line_at xs (suc line)) w ≡ word (line_at ys (suc line)) w
    word_same w below =
        let at : (8 * line + w) / 8 + 1 ≡ suc line = omega (arith, below) in
        let is : (8 * line + w) % 8 ≡ w = omega (arith, below) in
        (λ i. word_of xs (sym at i) (sym is i)) ∙ (same (8 * line + w) at ∙ (λ i. word_of ys (at i) (is i)))

-- lines that hold the same items, and zeros behind them
same_items : (IsPlace : List Line → ℕ → Type 0) (size : ℕ) (xs ys : List Line) (items : List ℕ) → ((lines : List Line) (place : ℕ) → IsPlace lines place → count_in lines ≤ place → item_in lines place ≡ 0) → length xs ≡ length ys → ((line : ℕ) → line < length xs → IsItemLine IsPlace size xs line) → ((line : ℕ) → line < length ys → IsItemLine IsPlace size ys line) → WordsRepresentItems xs items → WordsRepresentItems ys items
    → (line : ℕ) → line < length xs → line_at xs line ≡ line_at ys line
same_items IsPlace size xs ys items unused long left right held also zero inside = same_line (line_at xs 0) (line_at ys 0) words
  where
    words : (w : ℕ) → w < 8 → word (line_at xs 0) w ≡ word (line_at ys 0) w
    words zero below = sym held.count ∙ also.count
    words (suc w) below =
        ((left 0 inside).count refl).rest (suc w) (omega arith) below ∙ sym (((right 0 (omega (arith, inside, long))).count refl).rest (suc w) (omega arith) below)
same_items IsPlace size xs ys items unused long left right held also (suc line) inside = item_lines xs ys line same
  where
    same : (place : ℕ) → place / 8 + 1 ≡ suc line → item_in xs place ≡ item_in ys place
    same place at = elim (cases_lt place (length items)) [
      | inl taken ↦ sym (held.each place taken) ∙ also.each place taken
      | inr behind ↦
          unused xs place ((left (suc line) inside).places place at) (omega (arith, behind, held.count))
          ∙ sym (unused ys place ((right (suc line) (omega (arith, inside, long))).places place at) (omega (arith, behind, also.count)))
    ]

-- Lines of registers

same_registers : (xs ys : List Line) (registers : List Register) → length xs ≡ length ys → ((line : ℕ) → line < length xs → IsMapLine (length registers) xs line) → ((line : ℕ) → line < length ys → IsMapLine (length registers) ys line) → WordsRepresentRegisters xs registers → WordsRepresentRegisters ys registers
    → (line : ℕ) → line < length xs → line_at xs line ≡ line_at ys line
same_registers xs ys registers long left right held also line inside = same_line (line_at xs line) (line_at ys line) words
  where
    register : (key : ℕ) → key / 4 ≡ line → register_in xs key ≡ register_in ys key
    register key at = elim (cases_lt key (length registers)) [
      | inl there ↦ sym (held key there) ∙ also key there
      | inr behind ↦ (left line inside key at).unused behind ∙ sym ((right line (omega (arith, inside, long)) key at).unused behind)
    ]

    -- the two words of a register
    at_place : (place : ℕ) → place < 4 → (word (line_at xs line) (2 * place) ≡ word (line_at ys line) (2 * place)) × (word (line_at xs line) (2 * place + 1) ≡ word (line_at ys line) (2 * place + 1))
    at_place place below =
        let at : (4 * line + place) / 4 ≡ line = omega (arith, below) in
        let is : (4 * line + place) % 4 ≡ place = omega (arith, below) in
        let same = register (4 * line + place) at in (
          (λ i. word_of xs (sym at i) (2 * sym is i)) ∙ (ap (λ (r : Register). r.value) same ∙ (λ i. word_of ys (at i) (2 * is i))),
          (λ i. word_of xs (sym at i) (2 * sym is i + 1)) ∙ (ap (λ (r : Register). r.version) same ∙ (λ i. word_of ys (at i) (2 * is i + 1))),
        )

    words : (w : ℕ) → w < 8 → word (line_at xs line) w ≡ word (line_at ys line) w
    words zero below = (at_place 0 (omega arith)).0
    words (suc zero) below = (at_place 0 (omega arith)).1
    words (suc (suc zero)) below = (at_place 1 (omega arith)).0
    words (suc (suc (suc zero))) below = (at_place 1 (omega arith)).1
    words (suc (suc (suc (suc zero)))) below = (at_place 2 (omega arith)).0
    words (suc (suc (suc (suc (suc zero))))) below = (at_place 2 (omega arith)).1
    words (suc (suc (suc (suc (suc (suc zero)))))) below = (at_place 3 (omega arith)).0
    words (suc (suc (suc (suc (suc (suc (suc zero))))))) below = (at_place 3 (omega arith)).1
    words (suc (suc (suc (suc (suc (suc (suc (suc w)))))))) below = absurd (omega (arith, below))

-- Lines of a queue's counts

count_line : (lines : List Line) (line count : ℕ) → count ≡ word_of lines line 0 → ((place : ℕ) → 0 < place → place < 8 → word (line_at lines line) place ≡ 0) → line_at lines line ≡ count_line_of count
count_line lines line count first rest =
    line_from_words (line_at lines line) count 0 0 0 0 0 0 0 (sym first) (rest 1 (omega arith) (omega arith)) (rest 2 (omega arith) (omega arith)) (rest 3 (omega arith) (omega arith)) (rest 4 (omega arith) (omega arith)) (rest 5 (omega arith) (omega arith)) (rest 6 (omega arith) (omega arith)) (rest 7 (omega arith) (omega arith))

-- Of one state

abbrev pub AreSame : List Line → List Line → Type 0
AreSame xs ys = (line : ℕ) → line < length xs → line_at xs line ≡ line_at ys line

pub same_state_lines : (xs ys : List Line) (state : State) → LinesRepresent xs state → LinesRepresent ys state → (kind_of state ≡ Heap → ListsRising state xs × ListsRising state ys) → AreSame xs ys
same_state_lines xs ys (Registers registers) left right rising =
    same_registers xs ys registers (left.count ∙ sym right.count) left.allowed right.allowed left.hold right.hold
same_state_lines xs ys (Items size items) left right rising =
    same_items IsStackPlace size xs ys items (λ lines place is behind. is.unused behind) (left.count ∙ sym right.count) left.allowed right.allowed left.hold right.hold
same_state_lines xs ys (Rising size items) left right rising =
    same_items IsHeapPlace size xs ys items (λ lines place is behind. is.unused behind) (left.count ∙ sym right.count) left.allowed right.allowed (rising refl).0 (rising refl).1
same_state_lines xs ys (Waits size queue) left right rising = lines
  where
    lines : AreSame xs ys
    lines zero inside =
        count_line xs 0 (tail_of queue) left.hold.0 (left.allowed 0 inside).rest ∙ sym (count_line ys 0 (tail_of queue) right.hold.0 (right.allowed 0 (omega (arith, inside, left.count, right.count))).rest)
    lines (suc zero) inside =
        count_line xs 1 queue.taken left.hold.1 (left.allowed 1 inside).rest ∙ sym (count_line ys 1 queue.taken right.hold.1 (right.allowed 1 (omega (arith, inside, left.count, right.count))).rest)
    lines (suc (suc line)) inside = absurd (omega (arith, inside, left.count))

-- The object's lines of the side that the round is of

-- where in the object's lines of all sides they begin
abbrev part_place : Kind → ℕ → ℕ
part_place Map side = 0
part_place Stack side = 0
part_place Heap side = 0
part_place Queue side = side

own_record : (records : ℕ → List Line) (side other : ℕ) (lines : List Line) → other ≡ side → with_record records side lines other ≡ lines
own_record records side other lines same = cond-true (eqb other side) lines (records other) (eq-eqb other side same)

other_record : (records : ℕ → List Line) (side other : ℕ) (lines : List Line) → other ≢ side → with_record records side lines other ≡ records other
other_record records side other lines apart = cond-false (eqb other side) lines (records other) (ne_eqb other side apart)

part_at : (kind : Kind) (head : Header) (records : ℕ → List Line) (side : ℕ) (lines : List Line) (size : ℕ) → side < side_count kind → length (object_part head lines) ≡ object_line_count kind size → length (object_parts_by kind head (with_record records side lines)) ≡ object_lines_of_all_sides kind size
    → (place : ℕ) → place < object_line_count kind size → line_at (object_parts_by kind head (with_record records side lines)) (part_place kind side + place) ≡ line_at (object_part head lines) place
part_at Map head records side lines size here long all place inside =
    let same : 0 + place ≡ place = omega arith in
    ap (line_at (object_part head (with_record records side lines 0))) same ∙ ap (λ (ls : List Line). line_at (object_part head ls) place) (own_record records side 0 lines (omega (arith, here)))
part_at Stack head records side lines size here long all place inside =
    let same : 0 + place ≡ place = omega arith in
    ap (line_at (object_part head (with_record records side lines 0))) same ∙ ap (λ (ls : List Line). line_at (object_part head ls) place) (own_record records side 0 lines (omega (arith, here)))
part_at Heap head records side lines size here long all place inside =
    let same : 0 + place ≡ place = omega arith in
    ap (line_at (object_part head (with_record records side lines 0))) same ∙ ap (λ (ls : List Line). line_at (object_part head ls) place) (own_record records side 0 lines (omega (arith, here)))
part_at Queue head records zero lines size here long all zero inside =
    let own = ap (object_part head) (own_record records 0 0 lines refl) in
    get_or-append (object_part head (with_record records 0 lines 0)) (object_part head (with_record records 0 lines 1)) zero_line 0 (omega (arith, long, ap length own)) ∙ ap (λ (ls : List Line). line_at ls 0) own
part_at Queue head records (suc zero) lines size here long all zero inside =
    let own = ap (object_part head) (own_record records 1 1 lines refl) in
    let first = object_part head (with_record records 1 lines 0) in
    let second = object_part head (with_record records 1 lines 1) in
    let one : length first ≡ 1 = omega (arith, all, long, ap length own, length-append first second) in
    seam first second one ∙ ap (λ (ls : List Line). line_at ls 0) own
  where
    seam : (first second : List Line) → length first ≡ 1 → line_at (first ++ second) 1 ≡ line_at second 0
    seam [] second one = absurd (omega (arith, one))
    seam (x ∷ []) second one = refl
    seam (x ∷ y ∷ more) second one = absurd (omega (arith, one))
part_at Queue head records side lines size here long all (suc place) inside = absurd (omega (arith, inside))
part_at Queue head records (suc (suc side)) lines size here long all zero inside = absurd (omega (arith, here))

-- Slots

-- a client's entry in a round, or none
record HasOwn (client : ℕ) (entries : List Entry) : Type 0 where
  entry : Entry
  is : entry.client ≡ client
  each : (before lines : List Line) → All (HasEntryInFront before lines) entries → HasEntryInFront before lines entry

own_or_none : (client : ℕ) (entries : List Entry) → HasOwn client entries ⊎ All (IsOfOther client) entries
own_or_none client [] = inr (All-nil (IsOfOther client))
own_or_none client (entry ∷ entries) = elim (cases_eq entry.client client) [
  | inl same ↦ inl (record { entry = entry; is = same; each = λ before lines all. All-head (HasEntryInFront before lines) entry entries all })
  | inr apart ↦ elim (own_or_none client entries) [
    | inl own ↦ inl (record { entry = own.entry; is = own.is; each = λ before lines all. own.each before lines (All-tail (HasEntryInFront before lines) entry entries all) })
    | inr none ↦ inr (All-cons (IsOfOther client) entry entries apart none)
  ]
]

same_slot : {before xs ys : List Line} (entry : Entry) (client slot : ℕ) → HasEntryInFront before xs entry → HasEntryInFront before ys entry → entry.client ≡ client → slot < KEPT_REQUESTS → slot_line_at xs client slot ≡ slot_line_at ys client slot
same_slot {before} {xs} {ys} entry client zero left right is below =
    ap (λ (c : ℕ). slot_line_at xs c 0) (sym is) ∙ (left.newest ∙ (sym right.newest ∙ ap (λ (c : ℕ). slot_line_at ys c 0) is))
same_slot {before} {xs} {ys} entry client (suc slot) left right is below =
    ap (λ (c : ℕ). slot_line_at xs c (suc slot)) (sym is) ∙ (left.shifted slot below ∙ (sym (right.shifted slot below) ∙ ap (λ (c : ℕ). slot_line_at ys c (suc slot)) is))

-- All of it

pub one_record : (records : ℕ → List Line) (s : Standing) (round : Round) (xs ys : List Line) → kind_of (after_round s round).state ≡ s.kind → size_of (after_round s round).state ≡ s.size → IsNextOf records s round xs → IsNextOf records s round ys → ListsRising (after_round s round).state (object_part (header_for s) xs) → ListsRising (after_round s round).state (object_part (header_for s) ys) → xs ≡ ys
one_record records s round xs ys kind size left right rising also = ext_get_or zero_line xs ys (left.long ∙ sym right.long) line
  where
    state : State
    state = (after_round s round).state

    here : round.side < side_count s.kind
    here = next_side s round left.legal

    parts : List Line → List Line
    parts lines = object_parts (header_for s) (with_record records round.side lines)

    part_long : (lines : List Line) → length lines ≡ record_length (header_for s) → length (object_part (header_for s) lines) ≡ object_line_count s.kind s.size
    part_long lines long = omega (arith, length-drop (1 + slot_count (header_for s)) lines, long)

    all_long : (lines : List Line) → IsNextOf records s round lines → length (parts lines) ≡ object_lines_of_all_sides s.kind s.size
    all_long lines next = next.state.count ∙ (λ i. object_lines_of_all_sides (kind i) (size i))

    -- a heap's lines are those of its one record
    heap_lists : (lines : List Line) → kind_of state ≡ Heap → ListsRising state (object_part (header_for s) lines) → ListsRising state (parts lines)
    heap_lists lines heap lists =
        let is : s.kind ≡ Heap = sym kind ∙ heap in
        subst (λ (ls : List Line). ListsRising state ls) (sym (heap_parts s.kind is (omega (arith, here, ap side_count is)))) lists
      where
        heap_parts : (k : Kind) → k ≡ Heap → round.side < 1 → object_parts_by k (header_for s) (with_record records round.side lines) ≡ object_part (header_for s) lines
        heap_parts Map is few = absurd cc
        heap_parts Stack is few = absurd cc
        heap_parts Heap is few = ap (object_part (header_for s)) (own_record records round.side 0 lines (omega (arith, few)))
        heap_parts Queue is few = absurd cc

    same_parts : AreSame (parts xs) (parts ys)
    same_parts = same_state_lines (parts xs) (parts ys) state left.state right.state (λ heap. (heap_lists xs heap rising, heap_lists ys heap also))

    part_inside : (k : Kind) (n side : ℕ) → side < side_count k → (place : ℕ) → place < object_line_count k n → part_place k side + place < object_lines_of_all_sides k n
    part_inside Map n side few place inside = omega (arith, inside)
    part_inside Stack n side few place inside = omega (arith, inside)
    part_inside Heap n side few place inside = omega (arith, inside)
    part_inside Queue n side few place inside = omega (arith, few, inside)

    object_same : (place : ℕ) → place < object_line_count s.kind s.size → line_at (object_part (header_for s) xs) place ≡ line_at (object_part (header_for s) ys) place
    object_same place inside =
        sym (part_at s.kind (header_for s) records round.side xs s.size here (part_long xs left.long) (all_long xs left) place inside)
        ∙ (same_parts (part_place s.kind round.side + place) (omega (arith, all_long xs left, part_inside s.kind s.size round.side here place inside))
        ∙ part_at s.kind (header_for s) records round.side ys s.size here (part_long ys right.long) (all_long ys right) place inside)

    slot_same : (client slot : ℕ) → client < s.clients → slot < KEPT_REQUESTS → slot_line_at xs client slot ≡ slot_line_at ys client slot
    slot_same client slot inside below = elim (own_or_none client round.entries) [
      | inl own ↦ same_slot own.entry client slot (own.each (records round.side) xs left.entries) (own.each (records round.side) ys right.entries) own.is below
      | inr none ↦ left.others client slot inside below none ∙ sym (right.others client slot inside below none)
    ]

    line : (place : ℕ) → place < length xs → line_at xs place ≡ line_at ys place
    line zero inside = left.carries ∙ sym right.carries
    line (suc place) inside = elim (cases_lt place (slot_count (header_for s))) [
      | inl slot ↦
          let at : 1 + (8 * (place / 8) + place % 8) ≡ suc place = omega arith in
          ap (line_at xs) (sym at) ∙ (slot_same (place / 8) (place % 8) (omega (arith, slot)) (omega arith) ∙ ap (line_at ys) at)
      | inr behind ↦
          let k = place - slot_count (header_for s) in
          let at : 1 + slot_count (header_for s) + k ≡ suc place = omega (arith, behind) in
          ap (line_at xs) (sym at) ∙ (sym (get_or-drop (1 + slot_count (header_for s)) xs k zero_line) ∙ (object_same k (omega (arith, inside, behind, left.long)) ∙ (get_or-drop (1 + slot_count (header_for s)) ys k zero_line ∙ ap (line_at ys) at)))
    ]
