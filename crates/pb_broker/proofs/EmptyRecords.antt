-- The records of a region in which nothing was asked yet are zeros.
use Rattle.std.proofs.Common.{◌≡◌, ℕ, zero, suc, ◌+◌, ◌-◌, ◌*◌, ◌/◌, ◌%◌, ◌<◌, ◌≤◌, true, false, cond, leb, List, [], ◌∷◌, ◌++◌, length, replicate, refl, sym, ap, subst, ◌∙◌, arith, inl, inr}
use Rattle.std.specs.Prelude.{slice_index, ◌==◌, if◌then◌else◌}
use Rattle.std.proofs.lemmas.Bool.{cases_lt}
use Rattle.std.proofs.lemmas.List.{same_lists, get_or-replicate, length-replicate, get_or_default, get_or-drop, length-drop, length-append, get_or_append_left, get_or-append_right}
use Rattle.pb_pmem.specs.declared.line.Line.{Line}
use Rattle.pb_pmem.specs.Lines.{line_at, word_of, zero_line}
use Rattle.pb_object.specs.declared.kind.Kind.{Kind}
use Rattle.pb_object.specs.declared.kind.Kind.TheVariants.{Map, Stack, Heap, Queue}
use Rattle.pb_object.specs.Heap.{insert_rising, rising_of}
use Rattle.pb_object.specs.ItemLines.{count_in, item_in, IsItemLine, IsStackPlace, IsHeapPlace}
use Rattle.pb_object.specs.Map.{Register, empty_register}
use Rattle.pb_object.specs.MapLines.{register_in}
use Rattle.pb_object.specs.Object.{start_state}
use Rattle.pb_object.specs.ObjectLines.{LinesRepresent}
use Rattle.pb_object.specs.Standing.{side_count}
use Rattle.pb_layout.specs.declared.header.Header.{Header}
use Rattle.pb_layout.specs.Exits.{IsEmptyRecord, AreEmptyRecords, records_of}
use Rattle.pb_layout.specs.Header.{record_length, slot_count}
use Rattle.pb_layout.specs.Represents.{object_part, object_parts_by}
use Rattle.pb_layout.specs.RegionOps.{format_ops}
use Rattle.pb_layout.proofs.Lines.{line_from_words}
use Rattle.pb_broker.specs.Running.{empty_record, making_ops}

-- all of these lines are zeros
abbrev AreZeros : List Line → Type 0
AreZeros lines = (line : ℕ) → line < length lines → line_at lines line ≡ zero_line

zero_words : (line : Line) → ((word : ℕ) → word < 8 → slice_index line.words word ≡ 0) → line ≡ zero_line
zero_words line zeros =
    line_from_words line 0 0 0 0 0 0 0 0 (zeros 0 (omega arith)) (zeros 1 (omega arith)) (zeros 2 (omega arith)) (zeros 3 (omega arith))
    (zeros 4 (omega arith)) (zeros 5 (omega arith)) (zeros 6 (omega arith)) (zeros 7 (omega arith))

-- Of a map

register_zeros : (lines : List Line) (line at : ℕ) → at < 4 → register_in lines (4 * line + at) ≡ empty_register → (word_of lines line (2 * at) ≡ 0) × (word_of lines line (2 * at + 1) ≡ 0)
register_zeros lines line at inside is =
    let key = 4 * line + at in
    let place : line ≡ key / 4 = omega (arith, inside) in
    let word : at ≡ key % 4 = omega (arith, inside) in (
      ap (λ (l : ℕ). word_of lines l (2 * at)) place ∙ (ap (λ (w : ℕ). word_of lines (key / 4) (2 * w)) word ∙ ap (λ (r : Register). r.value) is),
      ap (λ (l : ℕ). word_of lines l (2 * at + 1)) place ∙ (ap (λ (w : ℕ). word_of lines (key / 4) (2 * w + 1)) word ∙ ap (λ (r : Register). r.version) is),
    )

map_zeros : (size : ℕ) (lines : List Line) → LinesRepresent lines (start_state Map size) → AreZeros lines
map_zeros size lines are line inside =
    let none = λ (at : ℕ) (below : at < 4). register_zeros lines line at below (no_register (4 * line + at) (omega (arith, below))) in
    line_from_words (line_at lines line) 0 0 0 0 0 0 0 0 (none 0 (omega arith)).0 (none 0 (omega arith)).1 (none 1 (omega arith)).0 (none 1 (omega arith)).1
    (none 2 (omega arith)).0 (none 2 (omega arith)).1 (none 3 (omega arith)).0 (none 3 (omega arith)).1
  where
    no_register : (key : ℕ) → key / 4 ≡ line → register_in lines key ≡ empty_register
    no_register key at = elim (cases_lt key size) [
      | inl some ↦ sym (are.hold key (omega (arith, some, length-replicate size empty_register))) ∙ get_or-replicate size key empty_register empty_register some
      | inr past ↦ (are.allowed line inside key at).unused (omega (arith, past, length-replicate size empty_register))
    ]

-- Of a stack and of a heap

item_zeros : (IsPlace : List Line → ℕ → Type 0) (size : ℕ) (lines : List Line) → ((place : ℕ) → IsPlace lines place → item_in lines place ≡ 0) → count_in lines ≡ 0 → ((line : ℕ) → line < length lines → IsItemLine IsPlace size lines line) → AreZeros lines
item_zeros IsPlace size lines unused none allowed zero inside =
    let rest = ((allowed 0 inside).count refl).rest in
    line_from_words (line_at lines 0) 0 0 0 0 0 0 0 0 none (rest 1 (omega arith) (omega arith)) (rest 2 (omega arith) (omega arith)) (rest 3 (omega arith) (omega arith))
    (rest 4 (omega arith) (omega arith)) (rest 5 (omega arith) (omega arith)) (rest 6 (omega arith) (omega arith)) (rest 7 (omega arith) (omega arith))
item_zeros IsPlace size lines unused none allowed (suc line) inside =
    zero_words (line_at lines (suc line)) (λ word below. item_zero word below)
  where
    item_zero : (word : ℕ) → word < 8 → word_of lines (suc line) word ≡ 0
    item_zero word below =
        let place = 8 * line + word in
        let at : place / 8 + 1 ≡ suc line = omega (arith, below) in
        let within : word ≡ place % 8 = omega (arith, below) in
        ap (λ (l : ℕ). word_of lines l word) (sym at) ∙ (ap (λ (w : ℕ). word_of lines (place / 8 + 1) w) within ∙ unused place ((allowed (suc line) inside).places place at))

stack_zeros : (size : ℕ) (lines : List Line) → LinesRepresent lines (start_state Stack size) → AreZeros lines
stack_zeros size lines are =
    let none : count_in lines ≡ 0 = sym are.hold.count in
    item_zeros IsStackPlace size lines (λ place is. is.unused (omega (arith, none))) none are.allowed

insert_some : (item : ℕ) (items : List ℕ) → [] ≡ insert_rising item items → ⊥
insert_some item [] is = cc (is)
insert_some item (first ∷ items) is = elim (leb item first) as (λ less. [] ≡ cond less (item ∷ first ∷ items) (first ∷ insert_rising item items) → ⊥) [
  | true ↦ λ e. cc (e)
  | false ↦ λ e. cc (e)
] is

rising_none : (items : List ℕ) → [] ≡ rising_of items → length items ≡ 0
rising_none [] is = refl
rising_none (item ∷ items) is = absurd (insert_some item (rising_of items) is)

heap_zeros : (size : ℕ) (lines : List Line) → LinesRepresent lines (start_state Heap size) → AreZeros lines
heap_zeros size lines are =
    let none : count_in lines ≡ 0 = sym are.hold.1.count ∙ rising_none are.hold.0 are.hold.2 in
    item_zeros IsHeapPlace size lines (λ place is. is.unused (omega (arith, none))) none are.allowed

-- Of a queue

queue_zeros : (size : ℕ) (lines : List Line) → LinesRepresent lines (start_state Queue size) → AreZeros lines
queue_zeros size lines are line inside =
    let rest = (are.allowed line inside).rest in
    line_from_words (line_at lines line) 0 0 0 0 0 0 0 0 (first line (omega (arith, inside, are.count))) (rest 1 (omega arith) (omega arith)) (rest 2 (omega arith) (omega arith)) (rest 3 (omega arith) (omega arith))
    (rest 4 (omega arith) (omega arith)) (rest 5 (omega arith) (omega arith)) (rest 6 (omega arith) (omega arith)) (rest 7 (omega arith) (omega arith))
  where
    first : (line : ℕ) → line < 2 → word_of lines line 0 ≡ 0
    first zero few = sym are.hold.0
    first (suc zero) few = sym are.hold.1
    first (suc (suc line)) few = absurd (omega (arith, few))

-- Of a record

record_zeros : (head : Header) (lines : List Line) → IsEmptyRecord head lines → AreZeros (object_part head lines) → lines ≡ replicate (record_length head) zero_line
record_zeros head lines empty zeros =
    same_lists lines (replicate (record_length head) zero_line) (empty.long ∙ sym (length-replicate (record_length head) zero_line))
    (λ k d inside. get_or_default lines k d zero_line inside ∙ (at k inside ∙ sym (get_or-replicate (record_length head) k zero_line d (omega (arith, inside, empty.long)))))
  where
    own : ℕ
    own = 1 + slot_count head

    part : (k : ℕ) → own ≤ k → k < length lines → line_at lines k ≡ zero_line
    part k past inside =
        let there = zeros (k - own) (omega (arith, past, inside, length-drop own lines)) in
        ap (λ (n : ℕ). line_at lines n) (omega (arith, past)) ∙ (sym (get_or-drop own lines (k - own) zero_line) ∙ there)

    front : (k : ℕ) → k < own → line_at lines k ≡ zero_line
    front zero inside = empty.round
    front (suc place) inside = ap (line_at lines) (omega arith) ∙ empty.slots place (omega (arith, inside))

    at : (k : ℕ) → k < length lines → line_at lines k ≡ zero_line
    at k inside = elim (cases_lt k own) [
      | inl early ↦ front k early
      | inr past ↦ part k past inside
    ]

-- Of a region

-- the lines of the empty records, of a region of this kind
object_is : {first second : List Line} (head : Header) (kind : Kind) → AreEmptyRecords head first second → head.kind ≡ kind → LinesRepresent (object_parts_by kind head (records_of first second)) (start_state kind head.size)
object_is {first} {second} head kind empty is = subst (λ (k : Kind). LinesRepresent (object_parts_by k head (records_of first second)) (start_state k head.size)) is empty.state

first_zeros : {first second : List Line} (head : Header) (kind : Kind) → AreEmptyRecords head first second → head.kind ≡ kind → AreZeros (object_part head first)
first_zeros {first} {second} head Map empty is = map_zeros head.size (object_part head first) (object_is head Map empty is)
first_zeros {first} {second} head Stack empty is = stack_zeros head.size (object_part head first) (object_is head Stack empty is)
first_zeros {first} {second} head Heap empty is = heap_zeros head.size (object_part head first) (object_is head Heap empty is)
first_zeros {first} {second} head Queue empty is =
    let a = object_part head first in
    let b = object_part head second in
    λ line inside. sym (get_or_append_left a b zero_line line inside) ∙ queue_zeros head.size (a ++ b) (object_is head Queue empty is) line (omega (arith, inside, length-append a b))

second_zeros : {first second : List Line} (head : Header) → AreEmptyRecords head first second → head.kind ≡ Queue → AreZeros (object_part head second)
second_zeros {first} {second} head empty is line inside =
    let a = object_part head first in
    let b = object_part head second in
    let there = queue_zeros head.size (a ++ b) (object_is head Queue empty is) (length a + line) (omega (arith, inside, length-append a b)) in
    ap (line_at b) (omega arith) ∙ (sym (get_or-append_right a b (length a) (length a + line) zero_line refl (omega arith)) ∙ there)

second_is : {first second : List Line} (head : Header) (kind : Kind) → AreEmptyRecords head first second → head.kind ≡ kind → second ≡ (if side_count kind == 2 then empty_record head else [])
second_is head Map empty is = empty.no_second (ap side_count is)
second_is head Stack empty is = empty.no_second (ap side_count is)
second_is head Heap empty is = empty.no_second (ap side_count is)
second_is {first} {second} head Queue empty is =
    let two : side_count head.kind ≡ 2 = ap side_count is in
    record_zeros head second (empty.second_record (omega (arith, two))) (second_zeros head empty is)

pub made_by : {first second : List Line} (head : Header) → AreEmptyRecords head first second → format_ops head first second ≡ making_ops head
made_by {first} {second} head empty =
    ap (λ (lines : List Line). format_ops head lines second) (record_zeros head first empty.first_record (first_zeros head head.kind empty refl))
    ∙ ap (λ (lines : List Line). format_ops head (empty_record head) lines) (second_is head head.kind empty refl)
