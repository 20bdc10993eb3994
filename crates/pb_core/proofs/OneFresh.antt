-- A region that was just formatted is one.
use Rattle.std.proofs.Common.{◌≡◌, ℕ, zero, suc, ◌+◌, ◌-◌, ◌<◌, List, [], ◌++◌, length, take, drop, refl, sym, ap, subst, ◌∙◌, inl, inr, arith}
use Rattle.std.proofs.lemmas.Bool.{cases_lt}
use Rattle.std.proofs.lemmas.List.{ext_get_or, get_or-drop, length-drop, nil_from_length}
use Rattle.std.proofs.Math.Seq.{take-append_seam, drop-append_seam}
use Rattle.pb_pmem.specs.declared.line.Line.{Line}
use Rattle.pb_pmem.specs.Contents.{contents}
use Rattle.pb_pmem.specs.Lines.{line_at, zero_line}
use Rattle.pb_object.specs.declared.kind.Kind.{Kind}
use Rattle.pb_object.specs.declared.kind.Kind.TheVariants.{Map, Stack, Heap, Queue}
use Rattle.pb_object.specs.Heap.{rising_of}
use Rattle.pb_object.specs.ItemLines.{WordsRepresentItems}
use Rattle.pb_object.specs.Object.{start_state}
use Rattle.pb_object.specs.ObjectLines.{LinesRepresent}
use Rattle.pb_object.specs.Standing.{side_count}
use Rattle.pb_object.proofs.RisingLemmas.{length-rising_of}
use Rattle.pb_layout.specs.declared.header.Header.{Header}
use Rattle.pb_layout.specs.Exits.{IsEmptyRecord, AreEmptyRecords, records_of}
use Rattle.pb_layout.specs.Header.{slot_count}
use Rattle.pb_layout.specs.RegionOps.{format_ops}
use Rattle.pb_layout.specs.Represents.{object_part, object_parts_by}
use Rattle.pb_core.specs.Fresh.{fresh_memory, IsFreshWorld}
use Rattle.pb_core.specs.World.{NoCall, World}
use Rattle.pb_core.proofs.OneRecord.{AreSame, same_state_lines}

-- the object's lines of an empty object

no_items : (lines : List Line) (items : List ℕ) → WordsRepresentItems lines items → [] ≡ rising_of items → WordsRepresentItems lines []
no_items lines items held none =
    subst (WordsRepresentItems lines) (nil_from_length items (omega (arith, length-rising_of items, ap length none))) held

empty_lines : (kind : Kind) (size : ℕ) (xs ys : List Line) → LinesRepresent xs (start_state kind size) → LinesRepresent ys (start_state kind size) → AreSame xs ys
empty_lines Map size xs ys left right = same_state_lines xs ys (start_state Map size) left right (λ heap. absurd cc)
empty_lines Stack size xs ys left right = same_state_lines xs ys (start_state Stack size) left right (λ heap. absurd cc)
empty_lines Heap size xs ys left right =
    same_state_lines xs ys (start_state Heap size) left right (λ heap. (no_items xs left.hold.0 left.hold.1 left.hold.2, no_items ys right.hold.0 right.hold.1 right.hold.2))
empty_lines Queue size xs ys left right = same_state_lines xs ys (start_state Queue size) left right (λ heap. absurd cc)

empty_objects : (kind : Kind) (size : ℕ) (xs ys : List Line) → LinesRepresent xs (start_state kind size) → LinesRepresent ys (start_state kind size) → xs ≡ ys
empty_objects kind size xs ys left right = ext_get_or zero_line xs ys (left.count ∙ sym right.count) (empty_lines kind size xs ys left right)

-- lists with fronts of one length
cut_same : (a b c d : List Line) → length a ≡ length c → a ++ b ≡ c ++ d → (a ≡ c) × (b ≡ d)
cut_same a b c d long same = (
  sym (take-append_seam a b) ∙ (ap (λ (n : ℕ). take n (a ++ b)) long ∙ (ap (take (length c)) same ∙ take-append_seam c d)),
  sym (drop-append_seam a b) ∙ (ap (λ (n : ℕ). drop n (a ++ b)) long ∙ (ap (drop (length c)) same ∙ drop-append_seam c d)),
)

-- Records

one_empty : (head : Header) (a b : List Line) → IsEmptyRecord head a → IsEmptyRecord head b → object_part head a ≡ object_part head b → a ≡ b
one_empty head a b left right objects = ext_get_or zero_line a b (left.long ∙ sym right.long) line
  where
    line : (place : ℕ) → place < length a → line_at a place ≡ line_at b place
    line zero inside = left.round ∙ sym right.round
    line (suc place) inside = elim (cases_lt place (slot_count head)) [
      | inl slot ↦
          let at : 1 + place ≡ suc place = omega arith in
          ap (line_at a) (sym at) ∙ (left.slots place slot ∙ (sym (right.slots place slot) ∙ ap (line_at b) at))
      | inr behind ↦
          let k = place - slot_count head in
          let at : 1 + slot_count head + k ≡ suc place = omega (arith, behind) in
          ap (line_at a) (sym at) ∙ (sym (get_or-drop (1 + slot_count head) a k zero_line) ∙ (ap (λ (ls : List Line). line_at ls k) objects ∙ (get_or-drop (1 + slot_count head) b k zero_line ∙ ap (line_at b) at)))
    ]

records_one : (head : Header) (kind : Kind) → head.kind ≡ kind → (a b c d : List Line) → AreEmptyRecords head a b → AreEmptyRecords head c d → object_parts_by kind head (records_of a b) ≡ object_parts_by kind head (records_of c d) → (a ≡ c) × (b ≡ d)
records_one head Map is a b c d left right same =
    (one_empty head a c left.first_record right.first_record same, left.no_second (ap side_count is) ∙ sym (right.no_second (ap side_count is)))
records_one head Stack is a b c d left right same =
    (one_empty head a c left.first_record right.first_record same, left.no_second (ap side_count is) ∙ sym (right.no_second (ap side_count is)))
records_one head Heap is a b c d left right same =
    (one_empty head a c left.first_record right.first_record same, left.no_second (ap side_count is) ∙ sym (right.no_second (ap side_count is)))
records_one head Queue is a b c d left right same =
    let long : length (object_part head a) ≡ length (object_part head c) = omega (arith, length-drop (1 + slot_count head) a, length-drop (1 + slot_count head) c, left.first_record.long, right.first_record.long) in
    let cut = cut_same (object_part head a) (object_part head b) (object_part head c) (object_part head d) long same in
    let two : 1 < side_count head.kind = omega (arith, ap side_count is) in
    (one_empty head a c left.first_record right.first_record cut.0, one_empty head b d (left.second_record two) (right.second_record two) cut.1)

-- All of it

pub fresh_one : {head : Header} {a b : World} → IsFreshWorld head a → IsFreshWorld head b → a ≡ b
fresh_one {head} {a} {b} left right =
    left.is ∙ ((λ i. record { memory = fresh_memory head; tale = record { base = contents (zeros i) (format_ops head (records.0 i) (records.1 i)); log = [] }; progress = NoCall }) ∙ sym right.is)
  where
    zeros : left.zeros ≡ right.zeros
    zeros = ext_get_or zero_line left.zeros right.zeros (left.long ∙ sym right.long) (λ line inside. left.all_zero line ∙ sym (right.all_zero line))

    records : (left.first ≡ right.first) × (left.second ≡ right.second)
    records =
        records_one head head.kind refl left.first left.second right.first right.second left.records right.records
        (empty_objects head.kind head.size (object_parts_by head.kind head (records_of left.first left.second)) (object_parts_by head.kind head (records_of right.first right.second)) left.records.state right.records.state)
