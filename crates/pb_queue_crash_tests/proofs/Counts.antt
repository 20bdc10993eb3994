-- The counts of a queue, which stand in the last lines of its records.
use Rattle.std.proofs.Common.{◌≡◌, ℕ, ◌+◌, ◌<◌, ◌≤◌, List, ◌++◌, length, drop, ap, ◌∙◌, slice_index, arith}
use Rattle.std.proofs.lemmas.List.{get_or-drop, get_or_append_left, get_or-append_right, length-drop}
use Rattle.pb_pmem.specs.declared.line.Line.{Line}
use Rattle.pb_pmem.specs.Lines.{line_at, word_of, zero_line}
use Rattle.pb_layout.specs.declared.header.Header.{Header}
use Rattle.pb_layout.specs.Represents.{object_parts}
use Rattle.pb_pair.specs.declared.known.Known.TheVariants.{Sure}
use Rattle.pb_pair.specs.Cells.{tail_in, taken_by_records, IsFree}
use Rattle.pb_pair.specs.View.{PairView, lines_of}
use Rattle.pb_object.specs.declared.kind.Kind.TheVariants.{Queue}

-- the first line of two pieces, where the first piece is one line long, and the second line
pub tail_is : (puts takes : List Line) → length puts ≡ 18 → word_of (drop 17 puts ++ drop 17 takes) 0 0 ≡ word_of puts 17 0
tail_is puts takes long =
    let some : 0 < length (drop 17 puts) = omega (arith, length-drop 17 puts) in
    let line : line_at (drop 17 puts ++ drop 17 takes) 0 ≡ line_at puts 17 =
    get_or_append_left (drop 17 puts) (drop 17 takes) zero_line 0 some ∙ get_or-drop 17 puts 0 zero_line in
    ap (λ (l : Line). slice_index l.words 0) line

pub taken_is : (puts takes : List Line) → length puts ≡ 18 → word_of (drop 17 puts ++ drop 17 takes) 1 0 ≡ word_of takes 17 0
taken_is puts takes long =
    let one : length (drop 17 puts) ≡ 1 = omega (arith, length-drop 17 puts) in
    let line : line_at (drop 17 puts ++ drop 17 takes) 1 ≡ line_at takes 17 =
    get_or-append_right (drop 17 puts) (drop 17 takes) 1 1 zero_line one (omega arith) ∙ get_or-drop 17 takes 0 zero_line in
    ap (λ (l : Line). slice_index l.words 0) line

-- the header of the queue
abbrev pub queue_head : Header
queue_head = record { kind = Queue; clients = 2; size = 2 }

-- a position of the queue that its records leave free
pub free_is : (pair : PairView) (position : ℕ) → pair.head ≡ queue_head → pair.known ≡ Sure → length (lines_of pair 0) ≡ 18 → word_of (lines_of pair 0) 17 0 ≤ position → position < word_of (lines_of pair 1) 17 0 + 2 → IsFree pair position
free_is pair position head sure long after room =
    let tail : tail_in pair ≡ word_of (lines_of pair 0) 17 0 =
    ap (λ (h : Header). word_of (object_parts h (lines_of pair)) 0 0) head ∙ tail_is (lines_of pair 0) (lines_of pair 1) long in
    let taken : taken_by_records pair ≡ word_of (lines_of pair 1) 17 0 =
    ap (λ (h : Header). word_of (object_parts h (lines_of pair)) 1 0) head ∙ taken_is (lines_of pair 0) (lines_of pair 1) long in
    let size : pair.head.size ≡ 2 = ap (λ (h : Header). h.size) head in
    record {
      queue = ap (λ (h : Header). h.kind) head;
      known = sure;
      after = omega arith;
      room = omega arith;
    }
