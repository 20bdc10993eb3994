-- The records in use of a queue: their last lines count its items.
use Rattle.std.proofs.Common.{◌≡◌, ℕ, suc, ◌+◌, ◌*◌, ◌<◌, List, [], ◌∷◌, ◌++◌, length, drop, sym, ap, ◌∙◌, subst, inl, inr, arith}
use Rattle.std.proofs.Math.Seq.{drop-cons}
use Rattle.std.proofs.lemmas.List.{drop_all}
use Rattle.pb_pmem.specs.declared.line.Line.{Line}
use Rattle.pb_pmem.specs.Lines.{line_at, zero_line}
use Rattle.pb_object.specs.declared.kind.Kind.{Kind}
use Rattle.pb_object.specs.declared.kind.Kind.TheVariants.{Queue}
use Rattle.pb_object.specs.ObjectLines.{object_line_count, IsAllowedLine, IsFirstRefused}
use Rattle.pb_object.specs.declared.request.TheConstants.{KEPT_REQUESTS}
use Rattle.pb_object.specs.Standing.{side_count}
use Rattle.pb_layout.specs.Header.{slot_count}
use Rattle.pb_layout.specs.Record.{IsFirstWithout, IsSlot}
use Rattle.pb_layout.specs.Slots.{AreClientSlots}
use Rattle.pb_layout.specs.Represents.{object_parts_by, IsApart}
use Rattle.pb_layout.specs.declared.header.Header.{Header}
use Rattle.pb_pair.specs.View.{PairView, IsPair, at_side, lines_of}
use Rattle.pb_queue.specs.Recovery.{count_lines, AreCounts, AreQueueRecords, place_of_record, IsBadRecordLine}

-- the last of some lines
pub last_line : (lines : List Line) (n : ℕ) → length lines ≡ n + 1 → drop n lines ≡ line_at lines n ∷ []
last_line lines n long =
    drop-cons lines n zero_line (omega arith) ∙ ap (λ (rest : List Line). line_at lines n ∷ rest) (drop_all (suc n) lines (omega arith))

-- a queue's record has one line after the slots
pub record_long : (pair : PairView) (side : ℕ) → pair.head.kind ≡ Queue → IsPair pair → side < 2 → length (lines_of pair side) ≡ 1 + slot_count pair.head + 1
record_long pair side queue sound below =
    (sound.sides side (omega (arith, below, ap side_count queue))).long ∙ ap (λ (k : Kind). 1 + slot_count pair.head + object_line_count k pair.head.size) queue

-- the line that counts a side's items
abbrev pub counted_in : PairView → ℕ → Line
counted_in pair side = line_at (lines_of pair side) (1 + slot_count pair.head)

pub count_lines_are : (pair : PairView) → pair.head.kind ≡ Queue → IsPair pair → count_lines pair ≡ counted_in pair 0 ∷ counted_in pair 1 ∷ []
count_lines_are pair queue sound =
    let first = last_line (lines_of pair 0) (1 + slot_count pair.head) (record_long pair 0 queue sound (omega arith)) in
    let second = last_line (lines_of pair 1) (1 + slot_count pair.head) (record_long pair 1 queue sound (omega arith)) in
    ap (λ (k : Kind). object_parts_by k pair.head (lines_of pair)) queue ∙ (λ i. first i ++ second i)

-- the slots of a client are allowed
pub client_slots : (pair : PairView) (side client : ℕ) (lines : List Line) → pair.head.kind ≡ Queue → IsPair pair → side < 2 → client < pair.head.clients → lines ≡ lines_of pair side → AreClientSlots Queue side lines client
client_slots pair side client lines queue sound below inside are =
    subst (λ (ls : List Line). AreClientSlots Queue side ls client) (sym are) (λ slot few.
    subst (λ (k : Kind). IsSlot k side (lines_of pair side) (KEPT_REQUESTS * client + slot)) queue
    ((sound.sides side (omega (arith, below, ap side_count queue))).own.slots (KEPT_REQUESTS * client + slot) (omega (arith, few, inside))))

-- What was judged of a pair's records

-- the two counts that were read of them
pub record AreJudged (pair : PairView) (head : Header) (puts takes : List Line) (first second : Line) : Type 0 where
  pub queue : pair.head.kind ≡ Queue
  pub sound : IsPair pair
  pub head_is : head ≡ pair.head
  pub puts_are : puts ≡ lines_of pair 0
  pub takes_are : takes ≡ lines_of pair 1
  pub first_is : first ≡ line_at puts (1 + slot_count head)
  pub second_is : second ≡ line_at takes (1 + slot_count head)

judged_lines : (pair : PairView) (head : Header) (puts takes : List Line) (first second : Line) → AreJudged pair head puts takes first second → first ∷ second ∷ [] ≡ count_lines pair
judged_lines pair head puts takes first second are =
    let tail : first ≡ counted_in pair 0 = are.first_is ∙ (λ i. line_at (are.puts_are i) (1 + slot_count (are.head_is i))) in
    let taken : second ≡ counted_in pair 1 = are.second_is ∙ (λ i. line_at (are.takes_are i) (1 + slot_count (are.head_is i))) in
    let both : first ∷ second ∷ [] ≡ counted_in pair 0 ∷ counted_in pair 1 ∷ [] = λ i. tail i ∷ taken i ∷ [] in
    both ∙ sym (count_lines_are pair are.queue are.sound)

judged_counts : (pair : PairView) (head : Header) (puts takes : List Line) (first second : Line) → AreJudged pair head puts takes first second → ((line : ℕ) → line < 2 → IsAllowedLine Queue head.size (first ∷ second ∷ []) line) → AreCounts pair
judged_counts pair head puts takes first second are allowed =
    subst (λ (size : ℕ). (line : ℕ) → line < length (count_lines pair) → IsAllowedLine Queue size (count_lines pair) line) (ap (λ (h : Header). h.size) are.head_is)
    (subst (λ (ls : List Line). (line : ℕ) → line < length ls → IsAllowedLine Queue head.size ls line) (judged_lines pair head puts takes first second are) allowed)

-- a count that is refused
pub bad_count_is : (pair : PairView) (head : Header) (puts takes : List Line) (first second : Line) (side begin : ℕ) → AreJudged pair head puts takes first second → begin ≡ place_of_record pair side → IsFirstRefused Queue head.size (first ∷ second ∷ []) side → IsBadRecordLine pair (begin + 1 + 8 * head.clients)
bad_count_is pair head puts takes first second side begin are at refused = inl (record {
  side = side;
  at = omega (arith, at, ap (λ (h : Header). h.clients) are.head_is);
  first = subst (λ (size : ℕ). IsFirstRefused Queue size (count_lines pair) side) (ap (λ (h : Header). h.size) are.head_is)
      (subst (λ (ls : List Line). IsFirstRefused Queue head.size ls side) (judged_lines pair head puts takes first second are) refused);
})

-- a number on both sides
pub shared_is : (pair : PairView) (head : Header) (puts takes : List Line) (first second : Line) (slot begin : ℕ) → AreJudged pair head puts takes first second → ((line : ℕ) → line < 2 → IsAllowedLine Queue head.size (first ∷ second ∷ []) line) → begin ≡ place_of_record pair 1 → IsFirstWithout (IsApart (at_side puts takes)) (8 * head.clients) slot → IsBadRecordLine pair (begin + 1 + slot)
shared_is pair head puts takes first second slot begin are allowed at shared = inr (record {
  counts = judged_counts pair head puts takes first second are allowed;
  slot = slot;
  at = ap (λ (n : ℕ). n + 1 + slot) at;
  first = subst (λ (ls : List Line). IsFirstWithout (IsApart (at_side (lines_of pair 0) ls)) (slot_count pair.head) slot) are.takes_are
      (subst (λ (ls : List Line). IsFirstWithout (IsApart (at_side ls takes)) (slot_count pair.head) slot) are.puts_are
      (subst (λ (h : Header). IsFirstWithout (IsApart (at_side puts takes)) (slot_count h) slot) are.head_is shared));
})

-- or none of these
pub good_records : (pair : PairView) (head : Header) (puts takes : List Line) (first second : Line) → AreJudged pair head puts takes first second → ((line : ℕ) → line < 2 → IsAllowedLine Queue head.size (first ∷ second ∷ []) line) → ((slot : ℕ) → slot < 8 * head.clients → IsApart (at_side puts takes) slot) → AreQueueRecords pair
good_records pair head puts takes first second are allowed apart = record {
  counts = judged_counts pair head puts takes first second are allowed;
  apart = λ queue slot inside.
      subst (λ (ls : List Line). IsApart (at_side (lines_of pair 0) ls) slot) are.takes_are
      (subst (λ (ls : List Line). IsApart (at_side ls takes) slot) are.puts_are (apart slot (omega (arith, inside, ap (λ (h : Header). h.clients) are.head_is))));
}
