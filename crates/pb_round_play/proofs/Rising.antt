-- A heap's items, written to its lines again in rising order.
use Rattle.std.proofs.Common.{◌≡◌, ℕ, ◌+◌, ◌-◌, ◌/◌, ◌<◌, ◌≤◌, List, length, slice_index, get_or, ap, subst, sym, refl, ◌∙◌, arith}
use Rattle.std.specs.Prelude.{EachIndex}
use Rattle.std.specs.List.Sorted.{IsNonDecreasing, IsPermutation}
use Rattle.std.proofs.lemmas.List.{ext_get_or, get_or_past}
use Rattle.pb_pmem.specs.declared.line.Line.{Line}
use Rattle.pb_pmem.specs.Lines.{line_at}
use Rattle.pb_object.specs.Heap.{rising_of}
use Rattle.pb_object.specs.ItemLines.{count_in, item_in, HasOneWord, WordsRepresentItems}
use Rattle.pb_object.specs.Object.{Rising}
use Rattle.pb_object.specs.ObjectLines.{LinesRepresent}
use Rattle.pb_object.proofs.RisingLemmas.{Rises-rising_of, rising_of-rising, rises_from_IsNonDecreasing, IsNonDecreasing-from_rises, rising_of-IsPermutation, length-rising_of}
use Rattle.pb_round_play.specs.Items.{IsReadFrom}

-- items that were read and sorted are the rising list
pub sorted_from : (lines : List Line) (count : ℕ) (got sorted read : List ℕ) → length got ≡ count → EachIndex got (λ place. slice_index got place ≡ item_in lines place) → IsReadFrom lines count read → IsPermutation got sorted → IsNonDecreasing sorted → sorted ≡ rising_of read
sorted_from lines count got sorted read long each from same up =
    sym (rising_of-rising sorted (rises_from_IsNonDecreasing sorted up)) ∙ (rising_of-IsPermutation got sorted same ∙ ap rising_of all)
  where
    all : got ≡ read
    all = ext_get_or 0 got read (long ∙ sym from.long) (λ place inside. each place inside ∙ sym (from.each place (omega (arith, inside, long))))

-- what was written to the lines
pub record AreWritten (old new : List Line) (count : ℕ) (items : List ℕ) : Type 0 where
  pub sorted : (read : List ℕ) → IsReadFrom old count read → items ≡ rising_of read
  pub count_is : count_in new ≡ count
  pub rest : HasOneWord (line_at new 0)
  pub written : (place : ℕ) → place / 8 + 1 < length new → item_in new place ≡ slice_index items place
  pub lines : length new ≡ length old
  pub places : length items ≡ count

-- the items are the heap's
items_are : (old new : List Line) (size : ℕ) (rising items : List ℕ) → LinesRepresent old (Rising size rising) → AreWritten old new (length rising) items → items ≡ rising
items_are old new size rising items stands is =
    let held = stands.hold.1 in
    let long : length stands.hold.0 ≡ length rising = sym (length-rising_of stands.hold.0) ∙ ap length (sym stands.hold.2) in
    is.sorted stands.hold.0 (record { long = long; each = λ place inside. held.each place (omega (arith, inside, long)) }) ∙ sym stands.hold.2

held_again : (old new : List Line) (size : ℕ) (rising items : List ℕ) → LinesRepresent old (Rising size rising) → AreWritten old new (length rising) items → length rising ≤ size → WordsRepresentItems new rising
held_again old new size rising items stands is few = record {
  count = sym is.count_is;
  each = λ place inside. sym (is.written place (omega (arith, inside, few, is.lines, stands.count)) ∙ ap (λ (l : List ℕ). slice_index l place) (items_are old new size rising items stands is));
}

-- .. and the lines stand for it as before
stands_again : (old new : List Line) (size : ℕ) (rising items : List ℕ) → LinesRepresent old (Rising size rising) → AreWritten old new (length rising) items → length rising ≤ size → LinesRepresent new (Rising size rising)
stands_again old new size rising items stands is few = record {
  count = is.lines ∙ stands.count;
  allowed = λ line inside. record {
    count = λ first. record { count = omega (arith, is.count_is, few); rest = is.rest };
    places = λ place at. record {
      unused = λ after. at_place place (omega (arith, at, inside)) ∙ get_or_past rising place 0 (omega (arith, after, is.count_is));
      ordered = λ some within. subst (λ (n : ℕ). n ≤ item_in new place) (sym (at_place ((place - 1) / 2) (omega (arith, at, inside)))) (subst (λ (n : ℕ). get_or rising ((place - 1) / 2) 0 ≤ n) (sym (at_place place (omega (arith, at, inside)))) (up ((place - 1) / 2) place 0 (omega arith) (omega (arith, within, is.count_is))));
    };
  };
  hold = (rising, held_again old new size rising items stands is few, stands.hold.2 ∙ sym (rising_of-rising rising_list (Rises-rising_of stands.hold.0)) ∙ ap rising_of (sym stands.hold.2));
}
  where
    rising_list : List ℕ
    rising_list = rising_of stands.hold.0

    at_place : (place : ℕ) → place / 8 + 1 < length new → item_in new place ≡ slice_index rising place
    at_place place there = is.written place there ∙ ap (λ (l : List ℕ). slice_index l place) (items_are old new size rising items stands is)

    up : IsNonDecreasing rising
    up = subst IsNonDecreasing (sym stands.hold.2) (IsNonDecreasing-from_rises rising_list (Rises-rising_of stands.hold.0))

-- a heap has no more items than its size
pub few_items : (lines : List Line) (size : ℕ) (rising : List ℕ) → LinesRepresent lines (Rising size rising) → length rising ≤ size
few_items lines size rising stands =
    omega (arith, ap length stands.hold.2, length-rising_of stands.hold.0, stands.hold.1.count, ((stands.allowed 0 (omega (arith, stands.count))).count refl).count)

pub rises_again : (old new : List Line) (size : ℕ) (rising items : List ℕ) → LinesRepresent old (Rising size rising) → AreWritten old new (length rising) items → WordsRepresentItems new rising × LinesRepresent new (Rising size rising)
rises_again old new size rising items stands is =
    let few = few_items old size rising stands in
    (held_again old new size rising items stands is few, stands_again old new size rising items stands is few)
