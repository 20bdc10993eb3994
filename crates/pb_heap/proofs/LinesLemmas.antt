-- Items that are read from allowed lines are in heap order.
use Rattle.std.proofs.Common.{◌≡◌, ℕ, ◌+◌, ◌-◌, ◌*◌, ◌/◌, ◌<◌, ◌≤◌, List, length, take, slice_index, refl, arith}
use Rattle.std.proofs.lemmas.List.{length-take-le}
use Rattle.pb_pmem.specs.declared.line.Line.{Line}
use Rattle.pb_object.specs.ItemLines.{item_in, IsItemLine, IsHeapPlace, WordsRepresentItems, TakesItems}
use Rattle.pb_heap.specs.Order.{parent_of, IsHeapOrdered}

ordered_from_lines : (size : ℕ) (lines : List Line) (items : List ℕ) → ((line : ℕ) → line < length lines → IsItemLine IsHeapPlace size lines line) → WordsRepresentItems lines items → length items ≤ 8 * (length lines - 1) → IsHeapOrdered items
ordered_from_lines size lines items allowed held room place some within =
    let here : slice_index items place ≡ item_in lines place = held.each place within in
    let above : slice_index items (parent_of place) ≡ item_in lines (parent_of place) = held.each (parent_of place) (omega arith) in
    let order : item_in lines (parent_of place) ≤ item_in lines place =
    ((allowed (place / 8 + 1) (omega arith)).places place refl).ordered some (omega (arith, held.count)) in
    omega (arith, here, above, order)

pub taken_is_ordered : (places : List ℕ) (len : ℕ) (lines : List Line) → length lines ≡ (length places + 7) / 8 + 1 → TakesItems IsHeapPlace places len lines → IsHeapOrdered (take len places)
taken_is_ordered places len lines count taken =
    let taken_count : length (take len places) ≡ len = length-take-le len places taken.within in
    ordered_from_lines (length places) lines (take len places) taken.allowed taken.held (omega (arith, taken.within))
