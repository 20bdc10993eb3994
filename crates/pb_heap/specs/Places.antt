-- The places of a heap, of which the first are taken.
use Rattle.std.specs.Prelude.{ℕ, ◌≤◌, List, length, take}
use Rattle.pb_object.specs.declared.limits.TheConstants.{MOST_SIZE}
use Rattle.pb_heap.specs.Order.{IsHeapOrdered}

-- between 1 and `MOST_SIZE` places, of which so many are taken, in heap order
pub record ArePlaces (places : List ℕ) (len : ℕ) : Type 0 where
  pub least : 1 ≤ length places
  pub most : length places ≤ MOST_SIZE
  pub within : len ≤ length places
  pub ordered : IsHeapOrdered (take len places)
