-- Heap order: the children of place i are the places 2i + 1 and 2i + 2, and no item is less than its parent.
use Rattle.std.specs.Prelude.{◌≡◌, ◌≢◌, ℕ, ◌-◌, ◌/◌, ◌<◌, ◌≤◌, List, length, slice_index}

-- the parent of a place
abbrev pub parent_of : ℕ → ℕ
parent_of place = (place - 1) / 2

-- in heap order: no item is less than its parent
abbrev pub IsHeapOrdered : List ℕ → Type 0
IsHeapOrdered items = (place : ℕ) → 0 < place → place < length items → slice_index items (parent_of place) ≤ slice_index items place

-- in heap order but for one item, which may be less than its parent. Its children aren't less than that parent
pub record IsOrderedButAt (items : List ℕ) (hole : ℕ) : Type 0 where
  pub others : (place : ℕ) → 0 < place → place < length items → place ≢ hole → slice_index items (parent_of place) ≤ slice_index items place
  pub children : (place : ℕ) → 0 < place → place < length items → parent_of place ≡ hole → 0 < hole → slice_index items (parent_of hole) ≤ slice_index items place

-- in heap order but for one item, which may be greater than its children. These aren't less than its parent
pub record IsOrderedButBelow (items : List ℕ) (hole : ℕ) : Type 0 where
  pub others : (place : ℕ) → 0 < place → place < length items → parent_of place ≢ hole → slice_index items (parent_of place) ≤ slice_index items place
  pub children : (place : ℕ) → 0 < place → place < length items → parent_of place ≡ hole → 0 < hole → slice_index items (parent_of hole) ≤ slice_index items place

-- the child of a place that isn't greater than another one
pub record IsLeastChild (items : List ℕ) (place child : ℕ) : Type 0 where
  pub some : 0 < child
  pub within : child < length items
  pub parent : parent_of child ≡ place
  pub least : (other : ℕ) → 0 < other → other < length items → parent_of other ≡ place → slice_index items child ≤ slice_index items other
