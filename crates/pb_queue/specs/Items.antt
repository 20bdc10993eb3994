-- The items of a queue in memory: a ring of places, in which positions that are a size apart share a place.
use Rattle.std.specs.Prelude.{ℕ, zero, suc, ◌+◌, ◌-◌, ◌%◌, ◌≤◌, Bool, true, false, List, [], ◌∷◌, ◌++◌, length, slice_index}
use Rattle.pb_object.specs.declared.limits.TheConstants.{MOST_SIZE}
use Rattle.pb_object.specs.Queue.{Waiting, last_position, tail_of}

-- a queue's size, what waits in it as it is known for sure, and what waits after the operations applied since
pub record ItemsView : Type 0 where
  pub size : ℕ
  pub sure : Waiting
  pub next : Waiting

-- nothing waits, and so many items were taken
abbrev pub none_waiting : ℕ → Waiting
none_waiting taken = record { taken = taken; items = [] }

-- nothing waits in a queue of a size, and nothing was applied since
abbrev pub empty_items : ℕ → ℕ → ItemsView
empty_items size taken = record { size = size; sure = none_waiting taken; next = none_waiting taken }

-- one more item waits
abbrev pub with_item : Waiting → ℕ → Waiting
with_item queue item = record queue { items = queue.items ++ item ∷ [] }

-- what was applied is known for sure, or taken back
abbrev pub settled_items : Bool → ItemsView → ItemsView
settled_items true items = record items { sure = items.next }
settled_items false items = record items { next = items.sure }

-- a queue of a size has no more items than that, and its positions end
pub record IsBounded (size : ℕ) (queue : Waiting) : Type 0 where
  pub room : length queue.items ≤ size
  pub last : tail_of queue ≤ last_position

-- Within the ring

-- the item of a position
abbrev pub item_at : List ℕ → ℕ → ℕ
item_at places position = slice_index places (position % length places)

-- so many items from a position on
unfoldable pub items_from : List ℕ → ℕ → ℕ → List ℕ
items_from places first zero = []
items_from places first (suc count) = item_at places first ∷ items_from places (suc first) count

-- what waits from the position of the first item to that of the next one that is put
abbrev pub waiting_between : List ℕ → ℕ → ℕ → Waiting
waiting_between places head tail = record { taken = head; items = items_from places head (tail - head) }

-- what a ring holds, by the positions of the first item that waits and of the next one that is put, for sure and after what was applied
abbrev pub ring_view : List ℕ → ℕ → ℕ → ℕ → ℕ → ItemsView
ring_view places head tail next_head next_tail = record {
  size = length places;
  sure = waiting_between places head tail;
  next = waiting_between places next_head next_tail;
}

-- positions that a ring of a size can hold: the items that wait for sure and those that wait after what was applied have places of their own
pub record ArePositions (size head tail next_head next_tail : ℕ) : Type 0 where
  pub least : 1 ≤ size
  pub most : size ≤ MOST_SIZE
  pub sure : head ≤ tail
  pub taken : head ≤ next_head
  pub next : next_head ≤ next_tail
  pub put : tail ≤ next_tail
  pub room : next_tail ≤ head + size
  pub last : next_tail ≤ last_position
