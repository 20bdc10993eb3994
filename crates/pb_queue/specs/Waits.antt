-- A queue's items in a state.
use Rattle.std.specs.Prelude.{ℕ, List}
use Rattle.pb_object.specs.Object.{State, Registers, Items, Rising, Waits}
use Rattle.pb_object.specs.Queue.{Waiting, empty_queue, tail_of}

-- what waits; nothing in a state of another kind
abbrev pub waiting_of : State → Waiting
waiting_of (Registers registers) = empty_queue
waiting_of (Items size items) = empty_queue
waiting_of (Rising size items) = empty_queue
waiting_of (Waits size queue) = queue

-- the position of the first item that waits
abbrev pub taken_in_state : State → ℕ
taken_in_state state = (waiting_of state).taken

-- the position of the next item that is put
abbrev pub tail_in : State → ℕ
tail_in state = tail_of (waiting_of state)

-- the items that wait, from the head to the tail
abbrev pub items_in : State → List ℕ
items_in state = (waiting_of state).items
