-- The plain state of an object of each kind, and what an operation does to it.
use Rattle.std.specs.Prelude.{ℕ, List, [], replicate}
use Rattle.pb_object.specs.declared.kind.Kind.{Kind}
use Rattle.pb_object.specs.declared.kind.Kind.TheVariants.{Map, Stack, Heap, Queue}
use Rattle.pb_object.specs.declared.request.Op.{Op}
use Rattle.pb_object.specs.declared.request.Reply.{Reply}
use Rattle.pb_object.specs.Map.{Register, empty_register, map_reply, next_registers}
use Rattle.pb_object.specs.Stack.{stack_reply, next_items}
use Rattle.pb_object.specs.Heap.{heap_reply, next_rising}
use Rattle.pb_object.specs.Queue.{Waiting, empty_queue, queue_reply, next_waiting}

-- a map's registers; a stack's size and its items from bottom to top; a heap's size and its items, rising; a queue's size and its items
pub data State : Type 0 where
  Registers : List Register → State
  Items : ℕ → List ℕ → State
  Rising : ℕ → List ℕ → State
  Waits : ℕ → Waiting → State

-- the empty object of a kind and size
abbrev pub start_state : Kind → ℕ → State
start_state Map size = Registers (replicate size empty_register)
start_state Stack size = Items size []
start_state Heap size = Rising size []
start_state Queue size = Waits size empty_queue

-- the state after an operation
abbrev pub next_state : State → Op → State
next_state (Registers registers) op = Registers (next_registers registers op)
next_state (Items size items) op = Items size (next_items size items op)
next_state (Rising size items) op = Rising size (next_rising size items op)
next_state (Waits size queue) op = Waits size (next_waiting size queue op)

-- the object's reply to an operation
abbrev pub reply_of : State → Op → Reply
reply_of (Registers registers) op = map_reply registers op
reply_of (Items size items) op = stack_reply size items op
reply_of (Rising size items) op = heap_reply size items op
reply_of (Waits size queue) op = queue_reply size queue op
