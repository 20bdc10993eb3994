-- The bounded queue: how many items were ever taken, and those still in it, from the head to the tail.
use Rattle.std.specs.Prelude.{ℕ, ◌+◌, List, [], ◌∷◌, ◌++◌, Option, Some, if◌then◌else◌, nat_lt, length}
use Rattle.pb_object.specs.declared.codes.Action.{Action}
use Rattle.pb_object.specs.declared.codes.Action.TheVariants.{QueuePut, QueueTake}
use Rattle.pb_object.specs.declared.codes.Answer.TheVariants.{Full, Worn, At, Item, Empty}
use Rattle.pb_object.specs.declared.request.Op.{Op}
use Rattle.pb_object.specs.declared.request.Reply.{Reply}
use Rattle.pb_object.specs.Codes.{action_of}
use Rattle.pb_object.specs.Request.{reply, no_reply}

-- the last position that a queue can reach: 2^62
abbrev pub last_position : ℕ
last_position = 4611686018427387904

-- a queue: the items taken from it so far are counted, those waiting are listed
pub record Waiting : Type 0 where
  pub taken : ℕ
  pub items : List ℕ

-- nothing was put yet
abbrev pub empty_queue : Waiting
empty_queue = record { taken = 0; items = [] }

-- how many items were ever put
abbrev pub tail_of : Waiting → ℕ
tail_of queue = queue.taken + length queue.items

-- the reply to a take: the first item with its position, or that there is none
abbrev pub take_reply : ℕ → List ℕ → Reply
take_reply taken [] = reply Empty 0 0
take_reply taken (item ∷ items) = reply Item item taken

-- a put is answered by its position, or that there is no room, or that the queue is worn
abbrev pub put_reply : ℕ → Waiting → Reply
put_reply size queue =
    if nat_lt (length queue.items) size
    then (if nat_lt (tail_of queue) last_position then reply At (tail_of queue) 0 else reply Worn 0 0)
    else reply Full 0 0

-- the reply of a queue to this action
abbrev pub queue_reply_by : Option Action → ℕ → Waiting → Op → Reply
queue_reply_by (Some QueuePut) size queue op = put_reply size queue
queue_reply_by (Some QueueTake) size queue op = take_reply queue.taken queue.items
queue_reply_by _ size queue op = no_reply

-- the queue after a take
abbrev pub after_take : ℕ → List ℕ → Waiting
after_take taken [] = record { taken = taken; items = [] }
after_take taken (item ∷ items) = record { taken = taken + 1; items = items }

-- the queue after a put that was answered so
abbrev pub after_put : ℕ → Waiting → ℕ → Waiting
after_put size queue item =
    if nat_lt (length queue.items) size
    then (if nat_lt (tail_of queue) last_position then record queue { items = queue.items ++ item ∷ [] } else queue)
    else queue

-- the queue after this action
abbrev pub next_waiting_by : Option Action → ℕ → Waiting → Op → Waiting
next_waiting_by (Some QueuePut) size queue op = after_put size queue op.a
next_waiting_by (Some QueueTake) size queue op = after_take queue.taken queue.items
next_waiting_by _ size queue op = queue

-- the reply of a queue to an operation
abbrev pub queue_reply : ℕ → Waiting → Op → Reply
queue_reply size queue op = queue_reply_by (action_of op.code) size queue op

-- the queue after an operation
abbrev pub next_waiting : ℕ → Waiting → Op → Waiting
next_waiting size queue op = next_waiting_by (action_of op.code) size queue op
