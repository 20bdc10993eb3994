-- The bounded min-heap: a rising list, of which the first item is a least one.
use Rattle.std.specs.Prelude.{ℕ, ◌+◌, List, [], ◌∷◌, Option, Some, if◌then◌else◌, nat_lt, nat_le, length, drop, slice_get}
use Rattle.pb_object.specs.declared.codes.Action.{Action}
use Rattle.pb_object.specs.declared.codes.Action.TheVariants.{Insert, RemoveMin, Min}
use Rattle.pb_object.specs.declared.codes.Answer.TheVariants.{Size, Full}
use Rattle.pb_object.specs.declared.request.Op.{Op}
use Rattle.pb_object.specs.declared.request.Reply.{Reply}
use Rattle.pb_object.specs.Codes.{action_of}
use Rattle.pb_object.specs.Request.{reply, no_reply}
use Rattle.pb_object.specs.Stack.{item_reply}

-- the rising list with one more item
abbrev pub insert_rising : ℕ → List ℕ → List ℕ
insert_rising item [] = item ∷ []
insert_rising item (first ∷ items) = if nat_le item first then item ∷ first ∷ items else first ∷ insert_rising item items

-- the items in rising order
abbrev pub rising_of : List ℕ → List ℕ
rising_of [] = []
rising_of (item ∷ items) = insert_rising item (rising_of items)

-- an insert is answered by the length now, or that there is no room
abbrev pub insert_reply : ℕ → List ℕ → Reply
insert_reply size items = if nat_lt (length items) size then reply Size (length items + 1) 0 else reply Full 0 0

-- the rising items after an insert that was answered so
abbrev pub after_insert : ℕ → List ℕ → ℕ → List ℕ
after_insert size items item = if nat_lt (length items) size then insert_rising item items else items

-- the reply of a heap to this action
abbrev pub heap_reply_by : Option Action → ℕ → List ℕ → Op → Reply
heap_reply_by (Some Insert) size items op = insert_reply size items
heap_reply_by (Some RemoveMin) size items op = item_reply (slice_get items 0)
heap_reply_by (Some Min) size items op = item_reply (slice_get items 0)
heap_reply_by _ size items op = no_reply

-- the rising items after this action: taking a least one away drops the first, and an equal second one stays
abbrev pub next_rising_by : Option Action → ℕ → List ℕ → Op → List ℕ
next_rising_by (Some Insert) size items op = after_insert size items op.a
next_rising_by (Some RemoveMin) size items op = drop 1 items
next_rising_by _ size items op = items

-- the reply of a heap to an operation
abbrev pub heap_reply : ℕ → List ℕ → Op → Reply
heap_reply size items op = heap_reply_by (action_of op.code) size items op

-- the rising items after an operation
abbrev pub next_rising : ℕ → List ℕ → Op → List ℕ
next_rising size items op = next_rising_by (action_of op.code) size items op
