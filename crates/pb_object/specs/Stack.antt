-- The bounded stack: a list from bottom to top.
use Rattle.std.specs.Prelude.{ℕ, ◌+◌, ◌-◌, List, [], ◌∷◌, ◌++◌, Option, Some, None, if◌then◌else◌, nat_lt, length, take, slice_get}
use Rattle.pb_object.specs.declared.codes.Action.{Action}
use Rattle.pb_object.specs.declared.codes.Action.TheVariants.{Push, Pop, Top}
use Rattle.pb_object.specs.declared.codes.Answer.TheVariants.{Depth, Full, Item, Empty}
use Rattle.pb_object.specs.declared.request.Op.{Op}
use Rattle.pb_object.specs.declared.request.Reply.{Reply}
use Rattle.pb_object.specs.Codes.{action_of}
use Rattle.pb_object.specs.Request.{reply, no_reply}

-- a bounded list: how many items there can be, and those that there are
pub record Bounded : Type 0 where
  pub size : ℕ
  pub items : List ℕ

-- the reply that gives an item, or says that there is none
abbrev pub item_reply : Option ℕ → Reply
item_reply (Some item) = reply Item item 0
item_reply None = reply Empty 0 0

-- the last item of a list
abbrev pub top_item : List ℕ → Option ℕ
top_item items = slice_get items (length items - 1)

-- a push is answered by the depth now, or that there is no room
abbrev pub push_reply : ℕ → List ℕ → Reply
push_reply size items = if nat_lt (length items) size then reply Depth (length items + 1) 0 else reply Full 0 0

-- the items after a push that was answered so
abbrev pub after_push : ℕ → List ℕ → ℕ → List ℕ
after_push size items item = if nat_lt (length items) size then items ++ item ∷ [] else items

-- the reply of a stack to this action
abbrev pub stack_reply_by : Option Action → ℕ → List ℕ → Op → Reply
stack_reply_by (Some Push) size items op = push_reply size items
stack_reply_by (Some Pop) size items op = item_reply (top_item items)
stack_reply_by (Some Top) size items op = item_reply (top_item items)
stack_reply_by _ size items op = no_reply

-- the items after this action
abbrev pub next_items_by : Option Action → ℕ → List ℕ → Op → List ℕ
next_items_by (Some Push) size items op = after_push size items op.a
next_items_by (Some Pop) size items op = take (length items - 1) items
next_items_by _ size items op = items

-- the reply of a stack to an operation
abbrev pub stack_reply : ℕ → List ℕ → Op → Reply
stack_reply size items op = stack_reply_by (action_of op.code) size items op

-- the items after an operation
abbrev pub next_items : ℕ → List ℕ → Op → List ℕ
next_items size items op = next_items_by (action_of op.code) size items op
