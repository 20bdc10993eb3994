-- What operations do to a stack, a heap and a queue, one after another.
use Rattle.std.proofs.Common.{◌≡◌, ℕ, ◌+◌, ◌-◌, ◌<◌, ◌≤◌, Some, List, [], ◌∷◌, ◌++◌, length, map, replicate, take, slice_get, refl, sym, ap, ◌∙◌, arith}
use Rattle.std.proofs.lemmas.Bool.Decides.{nat_tests}
use Rattle.std.proofs.lemmas.List.{append_assoc, append-nil, length-append, length-map, length_push, take_at}
use Rattle.std.proofs.lemmas.List.Elements.{All-head, All-tail}
use Rattle.std.specs.List.{All}
use Rattle.pb_object.specs.declared.codes.Action.TheVariants.{Push, Pop, RemoveMin, QueuePut, QueueTake}
use Rattle.pb_object.specs.declared.codes.Answer.TheVariants.{Item}
use Rattle.pb_object.specs.declared.request.Op.{Op}
use Rattle.pb_object.specs.Codes.{action_of}
use Rattle.pb_object.specs.Heap.{heap_reply_by, next_rising_by, heap_reply, next_rising, rising_of}
use Rattle.pb_object.specs.Laws.{after_operations, replies_to, item_replies, PopUndoesPush, RemoveMinsRise, ItemsComeOutInOrder}
use Rattle.pb_object.specs.Object.{Items, Rising, Waits}
use Rattle.pb_object.specs.Queue.{Waiting, last_position, tail_of, queue_reply_by, next_waiting_by, queue_reply, next_waiting}
use Rattle.pb_object.specs.Request.{reply}
use Rattle.pb_object.specs.Stack.{item_reply, top_item, stack_reply_by, next_items_by, stack_reply, next_items}
use Rattle.pb_object.proofs.RisingLemmas.{length-rising_of, Rises-rising_of, IsNonDecreasing-from_rises, IsPermutation-rising_of}

-- ---- a stack

push-next : (size : ℕ) (items : List ℕ) (op : Op) → action_of op.code ≡ Some Push → length items < size → next_items size items op ≡ items ++ op.a ∷ []
push-next size items op is room = ap (λ action. next_items_by action size items op) is ∙ grind (arith, nat_tests)

slice_get-push : (items : List ℕ) (item : ℕ) → slice_get (items ++ item ∷ []) (length items) ≡ Some item
slice_get-push [] item = refl
slice_get-push (first ∷ items) item = slice_get-push items item

last_place-push : (items : List ℕ) (item : ℕ) → length (items ++ item ∷ []) - 1 ≡ length items
last_place-push items item = omega (arith, length_push items item)

top_item-push : (items : List ℕ) (item : ℕ) → top_item (items ++ item ∷ []) ≡ Some item
top_item-push items item = ap (slice_get (items ++ item ∷ [])) (last_place-push items item) ∙ slice_get-push items item

pub PopUndoesPush-from_actions : (size : ℕ) (items : List ℕ) (push pop : Op) → action_of push.code ≡ Some Push → action_of pop.code ≡ Some Pop → length items < size → PopUndoesPush size items push pop
PopUndoesPush-from_actions size items push pop is_push is_pop room =
    let pushed = push-next size items push is_push room in
    let more : List ℕ = items ++ push.a ∷ [] in
    record {
      gives = ap (λ after. stack_reply size after pop) pushed ∙ ap (λ action. stack_reply_by action size more pop) is_pop ∙ ap item_reply (top_item-push items push.a);
      leaves = ap (λ after. Items size (next_items size after pop)) pushed
          ∙ ap (λ action. Items size (next_items_by action size more pop)) is_pop
          ∙ ap (λ last. Items size (take last more)) (last_place-push items push.a)
          ∙ ap (Items size) (take_at items (push.a ∷ []) (length items) refl);
    }

-- ---- a heap

removemin-reply : (size item : ℕ) (items : List ℕ) (op : Op) → action_of op.code ≡ Some RemoveMin → heap_reply size (item ∷ items) op ≡ reply Item item 0
removemin-reply size item items op is = ap (λ action. heap_reply_by action size (item ∷ items) op) is

removemin-next : (size item : ℕ) (items : List ℕ) (op : Op) → action_of op.code ≡ Some RemoveMin → next_rising size (item ∷ items) op ≡ items
removemin-next size item items op is = ap (λ action. next_rising_by action size (item ∷ items) op) is

removemins-replies : (size : ℕ) (items : List ℕ) (op : Op) → action_of op.code ≡ Some RemoveMin → replies_to (Rising size items) (replicate (length items) op) ≡ map (λ item. reply Item item 0) items
removemins-replies size [] op is = refl
removemins-replies size (item ∷ items) op is =
    let first = removemin-reply size item items op is in
    let next = removemin-next size item items op is in
    rw (first, next) (ap (λ replies. reply Item item 0 ∷ replies) (removemins-replies size items op is))

removemins-after : (size : ℕ) (items : List ℕ) (op : Op) → action_of op.code ≡ Some RemoveMin → after_operations (Rising size items) (replicate (length items) op) ≡ Rising size []
removemins-after size [] op is = refl
removemins-after size (item ∷ items) op is =
    ap (λ rising. after_operations (Rising size rising) (replicate (length items) op)) (removemin-next size item items op is)
    ∙ removemins-after size items op is

pub RemoveMinsRise-from_action : (size : ℕ) (items : List ℕ) (op : Op) → action_of op.code ≡ Some RemoveMin → RemoveMinsRise size items op
RemoveMinsRise-from_action size items op is = record {
  give = ap (λ count. replies_to (Rising size (rising_of items)) (replicate count op)) (sym (length-rising_of items)) ∙ removemins-replies size (rising_of items) op is;
  leave = ap (λ count. after_operations (Rising size (rising_of items)) (replicate count op)) (sym (length-rising_of items)) ∙ removemins-after size (rising_of items) op is;
  rising = IsNonDecreasing-from_rises (rising_of items) (Rises-rising_of items);
  same = IsPermutation-rising_of items;
}

-- ---- a queue

put-next : (size : ℕ) (queue : Waiting) (op : Op) → action_of op.code ≡ Some QueuePut → length queue.items < size → tail_of queue < last_position → next_waiting size queue op ≡ record queue { items = queue.items ++ op.a ∷ [] }
put-next size queue op is room position =
    ap (λ action. next_waiting_by action size queue op) is ∙ grind (arith, nat_tests)

puts-after : (size : ℕ) (queue : Waiting) (puts : List Op) → All (λ (put : Op). action_of put.code ≡ Some QueuePut) puts → length queue.items + length puts ≤ size → tail_of queue + length puts ≤ last_position → after_operations (Waits size queue) puts ≡ Waits size (record queue { items = queue.items ++ map (λ (put : Op). put.a) puts })
puts-after size queue [] are room position = ap (λ items. Waits size (record queue { items = items })) (sym (append-nil queue.items))
puts-after size queue (put ∷ puts) are room position =
    let Q : Op → Type 0 = λ (put : Op). action_of put.code ≡ Some QueuePut in
    let next = put-next size queue put (All-head Q put puts are) (omega arith) (omega arith) in
    let longer = length_push queue.items put.a in
    ap (λ state. after_operations (Waits size state) puts) next
    ∙ puts-after size (record queue { items = queue.items ++ put.a ∷ [] }) puts (All-tail Q put puts are) (omega arith) (omega arith)
    ∙ ap (λ items. Waits size (record queue { items = items })) (append_assoc queue.items (put.a ∷ []) (map (λ (op : Op). op.a) puts))

takes-replies : (size taken : ℕ) (items : List ℕ) (op : Op) → action_of op.code ≡ Some QueueTake → replies_to (Waits size (record { taken = taken; items = items })) (replicate (length items) op) ≡ item_replies taken items
takes-replies size taken [] op is = refl
takes-replies size taken (item ∷ items) op is =
    let queue : Waiting = record { taken = taken; items = item ∷ items } in
    let first : queue_reply size queue op ≡ reply Item item taken = ap (λ action. queue_reply_by action size queue op) is in
    let next : next_waiting size queue op ≡ record { taken = taken + 1; items = items } = ap (λ action. next_waiting_by action size queue op) is in
    rw (first, next) (ap (λ replies. reply Item item taken ∷ replies) (takes-replies size (taken + 1) items op is))

pub ItemsComeOutInOrder-from_actions : (size : ℕ) (queue : Waiting) (puts : List Op) (take : Op) → All (λ (put : Op). action_of put.code ≡ Some QueuePut) puts → action_of take.code ≡ Some QueueTake → length queue.items + length puts ≤ size → tail_of queue + length puts ≤ last_position → ItemsComeOutInOrder size queue puts take
ItemsComeOutInOrder-from_actions size queue puts take are is room position =
    let items : List ℕ = queue.items ++ map (λ (put : Op). put.a) puts in
    let count : length queue.items + length puts ≡ length items = omega (arith, length-append queue.items (map (λ (put : Op). put.a) puts), length-map puts (λ (put : Op). put.a)) in
    ap (λ state. replies_to state (replicate (length queue.items + length puts) take)) (puts-after size queue puts are room position)
    ∙ ap (λ n. replies_to (Waits size (record queue { items = items })) (replicate n take)) count
    ∙ takes-replies size queue.taken items take is
