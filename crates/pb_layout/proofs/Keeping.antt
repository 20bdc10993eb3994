-- What a legal entry leaves may be kept of its client.
use Rattle.std.proofs.Common.{◌≡◌, ℕ, ◌+◌, Option, Some, None, IsSomeAnd, Contains, List, [], ◌∷◌, length, if◌then◌else◌, Bool, true, false, nat_lt, ◌==◌, slice_get, refl, sym, ap, ◌∙◌, subst, arith}
use Rattle.pb_object.specs.declared.codes.Action.{Action}
use Rattle.pb_object.specs.declared.codes.Action.TheVariants.{Get, Put, Cas, Push, Pop, Top, Insert, RemoveMin, Min, QueuePut, QueueTake}
use Rattle.pb_object.specs.declared.codes.Answer.{Answer}
use Rattle.pb_object.specs.declared.codes.Answer.TheVariants.{Is, Was, Stale, NoKey, Worn, Depth, Full, Item, Empty, Size, At}
use Rattle.pb_object.specs.declared.kind.Kind.{Kind}
use Rattle.pb_object.specs.declared.kind.Kind.TheVariants.{Map, Stack, Heap, Queue}
use Rattle.pb_object.specs.declared.request.Op.{Op}
use Rattle.pb_object.specs.declared.request.Reply.{Reply}
use Rattle.pb_object.specs.Codes.{action_of, action_kind, action_side, answer_of, answers_of, argument_count, value_count}
use Rattle.pb_object.specs.Heap.{heap_reply_by}
use Rattle.pb_object.specs.History.{IsOfSide, Entry, kept_by, IsLegalEntry}
use Rattle.pb_object.specs.Map.{Register, register_at, last_version, register_reply}
use Rattle.pb_object.specs.Object.{State, Registers, Items, Rising, Waits, reply_of}
use Rattle.pb_object.specs.ObjectLines.{kind_of}
use Rattle.pb_object.specs.Queue.{Waiting, tail_of, last_position, take_reply, queue_reply_by}
use Rattle.pb_object.specs.Request.{LeavesUnusedZero, IsOperation, reply, LeavesReplyZero}
use Rattle.pb_object.specs.Stack.{item_reply, top_item, stack_reply_by}
use Rattle.pb_object.specs.Standing.{Standing, side_count}
use Rattle.pb_layout.specs.ClientLine.{IsReplyTo, IsRecorded}
use Rattle.pb_object.proofs.CodeLemmas.{answer_of-code}

-- a reply that an action may have
IsReplyOf : Action → Reply → Type 0
IsReplyOf action reply = IsSomeAnd (answer_of reply.code) (λ answer. Contains (answers_of action) answer × LeavesReplyZero (value_count action answer) reply)

says : (action : Action) (answer : Answer) (value extra : ℕ) → Contains (answers_of action) answer → LeavesReplyZero (value_count action answer) (reply answer value extra) → IsReplyOf action (reply answer value extra)
unfolding IsReplyOf
says action answer value extra may zeros =
    subst (λ (o : Option Answer). IsSomeAnd o (λ a. Contains (answers_of action) a × LeavesReplyZero (value_count action a) (reply answer value extra))) (sym (answer_of-code answer)) (may, zeros)

two : (r : Reply) → LeavesReplyZero 2 r
two r = record { value = λ h. absurd (omega arith); extra = λ h. absurd (omega arith) }

one : (r : Reply) → r.extra ≡ 0 → LeavesReplyZero 1 r
one r e = record { value = λ h. absurd (omega arith); extra = λ _. e }

nothing : (r : Reply) → r.value ≡ 0 → r.extra ≡ 0 → LeavesReplyZero 0 r
nothing r v e = record { value = λ _. v; extra = λ _. e }

-- one of two replies
either : (action : Action) (b : Bool) (x y : Reply) → IsReplyOf action x → IsReplyOf action y → IsReplyOf action (if b then x else y)
either action true x y left right = left
either action false x y left right = right

of_register : (action : Action) (register : Register) (op : Op) → action_kind action ≡ Map → IsReplyOf action (register_reply (Some action) register op)
of_register Get register op map = says Get Is register.value register.version (0, omega arith, refl) (two _)
of_register Put register op map =
    either Put (nat_lt register.version last_version) _ _ (says Put Was register.value (register.version + 1) (0, omega arith, refl) (two _)) (says Put Worn 0 0 (2, omega arith, refl) (nothing _ refl refl))
of_register Cas register op map =
    either Cas (register.version == op.b) _ _
    (either Cas (nat_lt register.version last_version) _ _ (says Cas Was register.value (register.version + 1) (0, omega arith, refl) (two _)) (says Cas Worn 0 0 (3, omega arith, refl) (nothing _ refl refl)))
    (says Cas Stale register.value register.version (1, omega arith, refl) (two _))
of_register action register op map = absurd (cc)

no_key : (action : Action) → action_kind action ≡ Map → IsReplyOf action (reply NoKey 0 0)
no_key Get map = says Get NoKey 0 0 (1, omega arith, refl) (nothing _ refl refl)
no_key Put map = says Put NoKey 0 0 (1, omega arith, refl) (nothing _ refl refl)
no_key Cas map = says Cas NoKey 0 0 (2, omega arith, refl) (nothing _ refl refl)
no_key action map = absurd (cc)

an_item : (action : Action) → answers_of action ≡ Item ∷ Empty ∷ [] → action_side action ≡ 0 → (item : Option ℕ) → IsReplyOf action (item_reply item)
an_item action may side (Some item) =
    says action Item item 0 (subst (λ (xs : List Answer). Contains xs Item) (sym may) (0, omega arith, refl)) (subst (λ (n : ℕ). LeavesReplyZero (n + 1) (reply Item item 0)) (sym side) (one _ refl))
an_item action may side None =
    says action Empty 0 0 (subst (λ (xs : List Answer). Contains xs Empty) (sym may) (1, omega arith, refl)) (nothing _ refl refl)

of_stack : (action : Action) (size : ℕ) (items : List ℕ) (op : Op) → action_kind action ≡ Stack → IsReplyOf action (stack_reply_by (Some action) size items op)
of_stack Push size items op stack =
    either Push (nat_lt (length items) size) _ _ (says Push Depth (length items + 1) 0 (0, omega arith, refl) (one _ refl)) (says Push Full 0 0 (1, omega arith, refl) (nothing _ refl refl))
of_stack Pop size items op stack = an_item Pop refl refl (top_item items)
of_stack Top size items op stack = an_item Top refl refl (top_item items)
of_stack action size items op stack = absurd (cc)

of_heap : (action : Action) (size : ℕ) (items : List ℕ) (op : Op) → action_kind action ≡ Heap → IsReplyOf action (heap_reply_by (Some action) size items op)
of_heap Insert size items op heap =
    either Insert (nat_lt (length items) size) _ _ (says Insert Size (length items + 1) 0 (0, omega arith, refl) (one _ refl)) (says Insert Full 0 0 (1, omega arith, refl) (nothing _ refl refl))
of_heap RemoveMin size items op heap = an_item RemoveMin refl refl (slice_get items 0)
of_heap Min size items op heap = an_item Min refl refl (slice_get items 0)
of_heap action size items op heap = absurd (cc)

of_take : (taken : ℕ) (items : List ℕ) → IsReplyOf QueueTake (take_reply taken items)
of_take taken [] = says QueueTake Empty 0 0 (1, omega arith, refl) (nothing _ refl refl)
of_take taken (item ∷ items) = says QueueTake Item item taken (0, omega arith, refl) (two _)

of_queue : (action : Action) (size : ℕ) (queue : Waiting) (op : Op) → action_kind action ≡ Queue → IsReplyOf action (queue_reply_by (Some action) size queue op)
of_queue QueuePut size queue op kind =
    either QueuePut (nat_lt (length queue.items) size) _ _
    (either QueuePut (nat_lt (tail_of queue) last_position) _ _ (says QueuePut At (tail_of queue) 0 (0, omega arith, refl) (one _ refl)) (says QueuePut Worn 0 0 (2, omega arith, refl) (nothing _ refl refl)))
    (says QueuePut Full 0 0 (1, omega arith, refl) (nothing _ refl refl))
of_queue QueueTake size queue op kind = of_take queue.taken queue.items
of_queue action size queue op kind = absurd (cc)

-- an object answers its operations as they may be answered
reply_may : (state : State) (action : Action) (op : Op) → action_of op.code ≡ Some action → action_kind action ≡ kind_of state → IsReplyOf action (reply_of state op)
reply_may (Registers registers) action op coded kind =
    either action (nat_lt op.a (length registers)) _ _ (subst (λ (o : Option Action). IsReplyOf action (register_reply o (register_at registers op.a) op)) (sym coded) (of_register action (register_at registers op.a) op kind)) (no_key action kind)
reply_may (Items size items) action op coded kind =
    subst (λ (o : Option Action). IsReplyOf action (stack_reply_by o size items op)) (sym coded) (of_stack action size items op kind)
reply_may (Rising size items) action op coded kind =
    subst (λ (o : Option Action). IsReplyOf action (heap_reply_by o size items op)) (sym coded) (of_heap action size items op kind)
reply_may (Waits size queue) action op coded kind =
    subst (λ (o : Option Action). IsReplyOf action (queue_reply_by o size queue op)) (sym coded) (of_queue action size queue op kind)

reply_by : (o : Option Action) (state : State) (op : Op) → action_of op.code ≡ o → IsSomeAnd o (λ action. (action_kind action ≡ kind_of state) × LeavesUnusedZero (argument_count action) op) → IsSomeAnd o (λ action. IsReplyOf action (reply_of state op))
reply_by None state op coded operation = operation
reply_by (Some action) state op coded operation = reply_may state action op coded operation.0

pub reply_to : (state : State) (op : Op) → IsOperation (kind_of state) op → IsReplyTo op (reply_of state op)
unfolding IsReplyOf
reply_to state op operation = reply_by (action_of op.code) state op refl operation

-- the operations of an object with one side are on side 0
side_zero : (action : Action) → side_count (action_kind action) ≡ 1 → action_side action ≡ 0
side_zero QueueTake single = absurd (omega arith)
side_zero action single = refl

side_by : (o : Option Action) (kind : Kind) (op : Op) → side_count kind ≡ 1 → IsSomeAnd o (λ action. (action_kind action ≡ kind) × LeavesUnusedZero (argument_count action) op) → IsSomeAnd o (λ action. action_side action ≡ 0)
side_by None kind op single operation = operation
side_by (Some action) kind op single operation = side_zero action (ap side_count operation.0 ∙ single)

pub of_side_zero : (kind : Kind) (op : Op) → side_count kind ≡ 1 → IsOperation kind op → IsOfSide 0 op
of_side_zero kind op single operation = side_by (action_of op.code) kind op single operation

-- what a legal entry leaves is what may have been recorded on its side
pub recorded_by : (s : Standing) (side : ℕ) (entry : Entry) → kind_of s.state ≡ s.kind → IsLegalEntry s side entry → IsRecorded s.kind side (kept_by entry)
recorded_by s side entry kind legal = record {
  some = omega (arith, legal.number);
  few = legal.few;
  operation = legal.operation;
  of_side = legal.of_side;
  reply = subst (λ (r : Reply). IsReplyTo entry.op r) (sym legal.reply) (reply_to s.state entry.op (subst (λ (k : Kind). IsOperation k entry.op) (sym kind) legal.operation));
}
