-- What the objects promise in their own words.
use Rattle.std.specs.Prelude.{◌≡◌, ◌≢◌, ℕ, ◌+◌, ◌<◌, ◌≤◌, ◌==◌, List, [], ◌∷◌, ◌++◌, length, map, replicate, take, if◌then◌else◌}
use Rattle.std.specs.List.Sorted.{IsNonDecreasing, IsPermutation}
use Rattle.pb_object.specs.declared.codes.Answer.TheVariants.{Item}
use Rattle.pb_object.specs.declared.request.Kept.{Kept}
use Rattle.pb_object.specs.declared.request.Op.{Op}
use Rattle.pb_object.specs.declared.request.Reply.{Reply}
use Rattle.pb_object.specs.declared.request.TheConstants.{KEPT_REQUESTS}
use Rattle.pb_object.specs.Heap.{rising_of}
use Rattle.pb_object.specs.History.{Entry, History, kept_by, state_after}
use Rattle.pb_object.specs.Map.{Register, last_version, register_at, next_registers}
use Rattle.pb_object.specs.Object.{State, Items, Rising, Waits, next_state, reply_of}
use Rattle.pb_object.specs.Queue.{Waiting}
use Rattle.pb_object.specs.Request.{reply}
use Rattle.pb_object.specs.Standing.{Standing, kept_list_of}

-- the state after operations, one after another
abbrev pub after_operations : State → List Op → State
after_operations state [] = state
after_operations state (op ∷ ops) = after_operations (next_state state op) ops

-- the replies to operations, one after another
abbrev pub replies_to : State → List Op → List Reply
replies_to state [] = []
replies_to state (op ∷ ops) = reply_of state op ∷ replies_to (next_state state op) ops

-- a put gives its register the value and the next version, and changes no other
pub record PutChangesItsRegister (registers : List Register) (put : Op) : Type 0 where
  pub its : put.a < length registers → (register_at registers put.a).version < last_version →
      register_at (next_registers registers put) put.a ≡ record { value = put.b; version = (register_at registers put.a).version + 1 }
  pub others : (key : ℕ) → key ≢ put.a → register_at (next_registers registers put) key ≡ register_at registers key
  pub count : length (next_registers registers put) ≡ length registers

-- a pop after a push gives what was pushed, and leaves the stack as it was before the push
pub record PopUndoesPush (size : ℕ) (items : List ℕ) (push pop : Op) : Type 0 where
  pub gives : reply_of (next_state (Items size items) push) pop ≡ reply Item push.a 0
  pub leaves : next_state (next_state (Items size items) push) pop ≡ Items size items

-- as many removemins as a heap has items give them all in rising order, equal ones as often as they were there, and leave none
pub record RemoveMinsRise (size : ℕ) (items : List ℕ) (removemin : Op) : Type 0 where
  pub give : replies_to (Rising size (rising_of items)) (replicate (length items) removemin) ≡ map (λ item. reply Item item 0) (rising_of items)
  pub leave : after_operations (Rising size (rising_of items)) (replicate (length items) removemin) ≡ Rising size []
  pub rising : IsNonDecreasing (rising_of items)
  pub same : IsPermutation items (rising_of items)

-- the replies to takes: the items, at positions that rise by one
abbrev pub item_replies : ℕ → List ℕ → List Reply
item_replies position [] = []
item_replies position (item ∷ items) = reply Item item position ∷ item_replies (position + 1) items

-- as many takes as a queue has items after some puts give the items that were in it and then those that were put, in their order
abbrev pub ItemsComeOutInOrder : ℕ → Waiting → List Op → Op → Type 0
ItemsComeOutInOrder size queue puts take =
    replies_to (after_operations (Waits size queue) puts) (replicate (length queue.items + length puts) take)
    ≡ item_replies queue.taken (queue.items ++ map (λ (put : Op). put.a) puts)

-- a client's requests in entries, the newest first, in front of those before
abbrev pub requests_in : ℕ → List Entry → List Kept → List Kept
requests_in client [] before = before
requests_in client (entry ∷ entries) before =
    requests_in client entries (if entry.client == client then kept_by entry ∷ before else before)

-- a client's requests in a history, the newest first, in front of those before
abbrev pub requests_of : ℕ → History → List Kept → List Kept
requests_of client [] before = before
requests_of client (round ∷ history) before = requests_of client history (requests_in client round.entries before)

-- after a history each client's kept requests are its last eight
abbrev pub KeepsTheLastEight : Standing → History → Type 0
KeepsTheLastEight s history =
    (client : ℕ) → client < length s.kept → length (kept_list_of s client) ≤ KEPT_REQUESTS
    → kept_list_of (state_after s history) client ≡ take KEPT_REQUESTS (requests_of client history (kept_list_of s client))
