-- What a round leaves of a queue: items that still wait keep their positions, and so their cells.
use Rattle.std.proofs.Common.{◌≡◌, ℕ, suc, ◌+◌, ◌-◌, ◌<◌, ◌≤◌, Bool, true, false, Option, Some, List, [], ◌∷◌, ◌++◌, length, slice_index, if◌then◌else◌, sym, ap, ◌∙◌, inl, inr, arith, length-append}
use Rattle.std.proofs.Math.ListN.{get_or-append}
use Rattle.std.proofs.lemmas.Bool.{cases_lt}
use Rattle.pb_pmem.specs.declared.line.Line.{Line}
use Rattle.pb_pmem.specs.Lines.{line_at}
use Rattle.pb_object.specs.declared.codes.Action.{Action}
use Rattle.pb_object.specs.declared.codes.Action.TheVariants.{QueuePut, QueueTake}
use Rattle.pb_object.specs.declared.request.Op.{Op}
use Rattle.pb_object.specs.Codes.{action_of}
use Rattle.pb_object.specs.History.{Entry, after_entry, after_entries}
use Rattle.pb_object.specs.Object.{State, Registers, Items, Rising, Waits, next_state}
use Rattle.pb_object.specs.Queue.{Waiting, tail_of, after_take, after_put, next_waiting_by}
use Rattle.pb_object.specs.Standing.{Standing}
use Rattle.pb_layout.specs.declared.header.Header.{Header}
use Rattle.pb_layout.specs.Cell.{cell_line_of}
use Rattle.pb_layout.specs.Region.{cell_place}
use Rattle.pb_layout.specs.Represents.{CellsRepresent}
use Rattle.pb_layout.specs.NextRecord.{next_position, AddedCellsRepresent}

-- a queue later on: what was taken stays taken, what was put stays put, and an item that still waits is the one of its position
pub record IsLater (before after : Waiting) : Type 0 where
  pub taken : before.taken ≤ after.taken
  pub tail : tail_of before ≤ tail_of after
  pub items : (old place : ℕ) → old < length before.items → place < length after.items → before.taken + old ≡ after.taken + place → slice_index after.items place ≡ slice_index before.items old

later_same : (queue : Waiting) → IsLater queue queue
later_same queue = record {
  taken = omega arith;
  tail = omega arith;
  items = λ old place before after here. ap (λ (n : ℕ). slice_index queue.items n) (omega arith);
}

later_more : (first second third : Waiting) → IsLater first second → IsLater second third → IsLater first third
later_more first second third left right = record {
  taken = omega (arith, left.taken, right.taken);
  tail = omega (arith, left.tail, right.tail);
  items = λ old place before after here.
      let middle = first.taken + old - second.taken in
      let low : second.taken ≤ first.taken + old = omega (arith, right.taken) in
      let inside : middle < length second.items = omega (arith, left.tail) in
      right.items middle place inside after (omega arith) ∙ left.items old middle before inside (omega arith);
}

later_take : (taken : ℕ) (items : List ℕ) → IsLater (record { taken = taken; items = items }) (after_take taken items)
later_take taken [] = later_same (record { taken = taken; items = [] })
later_take taken (item ∷ items) = record {
  taken = omega arith;
  tail = omega arith;
  items = λ old place before after here.
      let next : old ≡ suc place = omega arith in
      sym (ap (λ (n : ℕ). slice_index (item ∷ items) n) next);
}

later_appended : (queue : Waiting) (item : ℕ) → IsLater queue (record queue { items = queue.items ++ item ∷ [] })
later_appended queue item = record {
  taken = omega arith;
  tail = omega (arith, length-append queue.items (item ∷ []));
  items = λ old place before after here.
      let same : place ≡ old = omega arith in
      ap (λ (n : ℕ). slice_index (queue.items ++ item ∷ []) n) same ∙ get_or-append queue.items (item ∷ []) 0 old before;
}

later_either : (test : Bool) (queue yes_queue no_queue : Waiting) → IsLater queue yes_queue → IsLater queue no_queue → IsLater queue (if test then yes_queue else no_queue)
later_either true queue yes_queue no_queue left right = left
later_either false queue yes_queue no_queue left right = right

later_put : (size : ℕ) (queue : Waiting) (item : ℕ) → IsLater queue (after_put size queue item)
later_put size queue item =
    later_either _ queue _ queue (later_either _ queue (record queue { items = queue.items ++ item ∷ [] }) queue (later_appended queue item) (later_same queue)) (later_same queue)

later_by : (action : Option Action) (size : ℕ) (queue : Waiting) (op : Op) → IsLater queue (next_waiting_by action size queue op)
later_by (Some QueuePut) size queue op = later_put size queue op.a
later_by (Some QueueTake) size queue op = later_take queue.taken queue.items
later_by _ size queue op = later_same queue

-- the same of states
abbrev pub HasLater : Waiting → State → Type 0
HasLater before (Waits size after) = IsLater before after
HasLater before _ = ⊥

abbrev pub IsStateLater : State → State → Type 0
IsStateLater (Waits size before) after = HasLater before after
IsStateLater _ after = Unit {0}

state_same : (state : State) → IsStateLater state state
state_same (Registers registers) = tt
state_same (Items size items) = tt
state_same (Rising size items) = tt
state_same (Waits size queue) = later_same queue

state_more : (first second third : State) → IsStateLater first second → IsStateLater second third → IsStateLater first third
state_more (Registers registers) second third left right = tt
state_more (Items size items) second third left right = tt
state_more (Rising size items) second third left right = tt
state_more (Waits size first) (Waits other second) (Waits another third) left right = later_more first second third left right
state_more (Waits size first) (Waits other second) (Registers registers) left right = right
state_more (Waits size first) (Waits other second) (Items another items) left right = right
state_more (Waits size first) (Waits other second) (Rising another items) left right = right
state_more (Waits size first) (Registers registers) third left right = absurd left
state_more (Waits size first) (Items other items) third left right = absurd left
state_more (Waits size first) (Rising other items) third left right = absurd left

state_next : (state : State) (op : Op) → IsStateLater state (next_state state op)
state_next (Registers registers) op = tt
state_next (Items size items) op = tt
state_next (Rising size items) op = tt
state_next (Waits size queue) op = later_by (action_of op.code) size queue op

-- entries leave the items that still wait at their positions
pub after_entries-later : (s : Standing) (entries : List Entry) → IsStateLater s.state (after_entries s entries).state
after_entries-later s [] = state_same s.state
after_entries-later s (entry ∷ entries) =
    state_more s.state (next_state s.state entry.op) (after_entries s (entry ∷ entries)).state (state_next s.state entry.op) (after_entries-later (after_entry s entry) entries)

-- so an image has the cells of a later state where it has those of the state before and those that were added
pub cells_later : (image : List Line) (head : Header) (before after : State) → IsStateLater before after → CellsRepresent image head before → AddedCellsRepresent image head (next_position before) after → CellsRepresent image head after
cells_later image head before (Registers registers) later old added = tt
cells_later image head before (Items size items) later old added = tt
cells_later image head before (Rising size items) later old added = tt
cells_later image head (Registers registers) (Waits size after) later old added = λ place inside. added place inside (omega arith)
cells_later image head (Items other items) (Waits size after) later old added = λ place inside. added place inside (omega arith)
cells_later image head (Rising other items) (Waits size after) later old added = λ place inside. added place inside (omega arith)
cells_later image head (Waits other before) (Waits size after) later old added = λ place inside. elim (cases_lt (after.taken + place) (tail_of before)) [
  | inr new ↦ added place inside new
  | inl kept ↦ was place inside kept
]
  where
    was : (place : ℕ) → place < length after.items → after.taken + place < tail_of before → line_at image (cell_place head (after.taken + place)) ≡ cell_line_of (after.taken + place) (slice_index after.items place)
    was place inside kept =
        let at = after.taken + place - before.taken in
        let here : before.taken + at ≡ after.taken + place = omega (arith, later.taken) in
        let waits : at < length before.items = omega arith in
        ap (λ (n : ℕ). line_at image (cell_place head n)) (sym here) ∙ (old at waits ∙ (ap (λ (n : ℕ). cell_line_of n (slice_index before.items at)) here ∙ ap (λ (n : ℕ). cell_line_of (after.taken + place) n) (sym (later.items at place waits inside here))))
