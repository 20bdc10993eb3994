-- Puts and takes of a queue whose items lie in the cells of the device.
use Rattle.std.proofs.Common.{◌≡◌, ℕ, suc, ◌+◌, ◌-◌, ◌<◌, ◌≤◌, List, [], ◌∷◌, ◌++◌, Option, Some, IsSomeAnd, length, drop, slice_index, refl, sym, ap, subst, ◌∙◌, arith, length-append}
use Rattle.std.proofs.Math.ListN.{get_or-append}
use Rattle.std.proofs.lemmas.List.{append-nil, append_assoc, drop-append-le, length-drop, drop_all}
use Rattle.pb_pmem.specs.declared.line.Line.{Line}
use Rattle.pb_pmem.specs.declared.line.TheConstants.{LINES}
use Rattle.pb_pmem.specs.declared.log.LogOp.{LogOp}
use Rattle.pb_pmem.specs.Lines.{line_at}
use Rattle.pb_object.specs.declared.codes.Answer.TheVariants.{Full, Worn, At, Item, Empty}
use Rattle.pb_object.specs.declared.request.Reply.{Reply}
use Rattle.pb_object.specs.Queue.{Waiting, last_position, tail_of, put_reply, after_put, take_reply, after_take, queue_reply, queue_reply_by, next_waiting, next_waiting_by}
use Rattle.pb_object.specs.declared.codes.Action.{Action}
use Rattle.pb_object.specs.declared.codes.Action.TheVariants.{QueuePut, QueueTake}
use Rattle.pb_object.specs.declared.request.Op.{Op}
use Rattle.pb_object.specs.Codes.{action_of, action_side}
use Rattle.pb_object.specs.History.{IsOfSide}
use Rattle.pb_object.specs.Request.{reply}
use Rattle.pb_layout.specs.declared.header.Header.{Header}
use Rattle.pb_layout.specs.Cell.{cell_line_of}
use Rattle.pb_layout.specs.Header.{word}
use Rattle.pb_layout.specs.Region.{cell_place}
use Rattle.pb_layout.specs.Shape.{IsHeader}
use Rattle.pb_layout_laws.proofs.Geometry.{cell_offset}
use Rattle.pb_engine.specs.Operations.{puts_from}
use Rattle.pb_layout.specs.PutCell.{put_ops}
use Rattle.pb_queue.specs.Items.{with_item}
use Rattle.pb_queue.specs.Rounds.{added_since}
use Rattle.pb_queue.proofs.PutCells.{puts_from-none, puts_from-more, puts_from-append}
use Rattle.pb_queue.proofs.RingLemmas.{put_full, put_worn, put_at}
use Rattle.pb_round_play.specs.declared.queue.Ends.{Ends}
use Rattle.pb_round_play.specs.Serving.{HoldsQueue, IsServing}

-- a cell lies within the device
pub cell_inside : (head : Header) (position : ℕ) → IsHeader head → cell_place head position < LINES
cell_inside head position valid = omega (arith, cell_offset head position valid, valid.small_size)

-- nothing was applied yet
pub serving_none : (head : Header) (lines : List Line) (side : ℕ) (start : Waiting) (ends : Ends) (plan : List LogOp) → HoldsQueue head lines ends start → IsServing head lines side start plan ends plan start
serving_none head lines side start ends plan holds = record {
  taken = holds.taken;
  tail = holds.tail;
  bounded = holds.bounded;
  moves = record { puts = λ e. refl; takes = λ other. refl };
  later = omega arith;
  cells = λ place inside old. holds.cells place inside;
  planned =
      sym (ap (λ (l : List LogOp). plan ++ l) (ap (puts_from head (tail_of start)) (drop_all (tail_of start - start.taken) start.items (omega arith)) ∙ puts_from-none head (tail_of start)) ∙ append-nil plan);
}

-- Puts

-- an item that has no room, or no position
pub full : {head : Header} {lines : List Line} {start queue : Waiting} {first plan : List LogOp} {ends : Ends} (item : ℕ) → IsServing head lines 0 start first ends plan queue → head.size ≤ ends.tail - ends.head → (reply Full 0 0 ≡ put_reply head.size queue) × IsServing head lines 0 start first ends plan (after_put head.size queue item)
full {head} {lines} {start} {queue} {first} {plan} {ends} item s no_room =
    let same = put_full head.size queue item (omega (arith, no_room, s.taken, s.tail)) in
    (sym same.1, subst (IsServing head lines 0 start first ends plan) (sym same.0) s)

pub worn : {head : Header} {lines : List Line} {start queue : Waiting} {first plan : List LogOp} {ends : Ends} (item : ℕ) → IsServing head lines 0 start first ends plan queue → ends.tail - ends.head < head.size → last_position ≤ ends.tail → (reply Worn 0 0 ≡ put_reply head.size queue) × IsServing head lines 0 start first ends plan (after_put head.size queue item)
worn {head} {lines} {start} {queue} {first} {plan} {ends} item s room last =
    let same = put_worn head.size queue item (omega (arith, room, s.taken, s.tail)) (omega (arith, last, s.tail)) in
    (sym same.1, subst (IsServing head lines 0 start first ends plan) (sym same.0) s)

-- one that is put, in the cell of its position
added_more : (start queue : Waiting) (item : ℕ) → tail_of start ≤ tail_of queue → added_since start (with_item queue item) ≡ added_since start queue ++ item ∷ []
added_more start queue item later = drop-append-le (tail_of start - queue.taken) queue.items (item ∷ []) (omega (arith, later))

puts_one : (head : Header) (from item : ℕ) → puts_from head from (item ∷ []) ≡ put_ops head from item
puts_one head from item =
    puts_from-more head from item [] ∙ (ap (λ (l : List LogOp). put_ops head from item ++ l) (puts_from-none head (suc from)) ∙ append-nil (put_ops head from item))

planned_more : (head : Header) (start queue : Waiting) (first plan new : List LogOp) (at item : ℕ) → queue.taken ≤ tail_of start → tail_of start ≤ tail_of queue → tail_of queue ≡ at → plan ≡ first ++ puts_from head (tail_of start) (added_since start queue) → new ≡ plan ++ put_ops head at item → new ≡ first ++ puts_from head (tail_of start) (added_since start (with_item queue item))
planned_more head start queue first plan new at item waits later tail planned added =
    let from = tail_of start in
    let before = added_since start queue in
    let place : from + length before ≡ at = omega (arith, waits, later, tail, length-drop (tail_of start - queue.taken) queue.items) in
    added
    ∙ (ap (λ (l : List LogOp). l ++ put_ops head at item) planned
    ∙ (append_assoc first (puts_from head from before) (put_ops head at item)
    ∙ ap (λ (l : List LogOp). first ++ l)
    (sym (ap (puts_from head from) (added_more start queue item later)
    ∙ (puts_from-append head from before (item ∷ [])
    ∙ ap (λ (l : List LogOp). puts_from head from before ++ l) (puts_one head (from + length before) item ∙ ap (λ (n : ℕ). put_ops head n item) place))))))

put_serving : {head : Header} {lines : List Line} {start queue : Waiting} {first plan new : List LogOp} {ends : Ends} (item : ℕ) → IsServing head lines 0 start first ends plan queue → length queue.items < head.size → tail_of queue < last_position → new ≡ plan ++ put_ops head ends.tail item → IsServing head lines 0 start first (record ends { tail = ends.tail + 1 }) new (with_item queue item)
put_serving {head} {lines} {start} {queue} {first} {plan} {new} {ends} item s room last added = record {
  taken = s.taken;
  tail = omega (arith, s.tail, length-append queue.items (item ∷ []));
  bounded = record { room = omega (arith, room, length-append queue.items (item ∷ [])); last = omega (arith, last, length-append queue.items (item ∷ [])) };
  moves = record { puts = λ e. s.moves.puts e; takes = λ other. absurd (other refl) };
  later = omega (arith, s.later, length-append queue.items (item ∷ []));
  cells = λ place inside old.
      let there : place < length queue.items = omega (arith, old, s.later) in
      s.cells place there old ∙ ap (cell_line_of (queue.taken + place)) (sym (get_or-append queue.items (item ∷ []) 0 place there));
  planned = planned_more head start queue first plan new ends.tail item (omega (arith, s.moves.puts refl)) s.later s.tail s.planned added;
}

pub put : {head : Header} {lines : List Line} {start queue : Waiting} {first plan new : List LogOp} {ends : Ends} (item : ℕ) → IsServing head lines 0 start first ends plan queue → ends.tail - ends.head < head.size → ends.tail < last_position → new ≡ plan ++ put_ops head ends.tail item → (reply At ends.tail 0 ≡ put_reply head.size queue) × IsServing head lines 0 start first (record ends { tail = ends.tail + 1 }) new (after_put head.size queue item)
put {head} {lines} {start} {queue} {first} {plan} {new} {ends} item s room last added =
    let inside : length queue.items < head.size = omega (arith, room, s.taken, s.tail) in
    let before : tail_of queue < last_position = omega (arith, last, s.tail) in
    let same = put_at head.size queue item inside before in
    (ap (λ (n : ℕ). reply At n 0) (sym s.tail) ∙ sym same.1, subst (IsServing head lines 0 start first (record ends { tail = ends.tail + 1 }) new) (sym same.0) (put_serving item s inside before added))

-- Takes

taken_none : (head : Header) (start : Waiting) (first plan : List LogOp) (taken next : ℕ) (items rest : List ℕ) → tail_of start ≡ taken + length items → tail_of start ≡ next + length rest → plan ≡ first ++ puts_from head (tail_of start) (drop (tail_of start - taken) items) → plan ≡ first ++ puts_from head (tail_of start) (drop (tail_of start - next) rest)
taken_none head start first plan taken next items rest old new planned =
    planned
    ∙ ap (λ (l : List ℕ). first ++ puts_from head (tail_of start) l) (drop_all (tail_of start - taken) items (omega (arith, old)) ∙ sym (drop_all (tail_of start - next) rest (omega (arith, new))))

take_by : {head : Header} {lines : List Line} {start : Waiting} {first plan : List LogOp} {ends : Ends} (taken : ℕ) (items : List ℕ) (item : ℕ) → IsServing head lines 1 start first ends plan (record { taken = taken; items = items }) → ends.head < ends.tail → item ≡ word (line_at lines (cell_place head ends.head)) 1 → (reply Item item ends.head ≡ take_reply taken items) × IsServing head lines 1 start first (record ends { head = ends.head + 1 }) plan (after_take taken items)
take_by taken [] item s some found = absurd (omega (arith, some, s.taken, s.tail))
take_by {head} {lines} {start} {first} {plan} {ends} taken (x ∷ items) item s some found = (
  (λ i. reply Item (is i) (sym s.taken i)),
  record {
    taken = ap (λ (n : ℕ). n + 1) s.taken;
    tail = omega (arith, s.tail);
    bounded = record { room = omega (arith, s.bounded.room); last = omega (arith, s.bounded.last) };
    moves = record { puts = λ e. absurd (omega (arith, e)); takes = λ other. omega (arith, tails) };
    later = omega (arith, s.later);
    cells = λ place inside old.
        let at : taken + 1 + place ≡ taken + suc place = omega arith in
        ap (λ (n : ℕ). line_at lines (cell_place head n)) at ∙ (s.cells (suc place) (omega (arith, inside)) (omega (arith, old)) ∙ ap (λ (n : ℕ). cell_line_of n (slice_index items place)) (sym at));
    planned = taken_none head start first plan taken (taken + 1) (x ∷ items) items (sym tails) (omega (arith, tails)) s.planned;
  },
)
  where
    tails : taken + length (x ∷ items) ≡ tail_of start
    tails = s.moves.takes (λ e. omega (arith, e))

    here : line_at lines (cell_place head (taken + 0)) ≡ cell_line_of (taken + 0) x
    here = s.cells 0 (omega arith) (omega (arith, tails))

    at : ends.head ≡ taken + 0
    at = omega (arith, s.taken)

    is : item ≡ x
    is = found ∙ (ap (λ (n : ℕ). word (line_at lines (cell_place head n)) 1) at ∙ ap (λ (l : Line). word l 1) here)

pub take : {head : Header} {lines : List Line} {start queue : Waiting} {first plan : List LogOp} {ends : Ends} (item : ℕ) → IsServing head lines 1 start first ends plan queue → ends.head < ends.tail → item ≡ word (line_at lines (cell_place head ends.head)) 1 → (reply Item item ends.head ≡ take_reply queue.taken queue.items) × IsServing head lines 1 start first (record ends { head = ends.head + 1 }) plan (after_take queue.taken queue.items)
take {queue = queue} item s some found = take_by queue.taken queue.items item s some found

none_by : {head : Header} {lines : List Line} {start : Waiting} {first plan : List LogOp} {ends : Ends} (taken : ℕ) (items : List ℕ) → IsServing head lines 1 start first ends plan (record { taken = taken; items = items }) → ends.tail ≤ ends.head → (reply Empty 0 0 ≡ take_reply taken items) × IsServing head lines 1 start first ends plan (after_take taken items)
none_by taken [] s none = (refl, s)
none_by taken (x ∷ items) s none = absurd (omega (arith, none, s.taken, s.tail))

pub take_none : {head : Header} {lines : List Line} {start queue : Waiting} {first plan : List LogOp} {ends : Ends} → IsServing head lines 1 start first ends plan queue → ends.tail ≤ ends.head → (reply Empty 0 0 ≡ take_reply queue.taken queue.items) × IsServing head lines 1 start first ends plan (after_take queue.taken queue.items)
take_none {queue = queue} s none = none_by queue.taken queue.items s none

-- An operation

pub put_applied : {head : Header} {lines : List Line} {start queue : Waiting} {first plan new : List LogOp} {ends last : Ends} {answer : Reply} (side : ℕ) (op : Op) → action_of op.code ≡ Some QueuePut → IsOfSide side op → IsServing head lines side start first ends plan queue
    → (IsServing head lines 0 start first ends plan queue → (answer ≡ put_reply head.size queue) × IsServing head lines 0 start first last new (after_put head.size queue op.a))
    → (answer ≡ queue_reply head.size queue op) × IsServing head lines side start first last new (next_waiting head.size queue op)
put_applied {head} {lines} {start} {queue} {first} {plan} {new} {ends} {last} side op action of_side s put_item =
    let here : 0 ≡ side = subst (λ (o : Option Action). IsSomeAnd o (λ a. action_side a ≡ side)) action of_side in
    let did = put_item (subst (λ (n : ℕ). IsServing head lines n start first ends plan queue) (sym here) s) in (
      did.0 ∙ ap (λ (o : Option Action). queue_reply_by o head.size queue op) (sym action),
      subst (λ (n : ℕ). IsServing head lines n start first last new (next_waiting head.size queue op)) here (subst (IsServing head lines 0 start first last new) (ap (λ (o : Option Action). next_waiting_by o head.size queue op) (sym action)) did.1),
    )

pub take_applied : {head : Header} {lines : List Line} {start queue : Waiting} {first plan : List LogOp} {ends last : Ends} {answer : Reply} (side : ℕ) (op : Op) → action_of op.code ≡ Some QueueTake → IsOfSide side op → IsServing head lines side start first ends plan queue
    → (IsServing head lines 1 start first ends plan queue → (answer ≡ take_reply queue.taken queue.items) × IsServing head lines 1 start first last plan (after_take queue.taken queue.items))
    → (answer ≡ queue_reply head.size queue op) × IsServing head lines side start first last plan (next_waiting head.size queue op)
take_applied {head} {lines} {start} {queue} {first} {plan} {ends} {last} side op action of_side s take_item =
    let here : 1 ≡ side = subst (λ (o : Option Action). IsSomeAnd o (λ a. action_side a ≡ side)) action of_side in
    let did = take_item (subst (λ (n : ℕ). IsServing head lines n start first ends plan queue) (sym here) s) in (
      did.0 ∙ ap (λ (o : Option Action). queue_reply_by o head.size queue op) (sym action),
      subst (λ (n : ℕ). IsServing head lines n start first last plan (next_waiting head.size queue op)) here (subst (IsServing head lines 1 start first last plan) (ap (λ (o : Option Action). next_waiting_by o head.size queue op) (sym action)) did.1),
    )
