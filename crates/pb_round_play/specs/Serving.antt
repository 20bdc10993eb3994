-- Applying the requests of a round.
use Rattle.std.specs.Prelude.{◌≡◌, ℕ, ◌+◌, ◌-◌, ◌<◌, ◌≤◌, List, ◌++◌, length, slice_index}
use Rattle.pb_pmem.specs.declared.line.Line.{Line}
use Rattle.pb_pmem.specs.declared.log.LogOp.{LogOp}
use Rattle.pb_pmem.specs.Lines.{line_at}
use Rattle.pb_object.specs.declared.request.Ask.{Ask}
use Rattle.pb_object.specs.Object.{State, Waits}
use Rattle.pb_object.specs.ObjectLines.{LinesRepresent}
use Rattle.pb_object.specs.Queue.{Waiting, tail_of}
use Rattle.pb_layout.specs.declared.header.Header.{Header}
use Rattle.pb_layout.specs.Cell.{cell_line_of}
use Rattle.pb_layout.specs.Header.{slot_count}
use Rattle.pb_layout.specs.Record.{count_line_of}
use Rattle.pb_layout.specs.Region.{cell_place}
use Rattle.pb_layout.specs.Represents.{object_part}
use Rattle.pb_engine.specs.Asks.{answered_from, state_from}
use Rattle.pb_engine.specs.Next.{PutsEntries, KeepsBefore}
use Rattle.pb_engine.specs.Operations.{puts_from}
use Rattle.pb_queue.specs.Items.{IsBounded}
use Rattle.pb_queue.specs.Rounds.{added_since}
use Rattle.pb_queue.specs.Serving.{MovesSide, count_of}
use Rattle.pb_round_play.specs.declared.queue.Ends.{Ends}
use Rattle.pb_round_play.specs.declared.seat.Seat.{Seat}
use Rattle.pb_round_play.specs.Rounds.{with_rows}

-- requests were applied to the object that a record holds: the entries were put in front of the clients' slots and into their next rows, and
-- then the object's lines were written
pub record HasServed (head : Header) (before : List Line) (state : State) (asks : List Ask) (old new : List Line) (seats rows : List Seat) : Type 0 where
  pub between : List Line
  pub puts : PutsEntries before (answered_from state asks) old between
  pub keeps : KeepsBefore (1 + slot_count head) between new
  pub object : LinesRepresent (object_part head new) (state_from state asks)
  pub rows_are : rows ≡ with_rows (answered_from state asks) seats

-- Queues

-- how many items were taken and put, and the cells of those that wait, on the lines of a region
pub record HoldsQueue (head : Header) (lines : List Line) (ends : Ends) (queue : Waiting) : Type 0 where
  pub taken : queue.taken ≡ ends.head
  pub tail : tail_of queue ≡ ends.tail
  pub bounded : IsBounded head.size queue
  pub cells : (place : ℕ) → place < length queue.items → line_at lines (cell_place head (queue.taken + place)) ≡ cell_line_of (queue.taken + place) (slice_index queue.items place)

-- the same after requests of a side: the items that waited at first lie in their cells, and those that were put since are planned
pub record IsServing (head : Header) (lines : List Line) (side : ℕ) (start : Waiting) (first : List LogOp) (ends : Ends) (plan : List LogOp) (queue : Waiting) : Type 0 where
  pub taken : queue.taken ≡ ends.head
  pub tail : tail_of queue ≡ ends.tail
  pub bounded : IsBounded head.size queue
  pub moves : MovesSide side start queue
  pub later : tail_of start ≤ tail_of queue
  pub cells : (place : ℕ) → place < length queue.items → queue.taken + place < tail_of start → line_at lines (cell_place head (queue.taken + place)) ≡ cell_line_of (queue.taken + place) (slice_index queue.items place)
  pub planned : plan ≡ first ++ puts_from head (tail_of start) (added_since start queue)

-- requests of a side were applied to what waits: each stands in front of its client's slots and in its next row
pub record HasAnswered (head : Header) (lines before : List Line) (side : ℕ) (start : Waiting) (asks : List Ask) (first : List LogOp) (old : List Line) (seats : List Seat) (ends : Ends) (plan : List LogOp) (new : List Line) (rows : List Seat) : Type 0 where
  pub queue : Waiting
  pub serving : IsServing head lines side start first ends plan queue
  pub state : Waits head.size queue ≡ state_from (Waits head.size start) asks
  pub puts : PutsEntries before (answered_from (Waits head.size start) asks) old new
  pub rows_are : rows ≡ with_rows (answered_from (Waits head.size start) asks) seats

-- requests of a side were applied to what waits, and the side's count was written
pub record HasServedQueue (head : Header) (before : List Line) (side : ℕ) (start : Waiting) (asks : List Ask) (old new : List Line) (seats rows : List Seat) (first plan : List LogOp) : Type 0 where
  pub queue : Waiting
  pub state : Waits head.size queue ≡ state_from (Waits head.size start) asks
  pub bounded : IsBounded head.size queue
  pub moves : MovesSide side start queue
  pub later : tail_of start ≤ tail_of queue
  pub between : List Line
  pub puts : PutsEntries before (answered_from (Waits head.size start) asks) old between
  pub keeps : KeepsBefore (length between - 1) between new
  pub counts : line_at new (length between - 1) ≡ count_line_of (count_of side queue)
  pub rows_are : rows ≡ with_rows (answered_from (Waits head.size start) asks) seats
  pub planned : plan ≡ first ++ puts_from head (tail_of start) (added_since start queue)
