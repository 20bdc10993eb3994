-- The round that begins: what it finds, its record with the replies, and its calls.
use Rattle.std.specs.Prelude.{◌≡◌, ℕ, ◌+◌, ◌≤◌, List, [], ◌∷◌, slice_set}
use Rattle.pb_pmem.specs.declared.line.Line.{Line}
use Rattle.pb_pmem.specs.declared.log.LogOp.{LogOp}
use Rattle.pb_object.specs.declared.request.Ask.{Ask}
use Rattle.pb_object.specs.History.{Entry, Round, after_round}
use Rattle.pb_object.specs.Object.{State, Registers, Items, Rising, Waits}
use Rattle.pb_object.specs.Queue.{tail_of}
use Rattle.pb_object.specs.Standing.{Standing}
use Rattle.pb_layout.specs.declared.header.Header.{Header}
use Rattle.pb_layout.specs.NextRecord.{IsNextRecord, next_position}
use Rattle.pb_layout.specs.Recovered.{Represents}
use Rattle.pb_layout.specs.Represents.{header_for, object_part}
use Rattle.pb_core.specs.Play.{ListsRising}
use Rattle.pb_engine.specs.Asks.{MayBeServed, side_asked}
use Rattle.pb_engine.specs.Operations.{cell_ops}
use Rattle.pb_round_play.specs.declared.rounds.Rounds.{Rounds}
use Rattle.pb_round_play.specs.declared.seat.Seat.{Seat}
use Rattle.pb_round_play.specs.Counts.{ShowsRounds}
use Rattle.pb_round_play.specs.Seats.{seat_at}

-- a reply is its client's next row, ..
abbrev pub with_row : Entry → List Seat → List Seat
with_row entry seats =
    slice_set seats entry.client (record (seat_at seats entry.client) { ahead = record { number = entry.number; reply = entry.reply } })

-- .. and so are those of a round, one after the other
abbrev pub with_rows : List Entry → List Seat → List Seat
with_rows [] seats = seats
with_rows (entry ∷ entries) seats = with_rows entries (with_row entry seats)

-- the lines of a region represent a standing, in which these requests of a side may be served
pub record MayBegin (head : Header) (lines : List Line) (rounds : Rounds) (asks : List Ask) (side : ℕ) (s : Standing) : Type 0 where
  pub head_is : header_for s ≡ head
  pub stands : Represents lines s
  pub counts : ShowsRounds s rounds
  pub may : MayBeServed s asks
  pub side_is : side_asked asks ≡ side

-- items that wait before a round and after it: none was taken of those that it puts, and these have places beside those before
abbrev pub StepsQueue : State → State → Type 0
StepsQueue (Registers registers) after = Unit {0}
StepsQueue (Items size items) after = Unit {0}
StepsQueue (Rising size items) after = Unit {0}
StepsQueue (Waits size before) (Registers registers) = Unit {0}
StepsQueue (Waits size before) (Items n items) = Unit {0}
StepsQueue (Waits size before) (Rising n items) = Unit {0}
StepsQueue (Waits size before) (Waits n after) = (after.taken ≤ tail_of before) × (tail_of before ≤ tail_of after) × (tail_of after ≤ before.taken + size)

-- a round's record is made of the one in use, a heap's items in rising order, with the replies and with the calls that put its items
pub record MakesRecord (lines : List Line) (s : Standing) (round : Round) (seats : List Seat) (next : List Line) (rows : List Seat) (plan : List LogOp) : Type 0 where
  pub record_is : IsNextRecord lines s round next
  pub rows_are : rows ≡ with_rows round.entries seats
  pub step : StepsQueue s.state (after_round s round).state
  pub listed : ListsRising (after_round s round).state (object_part (header_for s) next)
  pub cells_are : plan ≡ cell_ops (header_for s) (next_position s.state) (after_round s round).state
