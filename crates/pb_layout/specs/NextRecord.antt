-- The record that a round makes of the one in use.
use Rattle.std.specs.Prelude.{◌≡◌, ◌≢◌, ℕ, suc, ◌+◌, ◌<◌, ◌≤◌, true, List, length, reverse, slice_index, All}
use Rattle.pb_pmem.specs.declared.line.Line.{Line}
use Rattle.pb_pmem.specs.declared.log.LogOp.{LogOp}
use Rattle.pb_pmem.specs.Contents.{contents}
use Rattle.pb_pmem.specs.Lines.{line_at}
use Rattle.pb_pmem.specs.Past.{is_clean}
use Rattle.pb_object.specs.declared.request.TheConstants.{KEPT_REQUESTS}
use Rattle.pb_object.specs.History.{Entry, Round, IsLegalRound, kept_by, after_round}
use Rattle.pb_object.specs.Object.{State, Registers, Items, Rising, Waits}
use Rattle.pb_object.specs.ObjectLines.{LinesRepresent}
use Rattle.pb_object.specs.Queue.{tail_of}
use Rattle.pb_object.specs.Standing.{Standing, rounds_of}
use Rattle.pb_layout.specs.Cell.{cell_line_of}
use Rattle.pb_layout.specs.ClientLine.{client_line_of}
use Rattle.pb_layout.specs.Header.{record_length}
use Rattle.pb_layout.specs.Record.{count_line_of, slot_line_at, client_line_at}
use Rattle.pb_layout.specs.Region.{cell_place}
use Rattle.pb_layout.specs.Represents.{header_for, record_of_side, object_parts, with_record}
use Rattle.pb_layout.specs.declared.header.Header.{Header}

-- an entry stands in front of its client's slots of the record before, and the oldest one goes
pub record HasEntryInFront (before lines : List Line) (entry : Entry) : Type 0 where
  pub newest : client_line_at lines entry.client ≡ client_line_of (kept_by entry)
  pub shifted : (slot : ℕ) → suc slot < KEPT_REQUESTS → slot_line_at lines entry.client (suc slot) ≡ slot_line_at before entry.client slot

-- the entry is another client's
abbrev pub IsOfOther : ℕ → Entry → Type 0
IsOfOther client entry = entry.client ≢ client

-- these lines are what a round makes of its side's record, where the records in use say s: they carry the next round number, its entries
-- stand in front of their clients' slots, the other clients' slots are the same, and the object lines represent the next state
pub record IsNextOf (records : ℕ → List Line) (s : Standing) (round : Round) (lines : List Line) : Type 0 where
  pub legal : IsLegalRound s round
  pub long : length lines ≡ record_length (header_for s)
  pub carries : line_at lines 0 ≡ count_line_of (rounds_of s round.side + 1)
  pub entries : All (HasEntryInFront (records round.side) lines) round.entries
  pub others : (client slot : ℕ) → client < s.clients → slot < KEPT_REQUESTS → All (IsOfOther client) round.entries → slot_line_at lines client slot ≡ slot_line_at (records round.side) client slot
  pub state : LinesRepresent (object_parts (header_for s) (with_record records round.side lines)) (after_round s round).state

-- these lines are what a round makes of its side's record in use, in a region that represents s
abbrev pub IsNextRecord : List Line → Standing → Round → List Line → Type 0
IsNextRecord image s round lines = IsNextOf (record_of_side image s) s round lines

-- the position of the next item that is put into a queue; 0 for the other objects
abbrev pub next_position : State → ℕ
next_position (Registers registers) = 0
next_position (Items size items) = 0
next_position (Rising size items) = 0
next_position (Waits size queue) = tail_of queue

-- the waiting items that were put from a position on lie in the cells of their positions
abbrev pub AddedCellsRepresent : List Line → Header → ℕ → State → Type 0
AddedCellsRepresent image head from (Registers registers) = Unit {0}
AddedCellsRepresent image head from (Items size items) = Unit {0}
AddedCellsRepresent image head from (Rising size items) = Unit {0}
AddedCellsRepresent image head from (Waits size queue) =
    (place : ℕ) → place < length queue.items → from ≤ queue.taken + place → line_at image (cell_place head (queue.taken + place)) ≡ cell_line_of (queue.taken + place) (slice_index queue.items place)

-- the cells of the waiting items that were put from a position on are written back where the log wrote them
abbrev pub AreBacked : List LogOp → Header → ℕ → State → Type 0
AreBacked log head from (Registers registers) = Unit {0}
AreBacked log head from (Items size items) = Unit {0}
AreBacked log head from (Rising size items) = Unit {0}
AreBacked log head from (Waits size queue) =
    (place : ℕ) → place < length queue.items → from ≤ queue.taken + place → is_clean (cell_place head (queue.taken + place)) (reverse log) ≡ true

-- each item that a round puts into a queue has its cell, written back; nothing is asked of the cells of the items before
pub record HasCells (base : List Line) (log : List LogOp) (s : Standing) (round : Round) : Type 0 where
  pub hold : AddedCellsRepresent (contents base log) (header_for s) (next_position s.state) (after_round s round).state
  pub backed : AreBacked log (header_for s) (next_position s.state) (after_round s round).state
