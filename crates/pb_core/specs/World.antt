-- The world: what stands in memory, and the device with the calls that are being made.
use Rattle.std.specs.Prelude.{◌≡◌, ℕ, suc, ◌+◌, ◌-◌, ◌<◌, List, [], ◌∷◌, ◌++◌, drop, length}
use Rattle.std.specs.List.{AllByRecursion}
use Rattle.pb_pmem.specs.declared.line.Line.{Line}
use Rattle.pb_pmem.specs.declared.log.LogOp.{LogOp}
use Rattle.pb_pmem.specs.declared.log.LogOp.TheVariants.{Whole, Word, Back, Fence, Sync}
use Rattle.pb_pmem.specs.Contents.{contents}
use Rattle.pb_pmem.specs.Device.{Tale}
use Rattle.pb_pmem.specs.Lines.{line_at}
use Rattle.pb_object.specs.History.{Round, after_round}
use Rattle.pb_object.specs.Object.{State, Registers, Items, Rising, Waits}
use Rattle.pb_object.specs.Standing.{Standing, rounds_of}
use Rattle.pb_layout.specs.declared.header.Header.{Header}
use Rattle.pb_layout.specs.Cell.{cell_line_of}
use Rattle.pb_layout.specs.NextRecord.{IsNextRecord, HasCells, next_position}
use Rattle.pb_layout.specs.PutCell.{put_cell_ops, IsFreePosition}
use Rattle.pb_layout.specs.RegionOps.{spare_place, store_by}
use Rattle.pb_layout.specs.Represents.{header_for}
use Rattle.pb_layout.specs.Stages.{StagesRecord}
use Rattle.pb_core.specs.Memory.{Memory}

-- the calls of the device that are being made: the log when they began, those made since, and those to make
pub data CallProgress : Type 0 where
  NoCall : CallProgress
  InCall : (entry made left : List LogOp) → CallProgress

pub record World : Type 0 where
  pub memory : Memory
  pub tale : Tale
  pub progress : CallProgress

-- The calls of a round

-- an item that is put into a queue, at its position
pub record Put : Type 0 where
  pub position : ℕ
  pub value : ℕ

abbrev pub ops_of_puts : Header → List Put → List LogOp
ops_of_puts head [] = []
ops_of_puts head (put ∷ puts) = put_cell_ops head put.position (cell_line_of put.position put.value) ++ ops_of_puts head puts

-- items at the positions from one on
abbrev pub puts_at : ℕ → List ℕ → List Put
puts_at position [] = []
puts_at position (item ∷ items) = record { position = position; value = item } ∷ puts_at (suc position) items

-- the items that wait now and didn't before: those that were put in between, where none of them was taken. Other objects have no cells
abbrev pub puts_between : State → State → List Put
puts_between before (Registers registers) = []
puts_between before (Items size items) = []
puts_between before (Rising size items) = []
puts_between before (Waits size queue) =
    puts_at (next_position before) (drop (next_position before - queue.taken) queue.items)

-- the items that a round puts
abbrev pub puts_of : Standing → Round → List Put
puts_of s round = puts_between s.state (after_round s round).state

abbrev pub AreFreePositions : State → List Put → Type 0
AreFreePositions state [] = Unit {0}
AreFreePositions state (put ∷ puts) = IsFreePosition state put.position × AreFreePositions state puts

-- the write of a line of a record from a place on
abbrev pub WritesLine : ℕ → List Line → LogOp → Type 0
WritesLine first lines (Whole line to) = (place : ℕ) × (place < length lines) × (line ≡ first + place) × (to ≡ line_at lines place)
WritesLine first lines (Word line word to) = ⊥
WritesLine first lines (Back at count) = ⊥
WritesLine first lines Fence = ⊥
WritesLine first lines Sync = ⊥

-- the calls of a round, over a device that holds s: the cells of the items that it puts, and no others; lines of the next record where the spare one is, each
-- that differs and perhaps others, in any order and any number of times; and then the store's last calls
pub record IsRoundPlan (tale : Tale) (s : Standing) (round : Round) (plan : List LogOp) : Type 0 where
  pub puts : List Put
  pub its_own : puts ≡ puts_of s round
  pub free : AreFreePositions s.state puts
  pub cells : HasCells tale.base (tale.log ++ ops_of_puts (header_for s) puts) s round
  pub lines : List Line
  pub next : IsNextRecord (contents tale.base (tale.log ++ ops_of_puts (header_for s) puts)) s round lines
  pub writes : List LogOp
  pub new : AllByRecursion (WritesLine (spare_place (header_for s) round.side (rounds_of s round.side)) lines) writes
  pub staged : StagesRecord (spare_place (header_for s) round.side (rounds_of s round.side)) lines (contents tale.base (tale.log ++ ops_of_puts (header_for s) puts)) writes
  pub is : plan ≡ ops_of_puts (header_for s) puts ++ store_by writes (header_for s) round.side (rounds_of s round.side)
