-- Putting the cell of a queue's next positions.
use Rattle.std.specs.Prelude.{◌≡◌, ℕ, ◌+◌, ◌<◌, ◌≤◌, true, List, [], ◌∷◌, length, reverse, slice_index}
use Rattle.pb_pmem.specs.declared.line.Line.{Line}
use Rattle.pb_pmem.specs.declared.log.LogOp.{LogOp}
use Rattle.pb_pmem.specs.declared.log.LogOp.TheVariants.{Whole, Back}
use Rattle.pb_pmem.specs.Contents.{contents}
use Rattle.pb_pmem.specs.Lines.{line_at}
use Rattle.pb_pmem.specs.Past.{is_clean}
use Rattle.pb_object.specs.Object.{State, Registers, Items, Rising, Waits}
use Rattle.pb_object.specs.Queue.{tail_of}
use Rattle.pb_layout.specs.Cell.{cell_line_of}
use Rattle.pb_layout.specs.Region.{cell_place}
use Rattle.pb_layout.specs.declared.header.Header.{Header}

-- the cell of a position is given to the device
abbrev pub put_cell_ops : Header → ℕ → Line → List LogOp
put_cell_ops head position line = Whole (cell_place head position) line ∷ Back (cell_place head position) 1 ∷ []

-- a position after those of the waiting items, and near enough that its cell is none of theirs
abbrev pub IsFreePosition : State → ℕ → Type 0
IsFreePosition (Registers registers) position = ⊥
IsFreePosition (Items size items) position = ⊥
IsFreePosition (Rising size items) position = ⊥
IsFreePosition (Waits size queue) position = (tail_of queue ≤ position) × (position < queue.taken + size)

-- the cell of a position is this line, and is given to the device where the log wrote it
pub record HasCell (base : List Line) (log : List LogOp) (head : Header) (position : ℕ) (line : Line) : Type 0 where
  pub there : line_at (contents base log) (cell_place head position) ≡ line
  pub clean : is_clean (cell_place head position) (reverse log) ≡ true

-- each item that waits from a position on has its cell
abbrev pub HaveCells : List Line → List LogOp → Header → ℕ → State → Type 0
HaveCells base log head from (Registers registers) = Unit {0}
HaveCells base log head from (Items size items) = Unit {0}
HaveCells base log head from (Rising size items) = Unit {0}
HaveCells base log head from (Waits size queue) =
    (place : ℕ) → place < length queue.items → from ≤ queue.taken + place → HasCell base log head (queue.taken + place) (cell_line_of (queue.taken + place) (slice_index queue.items place))

-- the operations of putting an item into the cell of its position
abbrev pub put_ops : Header → ℕ → ℕ → List LogOp
put_ops head position value = put_cell_ops head position (cell_line_of position value)
