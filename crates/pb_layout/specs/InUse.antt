-- The lines of a region that are in use, and operations that leave them alone.
use Rattle.std.specs.Prelude.{◌≡◌, ◌⊎◌, ℕ, ◌+◌, ◌%◌, ◌<◌, length}
use Rattle.pb_pmem.specs.declared.log.LogOp.{LogOp}
use Rattle.pb_pmem.specs.declared.log.LogOp.TheVariants.{Whole, Word, Back, Fence, Sync}
use Rattle.pb_object.specs.Object.{State, Registers, Items, Rising, Waits}
use Rattle.pb_object.specs.Standing.{Standing, side_count, rounds_of}
use Rattle.pb_layout.specs.Header.{record_length}
use Rattle.pb_layout.specs.Region.{record_place, cell_place}
use Rattle.pb_layout.specs.Represents.{header_for}

-- the line of a waiting item
abbrev pub IsCellInUse : Standing → State → ℕ → Type 0
IsCellInUse s (Registers registers) line = ⊥
IsCellInUse s (Items size items) line = ⊥
IsCellInUse s (Rising size items) line = ⊥
IsCellInUse s (Waits size queue) line = (place : ℕ) × (place < length queue.items) × (line ≡ cell_place (header_for s) (queue.taken + place))

-- a line of a side's record in use
pub record IsInRecord (s : Standing) (line : ℕ) : Type 0 where
  pub side : ℕ
  pub here : side < side_count s.kind
  pub place : ℕ
  pub inside : place < record_length (header_for s)
  pub at : line ≡ record_place (header_for s) side (rounds_of s side % 2) + place

-- what a region represents lies in its first three lines, in the records in use and in the cells of waiting items
abbrev pub IsInUse : Standing → ℕ → Type 0
IsInUse s line = (line < 3) ⊎ (IsInRecord s line ⊎ IsCellInUse s s.state line)

-- an operation that writes no line in use
abbrev pub IsOutside : Standing → LogOp → Type 0
IsOutside s (Whole line to) = ¬ IsInUse s line
IsOutside s (Word line word to) = ¬ IsInUse s line
IsOutside s (Back first count) = Unit {0}
IsOutside s Fence = Unit {0}
IsOutside s Sync = Unit {0}
