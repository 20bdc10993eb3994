-- A cell of a queue: an item with its position.
use Rattle.std.specs.Prelude.{◌≡◌, ℕ}
use Rattle.pb_pmem.specs.declared.line.Line.{Line}
use Rattle.pb_pmem.specs.Lines.{line_of}

-- the cell of a position that holds this value
abbrev pub cell_line_of : ℕ → ℕ → Line
cell_line_of position value = line_of position value 0 0 0 0 0 0

-- the cell of a position
abbrev pub IsCell : ℕ → Line → Type 0
IsCell position line = (value : ℕ) × (line ≡ cell_line_of position value)
