-- Where the parts of a region stand on the device.
use Rattle.std.specs.Prelude.{ℕ, ◌+◌, ◌*◌, ◌%◌}
use Rattle.pb_layout.specs.declared.header.Header.{Header}
use Rattle.pb_layout.specs.Header.{record_length, first_record_line}

-- the line at which a side's record begins: two records of side 0, and after them two of side 1
abbrev pub record_place : Header → ℕ → ℕ → ℕ
record_place head side which = first_record_line head + (2 * side + which) * record_length head

-- the line of a position's cell
abbrev pub cell_place : Header → ℕ → ℕ
cell_place head position = 3 + position % head.size
