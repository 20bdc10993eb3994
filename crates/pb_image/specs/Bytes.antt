-- The lines of a device as bytes: 64 bytes a line, eight bytes a word, the lowest byte first.
use Rattle.std.specs.Prelude.{ℕ, zero, suc, ◌+◌, ◌*◌, List, [], ◌∷◌, ◌++◌, slice_range}
use Rattle.std.specs.Int.{from_le_bytes, w64}
use Rattle.pb_pmem.specs.declared.line.Line.{Line}
use Rattle.pb_pmem.specs.Lines.{line_of}

-- the word whose eight bytes begin at a place
abbrev pub word_at_byte : List ℕ → ℕ → ℕ
word_at_byte bytes place = from_le_bytes w64 (slice_range bytes place (place + 8))

-- the line whose 64 bytes begin at a place
abbrev pub line_at_byte : List ℕ → ℕ → Line
line_at_byte bytes place =
    line_of (word_at_byte bytes place) (word_at_byte bytes (place + 8)) (word_at_byte bytes (place + 16)) (word_at_byte bytes (place + 24)) (word_at_byte bytes (place + 32)) (word_at_byte bytes (place + 40)) (word_at_byte bytes (place + 48)) (word_at_byte bytes (place + 56))

-- the first `count` lines
unfoldable pub lines_of_bytes : ℕ → List ℕ → List Line
lines_of_bytes zero bytes = []
lines_of_bytes (suc count) bytes = lines_of_bytes count bytes ++ line_at_byte bytes (64 * count) ∷ []
