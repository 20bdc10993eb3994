-- Words and lines as bytes: eight bytes a word, the lowest first, and 64 bytes a line.
use Rattle.std.specs.Prelude.{ℕ, zero, suc, ◌+◌, List, [], ◌++◌, slice_index, slice_range}
use Rattle.std.specs.Int.{from_le_bytes, to_le_bytes, w64}
use Rattle.pb_pmem.specs.declared.line.Line.{Line}

-- the first `count` words, one after the other
unfoldable pub first_words : ℕ → List ℕ → List ℕ
first_words zero words = []
first_words (suc count) words = first_words count words ++ to_le_bytes w64 (slice_index words count)

-- the bytes of a line
abbrev pub line_bytes : Line → List ℕ
line_bytes line = first_words 8 line.words

-- the word whose eight bytes begin at a place
abbrev pub word_at_byte : List ℕ → ℕ → ℕ
word_at_byte bytes place = from_le_bytes w64 (slice_range bytes place (place + 8))
