-- How a source is cut into lines, and a line into fields.
use Rattle.std.specs.Prelude.{ℕ, Bool, false, List, [], ◌∷◌, if◌then◌else◌, ◌==◌, nat_lt, not, ◌||◌, length, filter, slice_index}
use Rattle.std.specs.List.{slice_split, onto_first}
use Rattle.std.specs.Str.Lines.{strip_carriage_return}

-- LF
abbrev pub is_line_end : ℕ → Bool
is_line_end byte = byte == 10

-- a space or a tab
abbrev pub is_blank : ℕ → Bool
is_blank byte = byte == 32 || byte == 9

-- any other byte
abbrev pub is_field_byte : ℕ → Bool
is_field_byte byte = not (is_blank byte)

-- the lines of a source: each ends with LF, which the last may lack, and nothing after a last LF is a line
unfoldable pub lines : List ℕ → List (List ℕ)
lines [] = []
lines (byte ∷ bytes) = if is_line_end byte then [] ∷ lines bytes else onto_first byte (lines bytes)

-- the words of a text: what stands between its spaces and tabs
unfoldable pub words : List ℕ → List (List ℕ)
words text = filter (λ word. nat_lt 0 (length word)) (slice_split is_blank text)

-- the fields of a line: its words, once one CR at its end is taken off
abbrev pub fields : List ℕ → List (List ℕ)
fields line = words (strip_carriage_return line)

-- a line asks for something, if it has a field and its first doesn't begin with `#`
abbrev pub is_request : List (List ℕ) → Bool
is_request [] = false
is_request (first ∷ others) = not (slice_index first 0 == 35)
