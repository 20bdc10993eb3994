-- Lines and words by their places.
use Rattle.std.specs.Prelude.{ℕ, List, [], ◌∷◌, slice_index, slice_index_or, slice_set, refl}
use Rattle.std.proofs.Common.{◌∙◌}
use Rattle.std.proofs.lemmas.List.{length-set}
use Rattle.pb_pmem.specs.declared.line.Line.{Line}

-- the line of these eight words
abbrev pub line_of : ℕ → ℕ → ℕ → ℕ → ℕ → ℕ → ℕ → ℕ → Line
line_of a b c d e f g h =
    record { words = a ∷ b ∷ c ∷ d ∷ e ∷ f ∷ g ∷ h ∷ []; eight = refl }

-- the line whose words are all 0
abbrev pub zero_line : Line
zero_line = line_of 0 0 0 0 0 0 0 0

-- the line with one word changed
abbrev pub with_word : Line → ℕ → ℕ → Line
with_word line word value =
    record { words = slice_set line.words word value; eight = length-set line.words word value ∙ line.eight }

-- the line at a place, and zeros past the end
abbrev pub line_at : List Line → ℕ → Line
line_at lines line = slice_index_or lines line zero_line

-- the word of a line
abbrev pub word_of : List Line → ℕ → ℕ → ℕ
word_of lines line word = slice_index (line_at lines line).words word
