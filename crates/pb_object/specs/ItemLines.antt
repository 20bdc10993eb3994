-- The object lines of a stack and of a heap: a count, and then eight items a line.
use Rattle.std.specs.Prelude.{◌≡◌, ℕ, ◌+◌, ◌-◌, ◌/◌, ◌%◌, ◌<◌, ◌≤◌, List, length, take, slice_index}
use Rattle.pb_pmem.specs.declared.line.Line.{Line}
use Rattle.pb_pmem.specs.Lines.{line_at, word_of}

-- how many items the lines hold
abbrev pub count_in : List Line → ℕ
count_in lines = word_of lines 0 0

-- the item at this place of the lines: a stack's places count from the bottom, a heap's go by its array
abbrev pub item_in : List Line → ℕ → ℕ
item_in lines place = word_of lines (place / 8 + 1) (place % 8)

-- the words after the first are 0
abbrev pub HasOneWord : Line → Type 0
HasOneWord line = (word : ℕ) → 0 < word → word < 8 → slice_index line.words word ≡ 0

-- a first line that the format allows
pub record IsCountLine (size : ℕ) (line : Line) : Type 0 where
  pub count : slice_index line.words 0 ≤ size
  pub rest : HasOneWord line

-- what the format allows at this place of a stack: after its items zeros
pub record IsStackPlace (lines : List Line) (place : ℕ) : Type 0 where
  pub unused : count_in lines ≤ place → item_in lines place ≡ 0

-- what the format allows at this place of a heap: after its items zeros, and no item that is less than its parent
pub record IsHeapPlace (lines : List Line) (place : ℕ) : Type 0 where
  pub unused : count_in lines ≤ place → item_in lines place ≡ 0
  pub ordered : 0 < place → place < count_in lines → item_in lines ((place - 1) / 2) ≤ item_in lines place

-- a line that the format allows: the count's, or one whose eight places are such
pub record IsItemLine (IsPlace : List Line → ℕ → Type 0) (size : ℕ) (lines : List Line) (line : ℕ) : Type 0 where
  pub count : line ≡ 0 → IsCountLine size (line_at lines 0)
  pub places : (place : ℕ) → place / 8 + 1 ≡ line → IsPlace lines place

-- the lines hold these items, in this order
pub record WordsRepresentItems (lines : List Line) (items : List ℕ) : Type 0 where
  pub count : length items ≡ count_in lines
  pub each : (place : ℕ) → place < length items → slice_index items place ≡ item_in lines place

-- what is read from lines that the format allows: so many of the places are taken, and hold the items
pub record TakesItems (IsPlace : List Line → ℕ → Type 0) (places : List ℕ) (count : ℕ) (lines : List Line) : Type 0 where
  pub allowed : (line : ℕ) → line < length lines → IsItemLine IsPlace (length places) lines line
  pub within : count ≤ length places
  pub held : WordsRepresentItems lines (take count places)
