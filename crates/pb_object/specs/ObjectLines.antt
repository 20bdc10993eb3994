-- What the object lines of a record represent, and which of them the format refuses.
use Rattle.std.specs.Prelude.{◌≡◌, ℕ, ◌+◌, ◌-◌, ◌/◌, ◌<◌, ◌≤◌, List, length}
use Rattle.pb_pmem.specs.declared.line.Line.{Line}
use Rattle.pb_pmem.specs.Lines.{line_at, word_of}
use Rattle.pb_object.specs.declared.kind.Kind.{Kind}
use Rattle.pb_object.specs.declared.kind.Kind.TheVariants.{Map, Stack, Heap, Queue}
use Rattle.pb_object.specs.Heap.{rising_of}
use Rattle.pb_object.specs.ItemLines.{HasOneWord, IsItemLine, IsStackPlace, IsHeapPlace, WordsRepresentItems}
use Rattle.pb_object.specs.MapLines.{IsMapLine, WordsRepresentRegisters}
use Rattle.pb_object.specs.Object.{State, Registers, Items, Rising, Waits}
use Rattle.pb_object.specs.Queue.{last_position, tail_of}

-- how many object lines a record of this kind and size has
abbrev pub object_line_count : Kind → ℕ → ℕ
object_line_count Map size = (size + 3) / 4
object_line_count Stack size = (size + 7) / 8 + 1
object_line_count Heap size = (size + 7) / 8 + 1
object_line_count Queue size = 1

-- the object lines of all sides one after another: a queue's are the line of its tail and the line of its head
abbrev pub object_lines_of_all_sides : Kind → ℕ → ℕ
object_lines_of_all_sides Queue size = 2
object_lines_of_all_sides kind size = object_line_count kind size

-- a queue's line that the format allows: its number is one that a tail or a head can have, and the two fit together
pub record IsQueueLine (size : ℕ) (lines : List Line) (line : ℕ) : Type 0 where
  pub last : word_of lines line 0 ≤ last_position
  pub rest : HasOneWord (line_at lines line)
  pub head : line ≡ 1 → word_of lines 1 0 ≤ word_of lines 0 0
  pub waiting : line ≡ 1 → word_of lines 0 0 - word_of lines 1 0 ≤ size

-- the line at this place of the object lines is one that the format allows
abbrev pub IsAllowedLine : Kind → ℕ → List Line → ℕ → Type 0
IsAllowedLine Map size lines line = IsMapLine size lines line
IsAllowedLine Stack size lines line = IsItemLine IsStackPlace size lines line
IsAllowedLine Heap size lines line = IsItemLine IsHeapPlace size lines line
IsAllowedLine Queue size lines line = IsQueueLine size lines line

-- the first line that the format refuses: those before it are allowed
pub record IsFirstRefused (kind : Kind) (size : ℕ) (lines : List Line) (line : ℕ) : Type 0 where
  pub within : line < length lines
  pub before : (earlier : ℕ) → earlier < line → IsAllowedLine kind size lines earlier
  pub refused : ¬ IsAllowedLine kind size lines line

-- the kind of a state
abbrev pub kind_of : State → Kind
kind_of (Registers registers) = Map
kind_of (Items size items) = Stack
kind_of (Rising size items) = Heap
kind_of (Waits size queue) = Queue

-- the size of a state
abbrev pub size_of : State → ℕ
size_of (Registers registers) = length registers
size_of (Items size items) = size
size_of (Rising size items) = size
size_of (Waits size queue) = size

-- what the words of the lines say of a state. A heap's items may lie in any order that the lines allow; of a queue the lines say the tail and the head
abbrev pub WordsRepresent : List Line → State → Type 0
WordsRepresent lines (Registers registers) = WordsRepresentRegisters lines registers
WordsRepresent lines (Items size items) = WordsRepresentItems lines items
WordsRepresent lines (Rising size rising) = (items : List ℕ) × WordsRepresentItems lines items × (rising ≡ rising_of items)
WordsRepresent lines (Waits size queue) = (tail_of queue ≡ word_of lines 0 0) × (queue.taken ≡ word_of lines 1 0)

-- the object lines of all sides represent a state: they are as many as its kind and size have, the format allows each, and they hold it
pub record LinesRepresent (lines : List Line) (state : State) : Type 0 where
  pub count : length lines ≡ object_lines_of_all_sides (kind_of state) (size_of state)
  pub allowed : (line : ℕ) → line < length lines → IsAllowedLine (kind_of state) (size_of state) lines line
  pub hold : WordsRepresent lines state
