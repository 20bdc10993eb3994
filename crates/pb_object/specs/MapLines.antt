-- A map's object lines: four registers a line, each a value and a version.
use Rattle.std.specs.Prelude.{◌≡◌, ℕ, ◌+◌, ◌*◌, ◌/◌, ◌%◌, ◌<◌, ◌≤◌, List, length}
use Rattle.pb_pmem.specs.declared.line.Line.{Line}
use Rattle.pb_pmem.specs.Lines.{word_of}
use Rattle.pb_object.specs.Map.{Register, empty_register, last_version, register_at}

-- the register whose two words stand at this place of the lines
abbrev pub register_in : List Line → ℕ → Register
register_in lines key = record { value = word_of lines (key / 4) (2 * (key % 4)); version = word_of lines (key / 4) (2 * (key % 4) + 1) }

-- what the format allows at this place of a map: at most the last version, without a version no value, and after the size zeros
pub record IsRegisterAt (size key : ℕ) (register : Register) : Type 0 where
  pub last : register.version ≤ last_version
  pub unwritten : register.version ≡ 0 → register.value ≡ 0
  pub unused : size ≤ key → register ≡ empty_register

-- a map's line that the format allows
abbrev pub IsMapLine : ℕ → List Line → ℕ → Type 0
IsMapLine size lines line = (key : ℕ) → key / 4 ≡ line → IsRegisterAt size key (register_in lines key)

-- the lines hold these registers
abbrev pub WordsRepresentRegisters : List Line → List Register → Type 0
WordsRepresentRegisters lines registers = (key : ℕ) → key < length registers → register_at registers key ≡ register_in lines key
