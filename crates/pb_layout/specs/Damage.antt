-- The checks of a region in their order, and the first line that they refuse.
use Rattle.std.specs.Prelude.{◌≡◌, ◌⊎◌, ℕ, ◌+◌, ◌-◌, ◌%◌, ◌<◌, ◌≤◌, List, [], ◌∷◌, ◌++◌, length}
use Rattle.pb_pmem.specs.declared.line.Line.{Line}
use Rattle.pb_pmem.specs.Lines.{line_at, word_of}
use Rattle.pb_object.specs.declared.kind.Kind.{Kind}
use Rattle.pb_object.specs.declared.kind.Kind.TheVariants.{Map, Stack, Heap, Queue}
use Rattle.pb_object.specs.ObjectLines.{IsAllowedLine, IsFirstRefused}
use Rattle.pb_object.specs.Standing.{side_count}
use Rattle.pb_layout.specs.Cell.{IsCell}
use Rattle.pb_layout.specs.Header.{IsHeaderLine, named_header, slot_count, word}
use Rattle.pb_layout.specs.Record.{count_line_of, IsFirstWithout, IsRecord, IsBadRecordAt}
use Rattle.pb_layout.specs.Region.{record_place, cell_place}
use Rattle.pb_layout.specs.Represents.{record_in_use, object_parts, IsApart, AreApart}
use Rattle.pb_layout.specs.declared.header.Header.{Header}
use Rattle.pb_layout.specs.declared.header.TheConstants.{MAGIC}

-- a check: what it wants of a region, and which line it names where that isn't so
pub record Check : Type 1 where
  pub passes : Type 0
  pub refuses : ℕ → Type 0

-- all of these checks are passed
abbrev pub AllPass : List Check → Type 0
AllPass [] = Unit {0}
AllPass (check ∷ checks) = check.passes × AllPass checks

-- the first check that isn't passed names this line
abbrev pub IsFirstNamed : List Check → ℕ → Type 0
IsFirstNamed [] line = ⊥
IsFirstNamed (check ∷ checks) line = check.refuses line ⊎ (check.passes × IsFirstNamed checks line)

-- the header that the lines spell
abbrev pub header_in : List Line → Header
header_in image = named_header (line_at image 0)

-- how many rounds of a side the lines count
abbrev pub round_in : List Line → ℕ → ℕ
round_in image side = word_of image (1 + side) 0

-- a side's record in use, as the lines say which one that is
abbrev pub record_in : List Line → ℕ → List Line
record_in image side = record_in_use image (header_in image) side (round_in image side)

-- the object's lines of all sides, in their records in use
abbrev pub object_lines_in : List Line → List Line
object_lines_in image = object_parts (header_in image) (record_in image)

-- the line at which a side's record in use begins
abbrev pub record_place_in : List Line → ℕ → ℕ
record_place_in image side = record_place (header_in image) side (round_in image side % 2)

-- the line of a slot in a side's record in use
abbrev pub slot_place_in : List Line → ℕ → ℕ → ℕ
slot_place_in image side place = record_place_in image side + 1 + place

-- the line of an object line: a queue has one on each side
abbrev pub object_place_by : Kind → List Line → ℕ → ℕ
object_place_by Map image place = slot_place_in image 0 (slot_count (header_in image)) + place
object_place_by Stack image place = slot_place_in image 0 (slot_count (header_in image)) + place
object_place_by Heap image place = slot_place_in image 0 (slot_count (header_in image)) + place
object_place_by Queue image place = slot_place_in image place (slot_count (header_in image))

-- line 0 spells a header
abbrev pub header_check : List Line → Check
header_check image = record {
  passes = IsHeaderLine (line_at image 0);
  refuses = λ line. (line ≡ 0) × ¬ IsHeaderLine (line_at image 0);
}

-- a line that counts a side's rounds: one number and zeros, and all zeros where there is no such side
pub record IsRoundLine (kind : Kind) (side : ℕ) (line : Line) : Type 0 where
  pub count : line ≡ count_line_of (word line 0)
  pub no_side : side_count kind ≤ side → word line 0 ≡ 0

-- the line after the header, and then the next, counts a side's rounds
abbrev pub round_check : List Line → ℕ → Check
round_check image side = record {
  passes = IsRoundLine (header_in image).kind side (line_at image (1 + side));
  refuses = λ line. (line ≡ 1 + side) × ¬ IsRoundLine (header_in image).kind side (line_at image (1 + side));
}

-- a side's record in use is a record of the side's round
abbrev pub record_check : List Line → ℕ → Check
record_check image side = record {
  passes = side < side_count (header_in image).kind → IsRecord (header_in image) side (round_in image side) (record_in image side);
  refuses = λ line. (side < side_count (header_in image).kind) × ((place : ℕ) × (line ≡ record_place_in image side + place) × IsBadRecordAt (header_in image) side (round_in image side) (record_in image side) place);
}

-- the format allows each of the object's lines
abbrev pub object_check : List Line → Check
object_check image = record {
  passes = (place : ℕ) → place < length (object_lines_in image) → IsAllowedLine (header_in image).kind (header_in image).size (object_lines_in image) place;
  refuses = λ line. (place : ℕ) × (line ≡ object_place_by (header_in image).kind image place) × IsFirstRefused (header_in image).kind (header_in image).size (object_lines_in image) place;
}

-- no request of a queue's client stands on both sides: the line of side 1 is named
abbrev pub apart_check : List Line → Check
apart_check image = record {
  passes = AreApart (header_in image) (record_in image);
  refuses = λ line. ((header_in image).kind ≡ Queue) × ((place : ℕ) × (line ≡ slot_place_in image 1 place) × IsFirstWithout (IsApart (record_in image)) (slot_count (header_in image)) place);
}

-- how many items were taken from a queue
abbrev pub taken_in : List Line → ℕ
taken_in image = word_of (object_lines_in image) 1 0

-- how many items wait in a queue
abbrev pub waiting_in : List Line → ℕ
waiting_in image = word_of (object_lines_in image) 0 0 - taken_in image

-- the line of a waiting item is the cell of its position
abbrev pub IsCellAt : List Line → ℕ → Type 0
IsCellAt image place = IsCell (taken_in image + place) (line_at image (cell_place (header_in image) (taken_in image + place)))

-- the cells of a queue's waiting items, from the first on
abbrev pub cell_check : List Line → Check
cell_check image = record {
  passes = (header_in image).kind ≡ Queue → (place : ℕ) → place < waiting_in image → IsCellAt image place;
  refuses = λ line. ((header_in image).kind ≡ Queue) × ((place : ℕ) × (line ≡ cell_place (header_in image) (taken_in image + place)) × IsFirstWithout (IsCellAt image) (waiting_in image) place);
}

-- the checks of the header, the rounds and the records' own lines
abbrev pub opening_checks : List Line → List Check
opening_checks image = header_check image ∷ round_check image 0 ∷ round_check image 1 ∷ record_check image 0 ∷ record_check image 1 ∷ []

-- the checks of what the records represent
abbrev pub state_checks : List Line → List Check
state_checks image = object_check image ∷ apart_check image ∷ cell_check image ∷ []

-- all checks of a region, in their order
abbrev pub region_checks : List Line → List Check
region_checks image = opening_checks image ++ state_checks image

-- the device has a region where its first word is the magic
abbrev pub HasRegion : List Line → Type 0
HasRegion image = word_of image 0 0 ≡ MAGIC

-- the region is damaged, and this is the first line that the format refuses
pub record IsDamagedAt (image : List Line) (line : ℕ) : Type 0 where
  pub region : HasRegion image
  pub first : IsFirstNamed (region_checks image) line
