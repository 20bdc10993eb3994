-- What is read of a region, and why it is refused.
use Rattle.std.specs.Prelude.{◌≡◌, ◌≢◌, ◌⊎◌, ℕ, ◌+◌, ◌<◌, ◌%◌, false, List, IfSome, length, take, drop}
use Rattle.pb_pmem.specs.declared.line.Line.{Line}
use Rattle.pb_pmem.specs.Device.{Device, Fails, IsNoOp}
use Rattle.pb_pmem.specs.Lines.{line_at}
use Rattle.pb_object.specs.Standing.{side_count}
use Rattle.pb_layout.specs.declared.header.Header.{Header}
use Rattle.pb_layout.specs.declared.header.TheConstants.{MAGIC}
use Rattle.pb_layout.specs.Damage.{IsRoundLine}
use Rattle.pb_layout.specs.Shape.{IsHeader}
use Rattle.pb_layout.specs.Header.{IsHeaderLine, header_line_of, record_length, word}
use Rattle.pb_layout.specs.Record.{IsRecord, IsBadRecordAt}
use Rattle.pb_layout.specs.Region.{record_place}
use Rattle.pb_layout.specs.Represents.{record_in_use}
use Rattle.pb_pair.specs.declared.side.Side.{Side}
use Rattle.pb_pair.specs.View.{side_view, no_side}
use Rattle.pb_pair.specs.declared.why.Stop.{Stop}
use Rattle.pb_pair.specs.declared.why.Stop.TheVariants.{NoMemory, Fault, WasTaken, WasEmpty, BadLine}

-- lines that were read from a line of the device on
pub record HasRead (first : ℕ) (into : List Line) (old new : Device) : Type 0 where
  pub same : new ≡ old
  pub content : IfSome old.now (λ lines. into ≡ take (length into) (drop first lines))

-- a header, and the lines after it that count the rounds of its sides
pub record IsFront (front : List Line) (head : Header) : Type 0 where
  pub valid : IsHeader head
  pub header : line_at front 0 ≡ header_line_of head
  pub first : IsRoundLine head.kind 0 (line_at front 1)
  pub second : IsRoundLine head.kind 1 (line_at front 2)

-- the header is no header
pub record HasBadHeader (front : List Line) (line : ℕ) : Type 0 where
  pub region : word (line_at front 0) 0 ≡ MAGIC
  pub refused : ¬ IsHeaderLine (line_at front 0)
  pub place : line ≡ 0

-- the first line after the header doesn't count rounds
pub record HasBadFirst (front : List Line) (line : ℕ) : Type 0 where
  pub head : Header
  pub valid : IsHeader head
  pub header : line_at front 0 ≡ header_line_of head
  pub refused : ¬ IsRoundLine head.kind 0 (line_at front 1)
  pub place : line ≡ 1

-- the second line after the header doesn't count rounds, and the first one does
pub record HasBadSecond (front : List Line) (line : ℕ) : Type 0 where
  pub head : Header
  pub valid : IsHeader head
  pub header : line_at front 0 ≡ header_line_of head
  pub first : IsRoundLine head.kind 0 (line_at front 1)
  pub refused : ¬ IsRoundLine head.kind 1 (line_at front 2)
  pub place : line ≡ 2

-- why the first three lines are refused
abbrev pub IsFrontRefusal : List Line → Stop → Type 0
IsFrontRefusal front NoMemory = ⊥
IsFrontRefusal front Fault = ⊥
IsFrontRefusal front WasTaken = ⊥
IsFrontRefusal front WasEmpty = word (line_at front 0) 0 ≢ MAGIC
IsFrontRefusal front (BadLine line) = HasBadHeader front line ⊎ (HasBadFirst front line ⊎ HasBadSecond front line)

-- why the record in use, which begins at this line, is refused
abbrev pub IsRecordRefusal : Header → ℕ → ℕ → ℕ → List Line → Stop → Type 0
IsRecordRefusal head side round first lines NoMemory = ⊥
IsRecordRefusal head side round first lines Fault = ⊥
IsRecordRefusal head side round first lines WasTaken = ⊥
IsRecordRefusal head side round first lines WasEmpty = ⊥
IsRecordRefusal head side round first lines (BadLine line) = (place : ℕ) × (line ≡ first + place) × IsBadRecordAt head side round lines place

-- a side of which only the record in use was read
pub record HasReadSide (head : Header) (side round : ℕ) (read : Side) (old new : Device) : Type 0 where
  pub same : new ≡ old
  pub round_is : read.round ≡ round
  pub written : read.written ≡ false
  pub spare_known : read.spare_known ≡ false
  pub long : length read.lines.items ≡ record_length head
  pub room : length read.spare.items ≡ length read.lines.items
  pub own : IsRecord head side round read.lines.items
  pub content : IfSome old.now (λ image. read.lines.items ≡ record_in_use image head side round)

-- why a side wasn't read
abbrev pub IsSideStop : Header → ℕ → ℕ → Device → Device → Stop → Type 0
IsSideStop head side round old new NoMemory = new ≡ old
IsSideStop head side round old new Fault = Fails IsNoOp old new
IsSideStop head side round old new WasTaken = ⊥
IsSideStop head side round old new WasEmpty = ⊥
IsSideStop head side round old new (BadLine line) =
    (new ≡ old) × IfSome old.now (λ image. (place : ℕ) × (line ≡ record_place head side (round % 2) + place) × IsBadRecordAt head side round (record_in_use image head side round) place)

-- a second side: it was read where the object has two, and is empty where it has one
pub record HasReadSecond (head : Header) (round : ℕ) (old new : Device) (read : Side) : Type 0 where
  pub one : side_count head.kind ≡ 1 → (new ≡ old) × (side_view read ≡ no_side)
  pub two : 1 < side_count head.kind → HasReadSide head 1 round read old new
  pub room : length read.spare.items ≡ length read.lines.items

-- why a second side wasn't read
pub record IsSecondStop (head : Header) (round : ℕ) (old new : Device) (stop : Stop) : Type 0 where
  pub one : side_count head.kind ≡ 1 → (new ≡ old) × (stop ≡ NoMemory)
  pub two : 1 < side_count head.kind → IsSideStop head 1 round old new stop
