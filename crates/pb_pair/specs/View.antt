-- A pair as contracts see it.
use Rattle.std.specs.Prelude.{◌≡◌, ◌≢◌, ℕ, zero, suc, ◌+◌, ◌%◌, ◌<◌, Bool, true, false, List, [], length, Option, Some, None, option_map}
use Rattle.pb_pmem.specs.declared.device.DeviceFault.{DeviceFault}
use Rattle.pb_pmem.specs.declared.line.Line.{Line}
use Rattle.pb_pmem.specs.declared.log.LogOp.{LogOp}
use Rattle.pb_pmem.specs.Device.{Device, Tale}
use Rattle.pb_pmem.specs.Operations.{StopsBy}
use Rattle.pb_object.specs.Standing.{side_count}
use Rattle.pb_layout.specs.declared.header.Header.{Header}
use Rattle.pb_layout.specs.Shape.{IsHeader}
use Rattle.pb_layout.specs.Header.{record_length}
use Rattle.pb_layout.specs.Record.{IsRecord}
use Rattle.pb_layout.specs.Represents.{record_at, record_in_use}
use Rattle.pb_layout.specs.ToldExits.{contents_of}
use Rattle.pb_pair.specs.declared.known.Known.{Known}
use Rattle.pb_pair.specs.declared.known.Known.TheVariants.{Sure, Failed}
use Rattle.pb_pair.specs.declared.known.Doubt.{Doubt}
use Rattle.pb_pair.specs.declared.side.Side.{Side}
use Rattle.pb_pair.specs.declared.side.Sides.{Sides}

-- a side: how many rounds it had; the lines of its record in use, and whether the pair wrote that record and no call failed since;
-- and what the device's spare record holds, where the pair wrote that one too
pub record SideView : Type 0 where
  pub round : ℕ
  pub lines : List Line
  pub written : Bool
  pub spare : Option (List Line)

-- a record that a failed store was to put in use: its side and lines, and whether the side's index word was called
pub record DoubtView : Type 0 where
  pub side : ℕ
  pub lines : List Line
  pub called : Bool

-- the device, the header, the two sides, what is known of the device, and the record in doubt. An object with one side has the first
pub record PairView : Type 0 where
  pub device : Device
  pub head : Header
  pub first : SideView
  pub second : SideView
  pub known : Known
  pub doubt : Option DoubtView

-- one of two, by the number of a side
abbrev pub at_side : {T : Type 0} → T → T → ℕ → T
at_side first second zero = first
at_side first second (suc side) = second

-- the side of a pair with this number
abbrev pub view_of_side : PairView → ℕ → SideView
view_of_side pair side = at_side pair.first pair.second side

-- a side's round number
abbrev pub round_of_side : PairView → ℕ → ℕ
round_of_side pair side = (view_of_side pair side).round

-- the lines of a side's record in use
abbrev pub lines_of : PairView → ℕ → List Line
lines_of pair side = (view_of_side pair side).lines

-- a side that isn't there
abbrev pub no_side : SideView
no_side = record { round = 0; lines = []; written = false; spare = None }

-- a side of whose records nothing is known to be on the device
abbrev pub forgotten : SideView → SideView
forgotten part = record part { written = false; spare = None }

-- What the fields mean

-- lines that are known, or none
abbrev pub if_known : Bool → List Line → Option (List Line)
if_known true lines = Some lines
if_known false lines = None

-- a side as contracts see it
abbrev pub side_view : Side → SideView
side_view side = record {
  round = side.round;
  lines = side.lines.items;
  written = side.written;
  spare = if_known side.spare_known side.spare.items;
}

-- the record in doubt lies in the memory of its side's spare record
abbrev pub doubt_view : Sides → Doubt → DoubtView
doubt_view sides doubt = record {
  side = doubt.side;
  lines = at_side sides.first.spare.items sides.second.spare.items doubt.side;
  called = doubt.called;
}

-- a pair as contracts see it
abbrev pub pair_view : Device → Header → Sides → Known → Option Doubt → PairView
pair_view device head sides known doubt = record {
  device = device;
  head = head;
  first = side_view sides.first;
  second = side_view sides.second;
  known = known;
  doubt = option_map (doubt_view sides) doubt;
}

-- each side has as much memory for a spare record as for the one in use
pub record HasRoom (sides : Sides) : Type 0 where
  pub first : length sides.first.spare.items ≡ length sides.first.lines.items
  pub second : length sides.second.spare.items ≡ length sides.second.lines.items

-- What holds of each pair

-- the lines are a record of the side's round
pub record IsSide (head : Header) (side : ℕ) (part : SideView) : Type 0 where
  pub long : length part.lines ≡ record_length head
  pub own : IsRecord head side part.round part.lines

-- what is known of a side's records is what the device's lines say
pub record HoldsSide (head : Header) (side : ℕ) (part : SideView) (image : List Line) : Type 0 where
  pub in_use : part.written ≡ true → record_at image head side (part.round % 2) ≡ part.lines
  pub spare : (lines : List Line) → part.spare ≡ Some lines → record_at image head side ((part.round + 1) % 2) ≡ lines

-- the record in doubt is a next record of its side
pub record IsDoubt (head : Header) (first second : SideView) (doubt : DoubtView) : Type 0 where
  pub here : doubt.side < side_count head.kind
  pub long : length doubt.lines ≡ record_length head
  pub own : IsRecord head doubt.side ((at_side first second doubt.side).round + 1) doubt.lines

-- lines that hold a pair's records in use, and, where the index word of the record in doubt was called, that one as its side's next
pub record HoldsRecords (pair : PairView) (image : List Line) : Type 0 where
  pub in_use : (side : ℕ) → side < side_count pair.head.kind → record_in_use image pair.head side (round_of_side pair side) ≡ lines_of pair side
  pub in_doubt : (doubt : DoubtView) → pair.doubt ≡ Some doubt → doubt.called ≡ true
      → record_in_use image pair.head doubt.side (round_of_side pair doubt.side + 1) ≡ doubt.lines

-- the sides are those that the header says, and what the pair knows of the device is so
pub record IsPair (pair : PairView) : Type 0 where
  pub valid : IsHeader pair.head
  pub sides : (side : ℕ) → side < side_count pair.head.kind → IsSide pair.head side (view_of_side pair side)
  pub one_side : side_count pair.head.kind ≡ 1 → pair.second ≡ no_side
  pub holds : (image : List Line) → pair.device.now ≡ Some image → (side : ℕ) → side < side_count pair.head.kind → HoldsSide pair.head side (view_of_side pair side) image
  -- a device that tells its log holds the records, whether the pair knows that or not
  pub records : (tale : Tale) → pair.device.told ≡ Some tale → HoldsRecords pair (contents_of tale)
  -- a pair that isn't sure knows nothing of what the device's records hold, and has a record in doubt only after a call that failed
  pub unsure_first : pair.known ≢ Sure → pair.first ≡ forgotten pair.first
  pub unsure_second : pair.known ≢ Sure → pair.second ≡ forgotten pair.second
  pub in_doubt : (doubt : DoubtView) → pair.doubt ≡ Some doubt → IsDoubt pair.head pair.first pair.second doubt
  pub decided : pair.known ≢ Failed → pair.doubt ≡ None

-- a call that failed: its operations were cut off; the header and the records in use are as before, nothing is known of what the
-- device's records hold, and this record is in doubt
pub record HasFailed (IsPrefix : List LogOp → Type 0) (left : Option DoubtView) (old : PairView) (fault : DeviceFault) (new : PairView) : Type 0 where
  pub sound : IsPair new
  pub device : StopsBy IsPrefix fault old.device new.device
  pub head : new.head ≡ old.head
  pub first : new.first ≡ forgotten old.first
  pub second : new.second ≡ forgotten old.second
  pub known : new.known ≡ Failed
  pub doubt : new.doubt ≡ left

-- the same records in the same memory, of which nothing is known to be on the device
pub record HasForgotten (old new : Sides) : Type 0 where
  pub first : side_view new.first ≡ forgotten (side_view old.first)
  pub second : side_view new.second ≡ forgotten (side_view old.second)
  pub first_spare : new.first.spare ≡ old.first.spare
  pub second_spare : new.second.spare ≡ old.second.spare
