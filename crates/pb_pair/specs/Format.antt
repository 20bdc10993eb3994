-- Formatting a device.
use Rattle.std.specs.Prelude.{◌≡◌, ◌⊎◌, ◌<◌, ◌==◌, true, Bool, List, [], None, IfSome, length}
use Rattle.pb_pmem.specs.declared.line.Line.{Line}
use Rattle.pb_pmem.specs.declared.log.LogOp.{LogOp}
use Rattle.pb_pmem.specs.Device.{Device}
use Rattle.pb_pmem.specs.Operations.{Does, Stops, StopsBy, IsFailedPrefixOfTwo}
use Rattle.pb_object.specs.Standing.{side_count}
use Rattle.pb_layout.specs.declared.header.Header.{Header}
use Rattle.pb_layout.specs.Damage.{HasRegion}
use Rattle.pb_layout.specs.Shape.{IsHeader}
use Rattle.pb_layout.specs.Header.{record_length}
use Rattle.pb_layout.specs.Record.{IsRecord}
use Rattle.pb_layout.specs.RegionOps.{prepare_ops, publish_ops, format_ops}
use Rattle.pb_pair.specs.declared.known.Known.TheVariants.{Sure}
use Rattle.pb_pair.specs.declared.why.Stop.{Stop}
use Rattle.pb_pair.specs.declared.why.Stop.TheVariants.{NoMemory, Fault, WasTaken, WasEmpty, BadLine}
use Rattle.pb_pair.specs.declared.why.Why.{Why}
use Rattle.pb_pair.specs.declared.why.Why.TheVariants.{Memory, Device as DeviceWhy, Taken, NoRegion, Damaged}
use Rattle.pb_pair.specs.declared.side.Sides.{Sides}
use Rattle.pb_pair.specs.View.{SideView, PairView, IsPair, HasRoom, side_view}

-- first records of a region: of round 0 of side 0, and of side 1 where the object has two
pub record AreFirst (head : Header) (first second : List Line) : Type 0 where
  pub valid : IsHeader head
  pub long : length first ≡ record_length head
  pub own : IsRecord head 0 0 first
  pub second_long : 1 < side_count head.kind → length second ≡ record_length head
  pub second_own : 1 < side_count head.kind → IsRecord head 1 0 second
  pub no_second : side_count head.kind ≡ 1 → second ≡ []

-- a side after formatting: the device holds its record, and nothing is known of the spare one
abbrev pub fresh_side : Bool → List Line → SideView
fresh_side there lines = record { round = 0; lines = lines; written = there; spare = None }

-- the pair of a device that was formatted: there was no region
pub record IsFormatted (header : Header) (first second : List Line) (old : Device) (pair : PairView) : Type 0 where
  pub sound : IsPair pair
  pub device : Does (format_ops header first second) old pair.device
  pub no_region : IfSome old.now (λ lines. ¬ HasRegion lines)
  pub head : pair.head ≡ header
  pub first_side : pair.first ≡ fresh_side true first
  pub second_side : pair.second ≡ fresh_side (side_count header.kind == 2) second
  pub known : pair.known ≡ Sure
  pub doubt : pair.doubt ≡ None

-- where formatting may be cut off: at the first read, before the magic, or from the magic on
abbrev pub IsFailedFormat : Header → List Line → List Line → List LogOp → Type 0
IsFailedFormat head first second ops = (ops ≡ []) ⊎ IsFailedPrefixOfTwo (prepare_ops head first second) publish_ops ops

-- nothing was done to a device, or it had no region
abbrev pub HadNoRegion : Device → Device → Type 0
HadNoRegion old new = (new.told ≡ old.told) ⊎ IfSome old.now (λ lines. ¬ HasRegion lines)

-- why a device wasn't formatted, and what became of it: nothing was done where there was a region
abbrev pub IsFormatRefusal : Header → List Line → List Line → Device → Device → Why → Type 0
IsFormatRefusal head first second old new Memory = new ≡ old
IsFormatRefusal head first second old new (DeviceWhy fault) = StopsBy (IsFailedFormat head first second) fault old new × HadNoRegion old new
IsFormatRefusal head first second old new Taken = (new ≡ old) × IfSome old.now HasRegion
IsFormatRefusal head first second old new NoRegion = ⊥
IsFormatRefusal head first second old new (Damaged line) = ⊥

-- the same, where formatting stopped
abbrev pub IsFormatStop : Header → List Line → List Line → Device → Device → Stop → Type 0
IsFormatStop head first second old new NoMemory = new ≡ old
IsFormatStop head first second old new Fault = Stops (IsFailedFormat head first second) old new × HadNoRegion old new
IsFormatStop head first second old new WasTaken = (new ≡ old) × IfSome old.now HasRegion
IsFormatStop head first second old new WasEmpty = ⊥
IsFormatStop head first second old new (BadLine line) = ⊥

-- the sides that formatting made
pub record MakesRegion (head : Header) (first second : List Line) (old new : Device) (sides : Sides) : Type 0 where
  pub device : Does (format_ops head first second) old new
  pub no_region : IfSome old.now (λ lines. ¬ HasRegion lines)
  pub first_side : side_view sides.first ≡ fresh_side true first
  pub second_side : side_view sides.second ≡ fresh_side (side_count head.kind == 2) second
  pub room : HasRoom sides
