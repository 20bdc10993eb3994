-- Opening a region.
use Rattle.std.specs.Prelude.{◌≡◌, ℕ, ◌<◌, List, None, IfSome}
use Rattle.pb_pmem.specs.declared.device.DeviceFault.{DeviceFault}
use Rattle.pb_pmem.specs.declared.line.Line.{Line}
use Rattle.pb_pmem.specs.Device.{Device, Fails, IsNoOp, IsWhole}
use Rattle.pb_object.specs.Standing.{side_count}
use Rattle.pb_layout.specs.Damage.{HasRegion, AllPass, IsFirstNamed, opening_checks, header_in, round_in, record_in}
use Rattle.pb_pair.specs.declared.known.Known.TheVariants.{Opened}
use Rattle.pb_pair.specs.declared.open.Region.{Region}
use Rattle.pb_pair.specs.declared.why.Stop.{Stop}
use Rattle.pb_pair.specs.declared.why.Stop.TheVariants.{NoMemory, Fault, WasTaken, WasEmpty, BadLine}
use Rattle.pb_pair.specs.declared.why.Why.{Why}
use Rattle.pb_pair.specs.declared.why.Why.TheVariants.{Memory, Device as DeviceWhy, Taken, NoRegion, Damaged}
use Rattle.pb_pair.specs.View.{PairView, IsPair, HasRoom, pair_view, round_of_side, lines_of}

-- a pair that says what the lines say, which pass all checks that opening makes
pub record IsReadFrom (pair : PairView) (image : List Line) : Type 0 where
  pub passes : AllPass (opening_checks image)
  pub head : pair.head ≡ header_in image
  pub rounds : (side : ℕ) → side < side_count pair.head.kind → round_of_side pair side ≡ round_in image side
  pub records : (side : ℕ) → side < side_count pair.head.kind → lines_of pair side ≡ record_in image side

-- the pair of a device whose region was opened
pub record IsOpened (device : Device) (pair : PairView) : Type 0 where
  pub sound : IsPair pair
  pub whole : IsWhole device
  pub same : pair.device ≡ device
  pub read : IfSome device.now (IsReadFrom pair)
  pub known : pair.known ≡ Opened
  pub doubt : pair.doubt ≡ None

-- the region is damaged, and this is the first line that opening refuses
pub record IsRefusedAt (line : ℕ) (image : List Line) : Type 0 where
  pub region : HasRegion image
  pub first : IsFirstNamed (opening_checks image) line

-- a read failed
pub record HasFailedRead (fault : DeviceFault) (old new : Device) : Type 0 where
  pub from : fault.from ≡ old.faults
  pub to : fault.to ≡ new.faults
  pub fails : Fails IsNoOp old new

-- why a region wasn't opened, and what became of the device
abbrev pub IsOpenRefusal : Device → Device → Why → Type 0
IsOpenRefusal old new Memory = new ≡ old
IsOpenRefusal old new (DeviceWhy fault) = HasFailedRead fault old new
IsOpenRefusal old new Taken = ⊥
IsOpenRefusal old new NoRegion = (new ≡ old) × IfSome old.now (λ lines. ¬ HasRegion lines)
IsOpenRefusal old new (Damaged line) = (new ≡ old) × IfSome old.now (IsRefusedAt line)

-- the same, where opening stopped
abbrev pub IsOpenStop : Device → Device → Stop → Type 0
IsOpenStop old new NoMemory = new ≡ old
IsOpenStop old new Fault = Fails IsNoOp old new
IsOpenStop old new WasTaken = ⊥
IsOpenStop old new WasEmpty = (new ≡ old) × IfSome old.now (λ lines. ¬ HasRegion lines)
IsOpenStop old new (BadLine line) = (new ≡ old) × IfSome old.now (IsRefusedAt line)

-- what was read of a region
pub record HasReadRegion (region : Region) (old new : Device) : Type 0 where
  pub opened : IsOpened old (pair_view new region.head region.sides Opened None)
  pub room : HasRoom region.sides
