-- Making an engine, and opening one.
use Rattle.std.specs.Prelude.{◌≡◌, ◌⊎◌, true, false, List, [], ◌∷◌, Some, None, IfSome, Bool, ◌==◌}
use Rattle.pb_pmem.specs.declared.line.Line.{Line}
use Rattle.pb_pmem.specs.Device.{Device, Tale}
use Rattle.pb_pmem.specs.Operations.{Does}
use Rattle.pb_layout.specs.declared.header.Header.{Header}
use Rattle.pb_layout.specs.Damage.{HasRegion, IsDamagedAt}
use Rattle.pb_layout.specs.Exits.{empty_for, AreEmptyRecords}
use Rattle.pb_layout.specs.RegionOps.{format_ops}
use Rattle.pb_layout.specs.ToldExits.{IsCoveredExit, HasPublished, IsReadyWith}
use Rattle.pb_pmem.specs.declared.device.DeviceFault.{DeviceFault}
use Rattle.pb_pair.specs.declared.why.Why.{Why}
use Rattle.pb_pair.specs.declared.why.Why.TheVariants.{Memory, Device as DeviceWhy, Taken, NoRegion, Damaged}
use Rattle.pb_pair.specs.Format.{IsFormatRefusal}
use Rattle.pb_pair.specs.Open.{HasFailedRead}
use Rattle.pb_engine.specs.View.{EngineView, AreInUse, nothing_known, DeviceRepresents, KnownRecords}
use Rattle.pb_object.specs.Standing.{side_count}
use Rattle.pb_pair.specs.View.{if_known}

-- what is known of a side's records after formatting: its first record, where there is the side, and nothing of the spare one
abbrev pub formatted_with : Bool → List Line → KnownRecords
formatted_with there lines = record { in_use = if_known there lines; spare = None }

-- an engine of a region that was just made: nothing was asked yet, and it is sure. There was no region before
pub record IsFreshEngine (head : Header) (old : Device) (new : EngineView) : Type 0 where
  pub standing : new.standing ≡ empty_for head
  pub doubt : new.doubt ≡ None
  pub sure : new.sure ≡ true
  pub first_lines : List Line
  pub second_lines : List Line
  pub empty : AreEmptyRecords head first_lines second_lines
  pub first : new.first ≡ formatted_with true first_lines
  pub second : new.second ≡ formatted_with (side_count head.kind == 2) second_lines
  pub device : Does (format_ops head first_lines second_lines) old new.device
  pub no_region : IfSome old.now (λ lines. ¬ HasRegion lines)
  pub holds : DeviceRepresents (empty_for head) new.device
  pub in_use : AreInUse new
  pub covers : (tale : Tale) → old.told ≡ Some tale → IsReadyWith (None ∷ []) tale
      → IsCoveredExit tale new.device (empty_for head) [] (Some (empty_for head) ∷ [])

-- why none was made, and what became of the device: nothing was done where there was a region; where a call of the device failed, it did
-- the first of the operations that make the empty region, and still has none, alone, or holds the empty one, which a crash may take back
pub record IsFreshRefusal (head : Header) (old new : Device) (why : Why) : Type 0 where
  pub first_lines : List Line
  pub second_lines : List Line
  pub empty : (fault : DeviceFault) → why ≡ DeviceWhy fault → AreEmptyRecords head first_lines second_lines
  pub refusal : IsFormatRefusal head first_lines second_lines old new why
  pub covers : (tale : Tale) → old.told ≡ Some tale → IsReadyWith (None ∷ []) tale
      → IsCoveredExit tale new (empty_for head) [] (None ∷ []) ⊎ HasPublished tale new head

-- an engine of a region that was opened: its standing is what the device's lines represent, and it has their records in use in memory;
-- nothing was done, and it isn't sure until it is settled
pub record IsAdopted (device : Device) (engine : EngineView) : Type 0 where
  pub same : engine.device ≡ device
  pub stands : DeviceRepresents engine.standing device
  pub in_use : AreInUse engine
  pub doubt : engine.doubt ≡ None
  pub sure : engine.sure ≡ false
  pub first : engine.first ≡ nothing_known
  pub second : engine.second ≡ nothing_known

-- why none was opened without reading the device: memory ran out, or the region is damaged at this line
abbrev pub IsUnreadRefusal : Device → Device → Why → Type 0
IsUnreadRefusal old new Memory = new ≡ old
IsUnreadRefusal old new (DeviceWhy fault) = ⊥
IsUnreadRefusal old new Taken = ⊥
IsUnreadRefusal old new NoRegion = ⊥
IsUnreadRefusal old new (Damaged line) = (new ≡ old) × IfSome old.now (λ lines. IsDamagedAt lines line)

-- the same where cells are read: or a read failed
abbrev pub IsAdoptRefusal : Device → Device → Why → Type 0
IsAdoptRefusal old new Memory = new ≡ old
IsAdoptRefusal old new (DeviceWhy fault) = HasFailedRead fault old new
IsAdoptRefusal old new Taken = ⊥
IsAdoptRefusal old new NoRegion = ⊥
IsAdoptRefusal old new (Damaged line) = (new ≡ old) × IfSome old.now (λ lines. IsDamagedAt lines line)
