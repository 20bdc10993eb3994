-- What a round and a settling come to.
use Rattle.std.specs.Prelude.{◌≡◌, ℕ, zero, suc, Bool, true, false, List, Some, None}
use Rattle.pb_pmem.specs.declared.device.DeviceFault.{DeviceFault}
use Rattle.pb_pmem.specs.declared.line.Line.{Line}
use Rattle.pb_pmem.specs.Operations.{Does, StopsBy, IsFailedPrefix}
use Rattle.pb_object.specs.History.{Round, after_round}
use Rattle.pb_object.specs.Standing.{Standing}
use Rattle.pb_layout.specs.NextRecord.{IsNextOf}
use Rattle.pb_layout.specs.RegionOps.{settle_to}
use Rattle.pb_layout.specs.Represents.{header_for, AreRecords}
use Rattle.pb_engine.specs.Operations.{round_ops, IsFailedRoundOps}
use Rattle.pb_engine.specs.View.{KnownRecords, EngineView, nothing_known, settled_standing, DeviceRepresents, IsInUse, AreInUse}

-- a side's records after a round whose record is these lines: they are in use, and what was in use is spare
abbrev pub stored_over : KnownRecords → List Line → KnownRecords
stored_over known lines = record { in_use = Some lines; spare = known.in_use }

-- the first side's records after a round of this side
abbrev pub stored_on_first : EngineView → ℕ → List Line → KnownRecords
stored_on_first engine zero lines = stored_over engine.first lines
stored_on_first engine (suc side) lines = engine.first

-- the second side's records after a round of this side
abbrev pub stored_on_second : EngineView → ℕ → List Line → KnownRecords
stored_on_second engine zero lines = engine.second
stored_on_second engine (suc side) lines = stored_over engine.second lines

-- these lines are what a legal round makes of its side's record, where the records in use are some that say the standing
pub record IsNextRecordOf (s : Standing) (round : Round) (lines : List Line) : Type 0 where
  pub records : ℕ → List Line
  pub say : AreRecords records s
  pub next : IsNextOf records s round lines

-- a round was made: the standing is the one after it, the engine is sure, and the device did the round's operations. Where its lines
-- represented the standing, they do so again, and its records in use are again those in memory
pub record HasMade (round : Round) (old new : EngineView) : Type 0 where
  pub standing : new.standing ≡ after_round old.standing round
  pub sure : new.sure ≡ true
  pub doubt : new.doubt ≡ None
  pub lines : List Line
  pub record_is : IsNextRecordOf old.standing round lines
  pub device : Does (round_ops old round lines) old.device new.device
  pub first : new.first ≡ stored_on_first old round.side lines
  pub second : new.second ≡ stored_on_second old round.side lines
  pub holds : IsInUse old round.side → DeviceRepresents old.standing old.device → DeviceRepresents new.standing new.device
  pub in_use : AreInUse old → AreInUse new

-- nothing is sure any more: neither whether the region is settled nor what its records hold
pub record IsUnsure (engine : EngineView) : Type 0 where
  pub sure : engine.sure ≡ false
  pub first : engine.first ≡ nothing_known
  pub second : engine.second ≡ nothing_known

-- a round failed: the standing is as before, the round is in doubt, and the device did the first of the round's operations
pub record HasFailedToMake (round : Round) (fault : DeviceFault) (old new : EngineView) : Type 0 where
  pub standing : new.standing ≡ old.standing
  pub called : Bool
  pub doubt : new.doubt ≡ Some (record { round = round; called = called })
  pub unsure : IsUnsure new
  pub lines : List Line
  pub record_is : IsNextRecordOf old.standing round lines
  pub device : StopsBy (IsFailedRoundOps old round lines called) fault old.device new.device

-- the region was settled: with the round in doubt where its index word was called, and without it else
pub record HasSettled (old new : EngineView) : Type 0 where
  pub standing : new.standing ≡ settled_standing old.standing old.doubt
  pub sure : new.sure ≡ true
  pub doubt : new.doubt ≡ None
  pub device : Does (settle_to (header_for new.standing) new.standing) old.device new.device
  pub first : new.first ≡ nothing_known
  pub second : new.second ≡ nothing_known
  pub holds : old.doubt ≡ None → DeviceRepresents old.standing old.device → DeviceRepresents new.standing new.device
  pub in_use : old.doubt ≡ None → AreInUse old → AreInUse new

-- settling failed: all is as before, and the device did the first of the operations
pub record HasFailedToSettle (fault : DeviceFault) (old new : EngineView) : Type 0 where
  pub standing : new.standing ≡ old.standing
  pub doubt : new.doubt ≡ old.doubt
  pub unsure : IsUnsure new
  pub device : StopsBy (IsFailedPrefix (settle_to (header_for (settled_standing old.standing old.doubt)) (settled_standing old.standing old.doubt))) fault old.device new.device
