-- Lists of operations that are made one by one: what they do to a device, and where they stop.
use Rattle.std.specs.Prelude.{◌≡◌, ◌⊎◌, ℕ, suc, ◌+◌, ◌<◌, ◌≤◌, List, [], ◌∷◌, ◌++◌, option_map}
use Rattle.pb_pmem.specs.declared.device.DeviceFault.{DeviceFault}
use Rattle.pb_pmem.specs.declared.line.Line.{Line}
use Rattle.pb_pmem.specs.declared.line.TheConstants.{LINES}
use Rattle.pb_pmem.specs.declared.log.LogOp.{LogOp}
use Rattle.pb_pmem.specs.declared.log.LogOp.TheVariants.{Whole, Word, Back, Fence, Sync}
use Rattle.pb_pmem.specs.Contents.{contents}
use Rattle.pb_pmem.specs.Count.{Rose}
use Rattle.pb_pmem.specs.Device.{Device, Tale, MayAdd}

-- writes of these lines, one after the other, from a line on
unfoldable pub writes_from : ℕ → List Line → List LogOp
writes_from first [] = []
writes_from first (line ∷ lines) = Whole first line ∷ writes_from (suc first) lines

-- the first of these operations, and then the call of the next one failed
pub record IsFailedPrefix (all ops : List LogOp) : Type 0 where
  pub prefix : List LogOp
  pub failed : LogOp
  pub rest : List LogOp
  pub whole : all ≡ prefix ++ failed ∷ rest
  pub added : (ops ≡ prefix) ⊎ ((op : LogOp) × MayAdd failed op × (ops ≡ prefix ++ op ∷ []))

-- more operations
abbrev pub with_ops : List LogOp → Tale → Tale
with_ops ops tale = record tale { log = tale.log ++ ops }

-- lines after these operations
abbrev pub after : List LogOp → List Line → List Line
after ops lines = contents lines ops

-- calls that all answered Ok: the log is longer by these operations, the lines are changed by them alone, and the count stays
pub record Does (ops : List LogOp) (old new : Device) : Type 0 where
  pub told : new.told ≡ option_map (with_ops ops) old.told
  pub now : new.now ≡ option_map (after ops) old.now
  pub faults : new.faults ≡ old.faults

-- calls that stopped at a failing one: the count rose, the base stays, and the log is longer by operations of which this holds
pub record Stops (IsPrefix : List LogOp → Type 0) (old new : Device) : Type 0 where
  pub rose : Rose old.faults new.faults
  pub ops : List LogOp
  pub cut : IsPrefix ops
  pub told : new.told ≡ option_map (with_ops ops) old.told

-- the same, with the count before and after
pub record StopsBy (IsPrefix : List LogOp → Type 0) (fault : DeviceFault) (old new : Device) : Type 0 where
  pub from : fault.from ≡ old.faults
  pub to : fault.to ≡ new.faults
  pub stops : Stops IsPrefix old new

-- all of these operations, and then the first of others, up to a call that failed
pub record IsFailedPrefixAfter (front all ops : List LogOp) : Type 0 where
  pub tail : List LogOp
  pub cut : IsFailedPrefix all tail
  pub whole : ops ≡ front ++ tail

-- operations in two parts, cut off in the first or after it
abbrev pub IsFailedPrefixOfTwo : List LogOp → List LogOp → List LogOp → Type 0
IsFailedPrefixOfTwo first second ops = IsFailedPrefix first ops ⊎ IsFailedPrefixAfter first second ops

-- the operation lies within a device
abbrev pub IsWithin : LogOp → Type 0
IsWithin (Whole line to) = line < LINES
IsWithin (Word line word to) = (line < LINES) × (word < 8)
IsWithin (Back first count) = first + count ≤ LINES
IsWithin Fence = Unit {0}
IsWithin Sync = Unit {0}

-- all of these operations lie within a device
abbrev pub AllWithin : List LogOp → Type 0
AllWithin [] = Unit {0}
AllWithin (op ∷ ops) = IsWithin op × AllWithin ops
