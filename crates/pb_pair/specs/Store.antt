-- Storing a record.
use Rattle.std.specs.Prelude.{◌≡◌, ℕ, ◌+◌, ◌<◌, Bool, true, false, List, length, Option, Some, None}
use Rattle.pb_pmem.specs.declared.device.DeviceFault.{DeviceFault}
use Rattle.pb_pmem.specs.declared.line.Line.{Line}
use Rattle.pb_pmem.specs.declared.log.LogOp.{LogOp}
use Rattle.pb_pmem.specs.Device.{Device}
use Rattle.pb_pmem.specs.Operations.{Does, Stops, IsFailedPrefix, IsFailedPrefixAfter}
use Rattle.pb_object.specs.Standing.{side_count}
use Rattle.pb_layout.specs.declared.header.Header.{Header}
use Rattle.pb_layout.specs.Header.{record_length}
use Rattle.pb_layout.specs.Record.{IsRecord}
use Rattle.pb_layout.specs.RegionOps.{stage_over, store_over, commit_ops, spare_place}
use Rattle.pb_pair.specs.declared.known.Known.TheVariants.{Sure}
use Rattle.pb_pair.specs.declared.side.Sides.{Sides}
use Rattle.pb_pair.specs.View.{SideView, DoubtView, PairView, IsPair, HasFailed, view_of_side, side_view, round_of_side, if_known, at_side, forgotten}

-- the lines are written where the side's spare record is, given to the device and fenced
abbrev pub staged_ops : Header → ℕ → SideView → List Line → List LogOp
staged_ops head side part lines = stage_over (spare_place head side part.round) part.spare lines

-- a store: the lines are staged, and then the side switches to them
abbrev pub stored_ops : Header → ℕ → SideView → List Line → List LogOp
stored_ops head side part lines = store_over head side part.round part.spare lines

-- the side after a store: the lines are in use, and what was in use is spare
abbrev pub stored_side : SideView → List Line → SideView
stored_side part lines = record { round = part.round + 1; lines = lines; written = true; spare = if_known part.written part.lines }

-- lines that may be stored: a whole record of this side that carries its next round
pub record IsNext (pair : PairView) (side : ℕ) (lines : List Line) : Type 0 where
  pub here : side < side_count pair.head.kind
  pub long : length lines ≡ record_length pair.head
  pub own : IsRecord pair.head side (round_of_side pair side + 1) lines

-- the lines are stored: they are the record in use, and there is one round more; the other side is as before
pub record IsStored (side : ℕ) (lines : List Line) (old new : PairView) : Type 0 where
  pub sound : IsPair new
  pub device : Does (stored_ops old.head side (view_of_side old side) lines) old.device new.device
  pub head : new.head ≡ old.head
  pub first : new.first ≡ at_side (stored_side old.first lines) old.first side
  pub second : new.second ≡ at_side old.second (stored_side old.second lines) side
  pub known : new.known ≡ Sure
  pub doubt : new.doubt ≡ None

-- a store that failed before the fence was done, or from its index word on: so says the record in doubt
abbrev pub IsFailedStore : Header → ℕ → SideView → List Line → Bool → List LogOp → Type 0
IsFailedStore head side part lines false ops = IsFailedPrefix (staged_ops head side part lines) ops
IsFailedStore head side part lines true ops = IsFailedPrefixAfter (staged_ops head side part lines) (commit_ops side (part.round + 1)) ops

-- the record in doubt after a store of these lines that failed
abbrev pub doubt_of : ℕ → List Line → Bool → Option DoubtView
doubt_of side lines called = Some (record { side = side; lines = lines; called = called })

-- Within a store

-- the memory of a side and the device after a whole store
pub record StoresSide (head : Header) (side : ℕ) (lines : List Line) (old new : SideView) (before after : Device) : Type 0 where
  pub device : Does (stored_ops head side old lines) before after
  pub part : new ≡ stored_side old lines

-- the memory of a side and the device after a store that failed: the lines lie in the memory of the spare record
pub record StopsSide (head : Header) (side : ℕ) (lines kept : List Line) (called : Bool) (old new : SideView) (before after : Device) : Type 0 where
  pub device : Stops (IsFailedStore head side old lines called) before after
  pub round : new.round ≡ old.round
  pub same : new.lines ≡ old.lines
  pub kept_is : kept ≡ lines

-- the memory of both sides and the device after a whole store
pub record StoresSides (head : Header) (side : ℕ) (lines : List Line) (old new : Sides) (before after : Device) : Type 0 where
  pub device : Does (stored_ops head side (at_side (side_view old.first) (side_view old.second) side) lines) before after
  pub first : side_view new.first ≡ at_side (stored_side (side_view old.first) lines) (side_view old.first) side
  pub second : side_view new.second ≡ at_side (side_view old.second) (stored_side (side_view old.second) lines) side

-- the memory of both sides and the device after a store that failed
pub record StopsSides (head : Header) (side : ℕ) (lines : List Line) (called : Bool) (old new : Sides) (before after : Device) : Type 0 where
  pub device : Stops (IsFailedStore head side (at_side (side_view old.first) (side_view old.second) side) lines called) before after
  pub first : forgotten (side_view new.first) ≡ forgotten (side_view old.first)
  pub second : forgotten (side_view new.second) ≡ forgotten (side_view old.second)
  pub kept : at_side new.first.spare.items new.second.spare.items side ≡ lines

-- a store that failed: its record is in doubt, and whether its index word had been called
pub record HasFailedStore (side : ℕ) (lines : List Line) (old : PairView) (fault : DeviceFault) (new : PairView) : Type 0 where
  pub called : Bool
  pub failed : HasFailed (IsFailedStore old.head side (view_of_side old side) lines called) (doubt_of side lines called) old fault new
