-- Settling what an opened pair found, or what a failed call left.
use Rattle.std.specs.Prelude.{◌≡◌, ℕ, ◌+◌, ◌==◌, ◌&&◌, Bool, true, false, List, Option, Some, None}
use Rattle.pb_pmem.specs.declared.line.Line.{Line}
use Rattle.pb_pmem.specs.declared.log.LogOp.{LogOp}
use Rattle.pb_pmem.specs.Operations.{Does}
use Rattle.pb_layout.specs.RegionOps.{settle_ops}
use Rattle.pb_pair.specs.declared.known.Known.TheVariants.{Sure}
use Rattle.pb_pair.specs.declared.known.Doubt.{Doubt}
use Rattle.pb_pair.specs.View.{SideView, DoubtView, PairView, IsPair}

-- the index word of the record in doubt was called
abbrev pub was_called : Option DoubtView → Bool
was_called None = false
was_called (Some doubt) = doubt.called

-- the same of what the pair keeps of the doubt
abbrev pub called_in : Option Doubt → Bool
called_in None = false
called_in (Some doubt) = doubt.called

-- the index word that was called is that of this side
abbrev pub called_on : Option Doubt → ℕ → Bool
called_on None side = false
called_on (Some doubt) side = doubt.called && (doubt.side == side)

-- a side after settling that had these lines in doubt: where their index word was called, they are in use
abbrev pub settled_by : Bool → List Line → SideView → SideView
settled_by true lines part = record { round = part.round + 1; lines = lines; written = false; spare = None }
settled_by false lines part = part

-- a side after settling with this doubt
abbrev pub settled_side : Option DoubtView → ℕ → SideView → SideView
settled_side None side part = part
settled_side (Some doubt) side part = settled_by (doubt.called && (doubt.side == side)) doubt.lines part

-- the operations of settling
abbrev pub settled_ops : PairView → List LogOp
settled_ops pair = settle_ops pair.head (settled_side pair.doubt 0 pair.first).round (settled_side pair.doubt 1 pair.second).round

-- the pair is sure, and nothing is in doubt
pub record IsSettled (old new : PairView) : Type 0 where
  pub sound : IsPair new
  pub device : Does (settled_ops old) old.device new.device
  pub head : new.head ≡ old.head
  pub first : new.first ≡ settled_side old.doubt 0 old.first
  pub second : new.second ≡ settled_side old.doubt 1 old.second
  pub known : new.known ≡ Sure
  pub doubt : new.doubt ≡ None
