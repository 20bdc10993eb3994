-- What the code shows of the device, and of the calls that are being made.
use Rattle.std.specs.Prelude.{◌≡◌, ℕ, Bool, true, false, List, [], ◌∷◌, ◌++◌, length}
use Rattle.pb_crash.specs.declared.leaves.Leaves.{Leaves}
use Rattle.pb_pmem.specs.declared.log.LogOp.{LogOp}
use Rattle.pb_pmem.specs.Contents.{contents}
use Rattle.pb_pmem.specs.Device.{Tale, with_op}
use Rattle.pb_core.specs.World.{CallProgress, NoCall, InCall}
use Rattle.pb_core.specs.WorldMoves.{failed}
use Rattle.pb_play.specs.declared.calls.Calls.{Calls}
use Rattle.pb_play.specs.declared.device.Device.{Device}

-- so many of the planned calls are made
pub record IsReached (plan : List LogOp) (reached : ℕ) (made left : List LogOp) : Type 0 where
  pub all : made ++ left ≡ plan
  pub count : length made ≡ reached

abbrev pub ShowsProgress : Bool → List LogOp → ℕ → CallProgress → Type 0
ShowsProgress false plan reached NoCall = Unit {0}
ShowsProgress false plan reached (InCall entry made left) = ⊥
ShowsProgress true plan reached NoCall = ⊥
ShowsProgress true plan reached (InCall entry made left) = IsReached plan reached made left

-- the device, with the calls that are being made
pub record ShowsDevice (calls : Calls) (device : Device) (tale : Tale) (progress : CallProgress) : Type 0 where
  pub progress_is : ShowsProgress calls.going calls.plan.items calls.made progress
  pub base : tale.base ≡ device.base.items
  pub log : tale.log ≡ device.log.items
  pub lines : contents tale.base tale.log ≡ device.lines.items

-- all are made
abbrev pub IsMade : CallProgress → Type 0
IsMade NoCall = ⊥
IsMade (InCall entry made []) = Unit {0}
IsMade (InCall entry made (op ∷ left)) = ⊥

-- the next call is made
pub record MakesCall (tale : Tale) (progress : CallProgress) (calls : Calls) (device : Device) : Type 0 where
  pub entry : List LogOp
  pub made : List LogOp
  pub op : LogOp
  pub left : List LogOp
  pub at : progress ≡ InCall entry made (op ∷ left)
  pub shows : ShowsDevice calls device (with_op op tale) (InCall entry (made ++ op ∷ []) left)

-- .. or fails
pub record FailsCall (how : Leaves) (tale : Tale) (progress : CallProgress) (calls : Calls) (device : Device) : Type 0 where
  pub entry : List LogOp
  pub made : List LogOp
  pub op : LogOp
  pub left : List LogOp
  pub at : progress ≡ InCall entry made (op ∷ left)
  pub shows : ShowsDevice calls device (failed how op tale) NoCall
