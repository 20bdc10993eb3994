-- What an engine's calls come to since it was opened or made.
use Rattle.std.specs.Prelude.{◌≡◌, ◌≢◌, ◌⊎◌, ℕ, min, suc, ◌+◌, ◌≤◌, Bool, true, false, List, [], ◌∷◌, ◌++◌, length, Option, Some, None, IfSome}
use Rattle.pb_pmem.specs.declared.log.LogOp.{LogOp}
use Rattle.pb_pmem.specs.declared.log.LogOp.TheVariants.{Whole, Word, Back, Fence, Sync}
use Rattle.pb_pmem.specs.Count.{Rose, last_count}
use Rattle.pb_pmem.specs.Device.{Device, Tale}
use Rattle.pb_pmem.specs.Operations.{with_ops}
use Rattle.pb_object.specs.History.{Round, History, IsLegal, state_after}
use Rattle.pb_object.specs.Standing.{Standing}
use Rattle.pb_layout.specs.Doubt.{either_state, IsRoundInDoubt, HasRoundLanded}
use Rattle.pb_layout.specs.LogHistory.{LoggedRound, rounds_in, AreSealed}
use Rattle.pb_layout.specs.Recovered.{Represents}
use Rattle.pb_layout.specs.ToldExits.{IsCoveredExit, IsSealedAfter, IsReadyWith, contents_of}
use Rattle.pb_engine.specs.Calls.{EngineCall, HasCalled}
use Rattle.pb_engine.specs.View.{FailedRound, EngineView, AreKnown, was_called, IsHeld}

-- Where the calls begin: the device tells its log, holds the standing and is ready; with the standing alone, where the engine is sure
pub record BeginsAt (tale : Tale) (members : List (Option Standing)) (start : EngineView) : Type 0 where
  pub told : start.device.told ≡ Some tale
  pub ready : IsReadyWith members tale
  pub stands : Represents (contents_of tale) start.standing
  pub alone : start.sure ≡ true → members ≡ Some start.standing ∷ []
  pub decided : start.doubt ≡ None

-- Nothing was settled yet since an opening: no round is told, and the device may be found with what it might be found with before
pub record IsStillFound (tale : Tale) (members : List (Option Standing)) (now : Device) (s : Standing) : Type 0 where
  pub left : IsCoveredExit tale now s [] members
  pub stands : IfSome now.told (λ after. Represents (contents_of after) s)

-- a round in doubt after others: these are told and sealed, and it is in doubt; or it is told too, and has landed
pub record IsInDoubtAfter (tale : Tale) (now : Device) (s : Standing) (rounds : History) (round : Round) : Type 0 where
  pub history : List LoggedRound
  pub left : IsCoveredExit tale now s history (either_state (state_after s rounds) round)
  pub state : (AreSealed history × (rounds_in history ≡ rounds) × IfSome now.told (λ after. IsRoundInDoubt after.base after.log (state_after s rounds) round))
      ⊎ ((rounds_in history ≡ rounds ++ round ∷ []) × IfSome now.told (λ after. HasRoundLanded after.base after.log (state_after s rounds) round))

-- where no index word of a failed round was called, the rounds are told and sealed, and the device is ready with the standing after them
-- alone; or nothing was settled yet
abbrev pub IsDecidedAfter : Tale → List (Option Standing) → EngineView → Standing → History → Type 0
IsDecidedAfter tale members now s rounds =
    IsSealedAfter tale now.device s rounds ⊎ ((now.sure ≡ false) × (rounds ≡ []) × IsStillFound tale members now.device s)

-- what a crash leaves of the calls since
pub record IsCovered (tale : Tale) (members : List (Option Standing)) (s : Standing) (now : EngineView) (rounds : History) : Type 0 where
  pub decided : was_called now.doubt ≡ false → IsDecidedAfter tale members now s rounds
  pub in_doubt : (failed : FailedRound) → now.doubt ≡ Some failed → failed.called ≡ true → IsInDoubtAfter tale now.device s rounds failed.round

-- how many fences there are among operations
abbrev pub fence_count : List LogOp → ℕ
fence_count [] = 0
fence_count (Whole line to ∷ ops) = fence_count ops
fence_count (Word line word to ∷ ops) = fence_count ops
fence_count (Back first count ∷ ops) = fence_count ops
fence_count (Fence ∷ ops) = suc (fence_count ops)
fence_count (Sync ∷ ops) = fence_count ops

-- how many syncs there are among operations
abbrev pub sync_count : List LogOp → ℕ
sync_count [] = 0
sync_count (Whole line to ∷ ops) = sync_count ops
sync_count (Word line word to ∷ ops) = sync_count ops
sync_count (Back first count ∷ ops) = sync_count ops
sync_count (Fence ∷ ops) = sync_count ops
sync_count (Sync ∷ ops) = suc (sync_count ops)

-- an opened engine that is sure was settled meanwhile, which takes a sync
abbrev pub settlings : Bool → Bool → ℕ
settlings true sure = 0
settlings false true = 1
settlings false false = 0

-- Where no call of the engine failed since, its operations have a fence and a sync for each round, and a sync for settling the opening
pub record HasCost (tale : Tale) (start now : EngineView) (rounds : History) : Type 0 where
  pub ops : List LogOp
  pub told : now.device.told ≡ Some (with_ops ops tale)
  pub fences : fence_count ops ≡ length rounds
  pub syncs : sync_count ops ≡ length rounds + settlings start.sure now.sure

-- where no call of the engine failed since, nothing came into doubt; where the engine was sure and knew what its records hold, it knows so
-- still; and what the device's lines represent has moved on as well
pub record IsQuiet (start now : EngineView) : Type 0 where
  pub sure : start.sure ≡ true → now.sure ≡ true
  pub doubt : start.doubt ≡ None → now.doubt ≡ None
  pub known : start.sure ≡ true → AreKnown start → AreKnown now
  pub holds : start.doubt ≡ None → IsHeld start → IsHeld now

-- So an engine has come from the start to this by these rounds, one after the other, and by these calls, so many of which failed: the rounds
-- are legal, and the standing is the one after them; the device's count of faults stayed where no call failed, and rose with each that did; its
-- log has grown by the operations of these calls; and what is said above holds where the device tells its log and was ready
pub record HasCome (start now : EngineView) (rounds : History) (failures : ℕ) (calls : List EngineCall) : Type 0 where
  pub legal : IsLegal start.standing rounds
  pub standing : now.standing ≡ state_after start.standing rounds
  pub count : start.device.faults ≤ now.device.faults
  pub calm : failures ≡ 0 → now.device.faults ≡ start.device.faults
  pub rose : failures ≢ 0 → Rose start.device.faults now.device.faults
  pub each : min (start.device.faults + failures) last_count ≤ now.device.faults
  pub called : HasCalled start now rounds failures calls
  pub quiet : failures ≡ 0 → IsQuiet start now
  pub covered : (tale : Tale) (members : List (Option Standing)) → BeginsAt tale members start → IsCovered tale members start.standing now rounds
  pub cost : (tale : Tale) → start.device.told ≡ Some tale → start.doubt ≡ None → failures ≡ 0 → HasCost tale start now rounds
