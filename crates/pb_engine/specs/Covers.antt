-- What a crash leaves of a round and of a settling, where the device tells its log.
use Rattle.std.specs.Prelude.{◌≡◌, true, false, List, [], ◌∷◌, Option, Some}
use Rattle.pb_pmem.specs.Device.{Tale}
use Rattle.pb_object.specs.History.{Round, after_round}
use Rattle.pb_object.specs.Standing.{Standing}
use Rattle.pb_layout.specs.Doubt.{IsRoundInDoubt, HasRoundLanded}
use Rattle.pb_layout.specs.Exits.{sealed_round}
use Rattle.pb_layout.specs.Recovered.{Represents}
use Rattle.pb_layout.specs.ToldExits.{IsCoveredExit, IsInDoubt, IsReadyWith, contents_of, AllSealed, StaysLanded}
use Rattle.pb_engine.specs.View.{FailedRound, EngineView, was_called}

-- a round that was made on a device that was ready with the standing alone: the log tells it, sealed, and the device is ready with the
-- standing after it alone
abbrev pub RoundCovers : Round → EngineView → EngineView → Type 0
RoundCovers round old new =
    (tale : Tale) → old.device.told ≡ Some tale → IsReadyWith (Some old.standing ∷ []) tale
    → IsCoveredExit tale new.device old.standing (sealed_round round ∷ []) (Some (after_round old.standing round) ∷ [])

-- one that failed: before its index word was called the device is ready with the standing alone still, and no round is told; from there
-- on it is ready with the standings before and after the round, which is in doubt, or told and landed
pub record FailedRoundCovers (round : Round) (old new : EngineView) : Type 0 where
  pub uncalled : was_called new.doubt ≡ false → (tale : Tale) → old.device.told ≡ Some tale → IsReadyWith (Some old.standing ∷ []) tale
      → IsCoveredExit tale new.device old.standing [] (Some old.standing ∷ [])
  pub called : was_called new.doubt ≡ true → (tale : Tale) → old.device.told ≡ Some tale → IsReadyWith (Some old.standing ∷ []) tale
      → IsInDoubt tale new.device old.standing round

-- A region that was settled. Where no index word was called, what the device holds stays, alone, and no round is told; where one was
-- called, the log tells its round, sealed, or told it before, and the standing after it is left alone
pub record SettleCovers (old new : EngineView) : Type 0 where
  pub found : was_called old.doubt ≡ false → (tale : Tale) (members : List (Option Standing)) → old.device.told ≡ Some tale
      → IsReadyWith members tale → Represents (contents_of tale) old.standing
      → IsCoveredExit tale new.device old.standing [] (Some old.standing ∷ [])
  pub decided : (failed : FailedRound) → old.doubt ≡ Some failed → failed.called ≡ true → (tale : Tale) → old.device.told ≡ Some tale
      → IsRoundInDoubt tale.base tale.log old.standing failed.round
      → IsCoveredExit tale new.device old.standing (sealed_round failed.round ∷ []) (Some (after_round old.standing failed.round) ∷ [])
  pub landed : (failed : FailedRound) → old.doubt ≡ Some failed → failed.called ≡ true → (tale : Tale) → old.device.told ≡ Some tale
      → HasRoundLanded tale.base tale.log old.standing failed.round
      → IsCoveredExit tale new.device (after_round old.standing failed.round) [] (Some (after_round old.standing failed.round) ∷ [])
  pub sealed : (tale : Tale) → old.device.told ≡ Some tale → AllSealed tale new.device

-- one that wasn't: the device may be found with what it might be found with before
pub record FailedSettleCovers (old new : EngineView) : Type 0 where
  pub found : was_called old.doubt ≡ false → (tale : Tale) (members : List (Option Standing)) → old.device.told ≡ Some tale
      → IsReadyWith members tale → Represents (contents_of tale) old.standing
      → IsCoveredExit tale new.device old.standing [] members
  pub decided : (failed : FailedRound) → old.doubt ≡ Some failed → failed.called ≡ true → (tale : Tale) → old.device.told ≡ Some tale
      → IsRoundInDoubt tale.base tale.log old.standing failed.round
      → IsInDoubt tale new.device old.standing failed.round
  pub landed : (failed : FailedRound) → old.doubt ≡ Some failed → failed.called ≡ true → (tale : Tale) → old.device.told ≡ Some tale
      → HasRoundLanded tale.base tale.log old.standing failed.round
      → StaysLanded tale new.device old.standing failed.round
