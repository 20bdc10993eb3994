-- What a holder called of the engine since its last step on a word, and what that leaves it to do.
use Rattle.std.specs.Prelude.{◌≡◌, ℕ, true, false, List, [], Some}
use Rattle.pb_pmem.specs.declared.device.DeviceFault.{DeviceFault}
use Rattle.pb_object.specs.declared.kind.Kind.{Kind}
use Rattle.pb_object.specs.declared.request.Ask.{Ask}
use Rattle.pb_core.specs.Memory.{AtNumber, Work, Settling, Scanning, Filling, Noting}
use Rattle.pb_engine.specs.Asks.{asked_round}
use Rattle.pb_engine.specs.Covers.{RoundCovers, FailedRoundCovers, SettleCovers, FailedSettleCovers}
use Rattle.pb_engine.specs.Outcomes.{HasMade, HasFailedToMake, HasSettled, HasFailedToSettle}
use Rattle.pb_engine.specs.View.{EngineView, IsEngine, was_called}
use Rattle.pb_rule.specs.Plays.{Seated, the_view, HoldsSlot, engine_before, engine_now}

-- it settled: with a round that is recorded then, or with none
pub record Settled (old new : EngineView) : Type 0 where
  pub settled : HasSettled old new
  pub covers : SettleCovers old new

pub record FailedSettling (fault : DeviceFault) (old new : EngineView) : Type 0 where
  pub failed : HasFailedToSettle fault old new
  pub covers : FailedSettleCovers old new

-- a round of these requests was made, or failed
pub record MadeRound (asks : List Ask) (old new : EngineView) : Type 0 where
  pub made : HasMade (asked_round old.standing asks) old new
  pub covers : RoundCovers (asked_round old.standing asks) old new

pub record LeavesFailedRound (asks : List Ask) (fault : DeviceFault) (old new : EngineView) : Type 0 where
  pub failed : HasFailedToMake (asked_round old.standing asks) fault old new
  pub covers : FailedRoundCovers (asked_round old.standing asks) old new

-- From the engine of the last step, where the holder was at some work, to the one now, where it is at another. A scan is over where all
-- clients were scanned
pub data Ready (clients : ℕ) (work : Work) (before after : EngineView) (now : Work) : Type 0 where
  untouched : now ≡ work → after ≡ before → Ready clients work before after now
  settled_none : work ≡ Settling → was_called before.doubt ≡ false → Settled before after → now ≡ Scanning 0 AtNumber [] → Ready clients work before after now
  settled_round : work ≡ Settling → was_called before.doubt ≡ true → Settled before after → now ≡ Filling 0 → Ready clients work before after now
  recorded : (asks : List Ask) → work ≡ Scanning clients AtNumber asks → MadeRound asks before after → now ≡ Filling 0 → Ready clients work before after now
  failed_settling : (fault : DeviceFault) → work ≡ Settling → FailedSettling fault before after → now ≡ Noting before.device.faults after.device.faults
      → Ready clients work before after now
  failed_round : (asks : List Ask) (fault : DeviceFault) → work ≡ Scanning clients AtNumber asks → LeavesFailedRound asks fault before after
      → now ≡ Noting before.device.faults after.device.faults → Ready clients work before after now

-- where a seat stands before a step of the holder: its view names the engine of its last step, and what it called since fits the step
pub record IsReadyFor {X : Type 0} (seen : X → EngineView) (kind : Kind) (now : Work → Work) (me : Seated X) : Type 0 where
  pub holds : HoldsSlot me
  pub sound : IsEngine kind (engine_now seen me)
  pub hand : (the_view me).hand ≡ Some (engine_before me)
  pub ready : Ready (the_view me).clients (the_view me).work (engine_before me) (engine_now seen me) (now (the_view me).work)

-- the same before a step that goes on with what the last one left
abbrev pub same_work : Work → Work
same_work work = work
