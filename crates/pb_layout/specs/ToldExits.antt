-- Exits of calls over a device that tells its log.
use Rattle.std.specs.Prelude.{◌≡◌, ◌⊎◌, List, [], ◌∷◌, Option, Some, None, IfSome, ℕ, ◌≤◌, length}
use Rattle.pb_pmem.specs.declared.line.Line.{Line}
use Rattle.pb_pmem.specs.declared.log.LogOp.{LogOp}
use Rattle.pb_pmem.specs.Contents.{contents}
use Rattle.pb_pmem.specs.Device.{Device, Tale}
use Rattle.pb_pmem.specs.Operations.{with_ops}
use Rattle.pb_object.specs.History.{Round, History, state_after, after_round}
use Rattle.pb_object.specs.Standing.{Standing}
use Rattle.pb_layout.specs.Doubt.{either_state, IsRoundInDoubt, HasRoundLanded}
use Rattle.pb_layout.specs.Exits.{ImagesAlwaysRepresent, IsExit, empty_for}
use Rattle.pb_layout.specs.LogHistory.{LoggedRound, rounds_in, AreSealed, history_of}
use Rattle.pb_layout.specs.Ready.{IsReady}
use Rattle.pb_layout.specs.Recovered.{Represents}
use Rattle.pb_layout.specs.declared.header.Header.{Header}

-- after a call the log is longer by some operations: they are covered from s on by this history, and leave the device ready with these
pub record IsCoveredExit (tale : Tale) (new : Device) (s : Standing) (history : List LoggedRound) (members : List (Option Standing)) : Type 0 where
  pub ops : List LogOp
  pub told : new.told ≡ Some (with_ops ops tale)
  pub exit : IsExit tale.base tale.log ops s history members

-- after several calls: these rounds are in the log, and all of them are sealed
pub record IsSealedAfter (tale : Tale) (new : Device) (s : Standing) (rounds : History) : Type 0 where
  pub history : List LoggedRound
  pub left : IsCoveredExit tale new s history (Some (state_after s rounds) ∷ [])
  pub sealed : AreSealed history
  pub rounds_are : rounds_in history ≡ rounds

-- what a device holds that tells its log
abbrev pub contents_of : Tale → List Line
contents_of tale = contents tale.base tale.log

-- a device that tells its log is ready with these members
abbrev pub IsReadyWith : List (Option Standing) → Tale → Type 0
IsReadyWith members tale = IsReady tale.base tale.log members

-- it holds the empty region, which a crash may take back
pub record HasPublished (tale : Tale) (new : Device) (head : Header) : Type 0 where
  pub left : IsCoveredExit tale new (empty_for head) [] (None ∷ Some (empty_for head) ∷ [])
  pub holds : IfSome new.told (λ after. Represents (contents_of after) (empty_for head))

-- a call that left a round in doubt: its operations told no round and it is in doubt, or they told it and it has landed
pub record IsInDoubt (tale : Tale) (new : Device) (s : Standing) (round : Round) : Type 0 where
  pub history : List LoggedRound
  pub left : IsCoveredExit tale new s history (either_state s round)
  pub rounds : ((history ≡ []) × IfSome new.told (λ after. IsRoundInDoubt after.base after.log s round)) ⊎ ((rounds_in history ≡ round ∷ []) × IfSome new.told (λ after. HasRoundLanded after.base after.log s round))

-- after a call the log is longer by some operations, and at each moment of these a crash leaves what represents s
pub record StaysFound (tale : Tale) (new : Device) (s : Standing) : Type 0 where
  pub ops : List LogOp
  pub told : new.told ≡ Some (with_ops ops tale)
  pub images : ImagesAlwaysRepresent tale.base tale.log ops s

-- all rounds that a log told before are sealed now
abbrev pub AllSealed : Tale → Device → Type 0
AllSealed tale new = IfSome new.told (λ after. (from : ℕ) → from ≤ length tale.log → AreSealed (history_of after.base after.log from))

-- the round has landed still
pub record StaysLanded (tale : Tale) (new : Device) (s : Standing) (round : Round) : Type 0 where
  pub left : IsCoveredExit tale new (after_round s round) [] (either_state s round)
  pub still : IfSome new.told (λ after. HasRoundLanded after.base after.log s round)
