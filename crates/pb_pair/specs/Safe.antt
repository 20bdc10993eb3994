-- What a crash leaves after a call of a pair, where the device tells its log.
use Rattle.std.specs.Prelude.{◌≡◌, ◌⊎◌, ℕ, ◌<◌, true, false, List, [], ◌∷◌, Option, Some, None}
use Rattle.pb_pmem.specs.declared.line.Line.{Line}
use Rattle.pb_pmem.specs.Device.{Device, Tale}
use Rattle.pb_object.specs.History.{Round, after_round}
use Rattle.pb_object.specs.ObjectLines.{LinesRepresent}
use Rattle.pb_object.specs.Standing.{Standing, rounds_of}
use Rattle.pb_layout.specs.declared.header.Header.{Header}
use Rattle.pb_layout.specs.Doubt.{IsRoundInDoubt, HasRoundLanded}
use Rattle.pb_layout.specs.Exits.{AreEmptyRecords, empty_for, sealed_round}
use Rattle.pb_layout.specs.NextRecord.{IsNextRecord, HasCells}
use Rattle.pb_layout.specs.Recovered.{Represents}
use Rattle.pb_layout.specs.Represents.{header_for, object_parts}
use Rattle.pb_layout.specs.ToldExits.{IsCoveredExit, HasPublished, IsInDoubt, AllSealed, StaysLanded, contents_of, IsReadyWith}
use Rattle.pb_pair.specs.Settle.{was_called}
use Rattle.pb_pair.specs.View.{DoubtView, PairView, round_of_side, lines_of}

-- Formatting

-- a device that was ready with no region has the empty one, alone
abbrev pub FormatCovers : Header → List Line → List Line → Device → Device → Type 0
FormatCovers head first second old new =
    AreEmptyRecords head first second → (tale : Tale) → old.told ≡ Some tale → IsReadyWith (None ∷ []) tale → IsCoveredExit tale new (empty_for head) [] (Some (empty_for head) ∷ [])

-- or, where formatting failed, it still has none, alone, or holds the empty one, which a crash may take back
abbrev pub FailedFormatCovers : Header → List Line → List Line → Device → Device → Type 0
FailedFormatCovers head first second old new =
    AreEmptyRecords head first second → (tale : Tale) → old.told ≡ Some tale → IsReadyWith (None ∷ []) tale → IsCoveredExit tale new (empty_for head) [] (None ∷ []) ⊎ HasPublished tale new head

-- a pair of a region that represents s
pub record IsPairOf (pair : PairView) (s : Standing) : Type 0 where
  pub head : pair.head ≡ header_for s
  pub rounds : (side : ℕ) → side < 2 → round_of_side pair side ≡ rounds_of s side

-- Putting a cell

-- a pair whose records in use represent the state of s
pub record IsPutOf (pair : PairView) (s : Standing) : Type 0 where
  pub of : IsPairOf pair s
  pub state : LinesRepresent (object_parts pair.head (lines_of pair)) s.state

-- a device that was ready with s alone is so after it, whole or failed, and no round is told
abbrev pub PutCovers : PairView → Device → Type 0
PutCovers old new =
    (tale : Tale) (s : Standing) → old.device.told ≡ Some tale → IsReadyWith (Some s ∷ []) tale → IsPutOf old s → IsCoveredExit tale new s [] (Some s ∷ [])

-- Storing

-- a store begins on a device that is ready with s alone, with the record that a round makes of its side's
pub record IsStoreOf (pair : PairView) (side : ℕ) (lines : List Line) (s : Standing) (round : Round) (tale : Tale) : Type 0 where
  pub ready : IsReadyWith (Some s ∷ []) tale
  pub of : IsPairOf pair s
  pub side_is : round.side ≡ side
  pub next : IsNextRecord (contents_of tale) s round lines
  pub cells : HasCells tale.base tale.log s round

-- then it leaves the state after the round alone, and the round is sealed
abbrev pub StoreCovers : ℕ → List Line → PairView → Device → Type 0
StoreCovers side lines old new =
    (tale : Tale) (s : Standing) (round : Round) → old.device.told ≡ Some tale → IsStoreOf old side lines s round tale → IsCoveredExit tale new s (sealed_round round ∷ []) (Some (after_round s round) ∷ [])

-- or, where it failed before its index word was called, the state before it, alone, whatever the lines are;
-- and where it failed from its index word on, both states: the round is in doubt, or it is told and has landed
pub record FailedStoreCovers (side : ℕ) (lines : List Line) (old new : PairView) : Type 0 where
  pub stopped : was_called new.doubt ≡ false
      → (tale : Tale) (s : Standing) → old.device.told ≡ Some tale → IsReadyWith (Some s ∷ []) tale → IsPairOf old s
      → IsCoveredExit tale new.device s [] (Some s ∷ [])
  pub in_doubt : was_called new.doubt ≡ true
      → (tale : Tale) (s : Standing) (round : Round) → old.device.told ≡ Some tale → IsStoreOf old side lines s round tale
      → IsInDoubt tale new.device s round

-- Settling

-- settling begins on a ready device that holds s
pub record IsSettlingOf (pair : PairView) (s : Standing) (members : List (Option Standing)) (tale : Tale) : Type 0 where
  pub ready : IsReadyWith members tale
  pub of : IsPairOf pair s
  pub stands : Represents (contents_of tale) s

-- the record in doubt is that of this round, and its index word was called
pub record IsDoubtOf (pair : PairView) (s : Standing) (round : Round) : Type 0 where
  pub of : IsPairOf pair s
  pub record_in_doubt : DoubtView
  pub is : pair.doubt ≡ Some record_in_doubt
  pub called : record_in_doubt.called ≡ true
  pub side_is : record_in_doubt.side ≡ round.side

-- where no index word was called, settling leaves s alone, and tells no round; where one was called, it leaves the state after that
-- round alone, and tells the round where the log didn't yet
pub record SettleCovers (old : PairView) (new : Device) : Type 0 where
  pub found : was_called old.doubt ≡ false
      → (tale : Tale) (s : Standing) (members : List (Option Standing)) → old.device.told ≡ Some tale → IsSettlingOf old s members tale
      → IsCoveredExit tale new s [] (Some s ∷ [])
  pub decided : (tale : Tale) (s : Standing) (round : Round) → old.device.told ≡ Some tale → IsDoubtOf old s round → IsRoundInDoubt tale.base tale.log s round
      → IsCoveredExit tale new s (sealed_round round ∷ []) (Some (after_round s round) ∷ [])
  pub landed : (tale : Tale) (s : Standing) (round : Round) → old.device.told ≡ Some tale → IsDoubtOf old s round → HasRoundLanded tale.base tale.log s round
      → IsCoveredExit tale new (after_round s round) [] (Some (after_round s round) ∷ [])
  pub sealed : (tale : Tale) → old.device.told ≡ Some tale → AllSealed tale new

-- where settling failed, it leaves what the device might be found with before: it may be tried again
pub record FailedSettleCovers (old : PairView) (new : Device) : Type 0 where
  pub found : was_called old.doubt ≡ false
      → (tale : Tale) (s : Standing) (members : List (Option Standing)) → old.device.told ≡ Some tale → IsSettlingOf old s members tale
      → IsCoveredExit tale new s [] members
  pub decided : (tale : Tale) (s : Standing) (round : Round) → old.device.told ≡ Some tale → IsDoubtOf old s round → IsRoundInDoubt tale.base tale.log s round
      → IsInDoubt tale new s round
  pub landed : (tale : Tale) (s : Standing) (round : Round) → old.device.told ≡ Some tale → IsDoubtOf old s round → HasRoundLanded tale.base tale.log s round
      → StaysLanded tale new s round
