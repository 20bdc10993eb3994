-- What a script that was run comes to, and what a crash may leave of the run.
use Rattle.std.specs.Prelude.{◌≡◌, ℕ, ◌<◌, ◌≤◌, Bool, true, false, List, [], ◌∷◌, Option, Some, Contains, length, count_by, filter, replicate, ◌++◌, ◌⊎◌, ◌==◌, if◌then◌else◌, None}
use Rattle.std.specs.List.{zip}
use Rattle.pb_pmem.specs.declared.line.Line.{Line}
use Rattle.pb_pmem.specs.declared.log.LogOp.{LogOp}
use Rattle.pb_pmem.specs.declared.log.LogOp.TheVariants.{Fence}
use Rattle.pb_pmem.specs.Count.{Rose}
use Rattle.pb_pmem.specs.Crash.{is_sync}
use Rattle.pb_pmem.specs.Device.{Device, Tale}
use Rattle.pb_pmem.specs.Lines.{zero_line}
use Rattle.pb_object.specs.declared.request.Ask.{Ask}
use Rattle.pb_object.specs.History.{Round, History, IsLegal, state_after}
use Rattle.pb_object.specs.Standing.{Standing, side_count}
use Rattle.pb_layout.specs.declared.header.Header.{Header}
use Rattle.pb_layout.specs.Doubt.{either_state}
use Rattle.pb_layout.specs.Header.{record_length}
use Rattle.pb_layout.specs.LogHistory.{LoggedRound, rounds_in, AreSealed}
use Rattle.pb_layout.specs.RegionOps.{format_ops}
use Rattle.pb_layout.specs.ToldExits.{IsCoveredExit, IsReadyWith}
use Rattle.pb_engine.specs.Calls.{EngineCall, after_calls, AreCalls, all_ops, failure_count, settled_rounds}
use Rattle.pb_engine.specs.View.{DeviceRepresents, FailedRound}
use Rattle.pb_report.specs.declared.outcome.Outcome.{Outcome}
use Rattle.pb_report.specs.declared.outcome.Outcome.TheVariants.{Doubt}
use Rattle.pb_report.specs.Outcomes.{Outcomes, is_tried}
use Rattle.pb_run.specs.Run.{is_doubt, HasFaultForEach, AreNewRecorded, AreCharged, HaveNewLines}

-- A history explains what became of a script's requests: it is legal, the outcomes are those of a run with it, and it
-- has no more rounds than lines that are new or in doubt
pub record Explains (history : History) (s : Standing) (asks : List Ask) (list : List Outcome) : Type 0 where
  pub legal : IsLegal s history
  pub outcomes : Outcomes s history asks list
  pub few : length history ≤ count_by is_tried list

-- no line is in doubt: no call of the device failed
abbrev pub NoneInDoubt : List Outcome → Type 0
NoneInDoubt list = count_by is_doubt list ≡ 0

-- how often the device failed: its count rose by no less than lines are in doubt, or stands at its last value; and where
-- a call failed some line is in doubt; where none is the count stayed
pub record AreCounted (before after : ℕ) (list : List Outcome) : Type 0 where
  pub each : HasFaultForEach before after list
  pub calm : NoneInDoubt list → after ≡ before
  pub rose : Contains list Doubt → Rose before after
  pub shown : before < after → Contains list Doubt

-- a fence, which is no sync
abbrev pub is_fence : LogOp → Bool
is_fence Fence = true
is_fence _ = false

-- where no line is in doubt all rounds are sealed, the device may be found with the standing after them alone,
-- and these operations, behind those that make or settle the region, ask for one fence and one sync for each round
pub record IsCalmRun (s : Standing) (history : List LoggedRound) (members : List (Option Standing)) (ops : List LogOp)
    : Type 0 where
  pub sealed : AreSealed history
  pub alone : members ≡ Some (state_after s (rounds_in history)) ∷ []
  pub fences : count_by is_fence ops ≡ length history
  pub syncs : count_by is_sync ops ≡ length history

-- a record of a region in which nothing was asked yet: zeros
abbrev pub empty_record : Header → List Line
empty_record head = replicate (record_length head) zero_line

-- the operations that make such a region
abbrev pub making_ops : Header → List LogOp
making_ops head = format_ops head (empty_record head) (if side_count head.kind == 2 then empty_record head else [])

-- What the device is ready with behind a told history, of which these rounds are known for sure. Where no round is in doubt behind them, or one
-- whose index word was never called, all of it is known, and the device is ready with the standing after it alone. Else the round in doubt is told
-- or isn't, and the device is ready with the standings before and after it
abbrev pub AreAroundDoubt : Standing → History → Bool → Round → History → List (Option Standing) → Type 0
AreAroundDoubt s known false round told members = (told ≡ known) × (members ≡ Some (state_after s known) ∷ [])
AreAroundDoubt s known true round told members =
    ((told ≡ known) ⊎ (told ≡ known ++ round ∷ [])) × (members ≡ either_state (state_after s known) round)

abbrev pub AreAround : Standing → History → Option FailedRound → History → List (Option Standing) → Type 0
AreAround s known None told members = (told ≡ known) × (members ≡ Some (state_after s known) ∷ [])
AreAround s known (Some failed) told members = AreAroundDoubt s known failed.called failed.round told members

-- What the operations of a run are: those of calls of an engine that was sure, one after the other: of rounds that were made or failed, and
-- of settlings that were made or failed, each of what is in doubt then. They recorded the rounds that are known for sure, and left this one in
-- doubt, if any. As many of them failed as lines are in doubt: each was made for the request of one of these. Each round that was made has a
-- line that is new
pub record IsWork (s : Standing) (known : History) (doubt : Option FailedRound) (asks : List Ask) (list : List Outcome) (ops : List LogOp) : Type 0 where
  pub calls : List EngineCall
  pub are : AreCalls s (record { rounds = []; sure = true; doubt = None }) calls
  pub ops_are : ops ≡ all_ops calls
  pub sure : Bool
  pub come : after_calls (record { rounds = []; sure = true; doubt = None }) calls ≡ record { rounds = known; sure = sure; doubt = doubt }
  pub failed : failure_count calls ≡ count_by is_doubt list
  pub charged : AreCharged s (record { rounds = []; sure = true; doubt = None }) calls (zip asks list)
  pub made : HaveNewLines calls (zip asks list)

-- What the log tells of a run since this moment. Its operations begin with these first ones, and are covered from s on by
-- the history that they tell: at each moment since, each image that a crash may leave represents the state after a prefix
-- of the rounds so far that holds each sealed one; or, until the first sync, what it might represent at the beginning.
-- That history explains the outcomes, and so does the one that settling would make of it. The rounds of new requests are sealed, these rounds of
-- it are known for sure, and the device is ready with what is around them
pub record IsLogged (known : History) (s : Standing) (first : List LogOp) (asks : List Ask) (list : List Outcome) (tale : Tale)
    (after : Device) : Type 0 where
  pub history : List LoggedRound
  pub members : List (Option Standing)
  pub left : IsCoveredExit tale after s history members
  pub more : List LogOp
  pub parts : left.ops ≡ first ++ more
  pub doubt : Option FailedRound
  pub work : IsWork s known doubt asks list more
  pub around : AreAround s known doubt (rounds_in history) members
  pub explained : Explains (rounds_in history) s asks list
  pub settled : Explains (settled_rounds known doubt) s asks list
  pub new_sealed : AreNewRecorded (rounds_in (filter (λ round. round.sealed) history)) (zip asks list)
  pub calm : NoneInDoubt list → IsCalmRun s history members more

-- A script was run from a standing on, with these outcomes. A history explains them: the rounds that are known for sure. Unless
-- a line is in doubt the device's lines, where it tells them, represent the standing after it. Where the device told its log, and
-- was ready as this says, the history that the log tells explains the outcomes too, and is that one but for a round in doubt
pub record IsRun (s : Standing) (first : List LogOp) (IsStart : Tale → Type 0) (asks : List Ask) (list : List Outcome)
    (before after : Device) : Type 0 where
  pub history : History
  pub explained : Explains history s asks list
  pub counted : AreCounted before.faults after.faults list
  pub holds : NoneInDoubt list → DeviceRepresents (state_after s history) after
  pub logged : (tale : Tale) → before.told ≡ Some tale → IsStart tale → IsLogged history s first asks list tale after

-- where a run begins on a region that is there: on a device that is ready with some standings
abbrev pub HasSome : Tale → Type 0
HasSome tale = (members : List (Option Standing)) × IsReadyWith members tale
