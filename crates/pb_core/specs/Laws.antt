-- What holds of every run.
use Rattle.std.specs.Prelude.{◌≡◌, ◌≢◌, ◌⊎◌, ℕ, suc, true, ◌+◌, ◌%◌, ◌<◌, ◌≤◌, nat_le, List, [], ◌∷◌, ◌++◌, length, take, Option, Some, None, if◌then◌else◌}
use Rattle.pb_crash.specs.declared.leaves.Leaves.{Leaves}
use Rattle.pb_pmem.specs.declared.line.Line.{Line}
use Rattle.pb_pmem.specs.Count.{Rose}
use Rattle.pb_pmem.specs.declared.log.LogOp.{LogOp}
use Rattle.pb_pmem.specs.Crash.{IsCrashImage}
use Rattle.pb_object.specs.declared.request.Ask.{Ask}
use Rattle.pb_object.specs.declared.request.TheConstants.{LAST_NUMBER}
use Rattle.pb_object.specs.Request.{IsOperation}
use Rattle.pb_object.specs.Standing.{Standing, newest_of}
use Rattle.pb_object.specs.History.{Entry, Round, History, after_round, state_after, IsLegal, IsLegalRound, IsOfSide}
use Rattle.pb_layout.specs.declared.header.Header.{Header}
use Rattle.pb_layout.specs.Covers.{Covers}
use Rattle.pb_layout.specs.Doubt.{either_state}
use Rattle.pb_layout.specs.Exits.{empty_for}
use Rattle.pb_layout.specs.LogHistory.{rounds_in, AreSealed, history_of}
use Rattle.pb_layout.specs.Once.{HasNumbersOnce}
use Rattle.pb_layout.specs.Ready.{IsReady}
use Rattle.pb_layout.specs.Recovered.{Represents}
use Rattle.pb_events.specs.declared.event.Event.{Event}
use Rattle.pb_events.specs.declared.event.Event.TheVariants.{Step, Fail}
use Rattle.pb_events.specs.declared.event.Stepped.{Stepped}
use Rattle.pb_events.specs.declared.event.Stepped.TheVariants.{Went, Done, Busy, Fault, Impossible}
use Rattle.pb_core.specs.Client.{Stage, Idle, Storing, Looking, LoadsNumber, LoadsCode, LoadsValue, LoadsExtra, Confirming, Lacking, Taking, Holding, is_announced, is_holding, entry_by}
use Rattle.pb_core.specs.DeviceParts.{opened_state}
use Rattle.pb_core.specs.HolderMoves.{Begins, round_by}
use Rattle.pb_core.specs.Memory.{Held, Noting, GivingUp, Engine, Resting, Recorded, Writing, Doubtful, Memory, clients_of, shown, with_round_ahead, coming}
use Rattle.pb_core.specs.MemoryParts.{AreAnswered, Meets}
use Rattle.pb_core.specs.World.{CallProgress, NoCall, InCall, World}
use Rattle.pb_core.specs.WorldMoves.{all_rounds, last_calls}

-- the requests that were answered with a reply, as entries
abbrev pub done_of : Stepped → List Entry
done_of Went = []
done_of (Done ask reply) = entry_by ask reply ∷ []
done_of (Busy ask from to) = []
done_of (Fault ask from to) = []
done_of Impossible = []

abbrev pub all_done : List Stepped → List Entry
all_done [] = []
all_done (answer ∷ answers) = done_of answer ++ all_done answers

-- the rounds of the past and those published since
abbrev pub history : Memory → History
history m = m.past ++ m.published

-- an image that a crash may leave represents the state after a prefix of all rounds, in which each answered request stands
pub record IsKeptBy (w : World) (answers : List Stepped) (image : List Line) : Type 0 where
  pub kept : History
  pub lost : History
  pub whole : all_rounds w.memory ≡ kept ++ lost
  pub stands : Represents image (state_after w.memory.start kept)
  pub answered : AreAnswered kept (all_done answers)

-- one legal history of the object that the region was formatted for; no request stands in it twice; each answered request stands in it with
-- its reply; and no crash loses one
pub record IsOneHistory (head : Header) (w : World) (answers : List Stepped) : Type 0 where
  pub start : w.memory.start ≡ empty_for head
  pub legal : IsLegal w.memory.start (history w.memory)
  pub once : HasNumbersOnce (history w.memory)
  pub answered : AreAnswered (history w.memory) (all_done answers)
  pub images : (image : List Line) → IsCrashImage w.tale.base w.tale.log image → IsKeptBy w answers image

-- What the log tells

-- what the device may be found with while a round is in doubt: the standing before it, or the one after it; and where none is, the one standing
abbrev pub members_in_doubt : Option Round → Standing → List (Option Standing)
members_in_doubt None s = Some s ∷ []
members_in_doubt (Some round) s = either_state s round

-- and while the calls of a round are made, by those that are left: until the index word is called the standing before the round alone, from
-- then on either, and after the last call the standing after it alone
abbrev pub members_in_round : List LogOp → Standing → Round → List (Option Standing)
members_in_round [] s round = Some (after_round s round) ∷ []
members_in_round (op ∷ left) s round =
    if nat_le (length (last_calls s round)) (length (op ∷ left)) then Some s ∷ [] else either_state s round

-- what it may be found with, by what is known of it, how far its calls came, the round ahead, and the standing after the published rounds.
-- While a round is written there are calls, and it is ahead: where there is nothing to be found there is no such world
abbrev pub members_by : Engine → CallProgress → Option Round → Standing → List (Option Standing)
members_by Resting progress ahead s = Some s ∷ []
members_by Recorded progress ahead s = Some (with_round_ahead ahead s) ∷ []
members_by Writing NoCall ahead s = []
members_by Writing (InCall entry made left) None s = []
members_by Writing (InCall entry made left) (Some round) s = members_in_round left s round
members_by Doubtful NoCall ahead s = members_in_doubt ahead s
members_by Doubtful (InCall entry made []) ahead s = Some (with_round_ahead ahead s) ∷ []
members_by Doubtful (InCall entry made (op ∷ left)) ahead s = members_in_doubt ahead s

abbrev pub members_of : World → List (Option Standing)
members_of w = members_by w.memory.engine w.progress w.memory.ahead (shown w.memory)

-- the log itself tells the rounds published since the region was opened last, and perhaps the one ahead, and none from before that: those
-- are in the base. It covers what it tells, the published rounds are sealed, and the device is ready with what it may be found with
pub record IsToldByLog (w : World) : Type 0 where
  pub rounds : (rounds_in (history_of w.tale.base w.tale.log 0) ≡ w.memory.published) ⊎ (rounds_in (history_of w.tale.base w.tale.log 0) ≡ w.memory.published ++ coming w.memory.ahead)
  pub legal : IsLegal w.memory.start (w.memory.past ++ rounds_in (history_of w.tale.base w.tale.log 0))
  pub covers : Covers w.tale.base w.tale.log 0 (opened_state w.memory) (history_of w.tale.base w.tale.log 0)
  pub sealed : AreSealed (take (length w.memory.published) (history_of w.tale.base w.tale.log 0))
  pub ready : IsReady w.tale.base w.tale.log (members_of w)

-- Answers to clients

-- the turn word that a client has found before its next step; for the holder that is the one at which it took the turn
abbrev pub HasMet : Stage → (from turn : ℕ) → Type 0
HasMet Idle from turn = ⊥
HasMet (Storing count) from turn = ⊥
HasMet Looking from turn = ⊥
HasMet (LoadsNumber word) from turn = ⊥
HasMet (LoadsCode word) from turn = ⊥
HasMet (LoadsValue word code) from turn = ⊥
HasMet (LoadsExtra word code value) from turn = ⊥
HasMet (Confirming word reply) from turn = word ≡ from
HasMet (Lacking word found) from turn = word ≡ from
HasMet (Taking word found) from turn = word ≡ from
HasMet Holding from turn = turn ≡ from + 1

-- a try that ends without a reply has its cause. It met two turn words, of which the second is the one that stands now: they differ, or this
-- one is of a turn that is held. Or it held the turn, and gave it up with two counts of faults, of which the second is the one that stands now:
-- `IsNoted` says which they are
abbrev pub IsCaused : Stepped → Memory → Memory → Type 0
IsCaused Went old new = Unit {0}
IsCaused (Done ask reply) old new = Unit {0}
IsCaused (Busy ask from to) old new =
    HasMet (old.book ask.client).stage from old.turn × (to ≡ new.turn) × ((from ≢ to) ⊎ (to % 2 ≡ 1))
IsCaused (Fault ask from to) old new =
    (is_holding (old.book ask.client).stage ≡ true) × (old.work ≡ GivingUp from to) × Rose from to × (new.count ≡ to)
IsCaused Impossible old new = ⊥

-- a call of the holder failed, and raised the device's count from what it was to what it is
pub record HasRaised (event : Event) (old new : Memory) (from to : ℕ) : Type 0 where
  pub client : ℕ
  pub side : ℕ
  pub how : Leaves
  pub fails : event ≡ Fail client how
  pub holds : new.owner ≡ Held client side
  pub before : from ≡ old.count
  pub after : to ≡ new.count
  pub rose : Rose from to

-- the counts that a holder notes are those before and after its failing call; with these it gives the turn up, and holds it until then
pub record IsNoted (event : Event) (old new : Memory) : Type 0 where
  pub noting : (from to : ℕ) → new.work ≡ Noting from to
      → ((old.work ≡ Noting from to) × (old.owner ≡ new.owner)) ⊎ HasRaised event old new from to
  pub giving_up : (from to : ℕ) → new.work ≡ GivingUp from to
      → ((old.work ≡ GivingUp from to) ⊎ (old.work ≡ Noting from to)) × (old.owner ≡ new.owner)

-- the event is a step of the client that asks for this, which had announced it and was not answered yet
pub record IsStepOfAsker (event : Event) (ask : Ask) (old : Memory) : Type 0 where
  pub step : event ≡ Step ask.client
  pub there : ask.client < clients_of old
  pub its_own : (old.book ask.client).ask ≡ ask
  pub announced : is_announced (old.book ask.client).stage ≡ true

-- whoever is answered made the step itself, and the answer names its open request
abbrev pub IsToAsker : Event → Stepped → Memory → Type 0
IsToAsker event Went old = Unit {0}
IsToAsker event (Done ask reply) old = IsStepOfAsker event ask old
IsToAsker event (Busy ask from to) old = IsStepOfAsker event ask old
IsToAsker event (Fault ask from to) old = IsStepOfAsker event ask old
IsToAsker event Impossible old = ⊥

-- a request that is its client's next, on this side
pub record IsDue (s : Standing) (side : ℕ) (ask : Ask) : Type 0 where
  pub there : ask.client < s.clients
  pub number : ask.number ≡ (newest_of s ask.client).number + 1
  pub few : ask.number ≤ LAST_NUMBER
  pub operation : IsOperation s.kind ask.op
  pub side_is : IsOfSide side ask.op

-- such requests, of clients in rising order
abbrev pub AreDue : Standing → ℕ → ℕ → List Ask → Type 0
AreDue s side low [] = Unit {0}
AreDue s side low (ask ∷ asks) = (low ≤ ask.client) × IsDue s side ask × AreDue s side (suc ask.client) asks

-- what a scan saw: requests that are due, the holder's own among them. The round that they make is legal
pub record IsScannedRound (old : Memory) (client : ℕ) (new : Memory) (begins : Begins old client new) : Type 0 where
  pub due : AreDue (shown old) begins.side 0 begins.seen
  pub own : Meets client begins.seen
  pub legal : IsLegalRound (shown old) (round_by begins.side (shown old) begins.seen)
