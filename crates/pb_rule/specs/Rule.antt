-- The rule of the table: its words, the engine and the views are always those of a run of the core's moves.
use Rattle.std.specs.Prelude.{◌≡◌, ◌≢◌, ◌⊎◌, ℕ, suc, ◌+◌, ◌*◌, ◌<◌, ◌≤◌, ◌==◌, Bool, true, false, List, [], ◌∷◌, ◌++◌, Contains, length, Option, Some, None, slice_index}
use mathlib.Core.Option as maybe
use mathlib.Core.Option.{some}
use lib.ListN.{get_elem?}
use Rattle.atomic_table.specs.Table.{State}
use Rattle.pb_pmem.specs.Count.{Rose}
use Rattle.pb_pmem.specs.declared.log.LogOp.{LogOp}
use Rattle.pb_object.specs.declared.kind.Kind.{Kind}
use Rattle.pb_object.specs.declared.request.Ask.{Ask}
use Rattle.pb_object.specs.declared.request.Reply.{Reply}
use Rattle.pb_object.specs.History.{Entry, Round, History, state_after}
use Rattle.pb_object.specs.Standing.{Standing, newest_of}
use Rattle.pb_core.specs.Client.{Stage, Idle, Storing, Looking, LoadsNumber, LoadsCode, LoadsValue, LoadsExtra, Confirming, Lacking, Taking, Holding, Client, is_idle, is_holding, entry_by, no_request}
use Rattle.pb_core.specs.Memory.{Owner, Free, Held, Closed, Work, NoWork, Settling, Scanning, Calling, Filling, Noting, GivingUp, Engine, Resting, Recorded, Writing, Doubtful, Memory, clients_of, known_standing, coming, round_of_turn}
use Rattle.pb_core.specs.MemoryParts.{own_entries}
use Rattle.pb_core.specs.MemoryRun.{begun, MemoryRun}
use Rattle.pb_engine.specs.Calls.{EngineCall, Made, Failed, Settled, FailedSettling, Progress, progress_of, after_call, HasRequest, AreMadeFor}
use Rattle.pb_engine.specs.Good.{HasCome}
use Rattle.pb_engine.specs.View.{EngineView, FailedRound, IsEngine}
use Rattle.pb_rule.specs.View.{Met, OwnRound, PassView, numbers_of}

-- Words

-- where they lie: the turn, the count of faults, and for each client its request and its two reply rows
abbrev pub request_place : (client place : ℕ) → ℕ
request_place client place = 2 + 13 * client + place

abbrev pub row_place : (client row place : ℕ) → ℕ
row_place client row place = 7 + 13 * client + 4 * row + place

abbrev pub word_count : ℕ → ℕ
word_count clients = 2 + 13 * clients

pub record HasWords (m : Memory) (words : List ℕ) : Type 0 where
  pub long : length words ≡ word_count (clients_of m)
  pub turn : slice_index words 0 ≡ m.turn
  pub noted : slice_index words 1 ≡ m.noted
  pub requests : (client place : ℕ) → client < clients_of m → place < 5 → slice_index words (request_place client place) ≡ m.requests client place
  pub rows : (row client place : ℕ) → row < 2 → client < clients_of m → place < 4 → slice_index words (row_place client row place) ≡ m.rows row client place

-- Faults

-- The faults that were answered, in order: each to one of the clients, for its request, and their intervals lie apart
pub record Fault : Type 0 where
  pub client : ℕ
  pub met : Met

abbrev pub AreIntervalsApart : (low : ℕ) → List Fault → (high : ℕ) → Type 0
AreIntervalsApart low [] high = low ≤ high
AreIntervalsApart low (fault ∷ faults) high = (low ≤ fault.met.from) × Rose fault.met.from fault.met.to × AreIntervalsApart fault.met.to faults high

abbrev pub AreOfClients : ℕ → List Fault → Type 0
AreOfClients clients [] = Unit {0}
AreOfClients clients (fault ∷ faults) = (fault.client < clients) × (fault.met.ask.client ≡ fault.client) × AreOfClients clients faults

-- how many calls of the engine failed: one for each fault that was answered, and one that isn't noted yet
abbrev pub failed_calls : Work → List Fault → ℕ
failed_calls NoWork faults = length faults
failed_calls Settling faults = length faults
failed_calls (Scanning client part seen) faults = length faults
failed_calls Calling faults = length faults
failed_calls (Filling count) faults = length faults
failed_calls (Noting from to) faults = suc (length faults)
failed_calls (GivingUp from to) faults = length faults

abbrev pub fault_asks : List Fault → List Ask
fault_asks [] = []
fault_asks (fault ∷ faults) = fault.met.ask ∷ fault_asks faults

-- the request that the holder of the turn has open, `no_request` where nobody holds it
abbrev pub asked_by : Owner → (ℕ → Client) → Ask
asked_by Free book = no_request
asked_by (Held client side) book = (book client).ask
asked_by Closed book = no_request

-- the requests of the calls that failed: of the faults that were answered, and the holder's, where its fault isn't noted yet
abbrev pub failed_asks : Work → Ask → List Fault → List Ask
failed_asks NoWork ask faults = fault_asks faults
failed_asks Settling ask faults = fault_asks faults
failed_asks (Scanning client part seen) ask faults = fault_asks faults
failed_asks Calling ask faults = fault_asks faults
failed_asks (Filling count) ask faults = fault_asks faults
failed_asks (Noting from to) ask faults = fault_asks faults ++ ask ∷ []
failed_asks (GivingUp from to) ask faults = fault_asks faults

-- Settlings that failed

-- a request is its client's next one on a standing
abbrev pub IsNextOn : Standing → Ask → Type 0
IsNextOn s ask = ask.number ≡ (newest_of s ask.client).number + 1

-- where a settling failed, its request was its client's next one on what was recorded for sure by then: it wasn't recorded yet, and all before
-- it was
abbrev pub AreNextAtSettling : Standing → Progress → List EngineCall → List Ask → Type 0
AreNextAtSettling s p [] asks = Unit {0}
AreNextAtSettling s p (Made round ops ∷ calls) asks = AreNextAtSettling s (after_call p (Made round ops)) calls asks
AreNextAtSettling s p (Failed failed ops ∷ calls) [] = Unit {0}
AreNextAtSettling s p (Failed failed ops ∷ calls) (ask ∷ asks) = AreNextAtSettling s (after_call p (Failed failed ops)) calls asks
AreNextAtSettling s p (Settled ops ∷ calls) asks = AreNextAtSettling s (after_call p (Settled ops)) calls asks
AreNextAtSettling s p (FailedSettling ops ∷ calls) [] = Unit {0}
AreNextAtSettling s p (FailedSettling ops ∷ calls) (ask ∷ asks) =
    IsNextOn (state_after s p.rounds) ask × AreNextAtSettling s (after_call p (FailedSettling ops)) calls asks

-- Rounds that were made

-- a client was answered an entry of it
pub record HasAnswered (round : Round) (b : Client) : Type 0 where
  pub entry : Entry
  pub one : Contains round.entries entry
  pub own : Contains (own_entries b) entry

-- one of these clients was
pub record HasAnsweredOne (clients : ℕ) (book : ℕ → Client) (round : Round) : Type 0 where
  pub client : ℕ
  pub there : client < clients
  pub has : HasAnswered round (book client)

-- it is recorded, and waits to be published: the holder's request is in it
pub record IsUnpublished (m : Memory) (round : Round) : Type 0 where
  pub recorded : m.engine ≡ Recorded
  pub ahead : m.ahead ≡ Some round
  pub own : HasRequest round (asked_by m.owner m.book)

abbrev pub AreAnsweredOrAhead : Memory → List EngineCall → Type 0
AreAnsweredOrAhead m calls =
    (round : Round) (ops : List LogOp) → Contains calls (Made round ops) → HasAnsweredOne (clients_of m) m.book round ⊎ IsUnpublished m round

-- Rounds that failed

-- an entry has the request that a client has open, ..
pub record IsOpen (entry : Entry) (b : Client) : Type 0 where
  pub asks : is_idle b.stage ≡ false
  pub same : entry ≡ entry_by b.ask entry.reply

-- .. or one that it was answered, perhaps with another reply
pub record WasAnswered (entry : Entry) (b : Client) : Type 0 where
  pub reply : Reply
  pub own : Contains (own_entries b) (record entry { reply = reply })

-- the client asked for it
abbrev pub HasAskedFor : Entry → Client → Type 0
HasAskedFor entry b = IsOpen entry b ⊎ WasAnswered entry b

-- an entry's client is one of these, and asked for it
pub record IsAskedFor (clients : ℕ) (book : ℕ → Client) (entry : Entry) : Type 0 where
  pub there : entry.client < clients
  pub asked : HasAskedFor entry (book entry.client)

abbrev pub AreAskedFor : Memory → List EngineCall → Type 0
AreAskedFor m calls =
    (failed : FailedRound) (ops : List LogOp) → Contains calls (Failed failed ops) → (entry : Entry) → Contains failed.round.entries entry → IsAskedFor (clients_of m) m.book entry

-- What the engine was called for: each call that failed for the request of whoever was answered the fault, or is about to note it; a round that
-- failed has requests alone that its clients asked for; and each round that was made has an entry that a client was answered, or waits to be
-- published and has the holder's request
pub record AreCalledFor (start : EngineView) (m : Memory) (faults : List Fault) (calls : List EngineCall) : Type 0 where
  pub failed : AreMadeFor calls (failed_asks m.work (asked_by m.owner m.book) faults)
  pub next : AreNextAtSettling start.standing (progress_of [] start) calls (failed_asks m.work (asked_by m.owner m.book) faults)
  pub asked : AreAskedFor m calls
  pub made : AreAnsweredOrAhead m calls

-- The engine

-- the round in doubt counts where its index word was called
abbrev pub called_if : Bool → Round → Option Round
called_if true round = Some round
called_if false round = None

abbrev pub called_round : Option FailedRound → Option Round
called_round None = None
called_round (Some failed) = called_if failed.called failed.round

-- what is known_standing of the device is what the engine knows; no step on a word is made while calls of the device are
abbrev pub SuitsEngine : Engine → Option Round → EngineView → Type 0
SuitsEngine Resting ahead engine = engine.sure ≡ true
SuitsEngine Recorded ahead engine = engine.sure ≡ true
SuitsEngine Writing ahead engine = ⊥
SuitsEngine Doubtful ahead engine = (engine.sure ≡ false) × (called_round engine.doubt ≡ ahead)

-- the rounds that are recorded: a recorded round counts before it is published
abbrev pub recorded_by : Engine → Option Round → History → History
recorded_by Resting ahead published = published
recorded_by Recorded ahead published = published ++ coming ahead
recorded_by Writing ahead published = published
recorded_by Doubtful ahead published = published

pub record IsTied (kind : Kind) (start : EngineView) (m : Memory) (engine : EngineView) (faults : List Fault) : Type 0 where
  pub standing : engine.standing ≡ known_standing m
  pub count : engine.device.faults ≡ m.count
  pub suits : SuitsEngine m.engine m.ahead engine
  pub calls : List EngineCall
  pub come : HasCome start engine (recorded_by m.engine m.ahead m.published) (failed_calls m.work faults) calls
  pub called_for : AreCalledFor start m faults calls
  pub sound : IsEngine kind engine

-- it lies in the slot while nobody holds the turn, and is with the holder else
abbrev pub LiesAt : {X : Type 0} → (X → EngineView) → Owner → EngineView → List (maybe.Option (Option X)) → Type 0
LiesAt {X} seen Free engine homes = (value : X) × (seen value ≡ engine) × (homes ≡ some (Some value) ∷ [])
LiesAt {X} seen (Held client side) engine homes = homes ≡ maybe.none ∷ []
LiesAt {X} seen Closed engine homes = ⊥

-- who holds the turn is one of the clients
abbrev pub IsBelow : Owner → ℕ → Type 0
IsBelow Free clients = Unit {0}
IsBelow (Held client side) clients = client < clients
IsBelow Closed clients = Unit {0}

-- Views

-- a turn word that a client found and goes by is of the round that it has seen last
abbrev pub HasFront : Stage → ℕ → Type 0
HasFront Idle front = Unit {0}
HasFront (Storing count) front = Unit {0}
HasFront Looking front = Unit {0}
HasFront (LoadsNumber turn) front = front ≡ round_of_turn turn
HasFront (LoadsCode turn) front = front ≡ round_of_turn turn
HasFront (LoadsValue turn code) front = front ≡ round_of_turn turn
HasFront (LoadsExtra turn code value) front = front ≡ round_of_turn turn
HasFront (Confirming turn reply) front = front ≡ round_of_turn turn
HasFront (Lacking turn found) front = front ≡ round_of_turn turn
HasFront (Taking turn found) front = front ≡ round_of_turn turn
HasFront Holding front = Unit {0}

-- a round that is filled from a scan of one's own is the one ahead
pub record IsAhead (start : Standing) (published : History) (ahead : Option Round) (own : OwnRound) : Type 0 where
  pub number : own.number ≡ suc (length published)
  pub round : Round
  pub ahead_is : ahead ≡ Some round
  pub entries : own.entries ≡ round.entries
  pub kept : own.kept ≡ numbers_of (state_after start published)

abbrev pub IsOwn : Standing → History → Option Round → Option OwnRound → Type 0
IsOwn start published ahead None = Unit {0}
IsOwn start published ahead (Some own) = IsAhead start published ahead own

-- a holder knows the turn, its work and the engine
pub record IsHolder (m : Memory) (engine : EngineView) (v : PassView) : Type 0 where
  pub work : v.work ≡ m.work
  pub hand : v.hand ≡ Some engine
  pub front : v.body.front ≡ length m.published
  pub own : IsOwn m.start m.published m.ahead v.own

-- who waits has nothing
pub record HasNothing (v : PassView) : Type 0 where
  pub work : v.work ≡ NoWork
  pub hand : v.hand ≡ None
  pub own : v.own ≡ None

-- a round that was served is the one of its number, with the numbers that were kept before it
pub record IsServedRound (start : Standing) (published : History) (own : OwnRound) : Type 0 where
  pub before : History
  pub round : Round
  pub after : History
  pub is : published ≡ before ++ round ∷ after
  pub number : own.number ≡ suc (length before)
  pub entries : own.entries ≡ round.entries
  pub kept : own.kept ≡ numbers_of (state_after start before)

abbrev pub AreServed : Standing → History → List OwnRound → Type 0
AreServed start published [] = Unit {0}
AreServed start published (own ∷ served) = IsServedRound start published own × AreServed start published served

pub record IsViewOf (m : Memory) (engine : EngineView) (v : PassView) : Type 0 where
  pub clients : v.clients ≡ clients_of m
  pub there : v.client < clients_of m
  pub body : v.body ≡ m.book v.client
  pub front : HasFront v.body.stage v.body.front
  pub holder : is_holding v.body.stage ≡ true → IsHolder m engine v
  pub other : is_holding v.body.stage ≡ false → HasNothing v
  pub served : AreServed m.start m.published v.served

-- the faults that one client was answered
abbrev pub met_if : Bool → Met → List Met → List Met
met_if true met more = met ∷ more
met_if false met more = more

abbrev pub met_by : ℕ → List Fault → List Met
met_by client [] = []
met_by client (fault ∷ faults) = met_if (fault.client == client) fault.met (met_by client faults)

-- Each view of a seat's list, each of a client of its own. A client's view stands in one seat's list alone
abbrev pub IsOther : ℕ → List PassView → Type 0
IsOther client [] = Unit {0}
IsOther client (v ∷ views) = (v.client ≢ client) × IsOther client views

abbrev pub AreViews : Memory → EngineView → List Fault → (ℕ → ℕ) → ℕ → List PassView → Type 0
AreViews m engine faults place seat [] = Unit {0}
AreViews m engine faults place seat (v ∷ views) =
    IsViewOf m engine v × (v.met ≡ met_by v.client faults) × (place v.client ≡ seat) × IsOther v.client views × AreViews m engine faults place seat views

-- All of it

-- a run of the core's moves, from where the region was opened
pub record HasCoreRun (start : EngineView) (m : Memory) : Type 0 where
  pub moves : ℕ
  pub run : MemoryRun moves (begun start.standing start.device.faults) m

pub record Keeps {X : Type 0} (seen : X → EngineView) (kind : Kind) (start : EngineView) (s : State (Option X) (List PassView)) : Type 0 where
  pub m : Memory
  pub engine : EngineView
  pub faults : List Fault
  pub place : ℕ → ℕ
  pub run : HasCoreRun start m
  pub kept : length start.standing.kept ≡ start.standing.clients
  pub words : HasWords m s.words
  pub tied : IsTied kind start m engine faults
  pub lies : LiesAt seen m.owner engine s.homes
  pub below : IsBelow m.owner (clients_of m)
  pub apart : AreIntervalsApart 0 faults m.noted
  pub clients : AreOfClients (clients_of m) faults
  pub views : (seat : ℕ) (list : List PassView) → get_elem? s.views seat ≡ some list → AreViews m engine faults place seat list
