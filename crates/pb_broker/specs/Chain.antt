-- Chains of calls over one device: each begins with what the one before left of it, or with what a crash left of it.
use Rattle.std.specs.Prelude.{◌≡◌, ◌⊎◌, ℕ, zero, suc, ◌≤◌, List, [], ◌∷◌, ◌++◌, Option, Some, None, Contains, IfSome, length}
use Rattle.std.specs.List.{zip}
use Rattle.pb_pmem.specs.declared.line.Line.{Line}
use Rattle.pb_pmem.specs.Crash.{IsCrashImageAt}
use Rattle.pb_pmem.specs.Device.{Tale, IsReplay}
use Rattle.pb_object.specs.declared.request.Ask.{Ask}
use Rattle.pb_object.specs.declared.request.Reply.{Reply}
use Rattle.pb_object.specs.History.{Entry, History, IsLegal, kept_by, state_after}
use Rattle.pb_object.specs.Standing.{Standing, empty_standing, kept_list_of, newest_of}
use Rattle.pb_layout.specs.Damage.{HasRegion}
use Rattle.pb_layout.specs.Exits.{empty_for}
use Rattle.pb_layout.specs.LogHistory.{rounds_in, history_of}
use Rattle.pb_layout.specs.Once.{HasNumbersOnce}
use Rattle.pb_layout.specs.Recovered.{Represents}
use Rattle.pb_layout.specs.ToldExits.{IsReadyWith, contents_of}
use Rattle.pb_report.specs.declared.outcome.Outcome.{Outcome}
use Rattle.pb_report.specs.declared.outcome.Outcome.TheVariants.{New, Kept, Old}
use Rattle.pb_report.specs.Outcomes.{HasEntry, Outcomes, entry_of}
use Rattle.pb_script.specs.declared.command.Command.{Command}
use Rattle.pb_script.specs.declared.command.Command.TheVariants.{Fresh, Drill}
use Rattle.pb_script.specs.Command.{command_of}
use Rattle.pb_broker.specs.declared.status.Status.{Status}
use Rattle.pb_broker.specs.Call.{Call}
use Rattle.pb_broker.specs.Comes.{drill_head}
use Rattle.pb_broker.specs.Ending.{Ending, Served, Drilled}
use Rattle.pb_broker.specs.Running.{HasSome}
use Rattle.pb_broker.specs.Stream.{Stream}
use Rattle.pb_broker.specs.Top.{IsAnswered}

-- where a chain has come to: what the device tells; the standing that its region began with, where it has one; and the rounds that
-- were recorded in it since
pub record Point : Type 0 where
  pub tale : Tale
  pub first : Option Standing
  pub rounds : History

-- a chain begins on a device that is ready with one thing
pub record IsStart (start : Point) : Type 0 where
  pub ready : IsReadyWith (start.first ∷ []) start.tale
  pub none : start.rounds ≡ []

-- a call of the program on a device that tells this, and then tells that
pub record Called (before : Tale) : Type 0 where
  pub words : List (List ℕ)
  pub call : Call
  pub out : Stream
  pub status : Status
  pub answered : IsAnswered words call out status
  pub after : Tale
  pub begins : call.before.told ≡ Some before
  pub ends : call.after.told ≡ Some after
  pub replay : IsReplay call.before

-- the rounds that its log tells
abbrev pub rounds_told : (before : Tale) → Called before → History
rounds_told before called = rounds_in (history_of called.after.base called.after.log (length before.log))

-- .. go behind those before
abbrev pub rounds_behind : (before : Point) → Called before.tale → History
rounds_behind before called = before.rounds ++ rounds_told before.tale called

-- a region begins with the empty standing of the `fresh` or `drill` that made it
abbrev pub begun_by : Option Command → Option Standing → Option Standing
begun_by command (Some s) = Some s
begun_by (Some (Fresh kind clients size)) None = Some (empty_standing kind clients size)
begun_by (Some (Drill seed clients count)) None = Some (empty_for (drill_head clients))
begun_by _ None = None

abbrev pub first_behind : (before : Point) → Called before.tale → Option Standing
first_behind before called = begun_by (command_of called.words) before.first

-- behind a step the lines have a region that began so, with these rounds since; or none
abbrev pub IsFound : List Line → Option Standing → History → Point → Type 0
IsFound image first rounds next =
    (HasRegion image × (next.first ≡ first) × (next.rounds ≡ rounds)) ⊎ ((¬ HasRegion image) × (next.first ≡ None) × (next.rounds ≡ []))

-- the device as the call handed it back
pub record IsHandedBack (before : Point) (called : Called before.tale) (next : Point) : Type 0 where
  pub tale : next.tale ≡ called.after
  pub found : IsFound (contents_of called.after) (first_behind before called) (rounds_behind before called) next

-- a crash at a moment of the call left these lines: of the rounds those are kept whose state the lines represent
pub record IsCrashed (before : Point) (called : Called before.tale) (moment : ℕ) (image : List Line) (next : Point) : Type 0 where
  pub low : length before.tale.log ≤ moment
  pub high : moment ≤ length called.after.log
  pub left : IsCrashImageAt called.after.base called.after.log moment image
  pub tale : next.tale ≡ record { base = image; log = [] }
  pub kept : History
  pub lost : History
  pub whole : rounds_behind before called ≡ kept ++ lost
  pub stands : HasRegion image → IfSome (first_behind before called) (λ s. Represents image (state_after s kept))
  pub found : IsFound image (first_behind before called) kept next

-- the device is ready for the next call: with no region alone, as `fresh` asks; or it has one and is ready with some members, as `run`
-- asks
abbrev pub IsReadyAgain : Tale → Type 0
IsReadyAgain tale =
    ((¬ HasRegion (contents_of tale)) × IsReadyWith (None ∷ []) tale) ⊎ (HasRegion (contents_of tale) × HasSome tale)

-- one step of a chain: a call, or one that a crash cut off at one of its moments
pub data Step (before next : Point) : Type 0 where
  handed : (called : Called before.tale) → IsHandedBack before called next → Step before next
  crashed : (called : Called before.tale) (moment : ℕ) (image : List Line) → IsCrashed before called moment image next → Step before next

-- so many steps
abbrev pub Steps : ℕ → Point → Point → Type 0
Steps zero before next = next ≡ before
Steps (suc count) before next = (middle : Point) × Step before middle × Steps count middle next

-- a chain, from its start to now
pub record Chain (now : Point) : Type 0 where
  pub start : Point
  pub begins : IsStart start
  pub count : ℕ
  pub steps : Steps count start now

-- What holds at each point of a chain

-- the rounds are legal from the region's first standing on, no client's number stands twice in them, and the device represents the
-- standing after them
pub record IsOneHistory (s : Standing) (point : Point) : Type 0 where
  pub legal : IsLegal s point.rounds
  pub once : HasNumbersOnce point.rounds
  pub holds : Represents (contents_of point.tale) (state_after s point.rounds)

-- the device has no region, and nothing was recorded in it
pub record HasNothing (point : Point) : Type 0 where
  pub first : point.first ≡ None
  pub rounds : point.rounds ≡ []
  pub none : ¬ HasRegion (contents_of point.tale)

abbrev pub HasOneHistory : Point → Type 0
HasOneHistory point = HasNothing point ⊎ ((s : Standing) × (point.first ≡ Some s) × IsOneHistory s point)

-- What stays

-- the outcome says that the request was applied: in this call or earlier
abbrev pub SaysApplied : Outcome → Type 0
SaysApplied (New reply) = Unit {0}
SaysApplied (Kept reply) = Unit {0}
SaysApplied Old = Unit {0}
SaysApplied _ = ⊥

-- these requests were run, with these outcomes: each has its line, or is counted in a drill's summary
abbrev pub HasRequests : Ending → List Ask → List Outcome → Type 0
HasRequests (Served its_asks its_list) asks list = (its_asks ≡ asks) × (its_list ≡ list)
HasRequests (Drilled its_asks its_list versions) asks list = (its_asks ≡ asks) × (its_list ≡ list)
HasRequests _ asks list = ⊥

-- the outcomes are those of a run from the standing after the chain's history, with the rounds that the call's log tells
abbrev pub FollowsFrom : (now : Point) → Called now.tale → List Ask → List Outcome → Type 0
FollowsFrom now called asks list =
    (s : Standing) × (first_behind now called ≡ Some s) × Outcomes (state_after s now.rounds) (rounds_told now.tale called) asks list

-- the call said so of a client's request of this number
pub record HasSaid (ending : Ending) (client number : ℕ) : Type 0 where
  pub asks : List Ask
  pub list : List Outcome
  pub served : HasRequests ending asks list
  pub ask : Ask
  pub outcome : Outcome
  pub line : Contains (zip asks list) (ask, outcome)
  pub applied : SaysApplied outcome
  pub client_is : ask.client ≡ client
  pub number_is : ask.number ≡ number

-- the request of a client under this number stands in a history
pub record StandsIn (rounds : History) (client number : ℕ) : Type 0 where
  pub entry : Entry
  pub recorded : HasEntry rounds entry
  pub client_is : entry.client ≡ client
  pub number_is : entry.number ≡ number

-- .. or the region began with a number of the client that isn't below it
abbrev pub IsApplied : Point → ℕ → ℕ → Type 0
IsApplied point client number =
    (s : Standing) × (point.first ≡ Some s) × (StandsIn point.rounds client number ⊎ (number ≤ (newest_of s client).number))

-- behind the call: the device as it was handed back, or what a crash may leave after the whole call
abbrev pub IsBehind : (before : Point) → Called before.tale → Point → Type 0
IsBehind before called next =
    IsHandedBack before called next ⊎ ((image : List Line) × IsCrashed before called (length called.after.log) image next)

-- the call printed this reply to a request: it is new, or kept
abbrev pub PrintsReply : Outcome → Reply → Type 0
PrintsReply outcome reply = (outcome ≡ New reply) ⊎ (outcome ≡ Kept reply)

pub record HasPrinted (ending : Ending) (ask : Ask) (reply : Reply) : Type 0 where
  pub asks : List Ask
  pub list : List Outcome
  pub served : ending ≡ Served asks list
  pub outcome : Outcome
  pub line : Contains (zip asks list) (ask, outcome)
  pub prints : PrintsReply outcome reply

-- the request stands in the rounds with this reply; or the region began with it as a kept one
abbrev pub IsReplied : Point → Ask → Reply → Type 0
IsReplied point ask reply =
    (s : Standing) × (point.first ≡ Some s)
    × (HasEntry point.rounds (entry_of ask reply) ⊎ Contains (kept_list_of s ask.client) (kept_by (entry_of ask reply)))
