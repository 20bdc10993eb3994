-- When a call comes to what: for each command, the cause of each ending, and what it leaves of source and device.
use Rattle.std.specs.Prelude.{◌≡◌, ℕ, ◌<◌, List, [], ◌∷◌, Option, Some, None, IfSome, length, ◌⊎◌}
use Rattle.std.specs.List.{sum_by}
use Rattle.pb_pmem.specs.Count.{Rose}
use Rattle.pb_pmem.specs.Device.{Device, Tale}
use Rattle.pb_pmem.specs.Operations.{Stops, IsFailedPrefix}
use Rattle.pb_object.specs.declared.kind.Kind.{Kind}
use Rattle.pb_object.specs.declared.kind.Kind.TheVariants.{Map}
use Rattle.pb_object.specs.declared.request.Ask.{Ask}
use Rattle.pb_object.specs.History.{state_after}
use Rattle.pb_object.specs.Map.{Register}
use Rattle.pb_object.specs.Object.{State, Registers}
use Rattle.pb_object.specs.Standing.{Standing}
use Rattle.pb_layout.specs.declared.header.Header.{Header}
use Rattle.pb_layout.specs.Damage.{HasRegion, IsDamagedAt}
use Rattle.pb_layout.specs.Exits.{empty_for}
use Rattle.pb_layout.specs.RegionOps.{settle_to}
use Rattle.pb_layout.specs.Represents.{header_for}
use Rattle.pb_layout.specs.ToldExits.{IsCoveredExit, HasPublished, IsReadyWith}
use Rattle.pb_engine.specs.View.{DeviceRepresents}
use Rattle.pb_replay.specs.Replay.{IsReplayed, HasTooManyEvents, HasBadEvent}
use Rattle.pb_report.specs.declared.outcome.Outcome.{Outcome}
use Rattle.pb_script.specs.declared.command.Command.{Command}
use Rattle.pb_script.specs.declared.command.Command.TheVariants.{Fresh, Run, Report, Replay, Drill}
use Rattle.pb_script.specs.declared.script.TheConstants.{MOST_REQUESTS}
use Rattle.pb_script.specs.Drill.{drill_asks}
use Rattle.pb_script.specs.Script.{IsShort, IsScript, IsRefused, request_lines}
use Rattle.pb_script.specs.Words.{lines}
use Rattle.pb_broker.specs.declared.stop.Stop.{Stop}
use Rattle.pb_broker.specs.declared.stop.Stop.TheVariants.{Memory, Usage, ReadFault, Long, Many, Line as BadLine, DeviceFault as FailedDevice, Taken, NoRegion, Damaged}
use Rattle.pb_broker.specs.Call.{Call, IsSameDevice}
use Rattle.pb_broker.specs.Ending.{Ending, Stopped, Served, Drilled, Reported, Replayed}
use Rattle.pb_broker.specs.Running.{making_ops, IsRun, HasSome}
use Rattle.pb_broker.specs.Source.{IsUnread, HasReadSome, IsReadWhole, IsLong}
use Rattle.pb_broker.specs.Stream.{Stream, IsSound}

-- Of the source's bytes

-- they have too many request lines, or not
abbrev pub HasTooMany : List ℕ → Type 0
HasTooMany bytes = MOST_REQUESTS < length (request_lines (lines bytes))

abbrev pub HasFew : List ℕ → Type 0
HasFew bytes = IsShort (lines bytes)

-- they are the script of these requests
abbrev pub IsScriptOf : Kind → ℕ → List Ask → List ℕ → Type 0
IsScriptOf kind clients asks bytes = IsShort (lines bytes) × IsScript kind clients (lines bytes) asks

-- this is the first line that is refused
abbrev pub HasBadLine : Kind → ℕ → ℕ → List ℕ → Type 0
HasBadLine kind clients number bytes = IsShort (lines bytes) × IsRefused kind clients (lines bytes) number

-- the source is a script
abbrev pub IsScripted : Kind → ℕ → Stream → Type 0
IsScripted kind clients read = (asks : List Ask) × IsReadWhole (IsScriptOf kind clients asks) read

-- Of the device's lines

abbrev pub TellsNoRegion : Device → Type 0
TellsNoRegion device = IfSome device.now (λ image. ¬ HasRegion image)

abbrev pub TellsDamage : ℕ → Device → Type 0
TellsDamage line device = IfSome device.now (λ image. IsDamagedAt image line)

-- Why a call stops

-- why reading the source stops, or counting its request lines
abbrev pub StopsReadingFew : Stream → Stop → Type 0
StopsReadingFew read Memory = HasReadSome read × IsSound read
StopsReadingFew read ReadFault = HasReadSome read × Rose read.faults_before read.faults
StopsReadingFew read Long = IsLong read
StopsReadingFew read Many = IsReadWhole HasTooMany read
StopsReadingFew read _ = ⊥

-- why a region isn't opened
abbrev pub IsNotOpened : Device → Device → Stop → Type 0
IsNotOpened before after Memory = after ≡ before
IsNotOpened before after FailedDevice = Rose before.faults after.faults × (after.told ≡ before.told)
IsNotOpened before after NoRegion = TellsNoRegion before × (after ≡ before)
IsNotOpened before after (Damaged line) = TellsDamage line before × (after ≡ before)
IsNotOpened before after _ = ⊥

-- A region is made, and requests are run on it

-- making it was cut off at a failing call of the device: it still has none, alone, or holds the empty one, which a crash may take back
pub record MakingIsCutOff (head : Header) (before after : Device) : Type 0 where
  pub stopped : Stops (IsFailedPrefix (making_ops head)) before after
  pub none : (after.told ≡ before.told) ⊎ TellsNoRegion before
  pub left : (tale : Tale) → before.told ≡ Some tale → IsReadyWith (None ∷ []) tale
      → IsCoveredExit tale after (empty_for head) [] (None ∷ []) ⊎ HasPublished tale after head

-- the device had no region, and these requests were run from the empty standing on
pub record ServesMade (head : Header) (before after : Device) (asks : List Ask) (list : List Outcome) : Type 0 where
  pub none : TellsNoRegion before
  pub run : IsRun (empty_for head) (making_ops head) (IsReadyWith (None ∷ [])) asks list before after

-- `fresh KIND CLIENTS SIZE`: the requests are those of the source's script. Its lines are judged before the region is made

-- why it stops. Memory may run out before the device is called, or when the region is made, before any request
abbrev pub StopsFresh : Header → Call → Stop → Type 0
StopsFresh head call (BadLine number) = IsReadWhole (HasBadLine head.kind head.clients number) call.read × IsSameDevice call
StopsFresh head call FailedDevice = IsScripted head.kind head.clients call.read × MakingIsCutOff head call.before call.after
StopsFresh head call Taken =
    IsScripted head.kind head.clients call.read × IfSome call.before.now HasRegion × IsSameDevice call
StopsFresh head call Memory =
    (StopsReadingFew call.read Memory × IsSameDevice call)
    ⊎ (IsScripted head.kind head.clients call.read × ServesMade head call.before call.after [] [])
StopsFresh head call stop = StopsReadingFew call.read stop × IsSameDevice call

pub record ServesFresh (head : Header) (call : Call) (asks : List Ask) (list : List Outcome) : Type 0 where
  pub script : IsReadWhole (IsScriptOf head.kind head.clients asks) call.read
  pub made : ServesMade head call.before call.after asks list

-- `drill SEED CLIENTS COUNT`: they are made from the seed, for a map of 64 registers. The source isn't read

abbrev pub drill_head : ℕ → Header
drill_head clients = record { kind = Map; clients = clients; size = 64 }

abbrev pub StopsDrill : Header → Device → Device → Stop → Type 0
StopsDrill head before after Memory = (after ≡ before) ⊎ ServesMade head before after [] []
StopsDrill head before after FailedDevice = MakingIsCutOff head before after
StopsDrill head before after Taken = IfSome before.now HasRegion × (after ≡ before)
StopsDrill head before after _ = ⊥

-- how often a map's registers were written
abbrev pub version_sum : State → ℕ
version_sum (Registers registers) = sum_by (λ (r : Register). r.version) registers
version_sum _ = 0

-- the versions are those behind the rounds that are known for sure
pub record ServesDrill (seed clients count : ℕ) (before after : Device) (asks : List Ask) (list : List Outcome) (versions : ℕ) : Type 0 where
  pub script : asks ≡ drill_asks seed clients count
  pub made : ServesMade (drill_head clients) before after asks list
  pub versions_are : versions ≡ version_sum (state_after (empty_for (drill_head clients)) made.run.history).state

abbrev pub ComesToDrill : ℕ → ℕ → ℕ → Device → Device → Ending → Type 0
ComesToDrill seed clients count before after (Stopped stop) = StopsDrill (drill_head clients) before after stop
ComesToDrill seed clients count before after (Drilled asks list versions) = ServesDrill seed clients count before after asks list versions
ComesToDrill seed clients count before after _ = ⊥

-- `run`: the region is opened and settled, and the source's script is run on it. Lines are judged behind the opening

-- the lines were judged, and settling the standing that the device represents was cut off at a failing call of the device:
-- a crash may leave what it might leave before
pub record SettlingIsCutOff (call : Call) : Type 0 where
  pub standing : Standing
  pub stands : DeviceRepresents standing call.before
  pub script : IsScripted standing.kind standing.clients call.read
  pub stopped : Stops (IsFailedPrefix (settle_to (header_for standing) standing)) call.before call.after
  pub left : (tale : Tale) (members : List (Option Standing)) → call.before.told ≡ Some tale → IsReadyWith members tale
      → IsCoveredExit tale call.after standing [] members

-- a call of the device failed, in opening or in settling
pub record FailsRun (call : Call) : Type 0 where
  pub few : IsReadWhole HasFew call.read
  pub rose : Rose call.before.faults call.after.faults
  pub left : (call.after.told ≡ call.before.told) ⊎ SettlingIsCutOff call

-- the lines were judged, the standing that the device represents was settled, and memory ran out before any request
pub record IsSettledAlone (call : Call) : Type 0 where
  pub standing : Standing
  pub stands : DeviceRepresents standing call.before
  pub script : IsScripted standing.kind standing.clients call.read
  pub run : IsRun standing (settle_to (header_for standing) standing) HasSome [] [] call.before call.after

-- why it stops. Memory may run out before the region is settled, or behind that
abbrev pub StopsRun : Call → Stop → Type 0
StopsRun call Memory = (StopsReadingFew call.read Memory × IsSameDevice call) ⊎ IsSettledAlone call
StopsRun call (BadLine number) = (s : Standing) × DeviceRepresents s call.before
    × IsReadWhole (HasBadLine s.kind s.clients number) call.read × IsSameDevice call
StopsRun call FailedDevice = FailsRun call
StopsRun call NoRegion = IsReadWhole HasFew call.read × TellsNoRegion call.before × IsSameDevice call
StopsRun call (Damaged line) = IsReadWhole HasFew call.read × TellsDamage line call.before × IsSameDevice call
StopsRun call stop = StopsReadingFew call.read stop × IsSameDevice call

-- the script of the source was run from the standing on that the device represented
pub record ServesRun (call : Call) (asks : List Ask) (list : List Outcome) : Type 0 where
  pub standing : Standing
  pub stands : DeviceRepresents standing call.before
  pub script : IsReadWhole (IsScriptOf standing.kind standing.clients asks) call.read
  pub run : IsRun standing (settle_to (header_for standing) standing) HasSome asks list call.before call.after

-- `report`: the standing that the device represents is reported. The source isn't read, and the device's log stays

abbrev pub ComesToReport : Device → Device → Ending → Type 0
ComesToReport before after (Stopped stop) = IsNotOpened before after stop
ComesToReport before after (Reported s) = DeviceRepresents s before × (after ≡ before)
ComesToReport before after _ = ⊥

-- `replay KIND CLIENTS SIZE`: the source's schedule happens in a world over a region that was just formatted. No device is
-- touched

abbrev pub StopsReplay : Header → Stream → Stop → Type 0
StopsReplay head read Memory = HasReadSome read × IsSound read
StopsReplay head read ReadFault = HasReadSome read × Rose read.faults_before read.faults
StopsReplay head read Long = IsLong read
StopsReplay head read Many = IsReadWhole HasTooManyEvents read
StopsReplay head read (BadLine number) = IsReadWhole (HasBadEvent head number) read
StopsReplay head read _ = ⊥

abbrev pub ComesToReplay : Header → Stream → Ending → Type 0
ComesToReplay head read (Stopped stop) = StopsReplay head read stop
ComesToReplay head read (Replayed answers s) = IsReadWhole (λ bytes. IsReplayed head bytes answers s) read
ComesToReplay head read _ = ⊥

-- What a call comes to, by its command. Of words that are no command nothing is done
abbrev pub Comes : Option Command → Call → Ending → Type 0
Comes (Some (Fresh kind clients size)) call (Stopped stop) =
    StopsFresh (record { kind = kind; clients = clients; size = size }) call stop
Comes (Some (Fresh kind clients size)) call (Served asks list) =
    ServesFresh (record { kind = kind; clients = clients; size = size }) call asks list
Comes (Some (Fresh kind clients size)) call _ = ⊥
Comes (Some Run) call (Stopped stop) = StopsRun call stop
Comes (Some Run) call (Served asks list) = ServesRun call asks list
Comes (Some Run) call _ = ⊥
Comes (Some Report) call ending = IsUnread call.read × ComesToReport call.before call.after ending
Comes (Some (Replay kind clients size)) call ending =
    ComesToReplay (record { kind = kind; clients = clients; size = size }) call.read ending × IsSameDevice call
Comes (Some (Drill seed clients count)) call ending = IsUnread call.read × ComesToDrill seed clients count call.before call.after ending
Comes None call ending = (ending ≡ Stopped Usage) × IsUnread call.read × IsSameDevice call
