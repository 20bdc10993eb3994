-- What the parts of a call come to, before any of it is printed.
use Rattle.std.specs.Prelude.{◌≡◌, ◌⊎◌, ℕ, ◌≤◌, List, Option, IfSome, length, false, []}
use Rattle.std.specs.Io.KnownBytes.{Consumes, IsAtEnd}
use Rattle.pb_pmem.specs.declared.device.DeviceFault.{DeviceFault as Fault}
use Rattle.pb_pmem.specs.Count.{Rose}
use Rattle.pb_pmem.specs.Device.{Device}
use Rattle.pb_object.specs.declared.kind.Kind.{Kind}
use Rattle.pb_object.specs.declared.request.Ask.{Ask}
use Rattle.pb_object.specs.Standing.{Standing}
use Rattle.pb_layout.specs.declared.header.Header.{Header}
use Rattle.pb_layout.specs.Damage.{HasRegion}
use Rattle.pb_pair.specs.declared.why.Why.TheVariants.{Device as DeviceWhy}
use Rattle.pb_engine.specs.Covers.{SettleCovers, FailedSettleCovers}
use Rattle.pb_engine.specs.Outcomes.{HasSettled, HasFailedToSettle}
use Rattle.pb_engine.specs.Opening.{IsFreshEngine, IsFreshRefusal, IsAdopted}
use Rattle.pb_engine.specs.View.{EngineView}
use Rattle.pb_events.specs.declared.event.Stepped.{Stepped}
use Rattle.pb_replay.specs.declared.played.Played.{Played}
use Rattle.pb_replay.specs.Replay.{Holds, IsReplayed}
use Rattle.pb_report.specs.declared.outcome.Outcome.{Outcome}
use Rattle.pb_report.specs.SummaryText.{summary_text}
use Rattle.pb_run.specs.Run.{HasRun}
use Rattle.pb_broker.specs.declared.source.TheConstants.{SOURCE_LIMIT}
use Rattle.pb_broker.specs.declared.stop.Stop.{Stop}
use Rattle.pb_broker.specs.declared.stop.Stop.TheVariants.{Memory, ReadFault, Long, Many, Line, DeviceFault, Taken}
use Rattle.pb_broker.specs.declared.status.Status.{Status}
use Rattle.pb_broker.specs.Call.{IsSaid}
use Rattle.pb_broker.specs.Comes.{HasTooMany, HasFew, IsScriptOf, HasBadLine, StopsReadingFew, IsNotOpened, version_sum}
use Rattle.pb_broker.specs.Ending.{Stopped, Reported}
use Rattle.pb_broker.specs.Texts.{ending_text, ending_status, stop_text, stop_status, run_status}
use Rattle.pb_broker.specs.Source.{HasReadSome, IsReadWhole, IsLong}
use Rattle.pb_broker.specs.Stream.{IsSound, Stream}

-- The source

-- all of it was read, and it isn't too long
pub record ReadsAll (read : Stream) (bytes : List ℕ) : Type 0 where
  pub consumes : Consumes read.before read.after bytes
  pub end : IsAtEnd read.after
  pub few : length bytes ≤ SOURCE_LIMIT
  pub sound : IsSound read

-- some of the first bytes were taken, so many at most
abbrev pub HasTaken : Option (List ℕ) → Option (List ℕ) → ℕ → Type 0
HasTaken before after most = (front : List ℕ) × (length front ≤ most) × Consumes before after front

-- why reading stops
abbrev pub StopsReading : Stream → Stop → Type 0
StopsReading read Memory = HasReadSome read × IsSound read
StopsReading read ReadFault = HasReadSome read × Rose read.faults_before read.faults
StopsReading read Long = IsLong read
StopsReading read _ = ⊥

-- .. and it has no more request lines than it may
pub record ReadsFew (read : Stream) (bytes : List ℕ) : Type 0 where
  pub whole : ReadsAll read bytes
  pub short : HasFew bytes

-- why bytes are no script
abbrev pub IsNoScript : Kind → ℕ → List ℕ → Stop → Type 0
IsNoScript kind clients bytes Memory = Unit {0}
IsNoScript kind clients bytes Many = HasTooMany bytes
IsNoScript kind clients bytes (Line number) = HasBadLine kind clients number bytes
IsNoScript kind clients bytes _ = ⊥

-- why a source gives no requests
abbrev pub StopsPreparing : Kind → ℕ → Stream → Stop → Type 0
StopsPreparing kind clients read (Line number) = IsReadWhole (HasBadLine kind clients number) read
StopsPreparing kind clients read stop = StopsReadingFew read stop

-- A new region

-- an engine was made on the device, and the requests were run on it
pub record ServesNew (head : Header) (before after : Device) (asks : List Ask) (list : List Outcome) : Type 0 where
  pub start : EngineView
  pub fresh : IsFreshEngine head before start
  pub now : EngineView
  pub run : HasRun start asks now list
  pub device : after ≡ now.device

-- the region couldn't be made; or memory ran out when it was, before any request
abbrev pub IsNotMade : Header → Device → Device → Stop → Type 0
IsNotMade head before after Memory = (after ≡ before) ⊎ ServesNew head before after [] []
IsNotMade head before after DeviceFault = (fault : Fault) × IsFreshRefusal head before after (DeviceWhy fault)
IsNotMade head before after Taken = IfSome before.now HasRegion × (after ≡ before)
IsNotMade head before after _ = ⊥

-- A drill

-- requests were run on an engine, and summed up with the versions that it knows for sure
pub record DrillsOn (start : EngineView) (after : Device) (asks : List Ask) (out : Stream) (status : Status) : Type 0 where
  pub list : List Outcome
  pub now : EngineView
  pub run : HasRun start asks now list
  pub device : after ≡ now.device
  pub said : IsSaid out (summary_text asks list (version_sum now.standing.state)) (run_status list) status

-- .. which was made on the device; or it couldn't be made
abbrev pub DrillsNew : Header → Device → Device → List Ask → Stream → Status → Type 0
DrillsNew head before after asks out status =
    ((start : EngineView) × IsFreshEngine head before start × DrillsOn start after asks out status)
    ⊎ ((stop : Stop) × IsNotMade head before after stop × IsSaid out (stop_text stop) (stop_status stop) status)

-- A region that is there

-- the engine was settled
pub record SettlesEngine (old new : EngineView) : Type 0 where
  pub unsure : old.sure ≡ false
  pub settled : HasSettled old new
  pub covers : SettleCovers old new

-- it wasn't sure, and settling failed
pub record StaysUnsure (old new : EngineView) : Type 0 where
  pub unsure : old.sure ≡ false
  pub fault : Fault
  pub failed : HasFailedToSettle fault old new
  pub covers : FailedSettleCovers old new

-- an engine that was just opened was settled, and the requests of the source were run on it
pub record ServesFound (kind : Kind) (found : EngineView) (bytes : List ℕ) (now : EngineView) (asks : List Ask)
    (list : List Outcome) : Type 0 where
  pub script : IsScriptOf kind found.standing.clients asks bytes
  pub start : EngineView
  pub settled : SettlesEngine found start
  pub run : HasRun start asks now list

-- why they weren't run: before the region was settled or, where memory ran out, also behind that
abbrev pub StopsFound : Kind → EngineView → List ℕ → EngineView → Stop → Type 0
StopsFound kind found bytes now Memory =
    (now ≡ found) ⊎ (((asks : List Ask) × IsScriptOf kind found.standing.clients asks bytes) × SettlesEngine found now)
StopsFound kind found bytes now Many = HasTooMany bytes
StopsFound kind found bytes now (Line number) = HasBadLine kind found.standing.clients number bytes × (now ≡ found)
StopsFound kind found bytes now DeviceFault =
    ((asks : List Ask) × IsScriptOf kind found.standing.clients asks bytes) × StaysUnsure found now
StopsFound kind found bytes now _ = ⊥

-- the region of a device was opened, and its engine came to this
pub record OpensTo (before after : Device) (Comes : EngineView → EngineView → Type 0) : Type 0 where
  pub found : EngineView
  pub adopted : IsAdopted before found
  pub now : EngineView
  pub device : after ≡ now.device
  pub comes : Comes found now

abbrev pub ServesOn : List ℕ → Device → Device → List Ask → List Outcome → Type 0
ServesOn bytes before after asks list =
    OpensTo before after (λ found now. ServesFound found.standing.kind found bytes now asks list)

-- it couldn't be opened, or its requests weren't run
abbrev pub StopsOn : List ℕ → Device → Device → Stop → Type 0
StopsOn bytes before after stop =
    IsNotOpened before after stop ⊎ OpensTo before after (λ found now. StopsFound found.standing.kind found bytes now stop)

-- The replay of a schedule

-- the source was played, and this is held of it
pub record HasPlayed (head : Header) (read : Stream) (played : Played) : Type 0 where
  pub answers : List Stepped
  pub standing : Standing
  pub source : IsReadWhole (λ bytes. IsReplayed head bytes answers standing) read
  pub holds : Holds played answers standing

-- The report of a region

-- the report of a standing was printed; or memory ran out, and nothing was
abbrev pub IsPrinted : Standing → Stream → Status → Type 0
IsPrinted s out status =
    IsSaid out (ending_text (Reported s)) (ending_status (Reported s)) status
    ⊎ IsSaid out (ending_text (Stopped Memory)) (ending_status (Stopped Memory)) status
