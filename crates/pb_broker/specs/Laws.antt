-- Laws of the program's theorem.
use Rattle.std.specs.Prelude.{◌≡◌, ◌⊎◌, ℕ, ◌+◌, ◌≤◌, List, Option, Some, None, length, ◌<◌, count_by}
use Rattle.pb_pmem.specs.declared.line.Line.{Line}
use Rattle.pb_pmem.specs.Count.{Rose}
use Rattle.pb_pmem.specs.declared.log.LogOp.{LogOp}
use Rattle.pb_pmem.specs.Crash.{is_sync}
use Rattle.pb_pmem.specs.Device.{Device, Tale}
use Rattle.pb_object.specs.declared.codes.Answer.TheVariants.{Is}
use Rattle.pb_object.specs.declared.kind.Kind.{Kind}
use Rattle.pb_object.specs.declared.request.Ask.{Ask}
use Rattle.pb_object.specs.declared.request.Op.{Op}
use Rattle.pb_object.specs.History.{History}
use Rattle.pb_object.specs.Laws.{after_operations}
use Rattle.pb_object.specs.Map.{Register, register_at}
use Rattle.pb_object.specs.Object.{Registers, next_state, reply_of}
use Rattle.pb_object.specs.Request.{reply}
use Rattle.pb_object.specs.Standing.{Standing}
use Rattle.pb_layout.specs.declared.header.Header.{Header}
use Rattle.pb_layout.specs.Damage.{HasRegion, IsDamagedAt}
use Rattle.pb_layout.specs.Recovered.{Represents}
use Rattle.pb_report.specs.declared.outcome.Outcome.{Outcome}
use Rattle.pb_script.specs.declared.command.Command.{Command}
use Rattle.pb_script.specs.declared.command.Command.TheVariants.{Fresh, Run, Report, Replay, Drill}
use Rattle.pb_replay.specs.Replay.{HasTooManyEvents, HasBadEvent}
use Rattle.pb_script.specs.declared.event.Repeat.{Repeat}
use Rattle.pb_script.specs.Schedule.{HasFewEvents, IsSchedule}
use Rattle.pb_script.specs.Words.{lines}
use Rattle.pb_broker.specs.declared.source.TheConstants.{SOURCE_LIMIT}
use Rattle.pb_broker.specs.declared.status.Status.{Status}
use Rattle.pb_broker.specs.declared.status.Status.TheVariants.{Done, OutOfMemory, Misnumbered}
use Rattle.pb_broker.specs.declared.stop.Stop.{Stop}
use Rattle.pb_broker.specs.declared.stop.Stop.TheVariants.{Usage, Long, Many, Line as BadLine, Taken, NoRegion, Damaged}
use Rattle.pb_broker.specs.Call.{Call, Says}
use Rattle.pb_broker.specs.Comes.{HasTooMany, HasFew, HasBadLine, IsScriptOf}
use Rattle.pb_broker.specs.Running.{is_fence, NoneInDoubt, IsLogged}
use Rattle.pb_broker.specs.Texts.{stop_text, stop_status}
use Rattle.pb_broker.specs.Stream.{Stream}

-- Completeness

-- the source tells a script of this kind for so many clients
pub record TellsScript (kind : Kind) (clients : ℕ) (read : Stream) : Type 0 where
  pub bytes : List ℕ
  pub told : read.before ≡ Some bytes
  pub few : length bytes ≤ SOURCE_LIMIT
  pub asks : List Ask
  pub script : IsScriptOf kind clients asks bytes

-- the device tells lines that are no region
pub record TellsNone (device : Device) : Type 0 where
  pub image : List Line
  pub told : device.now ≡ Some image
  pub none : ¬ HasRegion image

-- .. or lines that represent a standing
pub record TellsStanding (s : Standing) (device : Device) : Type 0 where
  pub image : List Line
  pub told : device.now ≡ Some image
  pub stands : Represents image s

-- the source tells bytes of which this holds
pub record TellsBytes (Holds : List ℕ → Type 0) (read : Stream) : Type 0 where
  pub bytes : List ℕ
  pub told : read.before ≡ Some bytes
  pub holds : Holds bytes

-- .. which are not too many, and of which this holds
abbrev pub TellsSource : (List ℕ → Type 0) → Stream → Type 0
TellsSource Holds read = TellsBytes (λ bytes. (length bytes ≤ SOURCE_LIMIT) × Holds bytes) read

-- the bytes are a schedule that isn't too long, and no line of it is refused: each of its events can happen when its turn comes
pub record IsPlayable (head : Header) (bytes : List ℕ) : Type 0 where
  pub few : HasFewEvents (lines bytes)
  pub repeats : List Repeat
  pub schedule : IsSchedule head.kind head.clients (lines bytes) repeats
  pub possible : (number : ℕ) → ¬ HasBadEvent head number bytes

-- the source tells one
abbrev pub TellsSchedule : Header → Stream → Type 0
TellsSchedule head read = TellsSource (IsPlayable head) read

-- the words are a command, and source and device are as it wants them
abbrev pub IsWellAsked : Option Command → Call → Type 0
IsWellAsked None call = ⊥
IsWellAsked (Some (Fresh kind clients size)) call = TellsScript kind clients call.read × TellsNone call.before
IsWellAsked (Some Run) call = (s : Standing) × TellsStanding s call.before × TellsScript s.kind s.clients call.read
IsWellAsked (Some Report) call = (s : Standing) × TellsStanding s call.before
IsWellAsked (Some (Replay kind clients size)) call = TellsSchedule (record { kind = kind; clients = clients; size = size }) call.read
IsWellAsked (Some (Drill seed clients count)) call = TellsNone call.before

-- no call of source, device or sink failed
pub record IsFaultless (call : Call) (out : Stream) : Type 0 where
  pub reads : ¬ Rose call.read.faults_before call.read.faults
  pub device : ¬ Rose call.before.faults call.after.faults
  pub writes : ¬ Rose out.faults_before out.faults

-- all was done, or all but what clients asked for under wrong numbers; or memory ran out
abbrev pub Succeeds : Status → Type 0
Succeeds status = (status ≡ Done) ⊎ ((status ≡ Misnumbered) ⊎ (status ≡ OutOfMemory))

-- Exactness

abbrev pub IsTooLong : List ℕ → Type 0
IsTooLong bytes = SOURCE_LIMIT < length bytes

-- the device tells lines of which this holds
pub record TellsLines (Holds : List Line → Type 0) (device : Device) : Type 0 where
  pub image : List Line
  pub told : device.now ≡ Some image
  pub holds : Holds image

-- why a command stops, by what source and device tell. Want of memory and faults have no such cause
abbrev pub TellsCause : Option Command → Call → Stop → Type 0
TellsCause None call Usage = Unit {0}
TellsCause (Some (Fresh kind clients size)) call Long = TellsBytes IsTooLong call.read
TellsCause (Some (Fresh kind clients size)) call Many = TellsSource HasTooMany call.read
TellsCause (Some (Fresh kind clients size)) call (BadLine number) = TellsSource (HasBadLine kind clients number) call.read
TellsCause (Some (Fresh kind clients size)) call Taken = TellsScript kind clients call.read × TellsLines HasRegion call.before
TellsCause (Some Run) call Long = TellsBytes IsTooLong call.read
TellsCause (Some Run) call Many = TellsSource HasTooMany call.read
TellsCause (Some Run) call NoRegion = TellsSource HasFew call.read × TellsLines (λ image. ¬ HasRegion image) call.before
TellsCause (Some Run) call (Damaged line) = TellsSource HasFew call.read × TellsLines (λ image. IsDamagedAt image line) call.before
TellsCause (Some Run) call (BadLine number) =
    (s : Standing) × TellsStanding s call.before × TellsSource (HasBadLine s.kind s.clients number) call.read
TellsCause (Some Report) call NoRegion = TellsLines (λ image. ¬ HasRegion image) call.before
TellsCause (Some Report) call (Damaged line) = TellsLines (λ image. IsDamagedAt image line) call.before
TellsCause (Some (Replay kind clients size)) call Long = TellsBytes IsTooLong call.read
TellsCause (Some (Replay kind clients size)) call Many = TellsSource HasTooManyEvents call.read
TellsCause (Some (Replay kind clients size)) call (BadLine number) =
    TellsSource (HasBadEvent (record { kind = kind; clients = clients; size = size }) number) call.read
TellsCause (Some (Drill seed clients count)) call Taken = TellsLines HasRegion call.before
TellsCause _ call _ = ⊥

-- the call says so, or memory ran out
abbrev pub SaysStop : Stream → Stop → Status → Type 0
SaysStop out stop status = Says out (stop_text stop) (stop_status stop) status ⊎ (status ≡ OutOfMemory)

-- Cost

-- these operations ask for so many fences and syncs
pub record Costs (fences syncs : ℕ) (ops : List LogOp) : Type 0 where
  pub fence : count_by is_fence ops ≡ fences
  pub sync : count_by is_sync ops ≡ syncs

-- a run from a standing on, behind these operations: where no line is in doubt, it asks for a fence and a sync for each of
-- its rounds, and for so many more
abbrev pub CostsOneEach : Standing → List LogOp → ℕ → ℕ → Type 0
CostsOneEach s first fences syncs =
    (known : History) (asks : List Ask) (list : List Outcome) (tale : Tale) (after : Device)
    (run : IsLogged known s first asks list tale after) → NoneInDoubt list
    → Costs (fences + length run.history) (syncs + length run.history) run.left.ops

-- Maps

-- a get after a put, and after operations on other registers, answers what was put, and the version that the put gave
abbrev pub GetAnswersThePut : List Register → Op → List Op → Op → Type 0
GetAnswersThePut registers put others get =
    reply_of (after_operations (next_state (Registers registers) put) others) get
    ≡ reply Is put.b ((register_at registers put.a).version + 1)
