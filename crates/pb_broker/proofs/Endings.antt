-- What `fresh` and `run` come to, from their parts.
use Rattle.std.proofs.Common.{◌≡◌, ◌⊎◌, ℕ, ◌≤◌, List, [], ◌∷◌, ◌++◌, Option, Some, IfSome, IfOk, IfErr, Result, Ok, Err, MatchResult, length, append_assoc, refl, sym, subst, ap, ◌∙◌, arith, inl, inr}
use Rattle.std.proofs.KnownBytes.{Consumes-whole}
use Rattle.pb_pmem.specs.declared.device.DeviceFault.{DeviceFault}
use Rattle.pb_pmem.specs.declared.line.Line.{Line}
use Rattle.pb_pmem.specs.declared.log.LogOp.{LogOp}
use Rattle.pb_pmem.specs.declared.log.LogOp.TheVariants.{Word, Back, Sync}
use Rattle.pb_pmem.specs.Count.{Rose}
use Rattle.pb_pmem.specs.Device.{Device, Tale, IsReplay}
use Rattle.pb_pmem.specs.Operations.{Stops, IsFailedPrefix}
use Rattle.pb_object.specs.declared.kind.Kind.{Kind}
use Rattle.pb_object.specs.declared.request.Ask.{Ask}
use Rattle.pb_object.specs.Standing.{Standing}
use Rattle.pb_layout.specs.declared.header.Header.{Header}
use Rattle.pb_layout.specs.declared.header.TheConstants.{MAGIC}
use Rattle.pb_layout.specs.Recovered.{Represents}
use Rattle.pb_layout.specs.RegionOps.{prepare_ops, publish_ops, format_ops, settle_to}
use Rattle.pb_layout.specs.Represents.{header_for}
use Rattle.pb_layout.specs.ToldExits.{IsCoveredExit, contents_of}
use Rattle.pb_pair.specs.declared.why.Why.TheVariants.{Device as DeviceWhy}
use Rattle.pb_pair.specs.Format.{IsFailedFormat}
use Rattle.pb_pair.proofs.Told.{told_now}
use Rattle.pb_pmem.proofs.OperationSteps.{stops_weaker}
use Rattle.pb_engine.specs.Opening.{IsAdopted, IsFreshRefusal}
use Rattle.pb_engine.specs.View.{EngineView, FailedRound, DeviceRepresents, settled_standing, was_called}
use Rattle.pb_report.specs.declared.outcome.Outcome.{Outcome}
use Rattle.pb_broker.specs.declared.requests.Requests.{Requests}
use Rattle.pb_broker.specs.declared.source.TheConstants.{SOURCE_LIMIT}
use Rattle.pb_broker.specs.declared.stop.Stop.{Stop}
use Rattle.pb_broker.specs.declared.stop.Stop.TheVariants.{Memory, Usage, ReadFault, Long, Many, Line as BadLine, DeviceFault as FailedDevice, Taken, NoRegion, Damaged}
use Rattle.pb_broker.specs.Call.{Call}
use Rattle.pb_broker.specs.Comes.{HasFew, HasBadLine, IsScriptOf, StopsFresh, ServesFresh, ServesMade, MakingIsCutOff, SettlingIsCutOff, IsNotOpened, StopsRun, ServesRun}
use Rattle.pb_broker.specs.Serving.{ReadsFew, ServesNew, IsNotMade, SettlesEngine, StaysUnsure, ServesFound, StopsFound, ServesOn, StopsOn, OpensTo}
use Rattle.pb_broker.proofs.EmptyRecords.{made_by}
use Rattle.pb_broker.proofs.Ran.{nothing_run, run_on_new, run_on_found}
use Rattle.pb_broker.specs.Source.{HasReadSome, IsReadWhole}
use Rattle.pb_broker.specs.Stream.{IsSound, Stream}

-- The source

pub whole_weaker : {A B : List ℕ → Type 0} {read : Stream} → ((bytes : List ℕ) → A bytes → B bytes) → IsReadWhole A read → IsReadWhole B read
whole_weaker {A} {B} {read} so whole = record { bytes = whole.bytes; taken = whole.taken; end = whole.end; few = whole.few; holds = so whole.bytes whole.holds; sound = whole.sound }

-- it was read so far
whole_stopped : {A : List ℕ → Type 0} {read : Stream} → IsReadWhole A read → HasReadSome read × IsSound read
whole_stopped whole = ((whole.bytes, omega (arith, whole.few), whole.taken), whole.sound)

-- what is said of it is said of its bytes, where they are told
pub content : {A : List ℕ → Type 0} {read : Stream} → IsReadWhole A read → IfSome read.before (λ bytes. (length bytes ≤ SOURCE_LIMIT) × A bytes)
content {A} {read} whole = Consumes-whole read.before read.after whole.bytes (λ all. (length all ≤ SOURCE_LIMIT) × A all) whole.taken whole.end (whole.few, whole.holds)

pub script_is_few : {kind : Kind} {clients : ℕ} {asks : List Ask} {read : Stream} → IsReadWhole (IsScriptOf kind clients asks) read → IsReadWhole HasFew read
script_is_few whole = whole_weaker (λ bytes is. is.0) whole

read_whole : {read : Stream} {bytes : List ℕ} (Holds : List ℕ → Type 0) → ReadsFew read bytes → Holds bytes → IsReadWhole Holds read
read_whole {read} {bytes} Holds few is =
    record { bytes = bytes; taken = few.whole.consumes; end = few.whole.end; few = few.whole.few; holds = is; sound = few.whole.sound }

-- `fresh`

-- operations of which none was called
cut_at_once : (front : List LogOp) → IsFailedPrefix (front ++ publish_ops) []
cut_at_once [] = record { prefix = []; failed = Word 0 0 MAGIC; rest = Back 0 1 ∷ Sync ∷ []; whole = refl; added = inl refl }
cut_at_once (op ∷ front) = record { prefix = []; failed = op; rest = front ++ publish_ops; whole = refl; added = inl refl }

-- cut off in two parts, or before the first call, is cut off in the whole
cut_anywhere : (head : Header) (first second : List Line) (ops : List LogOp) → IsFailedFormat head first second ops → IsFailedPrefix (format_ops head first second) ops
cut_anywhere head first second ops (inl none) = subst (IsFailedPrefix (format_ops head first second)) (sym none) (cut_at_once (prepare_ops head first second))
cut_anywhere head first second ops (inr (inl early)) = record {
  prefix = early.prefix;
  failed = early.failed;
  rest = early.rest ++ publish_ops;
  whole = ap (λ (l : List LogOp). l ++ publish_ops) early.whole ∙ append_assoc early.prefix (early.failed ∷ early.rest) publish_ops;
  added = early.added;
}
cut_anywhere head first second ops (inr (inr late)) =
    let front = prepare_ops head first second in
    let cut = late.cut in
    record {
      prefix = front ++ cut.prefix;
      failed = cut.failed;
      rest = cut.rest;
      whole = ap (λ (l : List LogOp). front ++ l) cut.whole ∙ sym (append_assoc front cut.prefix (cut.failed ∷ cut.rest));
      added = elim cut.added [
        | inl none ↦ inl (late.whole ∙ ap (λ (l : List LogOp). front ++ l) none)
        | inr (op, may, more) ↦ inr (op, may, late.whole ∙ ap (λ (l : List LogOp). front ++ l) more ∙ sym (append_assoc front cut.prefix (op ∷ [])))
      ];
    }

pub cut_making : (head : Header) (before after : Device) {fault : DeviceFault} → IsFreshRefusal head before after (DeviceWhy fault) → MakingIsCutOff head before after
cut_making head before after {fault} is = record {
  stopped = subst (λ (ops : List LogOp). Stops (IsFailedPrefix ops) before after) (made_by head (is.empty fault refl))
      (stops_weaker (IsFailedFormat head is.first_lines is.second_lines) (IsFailedPrefix (format_ops head is.first_lines is.second_lines)) before after (cut_anywhere head is.first_lines is.second_lines) is.refusal.0.stops);
  none = is.refusal.1;
  left = is.covers;
}

pub served_made : {head : Header} {before after : Device} {asks : List Ask} {list : List Outcome} → ServesNew head before after asks list → ServesMade head before after asks list
served_made served = record { none = served.fresh.no_region; run = run_on_new served }

fresh_stops : (head : Header) (call : Call) (stop : Stop) → (asks : List Ask) → IsReadWhole (IsScriptOf head.kind head.clients asks) call.read → IsNotMade head call.before call.after stop → StopsFresh head call stop
fresh_stops head call Memory asks script (inl is) = inl (whole_stopped script, is)
fresh_stops head call Memory asks script (inr made) = inr ((asks, script), served_made made)
fresh_stops head call Usage asks script is = absurd is
fresh_stops head call ReadFault asks script is = absurd is
fresh_stops head call Long asks script is = absurd is
fresh_stops head call Many asks script is = absurd is
fresh_stops head call (BadLine number) asks script is = absurd is
fresh_stops head call FailedDevice asks script is = ((asks, script), cut_making head call.before call.after is.1)
fresh_stops head call Taken asks script is = ((asks, script), is.0, is.1)
fresh_stops head call NoRegion asks script is = absurd is
fresh_stops head call (Damaged line) asks script is = absurd is

fresh_serves : (head : Header) (call : Call) (asks : List Ask) (list : List Outcome) → IsReadWhole (IsScriptOf head.kind head.clients asks) call.read → ServesNew head call.before call.after asks list → ServesFresh head call asks list
fresh_serves head call asks list script served =
    record { script = script; made = served_made served }

pub fresh_by : (head : Header) (call : Call) (asks : List Ask) (served : Result Requests Stop) → IsReadWhole (IsScriptOf head.kind head.clients asks) call.read → IfOk served (λ s. s.asks.items ≡ asks) → MatchResult served (λ s. ServesNew head call.before call.after s.asks.items s.outcomes.items) (IsNotMade head call.before call.after) → MatchResult served (λ s. ServesFresh head call s.asks.items s.outcomes.items) (StopsFresh head call)
fresh_by head call asks (Ok s) script same is =
    fresh_serves head call s.asks.items s.outcomes.items (subst (λ (l : List Ask). IsReadWhole (IsScriptOf head.kind head.clients l) call.read) (sym same) script) is
fresh_by head call asks (Err stop) script same is = fresh_stops head call stop asks script is

-- `run`

run_not_opened : (call : Call) (stop : Stop) → IsReadWhole HasFew call.read → IsNotOpened call.before call.after stop → StopsRun call stop
run_not_opened call Memory few is = inl (whole_stopped few, is)
run_not_opened call Usage few is = absurd is
run_not_opened call ReadFault few is = absurd is
run_not_opened call Long few is = absurd is
run_not_opened call Many few is = absurd is
run_not_opened call (BadLine number) few is = absurd is
run_not_opened call FailedDevice few is = record { few = few; rose = is.0; left = inl is.1 }
run_not_opened call Taken few is = absurd is
run_not_opened call NoRegion few is = (few, is.0, is.1)
run_not_opened call (Damaged line) few is = (few, is.0, is.1)

-- nothing was done
unchanged : {before after : Device} {found now : EngineView} → IsAdopted before found → after ≡ now.device → now ≡ found → after ≡ before
unchanged adopted device same = device ∙ (ap (λ (e : EngineView). e.device) same ∙ adopted.same)

represented : (s : Standing) (device : Device) (tale : Tale) → IsReplay device → device.told ≡ Some tale → DeviceRepresents s device → Represents (contents_of tale) s
represented s device tale replay told stands = subst (λ (o : Option (List Line)). IfSome o (λ image. Represents image s)) (told_now device tale replay told) stands

cut_off : (call : Call) {found now : EngineView} {asks : List Ask} → IsReplay call.before → IsAdopted call.before found → call.after ≡ now.device → IsReadWhole (IsScriptOf found.standing.kind found.standing.clients asks) call.read → StaysUnsure found now → SettlingIsCutOff call
cut_off call {found} {now} {asks} replay adopted device script unsure =
    let s = found.standing in
    record {
      standing = s;
      stands = adopted.stands;
      script = (asks, script);
      stopped = subst (λ (d : Device). Stops (IsFailedPrefix (settle_to (header_for s) s)) call.before d) (sym device)
          (subst (λ (d : Device). Stops (IsFailedPrefix (settle_to (header_for s) s)) d now.device) adopted.same
          (subst (λ (doubt : Option FailedRound). Stops (IsFailedPrefix (settle_to (header_for (settled_standing s doubt)) (settled_standing s doubt))) found.device now.device) adopted.doubt unsure.failed.device.stops));
      left = λ tale members told ready.
          subst (λ (d : Device). IsCoveredExit tale d s [] members) (sym device)
          (unsure.covers.found (ap was_called adopted.doubt) tale members (ap (λ (d : Device). d.told) adopted.same ∙ told) ready (represented s call.before tale replay told adopted.stands));
    }

run_memory : (call : Call) (bytes : List ℕ) (found now : EngineView) → IsAdopted call.before found → call.after ≡ now.device → ReadsFew call.read bytes → IsReplay call.before → (now ≡ found) ⊎ (((asks : List Ask) × IsScriptOf found.standing.kind found.standing.clients asks bytes) × SettlesEngine found now) → StopsRun call Memory
run_memory call bytes found now adopted device few replay (inl same) = inl (whole_stopped (read_whole HasFew few few.short), unchanged adopted device same)
run_memory call bytes found now adopted device few replay (inr settled) = inr (record {
  standing = found.standing;
  stands = adopted.stands;
  script = (settled.0.0, read_whole (IsScriptOf found.standing.kind found.standing.clients settled.0.0) few settled.0.1);
  run = run_on_found replay adopted settled.1 (nothing_run now settled.1.settled.doubt) device;
})

run_stops : (call : Call) (bytes : List ℕ) (stop : Stop) (opens : OpensTo call.before call.after (λ found now. StopsFound found.standing.kind found bytes now stop)) → ReadsFew call.read bytes → IsReplay call.before → StopsRun call stop
run_stops call bytes Memory opens few replay = run_memory call bytes opens.found opens.now opens.adopted opens.device few replay opens.comes
run_stops call bytes Usage opens few replay = absurd opens.comes
run_stops call bytes ReadFault opens few replay = absurd opens.comes
run_stops call bytes Long opens few replay = absurd opens.comes
run_stops call bytes Many opens few replay = absurd (omega (arith, opens.comes, few.short))
run_stops call bytes (BadLine number) opens few replay = (
  opens.found.standing,
  opens.adopted.stands,
  read_whole (HasBadLine opens.found.standing.kind opens.found.standing.clients number) few opens.comes.0,
  unchanged opens.adopted opens.device opens.comes.1,
)
run_stops call bytes FailedDevice opens few replay =
    let unsure : StaysUnsure opens.found opens.now = opens.comes.1 in
    let counts = opens.now.device.faults in
    record {
      few = read_whole HasFew few few.short;
      rose = subst (λ (d : Device). Rose call.before.faults d.faults) (sym opens.device)
          (subst (λ (d : Device). Rose d.faults counts) opens.adopted.same unsure.failed.device.stops.rose);
      left = inr (cut_off call replay opens.adopted opens.device (read_whole (IsScriptOf opens.found.standing.kind opens.found.standing.clients opens.comes.0.0) few opens.comes.0.1) unsure);
    }
run_stops call bytes Taken opens few replay = absurd opens.comes
run_stops call bytes NoRegion opens few replay = absurd opens.comes
run_stops call bytes (Damaged line) opens few replay = absurd opens.comes

run_serves : (call : Call) (bytes : List ℕ) (asks : List Ask) (list : List Outcome) → ServesOn bytes call.before call.after asks list → ReadsFew call.read bytes → IsReplay call.before → ServesRun call asks list
run_serves call bytes asks list opens few replay = record {
  standing = opens.found.standing;
  stands = opens.adopted.stands;
  script = read_whole (IsScriptOf opens.found.standing.kind opens.found.standing.clients asks) few opens.comes.script;
  run = run_on_found replay opens.adopted opens.comes.settled opens.comes.run opens.device;
}

pub run_by : (call : Call) (bytes : List ℕ) (served : Result Requests Stop) → ReadsFew call.read bytes → IsReplay call.before → MatchResult served (λ s. ServesOn bytes call.before call.after s.asks.items s.outcomes.items) (StopsOn bytes call.before call.after) → MatchResult served (λ s. ServesRun call s.asks.items s.outcomes.items) (StopsRun call)
run_by call bytes (Ok s) few replay is = run_serves call bytes s.asks.items s.outcomes.items is few replay
run_by call bytes (Err stop) few replay (inl is) = run_not_opened call stop (read_whole HasFew few few.short) is
run_by call bytes (Err stop) few replay (inr opens) = run_stops call bytes stop opens few replay

-- requests were run on what was opened, or they weren't
pub opened_to : {before after : Device} (bytes : List ℕ) (found now : EngineView) (served : Result Requests Stop) → IsAdopted before found → after ≡ now.device
    → IfOk served (λ s. ServesFound found.standing.kind found bytes now s.asks.items s.outcomes.items) → IfErr served (StopsFound found.standing.kind found bytes now)
    → MatchResult served (λ s. ServesOn bytes before after s.asks.items s.outcomes.items) (StopsOn bytes before after)
opened_to bytes found now (Ok s) adopted device ok err = record { found = found; adopted = adopted; now = now; device = device; comes = ok }
opened_to bytes found now (Err stop) adopted device ok err = inr (record { found = found; adopted = adopted; now = now; device = device; comes = err })
