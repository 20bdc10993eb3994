-- What is asked for is done.
use Rattle.std.proofs.Common.{◌≡◌, ℕ, zero, suc, ◌<◌, ◌≤◌, Bool, true, false, List, [], ◌∷◌, Option, Some, None, IfSome, length, take, drop, refl, sym, ap, subst, ◌∙◌, arith, inl, inr, length-append, rules}
use Rattle.std.specs.List.{Contains, list_any}
use Rattle.std.specs.Io.KnownBytes.{Consumes}
use Rattle.std.proofs.lemmas.List.{take-append-drop}
use Rattle.pb_pmem.specs.Count.{Rose}
use Rattle.pb_pmem.specs.Device.{Device}
use Rattle.pb_object.specs.declared.kind.Kind.{Kind}
use Rattle.pb_object.specs.Standing.{Standing}
use Rattle.pb_layout.specs.declared.header.Header.{Header}
use Rattle.pb_layout.specs.Damage.{HasRegion, IsDamagedAt}
use Rattle.pb_layout.specs.Recovered.{Represents}
use Rattle.pb_layout.proofs.OneRecovery.{has_region, represents_one, not_damaged}
use Rattle.pb_engine.specs.View.{DeviceRepresents}
use Rattle.pb_report.specs.declared.outcome.Outcome.{Outcome}
use Rattle.pb_report.specs.declared.outcome.Outcome.TheVariants.{New, Kept, Old, Gap, Changed, Doubt, Left}
use Rattle.pb_run.specs.Run.{is_doubt}
use Rattle.pb_script.specs.declared.command.Command.{Command}
use Rattle.pb_script.specs.declared.command.Command.TheVariants.{Fresh, Run, Report, Replay, Drill}
use Rattle.pb_script.specs.Command.{command_of}
use Rattle.pb_script.specs.Script.{IsScript, IsRefused}
use Rattle.pb_script.specs.Words.{lines}
use Rattle.pb_script.proofs.Steps.{IsScript_front}
use Rattle.pb_replay.specs.Replay.{HasTooManyEvents, HasBadEvent}
use Rattle.pb_broker.specs.declared.source.TheConstants.{SOURCE_LIMIT}
use Rattle.pb_broker.specs.declared.status.Status.{Status}
use Rattle.pb_broker.specs.declared.stop.Stop.TheVariants.{Memory, Usage, ReadFault, Long, Many, Line as BadLine, DeviceFault, Taken, NoRegion, Damaged}
use Rattle.pb_broker.specs.Call.{Call}
use Rattle.pb_broker.specs.Comes.{HasTooMany, HasBadLine, TellsNoRegion, TellsDamage, Comes, ComesToReport, ComesToReplay, ComesToDrill}
use Rattle.pb_broker.specs.Ending.{Ending, Stopped, Served, Drilled, Reported, Replayed}
use Rattle.pb_broker.specs.Laws.{TellsScript, TellsNone, TellsStanding, TellsSchedule, IsWellAsked, IsFaultless, Succeeds}
use Rattle.pb_broker.specs.Running.{AreCounted}
use Rattle.pb_broker.specs.Texts.{run_status, ending_status}
use Rattle.pb_broker.specs.Top.{IsAnswered}
use Rattle.pb_broker.proofs.Endings.{content}
use Rattle.pb_broker.specs.Source.{IsReadWhole, IsLong}
use Rattle.pb_broker.specs.Stream.{Stream}

-- what is said of a value that is told
pub here : {T : Type 0} (P : T → Type 0) (told : Option T) (value : T) → told ≡ Some value → IfSome told P → P value
here P told value is holds = subst (λ o. IfSome o P) is holds

-- The source

pub long_consumed : {read : Stream} {bytes : List ℕ} → read.before ≡ Some bytes → IsLong read → SOURCE_LIMIT < length bytes
long_consumed {read} {bytes} told long = by_left read.after (subst (λ (o : Option (List ℕ)). Consumes o read.after long.front) told long.taken)
  where
    by_left : (left : Option (List ℕ)) → Consumes (Some bytes) left long.front → SOURCE_LIMIT < length bytes
    by_left None taken = absurd taken
    by_left (Some rest) taken = omega (arith, ap length taken, length-append long.front rest, long.many)

pub of_bytes : (Holds : List ℕ → Type 0) {read : Stream} {bytes : List ℕ} → read.before ≡ Some bytes → IsReadWhole Holds read → (length bytes ≤ SOURCE_LIMIT) × Holds bytes
of_bytes Holds {read} {bytes} told whole = here (λ all. (length all ≤ SOURCE_LIMIT) × Holds all) read.before bytes told (content whole)

not_long : {kind : Kind} {clients : ℕ} {read : Stream} → TellsScript kind clients read → IsLong read → ⊥
not_long {kind} {clients} {read} script long = by_left read.after (subst (λ (o : Option (List ℕ)). Consumes o read.after long.front) script.told long.taken)
  where
    by_left : (left : Option (List ℕ)) → Consumes (Some script.bytes) left long.front → ⊥
    by_left None taken = taken
    by_left (Some rest) taken = omega (arith, ap length taken, length-append long.front rest, long.many, script.few)

not_many : {kind : Kind} {clients : ℕ} {read : Stream} → TellsScript kind clients read → IsReadWhole HasTooMany read → ⊥
not_many {kind} {clients} {read} script whole =
    let many = here (λ bytes. (length bytes ≤ SOURCE_LIMIT) × HasTooMany bytes) read.before script.bytes script.told (content whole) in
    omega (arith, many.1, script.script.0)

not_bad : {kind : Kind} {clients number : ℕ} {read : Stream} → TellsScript kind clients read → IsReadWhole (HasBadLine kind clients number) read → ⊥
not_bad {kind} {clients} {number} {read} script whole =
    let bad = here (λ bytes. (length bytes ≤ SOURCE_LIMIT) × HasBadLine kind clients number bytes) read.before script.bytes script.told (content whole) in
    let all = lines script.bytes in
    let refused : IsRefused kind clients all number = bad.1.1 in
    refused.none _ (IsScript_front kind clients (take number all) (drop number all) script.asks (subst (λ (ls : List (List ℕ)). IsScript kind clients ls script.asks) (sym (take-append-drop number all)) script.script.1))

-- The outcomes

Contains-head : {X : Type 0} (x : X) (xs : List X) → Contains (x ∷ xs) x
Contains-head x xs = (zero, omega arith, refl)

Contains-tail : {X : Type 0} (x : X) (xs : List X) (y : X) → Contains xs y → Contains (x ∷ xs) y
Contains-tail x xs y is = (suc is.0, omega (arith, is.1), is.2)

doubt_first : (list : List Outcome) (some : Bool) → list_any is_doubt list ≡ some → (Contains list Doubt → ⊥) → some ≡ false
doubt_first list false is none = refl
doubt_first [] true is none = absurd (cc (is))
doubt_first (Doubt ∷ list) true is none = absurd (none (Contains-head Doubt list))
doubt_first (New reply ∷ list) true is none = doubt_first list true is (λ more. none (Contains-tail (New reply) list Doubt more))
doubt_first (Kept reply ∷ list) true is none = doubt_first list true is (λ more. none (Contains-tail (Kept reply) list Doubt more))
doubt_first (Old ∷ list) true is none = doubt_first list true is (λ more. none (Contains-tail Old list Doubt more))
doubt_first (Gap ∷ list) true is none = doubt_first list true is (λ more. none (Contains-tail Gap list Doubt more))
doubt_first (Changed ∷ list) true is none = doubt_first list true is (λ more. none (Contains-tail Changed list Doubt more))
doubt_first (Left ∷ list) true is none = doubt_first list true is (λ more. none (Contains-tail Left list Doubt more))

served_well : (before after : ℕ) (list : List Outcome) (status : Status) → AreCounted before after list → ¬ Rose before after → status ≡ run_status list → Succeeds status
served_well before after list status counted calm is = by_doubt (list_any is_doubt list) refl
  where
    by_doubt : (some : Bool) → list_any is_doubt list ≡ some → Succeeds status
    by_doubt some has =
        let none : list_any is_doubt list ≡ false = has ∙ doubt_first list some has (λ doubt. calm (counted.rose doubt)) in
        search rules

-- By command

abbrev pub ComesFresh : Header → Call → Ending → Type 0
ComesFresh head call ending = Comes (Some (Fresh head.kind head.clients head.size)) call ending

abbrev pub ComesToRun : Call → Ending → Type 0
ComesToRun call ending = Comes (Some Run) call ending

fresh_well : (head : Header) (call : Call) (out : Stream) (ending : Ending) (status : Status) → TellsScript head.kind head.clients call.read → TellsNone call.before → IsFaultless call out → ComesFresh head call ending → status ≡ ending_status ending → Succeeds status
fresh_well head call out (Stopped Memory) status script none calm comes is = inr (inr is)
fresh_well head call out (Stopped Usage) status script none calm comes is = absurd comes.0
fresh_well head call out (Stopped ReadFault) status script none calm comes is = absurd (calm.reads comes.0.1)
fresh_well head call out (Stopped Long) status script none calm comes is = absurd (not_long script comes.0)
fresh_well head call out (Stopped Many) status script none calm comes is = absurd (not_many script comes.0)
fresh_well head call out (Stopped (BadLine number)) status script none calm comes is = absurd (not_bad script comes.0)
fresh_well head call out (Stopped DeviceFault) status script none calm comes is = absurd (calm.device comes.1.stopped.rose)
fresh_well head call out (Stopped Taken) status script none calm comes is = absurd (none.none (here HasRegion call.before.now none.image none.told comes.1))
fresh_well head call out (Stopped NoRegion) status script none calm comes is = absurd comes.0
fresh_well head call out (Stopped (Damaged line)) status script none calm comes is = absurd comes.0
fresh_well head call out (Served asks list) status script none calm comes is = served_well call.before.faults call.after.faults list status comes.made.run.counted calm.device is
fresh_well head call out (Drilled asks list versions) status script none calm comes is = absurd comes
fresh_well head call out (Reported s) status script none calm comes is = absurd comes
fresh_well head call out (Replayed answers s) status script none calm comes is = absurd comes

pub same_standing : {s t : Standing} {device : Device} → TellsStanding s device → DeviceRepresents t device → s ≡ t
same_standing {s} {t} {device} tells stands = represents_one tells.image s t tells.stands (here (λ image. Represents image t) device.now tells.image tells.told stands)

pub has_one : {s : Standing} {device : Device} → TellsStanding s device → TellsNoRegion device → ⊥
has_one {s} {device} tells none = here (λ image. ¬ HasRegion image) device.now tells.image tells.told none (has_region tells.image s tells.stands)

pub is_sound : {s : Standing} {device : Device} (line : ℕ) → TellsStanding s device → TellsDamage line device → ⊥
is_sound {s} {device} line tells damage = not_damaged tells.image s line tells.stands (here (λ image. IsDamagedAt image line) device.now tells.image tells.told damage)

run_well : (s : Standing) (call : Call) (out : Stream) (ending : Ending) (status : Status) → TellsStanding s call.before → TellsScript s.kind s.clients call.read → IsFaultless call out → ComesToRun call ending → status ≡ ending_status ending → Succeeds status
run_well s call out (Stopped Memory) status tells script calm comes is = inr (inr is)
run_well s call out (Stopped Usage) status tells script calm comes is = absurd comes.0
run_well s call out (Stopped ReadFault) status tells script calm comes is = absurd (calm.reads comes.0.1)
run_well s call out (Stopped Long) status tells script calm comes is = absurd (not_long script comes.0)
run_well s call out (Stopped Many) status tells script calm comes is = absurd (not_many script comes.0)
run_well s call out (Stopped (BadLine number)) status tells script calm comes is =
    absurd (not_bad script (subst (λ (t : Standing). IsReadWhole (HasBadLine t.kind t.clients number) call.read) (sym (same_standing tells comes.1)) comes.2))
run_well s call out (Stopped DeviceFault) status tells script calm comes is = absurd (calm.device comes.rose)
run_well s call out (Stopped Taken) status tells script calm comes is = absurd comes.0
run_well s call out (Stopped NoRegion) status tells script calm comes is = absurd (has_one tells comes.1)
run_well s call out (Stopped (Damaged line)) status tells script calm comes is = absurd (is_sound line tells comes.1)
run_well s call out (Served asks list) status tells script calm comes is = served_well call.before.faults call.after.faults list status comes.run.counted calm.device is
run_well s call out (Drilled asks list versions) status tells script calm comes is = absurd comes
run_well s call out (Reported t) status tells script calm comes is = absurd comes
run_well s call out (Replayed answers t) status tells script calm comes is = absurd comes

report_well : (s : Standing) (call : Call) (out : Stream) (ending : Ending) (status : Status) → TellsStanding s call.before → IsFaultless call out → ComesToReport call.before call.after ending → status ≡ ending_status ending → Succeeds status
report_well s call out (Stopped Memory) status tells calm comes is = inr (inr is)
report_well s call out (Stopped Usage) status tells calm comes is = absurd comes
report_well s call out (Stopped ReadFault) status tells calm comes is = absurd comes
report_well s call out (Stopped Long) status tells calm comes is = absurd comes
report_well s call out (Stopped Many) status tells calm comes is = absurd comes
report_well s call out (Stopped (BadLine number)) status tells calm comes is = absurd comes
report_well s call out (Stopped DeviceFault) status tells calm comes is = absurd (calm.device comes.0)
report_well s call out (Stopped Taken) status tells calm comes is = absurd comes
report_well s call out (Stopped NoRegion) status tells calm comes is = absurd (has_one tells comes.0)
report_well s call out (Stopped (Damaged line)) status tells calm comes is = absurd (is_sound line tells comes.0)
report_well s call out (Served asks list) status tells calm comes is = absurd comes
report_well s call out (Drilled asks list versions) status tells calm comes is = absurd comes
report_well s call out (Reported t) status tells calm comes is = inl is
report_well s call out (Replayed answers t) status tells calm comes is = absurd comes

drill_well : (seed clients count : ℕ) (call : Call) (out : Stream) (ending : Ending) (status : Status) → TellsNone call.before → IsFaultless call out → ComesToDrill seed clients count call.before call.after ending → status ≡ ending_status ending → Succeeds status
drill_well seed clients count call out (Stopped Memory) status none calm comes is = inr (inr is)
drill_well seed clients count call out (Stopped Usage) status none calm comes is = absurd comes
drill_well seed clients count call out (Stopped ReadFault) status none calm comes is = absurd comes
drill_well seed clients count call out (Stopped Long) status none calm comes is = absurd comes
drill_well seed clients count call out (Stopped Many) status none calm comes is = absurd comes
drill_well seed clients count call out (Stopped (BadLine number)) status none calm comes is = absurd comes
drill_well seed clients count call out (Stopped DeviceFault) status none calm comes is = absurd (calm.device comes.stopped.rose)
drill_well seed clients count call out (Stopped Taken) status none calm comes is = absurd (none.none (here HasRegion call.before.now none.image none.told comes.0))
drill_well seed clients count call out (Stopped NoRegion) status none calm comes is = absurd comes
drill_well seed clients count call out (Stopped (Damaged line)) status none calm comes is = absurd comes
drill_well seed clients count call out (Served asks list) status none calm comes is = absurd comes
drill_well seed clients count call out (Drilled asks list versions) status none calm comes is = served_well call.before.faults call.after.faults list status comes.made.run.counted calm.device is
drill_well seed clients count call out (Reported t) status none calm comes is = absurd comes
drill_well seed clients count call out (Replayed answers t) status none calm comes is = absurd comes

replay_well : (head : Header) (call : Call) (out : Stream) (ending : Ending) (status : Status) → TellsSchedule head call.read → IsFaultless call out → ComesToReplay head call.read ending → status ≡ ending_status ending → Succeeds status
replay_well head call out (Stopped Memory) status tells calm comes is = inr (inr is)
replay_well head call out (Stopped Usage) status tells calm comes is = absurd comes
replay_well head call out (Stopped ReadFault) status tells calm comes is = absurd (calm.reads comes.1)
replay_well head call out (Stopped Long) status tells calm comes is = absurd (omega (arith, tells.holds.0, long_consumed tells.told comes))
replay_well head call out (Stopped Many) status tells calm comes is = absurd (omega (arith, tells.holds.1.few, (of_bytes HasTooManyEvents tells.told comes).1))
replay_well head call out (Stopped (BadLine number)) status tells calm comes is =
    absurd (tells.holds.1.possible number (of_bytes (HasBadEvent head number) tells.told comes).1)
replay_well head call out (Stopped DeviceFault) status tells calm comes is = absurd comes
replay_well head call out (Stopped Taken) status tells calm comes is = absurd comes
replay_well head call out (Stopped NoRegion) status tells calm comes is = absurd comes
replay_well head call out (Stopped (Damaged line)) status tells calm comes is = absurd comes
replay_well head call out (Served asks list) status tells calm comes is = absurd comes
replay_well head call out (Drilled asks list versions) status tells calm comes is = absurd comes
replay_well head call out (Reported s) status tells calm comes is = absurd comes
replay_well head call out (Replayed answers s) status tells calm comes is = inl is

by_command : (command : Option Command) (call : Call) (out : Stream) (ending : Ending) (status : Status) → Comes command call ending → IsWellAsked command call → IsFaultless call out → status ≡ ending_status ending → Succeeds status
by_command None call out ending status comes well calm is = absurd well
by_command (Some (Fresh kind clients size)) call out ending status comes well calm is =
    fresh_well (record { kind = kind; clients = clients; size = size }) call out ending status well.0 well.1 calm comes is
by_command (Some Run) call out ending status comes well calm is = run_well well.0 call out ending status well.1 well.2 calm comes is
by_command (Some Report) call out ending status comes well calm is = report_well well.0 call out ending status well.1 calm comes.1 is
by_command (Some (Drill seed clients count)) call out ending status comes well calm is = drill_well seed clients count call out ending status well calm comes.1 is
by_command (Some (Replay kind clients size)) call out ending status comes well calm is = replay_well (record { kind = kind; clients = clients; size = size }) call out ending status well calm comes.0 is

pub done_as_asked : (words : List (List ℕ)) (call : Call) (out : Stream) (status : Status) → IsAnswered words call out status → IsWellAsked (command_of words) call → IsFaultless call out → Succeeds status
done_as_asked words call out status answered well calm = elim answered.said [
  | inl said ↦ by_command (command_of words) call out answered.ending status answered.comes well calm said.is
  | inr some ↦ absurd (calm.writes some.rose)
]
