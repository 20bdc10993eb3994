-- What a call of a chain comes to, as far as its device is concerned.
use Rattle.std.proofs.Common.{◌≡◌, ◌⊎◌, ℕ, List, [], Option, Some, None, refl, sym, ap, subst, inl, inr}
use Rattle.pb_pmem.specs.Device.{Device}
use Rattle.pb_object.specs.declared.kind.Kind.{Kind}
use Rattle.pb_object.specs.declared.request.Ask.{Ask}
use Rattle.pb_layout.specs.declared.header.Header.{Header}
use Rattle.pb_object.specs.Standing.{Standing}
use Rattle.pb_layout.specs.Exits.{empty_for}
use Rattle.pb_layout.specs.RegionOps.{settle_to}
use Rattle.pb_layout.specs.Represents.{header_for}
use Rattle.pb_engine.specs.View.{DeviceRepresents}
use Rattle.pb_report.specs.declared.outcome.Outcome.{Outcome}
use Rattle.pb_script.specs.declared.command.Command.{Command}
use Rattle.pb_script.specs.declared.command.Command.TheVariants.{Fresh, Run, Report, Replay, Drill}
use Rattle.pb_broker.specs.declared.stop.Stop.{Stop}
use Rattle.pb_broker.specs.declared.stop.Stop.TheVariants.{Memory, Usage, ReadFault, Long, Many, Line as BadLine, DeviceFault as FailedDevice, Taken, NoRegion, Damaged}
use Rattle.pb_broker.specs.Call.{Call}
use Rattle.pb_broker.specs.Chain.{HasRequests, begun_by}
use Rattle.pb_broker.specs.Comes.{Comes, MakingIsCutOff, ServesMade, SettlingIsCutOff, drill_head}
use Rattle.pb_broker.specs.Running.{IsRun, HasSome}
use Rattle.pb_broker.specs.Ending.{Ending, Stopped, Served, Drilled, Reported, Replayed}

-- if the ending tells of requests that were run, they are these
abbrev pub TellsNoOther : Ending → List Ask → List Outcome → Type 0
TellsNoOther ending asks list =
    (its_asks : List Ask) (its_list : List Outcome) → HasRequests ending its_asks its_list → (its_asks ≡ asks) × (its_list ≡ list)

-- requests were run on a region that was found and settled
pub record RanOn (call : Call) (asks : List Ask) (list : List Outcome) : Type 0 where
  pub standing : Standing
  pub stands : DeviceRepresents standing call.before
  pub run : IsRun standing (settle_to (header_for standing) standing) HasSome asks list call.before call.after

-- no request was run
abbrev pub IsIdle : Ending → Type 0
IsIdle ending = (asks : List Ask) (list : List Outcome) → HasRequests ending asks list → ⊥

-- .. and these are none
abbrev pub AreNoneWhereIdle : Ending → List Ask → List Outcome → Type 0
AreNoneWhereIdle ending asks list = IsIdle ending → (asks ≡ []) × (list ≡ [])

-- a region was made and requests were run on it, none where memory ran out; or making it failed
pub record Made (command : Option Command) (call : Call) (ending : Ending) : Type 0 where
  pub head : Header
  pub is : begun_by command None ≡ Some (empty_for head)
  pub asks : List Ask
  pub list : List Outcome
  pub tells : TellsNoOther ending asks list
  pub idle : AreNoneWhereIdle ending asks list
  pub serves : ServesMade head call.before call.after asks list

pub record FailedToMake (command : Option Command) (call : Call) : Type 0 where
  pub head : Header
  pub is : begun_by command None ≡ Some (empty_for head)
  pub cut : MakingIsCutOff head call.before call.after

-- a script was run on a region that was found, or none was where memory ran out
pub record Ran (call : Call) (ending : Ending) : Type 0 where
  pub asks : List Ask
  pub list : List Outcome
  pub tells : TellsNoOther ending asks list
  pub idle : AreNoneWhereIdle ending asks list
  pub serves : RanOn call asks list

pub data Case (command : Option Command) (call : Call) (ending : Ending) : Type 0 where
  same : call.after.told ≡ call.before.told → IsIdle ending → Case command call ending
  made : Made command call ending → Case command call ending
  failed : FailedToMake command call → IsIdle ending → Case command call ending
  ran : Ran call ending → Case command call ending
  cut : SettlingIsCutOff call → IsIdle ending → Case command call ending

same_told : (call : Call) → call.after ≡ call.before → call.after.told ≡ call.before.told
same_told call is = ap (λ (d : Device). d.told) is

-- why a command stops
stops : {command : Option Command} {call : Call} (stop : Stop) → call.after ≡ call.before → Case command call (Stopped stop)
stops {command} {call} stop is = same (same_told call is) (λ asks list never. never)

fresh_case : (head : Header) (call : Call) (ending : Ending) → Comes (Some (Fresh head.kind head.clients head.size)) call ending → Case (Some (Fresh head.kind head.clients head.size)) call ending
fresh_case head call (Stopped Memory) (inl comes) = stops Memory comes.1
fresh_case head call (Stopped Memory) (inr comes) = made (record { head = head; is = refl; asks = []; list = []; tells = λ its_asks its_list never. absurd never; idle = λ idle. (refl, refl); serves = comes.1 })
fresh_case head call (Stopped Usage) comes = absurd comes.0
fresh_case head call (Stopped ReadFault) comes = stops ReadFault comes.1
fresh_case head call (Stopped Long) comes = stops Long comes.1
fresh_case head call (Stopped Many) comes = stops Many comes.1
fresh_case head call (Stopped (BadLine number)) comes = stops (BadLine number) comes.1
fresh_case head call (Stopped FailedDevice) comes = failed (record { head = head; is = refl; cut = comes.1 }) (λ asks list never. never)
fresh_case head call (Stopped Taken) comes = stops Taken comes.2
fresh_case head call (Stopped NoRegion) comes = absurd comes.0
fresh_case head call (Stopped (Damaged line)) comes = absurd comes.0
fresh_case head call (Served asks list) comes = made (record { head = head; is = refl; asks = asks; list = list; tells = λ its_asks its_list has. (sym has.0, sym has.1); idle = λ idle. absurd (idle asks list (refl, refl)); serves = comes.made })
fresh_case head call (Drilled asks list versions) comes = absurd comes
fresh_case head call (Reported s) comes = absurd comes
fresh_case head call (Replayed answers s) comes = absurd comes

run_case : (call : Call) (ending : Ending) → Comes (Some Run) call ending → Case (Some Run) call ending
run_case call (Stopped Memory) (inl comes) = stops Memory comes.1
run_case call (Stopped Memory) (inr settled) = ran (record { asks = []; list = []; tells = λ its_asks its_list never. absurd never; idle = λ idle. (refl, refl); serves = record { standing = settled.standing; stands = settled.stands; run = settled.run } })
run_case call (Stopped Usage) comes = absurd comes.0
run_case call (Stopped ReadFault) comes = stops ReadFault comes.1
run_case call (Stopped Long) comes = stops Long comes.1
run_case call (Stopped Many) comes = stops Many comes.1
run_case call (Stopped (BadLine number)) comes = stops (BadLine number) comes.3
run_case call (Stopped FailedDevice) comes =
    elim comes.left [ inl is ↦ same is (λ asks list never. never) | inr fails ↦ cut fails (λ asks list never. never) ]
run_case call (Stopped Taken) comes = absurd comes.0
run_case call (Stopped NoRegion) comes = stops NoRegion comes.2
run_case call (Stopped (Damaged line)) comes = stops (Damaged line) comes.2
run_case call (Served asks list) comes = ran (record { asks = asks; list = list; tells = λ its_asks its_list has. (sym has.0, sym has.1); idle = λ idle. absurd (idle asks list (refl, refl)); serves = record { standing = comes.standing; stands = comes.stands; run = comes.run } })
run_case call (Drilled asks list versions) comes = absurd comes
run_case call (Reported s) comes = absurd comes
run_case call (Replayed answers s) comes = absurd comes

report_case : (call : Call) (ending : Ending) → Comes (Some Report) call ending → Case (Some Report) call ending
report_case call (Stopped Memory) comes = stops Memory comes.1
report_case call (Stopped Usage) comes = absurd comes.1
report_case call (Stopped ReadFault) comes = absurd comes.1
report_case call (Stopped Long) comes = absurd comes.1
report_case call (Stopped Many) comes = absurd comes.1
report_case call (Stopped (BadLine number)) comes = absurd comes.1
report_case call (Stopped FailedDevice) comes = same comes.1.1 (λ asks list never. never)
report_case call (Stopped Taken) comes = absurd comes.1
report_case call (Stopped NoRegion) comes = stops NoRegion comes.1.1
report_case call (Stopped (Damaged line)) comes = stops (Damaged line) comes.1.1
report_case call (Served asks list) comes = absurd comes.1
report_case call (Drilled asks list versions) comes = absurd comes.1
report_case call (Reported s) comes = same (same_told call comes.1.1) (λ asks list never. never)
report_case call (Replayed answers s) comes = absurd comes.1

-- a replay touches no device
replay_case : (kind : Kind) (clients size : ℕ) (call : Call) (ending : Ending) → Comes (Some (Replay kind clients size)) call ending → Case (Some (Replay kind clients size)) call ending
replay_case kind clients size call (Stopped stop) comes = same (same_told call comes.1) (λ asks list never. never)
replay_case kind clients size call (Served asks list) comes = absurd comes.0
replay_case kind clients size call (Drilled asks list versions) comes = absurd comes.0
replay_case kind clients size call (Reported s) comes = absurd comes.0
replay_case kind clients size call (Replayed answers s) comes = same (same_told call comes.1) (λ asks list never. never)

drill_memory : (seed clients count : ℕ) (call : Call) → (call.after ≡ call.before) ⊎ ServesMade (drill_head clients) call.before call.after [] [] → Case (Some (Drill seed clients count)) call (Stopped Memory)
drill_memory seed clients count call (inl is) = stops Memory is
drill_memory seed clients count call (inr made_is) = made (record { head = drill_head clients; is = refl; asks = []; list = []; tells = λ its_asks its_list never. absurd never; idle = λ idle. (refl, refl); serves = made_is })

-- a drill makes a region as `fresh` does
drill_case : (seed clients count : ℕ) (call : Call) (ending : Ending) → Comes (Some (Drill seed clients count)) call ending → Case (Some (Drill seed clients count)) call ending
drill_case seed clients count call (Stopped Memory) comes = drill_memory seed clients count call comes.1
drill_case seed clients count call (Stopped Usage) comes = absurd comes.1
drill_case seed clients count call (Stopped ReadFault) comes = absurd comes.1
drill_case seed clients count call (Stopped Long) comes = absurd comes.1
drill_case seed clients count call (Stopped Many) comes = absurd comes.1
drill_case seed clients count call (Stopped (BadLine number)) comes = absurd comes.1
drill_case seed clients count call (Stopped FailedDevice) comes = failed (record { head = drill_head clients; is = refl; cut = comes.1 }) (λ asks list never. never)
drill_case seed clients count call (Stopped Taken) comes = stops Taken comes.1.1
drill_case seed clients count call (Stopped NoRegion) comes = absurd comes.1
drill_case seed clients count call (Stopped (Damaged line)) comes = absurd comes.1
drill_case seed clients count call (Served asks list) comes = absurd comes.1
drill_case seed clients count call (Drilled asks list versions) comes =
    made (record { head = drill_head clients; is = refl; asks = asks; list = list; tells = λ its_asks its_list has. (sym has.0, sym has.1); idle = λ idle. absurd (idle asks list (refl, refl)); serves = comes.1.made })
drill_case seed clients count call (Reported s) comes = absurd comes.1
drill_case seed clients count call (Replayed answers s) comes = absurd comes.1

nothing_case : (call : Call) (ending : Ending) → ending ≡ Stopped Usage → call.after ≡ call.before → Case None call ending
nothing_case call ending is stays = same (same_told call stays) (λ asks list has. subst (λ (e : Ending). HasRequests e asks list) is has)

pub case_of : (command : Option Command) (call : Call) (ending : Ending) → Comes command call ending → Case command call ending
case_of None call ending comes = nothing_case call ending comes.0 comes.2
case_of (Some (Fresh kind clients size)) call ending comes = fresh_case (record { kind = kind; clients = clients; size = size }) call ending comes
case_of (Some Run) call ending comes = run_case call ending comes
case_of (Some Report) call ending comes = report_case call ending comes
case_of (Some (Replay kind clients size)) call ending comes = replay_case kind clients size call ending comes
case_of (Some (Drill seed clients count)) call ending comes = drill_case seed clients count call ending comes
