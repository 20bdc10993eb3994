-- What a drill comes to, and that its versions fit a word.
use Rattle.std.proofs.Common.{◌≡◌, ℕ, ◌+◌, ◌*◌, ◌<◌, ◌≤◌, ◌^◌, Bool, true, false, List, [], ◌∷◌, length, refl, sym, ap, subst, ◌∙◌, arith, inl, inr, if◌then◌else◌, ◌==◌}
use Rattle.std.specs.List.{sum_by}
use Rattle.std.specs.Prelude.{slice_set}
use Rattle.std.proofs.lemmas.Bool.{cases_lt}
use Rattle.std.proofs.lemmas.List.{set_past}
use Rattle.std.proofs.lemmas.List.Folds.{sum_by-replicate}
use Rattle.std.proofs.lemmas.List.FromFn.{length-map-range_with_len}
use Rattle.std.proofs.lemmas.List.Sums.{sum_by-set, count_by-le-length}
use Rattle.pb_pmem.specs.Device.{Device}
use Rattle.pb_object.specs.declared.codes.Answer.TheVariants.{Was}
use Rattle.pb_object.specs.declared.request.Ask.{Ask}
use Rattle.pb_object.specs.declared.request.Op.{Op}
use Rattle.pb_object.specs.Codes.{answer_code, action_of}
use Rattle.pb_object.specs.History.{Entry, History, after_entry, after_entries, after_round, state_after, AreLegal, ClientsRise, IsLegal}
use Rattle.pb_object.specs.Map.{Register, empty_register, register_at, map_reply, written}
use Rattle.pb_object.specs.Object.{State, Registers, Items, Rising, Waits, next_state}
use Rattle.pb_object.specs.Standing.{Standing}
use Rattle.pb_layout.specs.declared.header.Header.{Header}
use Rattle.pb_layout.specs.Exits.{empty_for}
use Rattle.pb_pair.specs.declared.why.Why.{Why}
use Rattle.pb_pair.specs.declared.why.Why.TheVariants.{Memory as MemoryWhy, Device as DeviceWhy, Taken as TakenWhy, NoRegion as NoRegionWhy, Damaged as DamagedWhy}
use Rattle.pb_engine.specs.Opening.{IsFreshEngine, IsFreshRefusal}
use Rattle.pb_engine.specs.View.{EngineView}
use Rattle.pb_report.specs.declared.outcome.Outcome.{Outcome}
use Rattle.pb_report.specs.Outcomes.{is_tried}
use Rattle.pb_run.specs.Run.{HasRun}
use Rattle.pb_script.specs.Drill.{drill_ask, drill_asks}
use Rattle.pb_broker.specs.declared.status.Status.{Status}
use Rattle.pb_broker.specs.declared.stop.Stop.{Stop}
use Rattle.pb_broker.specs.declared.stop.Stop.TheVariants.{Memory, Usage, ReadFault, Long, Many, Line as BadLine, DeviceFault, Taken, NoRegion, Damaged}
use Rattle.pb_broker.specs.Comes.{StopsDrill, ServesDrill, drill_head, version_sum}
use Rattle.pb_broker.specs.Ending.{Stopped, Drilled}
use Rattle.pb_broker.specs.Serving.{DrillsNew, IsNotMade}
use Rattle.pb_broker.specs.Stops.{stop_of_device}
use Rattle.pb_broker.specs.Stream.{Stream}
use Rattle.pb_broker.specs.Top.{IsDrilled}
use Rattle.pb_broker.proofs.Logged.{rounds_most}
use Rattle.pb_broker.proofs.Endings.{cut_making, served_made}
use Rattle.pb_broker.proofs.Ran.{run_made, run_made_history}

-- Each entry writes one register at most

abbrev version_of : Register → ℕ
version_of register = register.version

written_once : (registers : List Register) (key value : ℕ) → sum_by version_of (slice_set registers key (record { value = value; version = (register_at registers key).version + 1 })) ≤ sum_by version_of registers + 1
written_once registers key value = elim (cases_lt key (length registers)) [
  | inl inside ↦ (let sums = sum_by-set version_of registers key (record { value = value; version = (register_at registers key).version + 1 }) empty_register inside in omega (arith, sums))
  | inr outside ↦ (let same = ap (sum_by version_of) (set_past registers key (record { value = value; version = (register_at registers key).version + 1 }) outside) in omega (arith, same))
]

written_or_not : (registers : List Register) (key value : ℕ) (writes : Bool) → sum_by version_of (if writes then slice_set registers key (record { value = value; version = (register_at registers key).version + 1 }) else registers) ≤ sum_by version_of registers + 1
written_or_not registers key value true = written_once registers key value
written_or_not registers key value false = omega arith

one_version : (state : State) (op : Op) → version_sum (next_state state op) ≤ version_sum state + 1
one_version (Registers registers) op = written_or_not registers op.a (written (action_of op.code) op) ((map_reply registers op).code == answer_code Was)
one_version (Items size items) op = omega arith
one_version (Rising size items) op = omega arith
one_version (Waits size queue) op = omega arith

versions_of_entries : (s : Standing) (entries : List Entry) → version_sum (after_entries s entries).state ≤ version_sum s.state + length entries
versions_of_entries s [] = omega arith
versions_of_entries s (entry ∷ entries) =
    (let first = one_version s.state entry.op in let rest = versions_of_entries (after_entry s entry) entries in omega (arith, first, rest))

-- A round has no more entries than there are clients

same_clients : (s : Standing) (entries : List Entry) → (after_entries s entries).clients ≡ s.clients
same_clients s [] = refl
same_clients s (entry ∷ entries) = same_clients (after_entry s entry) entries

clients_above : (s : Standing) (side : ℕ) (entry : Entry) (entries : List Entry) → ClientsRise (entry ∷ entries) → AreLegal s side (entry ∷ entries) → entry.client + length (entry ∷ entries) ≤ s.clients
clients_above s side entry [] rise legal = omega (arith, legal.0.client)
clients_above s side entry (second ∷ entries) rise legal =
    (let rest = clients_above (after_entry s entry) side second entries rise.1 legal.1 in omega (arith, rise.0, rest))

entries_few : (s : Standing) (side : ℕ) (entries : List Entry) → ClientsRise entries → AreLegal s side entries → length entries ≤ s.clients
entries_few s side [] rise legal = omega arith
entries_few s side (entry ∷ entries) rise legal = (let all = clients_above s side entry entries rise legal in omega (arith, all))

versions_after : (s : Standing) (history : History) → s.clients ≤ 16 → IsLegal s history → version_sum (state_after s history).state ≤ version_sum s.state + 16 * length history
versions_after s [] few legal = omega arith
versions_after s (round ∷ history) few legal =
    let first = versions_of_entries s round.entries in
    let entries = entries_few s round.side round.entries legal.0.rising legal.0.legal in
    let rest : version_sum (state_after (after_round s round) history).state ≤ version_sum (after_entries s round.entries).state + 16 * length history = versions_after (after_round s round) history (subst (λ n. n ≤ 16) (sym (same_clients s round.entries)) few) legal.1 in
    omega (arith, few, first, entries, rest)

pub versions_fit : {start now : EngineView} {asks : List Ask} {list : List Outcome} → HasRun start asks now list → version_sum start.standing.state ≡ 0 → start.standing.clients ≤ 16 → length asks ≤ 32768 → version_sum now.standing.state < 2 ^ 64
versions_fit {start} {now} {asks} {list} run none few short =
    let after = versions_after start.standing run.rounds few run.come.legal in
    let tried = count_by-le-length is_tried list in
    let same = ap (λ (s : Standing). version_sum s.state) run.come.standing in
    omega (arith, after, tried, same, run.few, rounds_most run.rounds now.doubt, run.outcomes.same_length, none, short)

-- Why no engine was made

pub not_made : (head : Header) (before after : Device) (why : Why) → IsFreshRefusal head before after why → IsNotMade head before after (stop_of_device why)
not_made head before after MemoryWhy is = inl is.refusal
not_made head before after (DeviceWhy fault) is = (fault, is)
not_made head before after TakenWhy is = (is.refusal.1, is.refusal.0)
not_made head before after NoRegionWhy is = absurd is.refusal
not_made head before after (DamagedWhy line) is = absurd is.refusal

drill_stops : (head : Header) (before after : Device) (stop : Stop) → IsNotMade head before after stop → StopsDrill head before after stop
drill_stops head before after Memory (inl is) = inl is
drill_stops head before after Memory (inr made) = inr (served_made made)
drill_stops head before after Usage is = absurd is
drill_stops head before after ReadFault is = absurd is
drill_stops head before after Long is = absurd is
drill_stops head before after Many is = absurd is
drill_stops head before after (BadLine number) is = absurd is
drill_stops head before after DeviceFault is = cut_making head before after is.1
drill_stops head before after Taken is = is
drill_stops head before after NoRegion is = absurd is
drill_stops head before after (Damaged line) is = absurd is

-- The whole drill

serves_drill : (seed clients count : ℕ) (before : Device) {start now : EngineView} {asks : List Ask} {list : List Outcome} → asks ≡ drill_asks seed clients count → IsFreshEngine (drill_head clients) before start → HasRun start asks now list → ServesDrill seed clients count before now.device asks list (version_sum now.standing.state)
serves_drill seed clients count before script fresh run = record {
  script = script;
  made = record { none = fresh.no_region; run = run_made fresh run };
  versions_are = ap (λ (s : Standing). version_sum s.state) (run.come.standing ∙ ap (λ (s : Standing). state_after s run.rounds) fresh.standing)
      ∙ ap (λ (h : History). version_sum (state_after (empty_for (drill_head clients)) h).state) (sym (run_made_history fresh run));
}

pub drilled_new : (seed clients count : ℕ) (before after : Device) (asks : List Ask) (out : Stream) (status : Status) → asks ≡ drill_asks seed clients count → DrillsNew (drill_head clients) before after asks out status → IsDrilled seed clients count before after out status
drilled_new seed clients count before after asks out status script (inl (start, fresh, drills)) = record {
  ending = Drilled asks drills.list (version_sum drills.now.standing.state);
  comes = subst (λ (d : Device). ServesDrill seed clients count before d asks drills.list (version_sum drills.now.standing.state)) (sym drills.device) (serves_drill seed clients count before script fresh drills.run);
  said = drills.said;
}
drilled_new seed clients count before after asks out status script (inr (stop, is, said)) = record { ending = Stopped stop; comes = drill_stops (drill_head clients) before after stop is; said = said }

-- Its requests are no more than a script may have

pub drill_is_short : (seed clients count : ℕ) (asks : List Ask) → asks ≡ drill_asks seed clients count → clients * count ≤ 32768 → length asks ≤ 32768
unfolding drill_asks
drill_is_short seed clients count asks are few =
    (let long = length-map-range_with_len (drill_ask seed clients) 0 (clients * count) in omega (arith, ap length are, long, few))

-- and a new map was never written

pub unwritten : (clients : ℕ) → version_sum (empty_for (drill_head clients)).state ≡ 0
unwritten clients = sum_by-replicate version_of 64 empty_register
