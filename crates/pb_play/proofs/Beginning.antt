-- A round begins: from the scan that is over to its calls.
use Rattle.std.proofs.Common.{◌≡◌, ◌≢◌, ℕ, suc, ◌+◌, ◌<◌, ◌≤◌, Bool, true, false, List, [], ◌∷◌, ◌++◌, Option, Some, None, option_map, unwrap_or, IsSomeAnd, length, refl, sym, ap, subst, ◌∙◌, arith}
use Rattle.std.specs.List.{All}
use Rattle.std.proofs.lemmas.List.Elements.{All-nil, All-cons}
use Rattle.pb_pmem.specs.declared.line.Line.{Line}
use Rattle.pb_pmem.specs.declared.log.LogOp.{LogOp}
use Rattle.pb_pmem.specs.declared.line.TheConstants.{LINES}
use Rattle.pb_pmem.specs.Contents.{contents}
use Rattle.pb_pmem.proofs.Lines.{length-contents}
use Rattle.pb_object.specs.declared.codes.Action.{Action}
use Rattle.pb_object.specs.declared.request.Ask.{Ask}
use Rattle.pb_object.specs.Codes.{action_of, action_side}
use Rattle.pb_object.specs.History.{Entry, Round, after_entry, after_entries, after_round}
use Rattle.pb_object.specs.Standing.{Standing, newest_of, rounds_of}
use Rattle.pb_layout.specs.declared.header.Header.{Header}
use Rattle.pb_layout.specs.NextRecord.{IsNextRecord, next_position}
use Rattle.pb_layout.specs.Recovered.{Represents}
use Rattle.pb_layout.specs.RegionOps.{store_over}
use Rattle.pb_layout.specs.Represents.{header_for, record_in_use}
use Rattle.pb_layout.proofs.OneRecovery.{parts}
use Rattle.pb_core.specs.DeviceParts.{IsWorld, IsSteady, opened_state}
use Rattle.pb_core.specs.HolderMoves.{entries_by, round_by, Begins}
use Rattle.pb_core.specs.Laws.{AreDue}
use Rattle.pb_core.specs.Memory as core
use Rattle.pb_core.specs.Memory.{Memory, clients_of, shown, known_standing}
use Rattle.pb_core.specs.World.{CallProgress, NoCall, InCall, World, IsRoundPlan}
use Rattle.pb_core.specs.WorldMoves.{begins_calls}
use Rattle.pb_core.proofs.Devices.{steady_holds}
use Rattle.pb_core.proofs.Holding.{begins_due, begins_own}
use Rattle.pb_core.proofs.Possible.{plan_first}
use Rattle.pb_core.proofs.Scans.{known_shown, meets_some}
use Rattle.pb_core.proofs.Turns.{work_suits}
use Rattle.pb_core.proofs.Worlds.{fits_in, shown_is}
use Rattle.pb_engine.specs.Asks.{IsNextAsk, AskersRise, side_asked, answered_by, answered_from, asked_round}
use Rattle.pb_engine.proofs.Served.{answered_from-none, answered_from-more}
use Rattle.pb_queue.proofs.AnsweredRequests.{clients_of_answers}
use Rattle.pb_play.specs.declared.device.Device.{Device}
use Rattle.pb_play.specs.declared.memory.Memory.{Memory as CodeMemory}
use Rattle.pb_round_play.specs.declared.seat.Seat.{Seat}
use Rattle.pb_play.specs.declared.work.Part.TheVariants.{AtNumber}
use Rattle.pb_play.specs.declared.work.Work.TheVariants.{Scanning}
use Rattle.pb_play.specs.declared.world.World.{World as CodeWorld}
use Rattle.pb_play.specs.Device.{ShowsProgress}
use Rattle.pb_core.specs.Play.{IsCallable, IsReadyForStep, IsPlayedPlan, silently}
use Rattle.pb_engine.specs.Operations.{cell_ops}
use Rattle.pb_round_play.specs.Rounds.{with_rows, MayBegin, MakesRecord}
use Rattle.pb_play.specs.Rounds.{RepeatsRows, scanned_asks}
use Rattle.pb_round_play.specs.Seats.{seat_at}
use Rattle.pb_play.specs.Seats.{begins_round}
use Rattle.pb_play.specs.Shown.{ShowsSeat, rows_for, IsRowOf, ShowsMemory}
use Rattle.pb_play.specs.Worlds.{ShowsWorld, GoesOnUnseen}
use Rattle.pb_play.proofs.Clients.{clients_few}
use Rattle.pb_play.proofs.Fitting.{header_after}
use Rattle.pb_round_play.proofs.NextRecords.{round_count, counted_side}
use Rattle.pb_play.proofs.NextRows.{shows_next, row_next}
use Rattle.pb_round_play.proofs.Rows.{length-rows}
use Rattle.pb_play.proofs.RoundPlans.{is_planned, is_played_plan}
use Rattle.pb_play.proofs.Scanning.{works_at}
use Rattle.pb_play.proofs.Silently.{no_call}

-- Requests that are due may be served

due_is : (s : Standing) (side low : ℕ) (asks : List Ask) → AreDue s side low asks → All (IsNextAsk s side) asks
due_is s side low [] due = All-nil (IsNextAsk s side)
due_is s side low (ask ∷ asks) due =
    All-cons (IsNextAsk s side) ask asks (record { client = due.1.there; number = due.1.number; few = due.1.few; operation = due.1.operation; of_side = due.1.side_is }) (due_is s side (suc ask.client) asks due.2)

due_rise : (s : Standing) (side low : ℕ) (asks : List Ask) → AreDue s side low asks → AskersRise asks
due_rise s side low [] due = tt
due_rise s side low (ask ∷ []) due = tt
due_rise s side low (ask ∷ second ∷ asks) due = (omega (arith, due.2.0), due_rise s side (suc ask.client) (second ∷ asks) due.2)

side_by : (action : Option Action) (side : ℕ) → IsSomeAnd action (λ a. action_side a ≡ side) → unwrap_or (option_map action_side action) 0 ≡ side
side_by None side is = absurd is
side_by (Some action) side is = is

due_side : (s : Standing) (side : ℕ) (asks : List Ask) → asks ≢ [] → AreDue s side 0 asks → side_asked asks ≡ side
due_side s side [] some due = absurd (some refl)
due_side s side (ask ∷ asks) some due = side_by (action_of ask.op.code) side due.1.side_is

-- the round of requests is one round in both forms
same_entries : (s : Standing) (asks : List Ask) → entries_by s asks ≡ answered_from s.state asks
same_entries s [] = sym (answered_from-none s.state)
same_entries s (ask ∷ asks) =
    ap (λ (es : List Entry). answered_by s.state ask ∷ es) (same_entries (after_entry s (answered_by s.state ask)) asks) ∙ sym (answered_from-more s.state ask asks)

-- What the code's world begins with

-- a scan that is over, in a world that the code shows
pub record IsOver (old : CodeWorld) (w : World) (client side : ℕ) : Type 0 where
  pub is : IsWorld w
  pub shows : ShowsWorld old w
  pub holds : w.memory.owner ≡ core.Held client side
  pub there : client < clients_of w.memory
  pub over : old.memory.work ≡ Scanning old.head.clients AtNumber
  pub idle : old.calls.going ≡ false

abbrev begin_move : {old : CodeWorld} {w : World} {client side : ℕ} → IsOver old w client side → Begins w.memory client (record (w.memory) { ahead = Some (round_by side (known_standing w.memory) (scanned_asks old.memory)); work = core.Calling; engine = core.Writing })
begin_move {old} {w} {client} {side} o = record {
  side = side;
  holds = o.holds;
  seen = scanned_asks old.memory;
  at = works_at o.shows.memory o.over ∙ ap (λ (n : ℕ). core.Scanning n core.AtNumber (scanned_asks old.memory)) (ap (λ (h : Header). h.clients) (sym o.shows.head));
  is = refl;
}

steady : {old : CodeWorld} {w : World} {client side : ℕ} → IsOver old w client side → IsSteady w.tale (opened_state w.memory) w.memory.published
steady {old} {w} o =
    fits_in w core.Resting NoCall (no_call o.shows.device o.idle) (work_suits (core.Scanning (clients_of w.memory) core.AtNumber (scanned_asks old.memory)) o.is.memory_is o.holds (begin_move o).at).0 o.is

stands_in : {old : CodeWorld} {w : World} {client side : ℕ} → IsOver old w client side → Represents (contents w.tale.base w.tale.log) (shown w.memory)
stands_in {old} {w} o = subst (Represents (contents w.tale.base w.tale.log)) (sym (shown_is w.memory)) (steady_holds (steady o))

pub may_begin : {old : CodeWorld} {w : World} {client side : ℕ} → IsOver old w client side → MayBegin old.head old.device.lines.items old.memory.rounds (scanned_asks old.memory) side (shown w.memory)
may_begin {old} {w} {client} {side} o = record {
  head_is = header_after w.memory.start (w.memory.past ++ w.memory.published) ∙ o.shows.head;
  stands = subst (λ (ls : List Line). Represents ls (shown w.memory)) o.shows.device.lines (stands_in o);
  counts = o.shows.memory.rounds;
  may = record { some = some; rising = due_rise (shown w.memory) side 0 asks due; next = subst (λ (n : ℕ). All (IsNextAsk (shown w.memory) n) asks) (sym same) (due_is (shown w.memory) side 0 asks due) };
  side_is = same;
}
  where
    asks : List Ask
    asks = scanned_asks old.memory

    due : AreDue (shown w.memory) side 0 asks
    due = begins_due o.is.memory_is (begin_move o)

    some : asks ≢ []
    some = meets_some client asks (begins_own o.is.memory_is o.there (begin_move o))

    same : side_asked asks ≡ side
    same = due_side (shown w.memory) side asks some due

-- What it comes to

-- the code's world where a round began: the next rows repeat the published ones but for the round's, and its record and its calls are made
pub record HasBegun (old new : CodeWorld) (side : ℕ) : Type 0 where
  pub repeated : CodeMemory
  pub repeats : RepeatsRows old.memory repeated
  pub long : length repeated.seats ≡ 16
  pub rows : List Seat
  pub cells : List LogOp
  pub made : (s : Standing) → MayBegin old.head old.device.lines.items old.memory.rounds (scanned_asks old.memory) side s → MakesRecord old.device.lines.items s (asked_round s (scanned_asks old.memory)) repeated.seats new.next.items rows cells
  pub count : ℕ
  pub counted : count ≡ round_count side old.memory.rounds
  pub plan : new.calls.plan.items ≡ cells ++ store_over old.head side count (Some (record_in_use old.device.lines.items old.head side (count + 1))) new.next.items
  pub going : new.calls.going ≡ true
  pub none : new.calls.made ≡ 0
  pub memory : new.memory ≡ begins_round side (record repeated { seats = rows })
  pub device : new.device ≡ old.device
  pub head : new.head ≡ old.head

-- a scan that is over isn't the next step
over_scan : (w : World) {asks : List Ask} → w.memory.work ≡ core.Scanning (clients_of w.memory) core.AtNumber asks → IsReadyForStep w.memory.work (clients_of w.memory) w.progress → ⊥
over_scan w {asks} at ready =
    let below : clients_of w.memory < clients_of w.memory = subst (λ (x : core.Work). IsReadyForStep x (clients_of w.memory) w.progress) at ready in
    omega (arith, below)

-- a plan with a first call is to be made
first_callable : (entry plan : List LogOp) → ((first : LogOp) × (rest : List LogOp) × (plan ≡ first ∷ rest)) → IsCallable (InCall entry [] plan)
first_callable entry plan some = subst (λ (l : List LogOp). IsCallable (InCall entry [] l)) (sym some.2) tt

pub begins_on : {old new : CodeWorld} {w : World} {client side : ℕ} → IsOver old w client side → HasBegun old new side → GoesOnUnseen w new
begins_on {old} {new} {w} {client} {side} o b = record {
  middle = record { memory = next; tale = w.tale; progress = progress };
  before = silently (λ ready. over_scan w (begin_move o).at ready) (begins_calls (record { client = client; there = o.there; next = next; move = begin_move o; idle = no_call o.shows.device o.idle; plan = new.calls.plan.items; planned = planned; is = refl })) played;
  shows = record {
    memory = subst (λ (p : CodeMemory). ShowsMemory p next) (sym b.memory) shown_next;
    device = record {
      progress_is = subst (λ (g : Bool). ShowsProgress g new.calls.plan.items new.calls.made progress) (sym b.going) (record { all = refl; count = sym b.none });
      base = o.shows.device.base ∙ ap (λ (d : Device). d.base.items) (sym b.device);
      log = o.shows.device.log ∙ ap (λ (d : Device). d.log.items) (sym b.device);
      lines = o.shows.device.lines ∙ ap (λ (d : Device). d.lines.items) (sym b.device);
    };
    head = o.shows.head ∙ sym b.head;
  };
  owner = refl;
  clients = refl;
  due = λ _. record { calling = tt; callable = callable };
  ready = callable;
}
  where
    m : Memory
    m = w.memory

    asks : List Ask
    asks = scanned_asks old.memory

    may : MayBegin old.head old.device.lines.items old.memory.rounds asks side (shown m)
    may = may_begin o

    made : MakesRecord old.device.lines.items (shown m) (asked_round (shown m) asks) b.repeated.seats new.next.items b.rows b.cells
    made = b.made (shown m) may

    same_known : known_standing m ≡ shown m
    same_known = known_shown (clients_of m) core.AtNumber asks o.is.memory_is o.holds (begin_move o).at

    same_round : asked_round (shown m) asks ≡ round_by side (shown m) asks
    same_round = λ i. record { side = may.side_is i; entries = sym (same_entries (shown m) asks) i }

    round : Round
    round = round_by side (known_standing m) asks

    next : Memory
    next = record m { ahead = Some round; work = core.Calling; engine = core.Writing }

    progress : CallProgress
    progress = InCall w.tale.log [] new.calls.plan.items

    counted : b.count ≡ rounds_of (shown m) (side_asked asks)
    counted = b.counted ∙ (sym (counted_side (shown m) may) ∙ ap (rounds_of (shown m)) (sym may.side_is))

    next_is : IsNextRecord (contents w.tale.base w.tale.log) (shown m) (asked_round (shown m) asks) new.next.items
    next_is = subst (λ (ls : List Line). IsNextRecord ls (shown m) (asked_round (shown m) asks) new.next.items) (sym o.shows.device.lines) made.record_is

    plan_is : new.calls.plan.items ≡ cell_ops (header_for (shown m)) (next_position (shown m).state) (after_round (shown m) (asked_round (shown m) asks)).state ++ store_over (header_for (shown m)) (side_asked asks) (rounds_of (shown m) (side_asked asks)) (Some (record_in_use (contents w.tale.base w.tale.log) (header_for (shown m)) (side_asked asks) (rounds_of (shown m) (side_asked asks) + 1))) new.next.items
    plan_is = b.plan ∙ (λ i. made.cells_are i ++ store_over (sym may.head_is i) (sym may.side_is i) (counted i) (Some (record_in_use (sym o.shows.device.lines i) (sym may.head_is i) (sym may.side_is i) (counted i + 1))) new.next.items)

    -- the plan over the standing that is shown
    shown_plan : IsRoundPlan w.tale (shown m) (asked_round (shown m) asks) new.calls.plan.items
    shown_plan =
        is_planned (shown m) (asked_round (shown m) asks) new.next.items new.calls.plan.items long (stands_in o) next_is made.step plan_is
      where
        long : length w.tale.base ≡ LINES
        long = sym (length-contents w.tale.base w.tale.log) ∙ (stands_in o).whole

    shown_played : IsPlayedPlan w.tale (shown m) (asked_round (shown m) asks) new.calls.plan.items
    shown_played =
        is_played_plan (shown m) (asked_round (shown m) asks) new.next.items new.calls.plan.items (stands_in o) next_is made.listed made.step plan_is

    played : IsPlayedPlan w.tale (known_standing m) round new.calls.plan.items
    played = subst (λ (s : Standing). IsPlayedPlan w.tale s (round_by side s asks) new.calls.plan.items) (sym same_known) (subst (λ (r : Round). IsPlayedPlan w.tale (shown m) r new.calls.plan.items) same_round shown_played)

    planned : IsRoundPlan w.tale (known_standing m) round new.calls.plan.items
    planned = subst (λ (s : Standing). IsRoundPlan w.tale s (round_by side s asks) new.calls.plan.items) (sym same_known) (subst (λ (r : Round). IsRoundPlan w.tale (shown m) r new.calls.plan.items) same_round shown_plan)

    callable : IsCallable progress
    callable = first_callable w.tale.log new.calls.plan.items (plan_first planned)

    entries : List Entry
    entries = answered_from (shown m).state asks

    few : clients_of m ≤ 16
    few = clients_few o.shows.memory

    inside : (count : ℕ) → (shown m).clients ≤ count → All (λ (entry : Entry). entry.client < count) entries
    inside count fits = clients_of_answers (λ client. client < count) (shown m).state asks (λ k d below. omega (arith, (may.may.next k d below).client, fits))

    clients_is : (shown m).clients ≡ clients_of m
    clients_is = ap (λ (h : Header). h.clients) (header_after m.start (m.past ++ m.published))

    kept : (shown m).clients ≤ length (shown m).kept
    kept = omega (arith, (parts old.device.lines.items (shown m) may.stands).clients)

    shown_next : ShowsMemory (begins_round side (record (b.repeated) { seats = b.rows })) next
    shown_next = subst (λ (p : CodeMemory). ShowsMemory (begins_round side (record p { seats = b.rows })) next) (sym b.repeats.is) (record {
      head = o.shows.memory.head;
      valid = o.shows.memory.valid;
      places = ap length made.rows_are ∙ (length-rows entries b.repeated.seats ∙ b.long);
      clients = λ c within.
          subst (λ (rows : List Seat). ShowsSeat (m.book c) (m.requests c) (rows_for m.rows c) (seat_at rows c)) (sym made.rows_are)
          (shows_next entries c b.repeats b.long (omega (arith, within, few)) (inside 16 (omega (arith, few, clients_is))) (o.shows.memory.clients c within));
      next = λ c within.
          subst (λ (rows : List Seat). IsRowOf (newest_of (after_round (shown m) round) c) (seat_at rows c).ahead) (sym made.rows_are)
          (subst (λ (es : List Entry). IsRowOf (newest_of (after_entries (shown m) es) c) (seat_at (with_rows entries b.repeated.seats) c).ahead) same_after
          (row_next entries c b.repeats b.long (omega (arith, within, few)) (inside 16 (omega (arith, few, clients_is))) (inside (length (shown m).kept) kept) o.shows.memory o.is.memory_is within));
      turn = o.shows.memory.turn;
      noted = o.shows.memory.noted;
      count = o.shows.memory.count;
      owner = o.shows.memory.owner;
      room = o.shows.memory.room;
      work = refl;
      met = o.shows.memory.met;
      engine = refl;
      ahead = refl;
      rounds = o.shows.memory.rounds;
    })
      where
        same_after : entries ≡ entries_by (known_standing m) asks
        same_after = sym (same_entries (shown m) asks) ∙ ap (λ (s : Standing). entries_by s asks) (sym same_known)
