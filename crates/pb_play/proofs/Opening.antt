-- Opening the region again, and asking.
use Rattle.std.proofs.Common.{◌≡◌, ℕ, ◌+◌, ◌<◌, Bool, true, false, List, [], ◌∷◌, ◌++◌, Option, ap, subst, sym, refl, ◌∙◌, inl, inr, arith}
use Rattle.std.specs.Prelude.{IsTrue, ◌↔◌}
use Rattle.std.proofs.lemmas.Bool.{false≢true}
use Rattle.pb_crash.specs.declared.leaves.Leaves.{Leaves}
use Rattle.pb_pmem.specs.declared.log.LogOp.{LogOp}
use Rattle.pb_pmem.specs.Contents.{contents}
use Rattle.pb_pmem.specs.Device.{with_op}
use Rattle.pb_object.specs.declared.request.Ask.{Ask}
use Rattle.pb_object.specs.History.{Round}
use Rattle.pb_object.specs.Request.{IsOperation}
use Rattle.pb_object.specs.Standing.{Standing, newest}
use Rattle.pb_layout.specs.Recovered.{Represents}
use Rattle.pb_layout.specs.RegionOps.{settle_ops, settle_to}
use Rattle.pb_layout.specs.Represents.{header_for}
use Rattle.pb_events.specs.declared.event.Event.{Event}
use Rattle.pb_events.specs.declared.event.Event.TheVariants.{Ask as AskEvent, Reopen, ReopenFail}
use Rattle.pb_events.specs.declared.event.Stepped.{Stepped}
use Rattle.pb_events.specs.declared.event.Stepped.TheVariants.{Went}
use Rattle.pb_core.specs.Client as client
use Rattle.pb_core.specs.Client.{is_idle}
use Rattle.pb_core.specs.DeviceParts.{IsWorld, IsUnsettled, opened_state}
use Rattle.pb_core.specs.Memory as core
use Rattle.pb_core.specs.Memory.{Memory, Owner, clients_of, shown}
use Rattle.pb_core.specs.Possible.{IsOpening, IsReopening, MayAsk}
use Rattle.pb_core.specs.WordMoves.{IsNotReopening, asks}
use Rattle.pb_core.specs.World.{CallProgress, NoCall, InCall, World}
use Rattle.pb_core.specs.WorldMoves.{failed, opens}
use Rattle.pb_core.proofs.Devices.{steady_holds}
use Rattle.pb_core.proofs.Worlds.{fits_in, closed_suits, shown_is}
use Rattle.pb_play.specs.declared.calls.Calls.{Calls}
use Rattle.pb_play.specs.declared.device.Device.{Device}
use Rattle.pb_play.specs.declared.memory.Memory.{Memory as CodeMemory}
use Rattle.pb_round_play.specs.declared.seat.Stage.TheVariants.{Storing}
use Rattle.pb_play.specs.declared.world.World.{World as CodeWorld}
use Rattle.pb_play.specs.Device.{ShowsProgress, ShowsDevice, FailsCall}
use Rattle.pb_core.specs.Play.{IsCallable, IsAtOnce, PlaysMove, at_once, silently}
use Rattle.pb_play.specs.Seats as code
use Rattle.pb_play.specs.Seats.{seat_of, begins_asking}
use Rattle.pb_play.specs.Shown.{ShowsMemory}
use Rattle.pb_play.specs.Worlds.{ShowsWorld, HasStepped, CallsNext, IsOpened}
use Rattle.pb_play.proofs.Clients.{shows_client}
use Rattle.pb_play.proofs.Fitting.{header_after}
use Rattle.pb_play.proofs.Silently.{no_call, IsGoing, going_call, ended_device}

-- a test that came out false
pub not_true : {b : Bool} {P : Type 0} → IsTrue b ↔ P → b ≡ false → P → ⊥
not_true iff none p = false≢true (sym none ∙ iff.1 p)

-- What is reopening

closed_by : (owner : Owner) (progress : CallProgress) → IsOpening owner progress → owner ≡ core.Closed
closed_by core.Free progress opening = absurd opening
closed_by (core.Held c side) progress opening = absurd opening
closed_by core.Closed progress opening = refl

pub is_closed : (w : World) → IsReopening w → w.memory.owner ≡ core.Closed
is_closed w opening = closed_by w.memory.owner w.progress opening

-- a step with no move before it that nobody sees
pub moves_at_once : {w : World} {event : Event} {new : CodeWorld} {answer : Stepped} (next : World) → IsAtOnce w event → PlaysMove w event next answer → ShowsWorld new next → HasStepped w event new answer
moves_at_once {w} next now move shows = record { next = next; step = record { middle = w; before = at_once now refl; move = move }; shows = shows }

left_callable : (entry made left : List LogOp) → IsOpening core.Closed (InCall entry made left) → IsCallable (InCall entry made left)
left_callable entry made [] o = absurd o
left_callable entry made (op ∷ left) o = tt

pub reopening_callable : {old : CodeWorld} {w : World} → ShowsWorld old w → IsReopening w → old.calls.going ≡ true → IsCallable w.progress
reopening_callable {old} {w} s opening going =
    let call : IsGoing w.progress = going_call s.device going in
    subst IsCallable (sym call.at) (left_callable call.entry call.made call.left (subst (λ (q : CallProgress). IsOpening core.Closed q) call.at (subst (λ (o : Owner). IsOpening o w.progress) (is_closed w opening) opening)))

pub settles_region : {new : CodeWorld} {w : World} {answer : Stepped} → IsReopening w → (answer ≡ Went) × CallsNext w new → HasStepped w Reopen new answer
settles_region {new} {w} opening called =
    let next = called.1 in
    moves_at_once (record w { tale = with_op next.op w.tale; progress = InCall next.entry (next.made ++ next.op ∷ []) next.left })
    tt
    (inr (record { closed = is_closed w opening; entry = next.entry; made = next.made; op = next.op; left = next.left; at = next.at; is = refl; says = called.0 }))
    next.shows

pub fails_reopening : {old : CodeWorld} {w : World} {calls : Calls} {device : Device} (how : Leaves) → ShowsWorld old w → IsReopening w → FailsCall how w.tale w.progress calls device → HasStepped w (ReopenFail how) (record old { calls = calls; device = device }) Went
fails_reopening {old} {w} how s opening fails =
    moves_at_once (record w { tale = failed how fails.op w.tale; progress = NoCall })
    tt
    (inr (record { closed = is_closed w opening; entry = fails.entry; made = fails.made; op = fails.op; left = fails.left; at = fails.at; is = refl; says = refl }))
    (record { memory = s.memory; device = fails.shows; head = s.head })

pub reads_region : {old : CodeWorld} {w : World} {calls : Calls} → IsWorld w → ShowsWorld old w → IsReopening w → old.calls.going ≡ false → calls.going ≡ true → calls.made ≡ 0 → calls.plan.items ≡ settle_ops old.head old.memory.rounds.first old.memory.rounds.second → HasStepped w Reopen (record old { calls = calls }) Went
reads_region {old} {w} {calls} is s opening idle going none planned =
    let m = w.memory in
    let closed = is_closed w opening in
    let suits = closed_suits is.memory_is closed in
    let now = no_call s.device idle in
    let steady = subst (λ (a : Option Round). IsUnsettled w.tale (opened_state m) m.published a) suits.2 (fits_in w core.Doubtful NoCall now suits.1 is) in
    let stands : Represents (contents w.tale.base w.tale.log) (shown m) = subst (λ (t : Standing). Represents (contents w.tale.base w.tale.log) t) (sym (shown_is m)) (steady_holds steady) in
    let plan : settle_to (header_for (shown m)) (shown m) ≡ calls.plan.items = (λ i. settle_ops ((header_after m.start (m.past ++ m.published) ∙ s.head) i) (s.memory.rounds.first i) (s.memory.rounds.second i)) ∙ sym planned in
    moves_at_once (record w { progress = InCall w.tale.log [] (settle_to (header_for (shown m)) (shown m)) })
    tt
    (inl (record { closed = closed; idle = now; standing = shown m; stands = stands; is = refl; says = refl }))
    (record {
      memory = s.memory;
      device = record {
        progress_is = subst (λ (g : Bool). ShowsProgress g calls.plan.items calls.made (InCall w.tale.log [] (settle_to (header_for (shown m)) (shown m)))) (sym going) (record { all = plan; count = sym none });
        base = s.device.base;
        log = s.device.log;
        lines = s.device.lines;
      };
      head = s.head;
    })

-- Opening

shows_open : {p : CodeMemory} {m : Memory} → ShowsMemory p m → ShowsMemory (code.with_region_open p) (record m { owner = core.Free; engine = core.Resting })
shows_open s = record {
  head = s.head;
  valid = s.valid;
  places = s.places;
  clients = s.clients;
  next = s.next;
  turn = s.turn;
  noted = s.noted;
  count = s.count;
  owner = refl;
  room = s.room;
  work = s.work;
  met = s.met;
  engine = refl;
  ahead = s.ahead;
  rounds = s.rounds;
}

-- all calls are made where it isn't reopening
pub record IsDone (progress : CallProgress) : Type 0 where
  pub entry : List LogOp
  pub made : List LogOp
  pub at : progress ≡ InCall entry made []

done_by : (progress : CallProgress) → ¬ IsOpening core.Closed progress → IsDone progress
done_by NoCall done = absurd (done tt)
done_by (InCall entry made []) done = record { entry = entry; made = made; at = refl }
done_by (InCall entry made (op ∷ left)) done = absurd (done tt)

pub opens_closed : {old : CodeWorld} {w : World} {memory : CodeMemory} {calls : Calls} → ShowsWorld old w → ¬ IsReopening w → w.memory.owner ≡ core.Closed → memory ≡ code.with_region_open old.memory → calls ≡ record (old.calls) { going = false } → IsOpened w (record old { memory = memory; calls = calls })
opens_closed {old} {w} {memory} {calls} s done closed memory_is calls_is =
    let all : IsDone w.progress = done_by w.progress (λ o. done (subst (λ (x : Owner). IsOpening x w.progress) (sym closed) o)) in
    record {
      middle = record { memory = record (w.memory) { owner = core.Free; engine = core.Resting }; tale = w.tale; progress = NoCall };
      before = silently (λ runs. subst IsNotReopening closed runs) (opens (record { closed = closed; entry = all.entry; made = all.made; at = all.at; is = refl })) tt;
      shows = record {
        memory = subst (λ (q : CodeMemory). ShowsMemory q (record (w.memory) { owner = core.Free; engine = core.Resting })) (sym memory_is) (shows_open s.memory);
        device = subst (λ (q : Calls). ShowsDevice q old.device w.tale NoCall) (sym calls_is) (ended_device s.device);
        head = s.head;
      };
      start = refl;
      book = refl;
      running = tt;
    }

pub stays_open : {old : CodeWorld} {w : World} → ShowsWorld old w → IsNotReopening w.memory.owner → IsOpened w old
stays_open {old} {w} s running = record { middle = w; before = at_once running refl; shows = s; start = refl; book = refl; running = running }

-- Asking

idle_is : (stage : client.Stage) → is_idle stage ≡ true → stage ≡ client.Idle
idle_is client.Idle idle = refl
idle_is (client.Storing count) idle = absurd (false≢true idle)
idle_is client.Looking idle = absurd (false≢true idle)
idle_is (client.LoadsNumber turn) idle = absurd (false≢true idle)
idle_is (client.LoadsCode turn) idle = absurd (false≢true idle)
idle_is (client.LoadsValue turn code) idle = absurd (false≢true idle)
idle_is (client.LoadsExtra turn code value) idle = absurd (false≢true idle)
idle_is (client.Confirming turn reply) idle = absurd (false≢true idle)
idle_is (client.Lacking turn found) idle = absurd (false≢true idle)
idle_is (client.Taking turn found) idle = absurd (false≢true idle)
idle_is client.Holding idle = absurd (false≢true idle)

shows_asked : {p : CodeMemory} {m : Memory} (ask : Ask) → ShowsMemory p m → ask.client < clients_of m → ShowsMemory (begins_asking ask p) (asks ask.client ask m)
shows_asked {p} {m} ask s within =
    let before = s.clients ask.client within in
    shows_client ask.client (record (seat_of p ask.client) { stage = Storing 0; ask = ask }) (record (m.book ask.client) { stage = client.Storing 0; ask = ask; after = (m.book ask.client).front }) m.answers s within
    (record { stage = refl; ask = refl; last = before.last; stored = before.stored; even = before.even; odd = before.odd })
    refl

pub asks_for : {between : CodeWorld} {w : World} {memory : CodeMemory} (ask : Ask) → MayAsk w ask → IsOpened w between → memory ≡ begins_asking ask between.memory → HasStepped w (AskEvent ask) (record between { memory = memory }) Went
asks_for {between} {w} {memory} ask may opening memory_is =
    let m = opening.middle.memory in
    let there : ask.client < clients_of m = omega (arith, may.there, ap (λ (s : Standing). s.clients) opening.start) in
    let same : m.book ask.client ≡ w.memory.book ask.client = ap (λ (book : ℕ → client.Client). book ask.client) opening.book in
    record {
      next = record (opening.middle) { memory = asks ask.client ask m };
      step = record {
        middle = opening.middle;
        before = opening.before;
        move = record {
          next = asks ask.client ask m;
          move = record {
            running = opening.running;
            there = there;
            at = idle_is (m.book ask.client).stage (ap (λ (b : client.Client). is_idle b.stage) same ∙ may.idle);
            number = may.number ∙ ap (λ (b : client.Client). (newest b.kept).number + 1) (sym same);
            few = may.few;
            operation = subst (λ (s : Standing). IsOperation s.kind ask.op) (sym opening.start) may.operation;
            is = refl;
          };
          is = refl;
          says = refl;
        };
      };
      shows = record {
        memory = subst (λ (q : CodeMemory). ShowsMemory q (asks ask.client ask m)) (sym memory_is) (shows_asked ask opening.shows.memory there);
        device = opening.shows.device;
        head = opening.shows.head;
      };
    }
