-- The moves that nobody sees.
use Rattle.std.proofs.Common.{◌≡◌, ℕ, ◌<◌, ◌≤◌, ◌⊎◌, Bool, true, false, List, [], ◌∷◌, ◌++◌, length, Option, Some, None, ap, subst, sym, refl, ◌∙◌, inl, inr, arith, length-append}
use Rattle.std.specs.Prelude.{IfSome, IsTrue, ◌↔◌}
use Rattle.std.proofs.lemmas.Bool.{cases_lt, false≢true}
use Rattle.pb_pmem.specs.declared.log.LogOp.{LogOp}
use Rattle.pb_pmem.specs.Count.{last_count}
use Rattle.pb_pmem.specs.Device.{Tale}
use Rattle.pb_object.specs.declared.request.Ask.{Ask}
use Rattle.pb_object.specs.History.{Round, IsLegalRound}
use Rattle.pb_object.specs.Standing.{Standing, rounds_of}
use Rattle.pb_layout.specs.RegionOps.{settle_ops, settle_to}
use Rattle.pb_layout.specs.Represents.{header_for}
use Rattle.pb_core.specs.DeviceParts.{IsWorld}
use Rattle.pb_core.specs.Memory as core
use Rattle.pb_core.specs.Memory.{Memory, Engine, Work, clients_of, known_standing, known_by, shown, with_round_ahead}
use Rattle.pb_core.specs.MemoryParts.{IsMemory}
use Rattle.pb_core.specs.Possible.{IsCallDue}
use Rattle.pb_core.specs.World.{CallProgress, NoCall, InCall, World}
use Rattle.pb_core.specs.WorldMoves.{settling_plan, begins_settling, ends_calls, ends_settling_none, ends_settling_round}
use Rattle.pb_core.proofs.Turns.{work_suits}
use Rattle.pb_core.proofs.Worlds.{fits_in}
use Rattle.pb_play.specs.declared.calls.Calls.{Calls}
use Rattle.pb_play.specs.declared.device.Device.{Device}
use Rattle.pb_play.specs.declared.memory.Memory.{Memory as CodeMemory}
use Rattle.pb_round_play.specs.declared.rounds.Rounds.{Rounds}
use Rattle.pb_play.specs.declared.world.World.{World as CodeWorld}
use Rattle.pb_play.specs.Device.{ShowsProgress, ShowsDevice}
use Rattle.pb_core.specs.Play.{IsCallable, IsReadyForStep, IsCalling, at_once, silently}
use Rattle.pb_play.specs.Seats as code
use Rattle.pb_round_play.specs.Counts.{ShowsRounds}
use Rattle.pb_play.specs.Shown.{side_ahead, ShowsMemory}
use Rattle.pb_play.specs.Steps.{FitsWords}
use Rattle.pb_play.specs.Worlds.{ShowsWorld, IsDue, GoesOnUnseen}
use Rattle.pb_play.proofs.Fitting.{header_after, world_fits}
use Rattle.pb_play.proofs.Publishing.{shows_rounds}

-- Where the calls are

none_going : (plan : List LogOp) (reached : ℕ) (progress : CallProgress) → ShowsProgress false plan reached progress → progress ≡ NoCall
none_going plan reached NoCall s = refl
none_going plan reached (InCall entry made left) s = absurd s

pub no_call : {calls : Calls} {device : Device} {tale : Tale} {progress : CallProgress} → ShowsDevice calls device tale progress → calls.going ≡ false → progress ≡ NoCall
no_call {calls} {progress = progress} s going =
    none_going calls.plan.items calls.made progress (subst (λ (g : Bool). ShowsProgress g calls.plan.items calls.made progress) going s.progress_is)

-- all calls are made
pub record HasEnded (progress : CallProgress) : Type 0 where
  pub entry : List LogOp
  pub made : List LogOp
  pub at : progress ≡ InCall entry made []

all_made : (plan : List LogOp) (reached : ℕ) (progress : CallProgress) → ShowsProgress true plan reached progress → length plan ≤ reached → HasEnded progress
all_made plan reached NoCall s past = absurd s
all_made plan reached (InCall entry made []) s past = record { entry = entry; made = made; at = refl }
all_made plan reached (InCall entry made (op ∷ left)) s past = absurd (omega (arith, past, s.count, ap length s.all, length-append made (op ∷ left)))

pub has_ended : {calls : Calls} {device : Device} {tale : Tale} {progress : CallProgress} → ShowsDevice calls device tale progress → calls.going ≡ true → length calls.plan.items ≤ calls.made → HasEnded progress
has_ended {calls} {progress = progress} s going past =
    all_made calls.plan.items calls.made progress (subst (λ (g : Bool). ShowsProgress g calls.plan.items calls.made progress) going s.progress_is) past

-- calls are being made
pub record IsGoing (progress : CallProgress) : Type 0 where
  pub entry : List LogOp
  pub made : List LogOp
  pub left : List LogOp
  pub at : progress ≡ InCall entry made left

going_at : (plan : List LogOp) (reached : ℕ) (progress : CallProgress) → ShowsProgress true plan reached progress → IsGoing progress
going_at plan reached NoCall s = absurd s
going_at plan reached (InCall entry made left) s = record { entry = entry; made = made; left = left; at = refl }

pub going_call : {calls : Calls} {device : Device} {tale : Tale} {progress : CallProgress} → ShowsDevice calls device tale progress → calls.going ≡ true → IsGoing progress
going_call {calls} {progress = progress} s going =
    going_at calls.plan.items calls.made progress (subst (λ (g : Bool). ShowsProgress g calls.plan.items calls.made progress) going s.progress_is)

some_left : (plan : List LogOp) (reached : ℕ) (progress : CallProgress) → ShowsProgress true plan reached progress → reached < length plan → IsCallable progress
some_left plan reached NoCall s inside = absurd s
some_left plan reached (InCall entry made []) s inside = absurd (omega (arith, inside, s.count, ap length s.all, length-append made []))
some_left plan reached (InCall entry made (op ∷ left)) s inside = tt

pub is_callable : {calls : Calls} {device : Device} {tale : Tale} {progress : CallProgress} → ShowsDevice calls device tale progress → calls.going ≡ true → calls.made < length calls.plan.items → IsCallable progress
is_callable {calls} {progress = progress} s going inside =
    some_left calls.plan.items calls.made progress (subst (λ (g : Bool). ShowsProgress g calls.plan.items calls.made progress) going s.progress_is) inside

-- the same device where no calls are being made
pub ended_device : {calls : Calls} {device : Device} {tale : Tale} {progress : CallProgress} → ShowsDevice calls device tale progress → ShowsDevice (record calls { going = false }) device tale NoCall
ended_device s = record { progress_is = tt; base = s.base; log = s.log; lines = s.lines }

pub not_left : {b : Bool} {made n : ℕ} → IsTrue b ↔ (made < n) → b ≡ false → n ≤ made
not_left {b} {made} {n} is none = go (cases_lt made n)
  where
    go : (made < n) ⊎ (n ≤ made) → n ≤ made
    go (inl inside) = absurd (false≢true (sym none ∙ is.1 inside))
    go (inr past) = past

-- Nothing happens

ready_by : (work : Work) (clients : ℕ) (progress : CallProgress) {now : Work} → now ≡ work → IsReadyForStep work clients progress → IsReadyForStep now clients progress
ready_by work clients progress at ready = subst (λ (x : Work). IsReadyForStep x clients progress) (sym at) ready

scan_not_due : (d clients : ℕ) (part : core.Part) (seen : List Ask) (progress : CallProgress) → d < clients → IsCallDue (core.Scanning d part seen) progress clients → ⊥
scan_not_due d clients core.AtNumber seen NoCall within due = omega (arith, within, due)
scan_not_due d clients (core.AtCode number) seen NoCall within due = due
scan_not_due d clients (core.AtFirst number code) seen NoCall within due = due
scan_not_due d clients (core.AtSecond number code a) seen NoCall within due = due
scan_not_due d clients (core.AtThird number code a b) seen NoCall within due = due
scan_not_due d clients part seen (InCall entry made left) within due = due

due_ready : (w : World) (work : Work) → w.memory.work ≡ work → IsReadyForStep work (clients_of w.memory) w.progress → IsCallDue work w.progress (clients_of w.memory) → IsDue w
due_ready w core.NoWork at ready due = absurd due
due_ready w core.Settling at ready due = record { calling = subst IsCalling (sym at) tt; callable = ready }
due_ready w (core.Scanning d part seen) at ready due = absurd (scan_not_due d (clients_of w.memory) part seen w.progress ready due)
due_ready w core.Calling at ready due = record { calling = subst IsCalling (sym at) tt; callable = ready }
due_ready w (core.Filling count) at ready due = absurd due
due_ready w (core.Noting from to) at ready due = absurd due
due_ready w (core.GivingUp from to) at ready due = absurd due

pub goes_nowhere : {old : CodeWorld} {w : World} (work : Work) → ShowsWorld old w → w.memory.work ≡ work → IsReadyForStep work (clients_of w.memory) w.progress → GoesOnUnseen w old
goes_nowhere {old} {w} work s at ready = record {
  middle = w;
  before = at_once (ready_by work (clients_of w.memory) w.progress at ready) refl;
  shows = s;
  owner = refl;
  clients = refl;
  due = λ due. due_ready w work at ready (subst (λ (x : Work). IsCallDue x w.progress (clients_of w.memory)) at due);
  ready = ready_by work (clients_of w.memory) w.progress at ready;
}

-- Settling begins

-- the counts of rounds with the round ahead
pub ahead_rounds : {p : CodeMemory} {m : Memory} → ShowsMemory p m → IsMemory m → FitsWords m → ShowsRounds (with_round_ahead m.ahead (shown m)) (code.with_ahead p.ahead p.rounds)
ahead_rounds {p} {m} s sound fits =
    subst (λ (a : Option ℕ). ShowsRounds (with_round_ahead m.ahead (shown m)) (code.with_ahead a p.rounds)) s.ahead (go m.ahead sound.history.next fits.rounds)
  where
    go : (a : Option Round) → IfSome a (IsLegalRound (shown m)) → ((side : ℕ) → rounds_of (with_round_ahead a (shown m)) side ≤ last_count) → ShowsRounds (with_round_ahead a (shown m)) (code.with_ahead (side_ahead a) p.rounds)
    go None legal few = s.rounds
    go (Some round) legal few = shows_rounds (shown m) round p.rounds legal fits.sides few s.rounds

pub doubtful_known : {m : Memory} {c side : ℕ} → IsMemory m → m.owner ≡ core.Held c side → m.work ≡ core.Settling → known_standing m ≡ shown m
doubtful_known {m} sound holds at = ap (λ (e : Engine). known_by e m.ahead (shown m)) (work_suits core.Settling sound holds at)

pub plan_is : {old : CodeWorld} {w : World} (c side : ℕ) → IsWorld w → ShowsWorld old w → w.memory.owner ≡ core.Held c side → w.memory.work ≡ core.Settling → settling_plan w.memory ≡ settle_ops old.head (code.with_ahead old.memory.ahead old.memory.rounds).first (code.with_ahead old.memory.ahead old.memory.rounds).second
plan_is {old} {w} c side is s holds at =
    let m = w.memory in
    let rounds = ahead_rounds s.memory is.memory_is (world_fits is) in
    let head = header_after m.start (m.past ++ m.published) ∙ s.head in
    ap (λ (t : Standing). settle_to (header_for t) (with_round_ahead m.ahead t)) (doubtful_known is.memory_is holds at)
    ∙ (λ i. settle_ops (head i) (rounds.first i) (rounds.second i))

-- where settling didn't begin yet its first call isn't the next step
not_begun : (w : World) → w.memory.work ≡ core.Settling → w.progress ≡ NoCall → IsReadyForStep w.memory.work (clients_of w.memory) w.progress → ⊥
not_begun w at none ready =
    subst IsCallable none (subst (λ (x : Work). IsReadyForStep x (clients_of w.memory) w.progress) at ready)

pub begins : {old : CodeWorld} {w : World} {calls : Calls} {rounds : Rounds} (c side : ℕ) → IsWorld w → ShowsWorld old w → w.memory.owner ≡ core.Held c side → w.memory.work ≡ core.Settling → old.calls.going ≡ false → rounds ≡ code.with_ahead old.memory.ahead old.memory.rounds → calls.going ≡ true → calls.made ≡ 0 → calls.plan.items ≡ settle_ops old.head rounds.first rounds.second → GoesOnUnseen w (record old { calls = calls })
begins {old} {w} {calls} {rounds} c side is s holds at idle counted going none planned =
    let m = w.memory in
    let plan : settling_plan m ≡ calls.plan.items = plan_is c side is s holds at ∙ (ap (λ (r : Rounds). settle_ops old.head r.first r.second) (sym counted) ∙ sym planned) in
    record {
      middle = record w { progress = InCall w.tale.log [] (settling_plan m) };
      before = silently (λ now. not_begun w at (no_call s.device idle) now) (begins_settling (record { client = c; side = side; holds = holds; at = at; idle = no_call s.device idle; is = refl })) tt;
      shows = record {
        memory = s.memory;
        device = record {
          progress_is = subst (λ (g : Bool). ShowsProgress g calls.plan.items calls.made (InCall w.tale.log [] (settling_plan m))) (sym going) (record { all = plan; count = sym none });
          base = s.device.base;
          log = s.device.log;
          lines = s.device.lines;
        };
        head = s.head;
      };
      owner = refl;
      clients = refl;
      due = λ _. record { calling = subst IsCalling (sym at) tt; callable = tt };
      ready = ready_by core.Settling (clients_of m) (InCall w.tale.log [] (settling_plan m)) at tt;
    }

-- A round is recorded

none_due : (work : Work) (clients : ℕ) (entry made : List LogOp) → IsCalling work → IsCallDue work (InCall entry made []) clients → ⊥
none_due core.NoWork clients entry made calling due = calling
none_due core.Settling clients entry made calling due = due
none_due (core.Scanning d part seen) clients entry made calling due = calling
none_due core.Calling clients entry made calling due = due
none_due (core.Filling count) clients entry made calling due = calling
none_due (core.Noting from to) clients entry made calling due = calling
none_due (core.GivingUp from to) clients entry made calling due = calling

-- no call is due where all are made
not_due : (w : World) (work : Work) → w.memory.work ≡ work → HasEnded w.progress → IsCallDue w.memory.work w.progress (clients_of w.memory) → IsCalling work → ⊥
not_due w work at ended due calling =
    none_due work (clients_of w.memory) ended.entry ended.made calling
    (subst (λ (q : CallProgress). IsCallDue work q (clients_of w.memory)) ended.at (subst (λ (x : Work). IsCallDue x w.progress (clients_of w.memory)) at due))

-- nor is one where all are made
none_ready : (work : Work) (clients : ℕ) (entry made : List LogOp) → IsReadyForStep work clients (InCall entry made []) → IsCalling work → ⊥
none_ready core.NoWork clients entry made ready calling = calling
none_ready core.Settling clients entry made ready calling = ready
none_ready (core.Scanning d part seen) clients entry made ready calling = calling
none_ready core.Calling clients entry made ready calling = ready
none_ready (core.Filling count) clients entry made ready calling = calling
none_ready (core.Noting from to) clients entry made ready calling = calling
none_ready (core.GivingUp from to) clients entry made ready calling = calling

not_ready : (w : World) (work : Work) → w.memory.work ≡ work → HasEnded w.progress → IsReadyForStep w.memory.work (clients_of w.memory) w.progress → IsCalling work → ⊥
not_ready w work at ended ready calling =
    none_ready work (clients_of w.memory) ended.entry ended.made
    (subst (λ (q : CallProgress). IsReadyForStep work (clients_of w.memory) q) ended.at (subst (λ (x : Work). IsReadyForStep x (clients_of w.memory) w.progress) at ready)) calling

pub shows_recorded : {p : CodeMemory} {m : Memory} → ShowsMemory p m → ShowsMemory (code.recorded p) (record m { work = core.Filling 0; engine = core.Recorded })
shows_recorded s = record {
  head = s.head;
  valid = s.valid;
  places = s.places;
  clients = s.clients;
  next = s.next;
  turn = s.turn;
  noted = s.noted;
  count = s.count;
  owner = s.owner;
  room = s.room;
  work = refl;
  met = s.met;
  engine = refl;
  ahead = s.ahead;
  rounds = s.rounds;
}

pub shows_scan : {p : CodeMemory} {m : Memory} → ShowsMemory p m → ShowsMemory (code.begins_scan p) (record m { work = core.Scanning 0 core.AtNumber []; engine = core.Resting })
shows_scan s = record {
  head = s.head;
  valid = s.valid;
  places = s.places;
  clients = s.clients;
  next = s.next;
  turn = s.turn;
  noted = s.noted;
  count = s.count;
  owner = s.owner;
  room = s.room;
  work = refl;
  met = omega arith;
  engine = refl;
  ahead = s.ahead;
  rounds = s.rounds;
}

pub ends_call : {old : CodeWorld} {w : World} {memory : CodeMemory} {calls : Calls} (c side : ℕ) → ShowsWorld old w → w.memory.owner ≡ core.Held c side → c < clients_of w.memory → w.memory.work ≡ core.Calling → old.calls.going ≡ true → length old.calls.plan.items ≤ old.calls.made → memory ≡ code.recorded old.memory → calls ≡ record (old.calls) { going = false } → GoesOnUnseen w (record old { memory = memory; calls = calls })
ends_call {old} {w} c side s holds there at going past memory_is calls_is =
    let m = w.memory in
    let ended = has_ended s.device going past in
    record {
      middle = record { memory = record m { work = core.Filling 0; engine = core.Recorded }; tale = w.tale; progress = NoCall };
      before = silently (λ now. not_ready w core.Calling at ended now tt) (ends_calls (record { client = c; there = there; next = record m { work = core.Filling 0; engine = core.Recorded }; move = record { side = side; holds = holds; at = at; is = refl }; entry = ended.entry; made = ended.made; at = ended.at; is = refl })) tt;
      shows = record {
        memory = subst (λ (q : CodeMemory). ShowsMemory q (record m { work = core.Filling 0; engine = core.Recorded })) (sym memory_is) (shows_recorded s.memory);
        device = subst (λ (q : Calls). ShowsDevice q old.device w.tale NoCall) (sym calls_is) (ended_device s.device);
        head = s.head;
      };
      owner = refl;
      clients = refl;
      due = λ due. absurd (not_due w core.Calling at ended due tt);
      ready = tt;
    }

pub ends_settling : {old : CodeWorld} {w : World} {memory : CodeMemory} {calls : Calls} (c side : ℕ) → ShowsWorld old w → w.memory.owner ≡ core.Held c side → c < clients_of w.memory → w.memory.work ≡ core.Settling → old.calls.going ≡ true → length old.calls.plan.items ≤ old.calls.made → memory ≡ code.settled old.memory → calls ≡ record (old.calls) { going = false } → GoesOnUnseen w (record old { memory = memory; calls = calls })
ends_settling {old} {w} {memory} {calls} c side s holds there at going past memory_is calls_is = go w.memory.ahead refl
  where
    ended : HasEnded w.progress
    ended = has_ended s.device going past

    shows : (next : Memory) → header_for next.start ≡ old.head → ShowsMemory memory next → ShowsWorld (record old { memory = memory; calls = calls }) (record { memory = next; tale = w.tale; progress = NoCall })
    shows next head m = record {
      memory = m;
      device = subst (λ (q : Calls). ShowsDevice q old.device w.tale NoCall) (sym calls_is) (ended_device s.device);
      head = head;
    }

    settled_is : (a : Option Round) → w.memory.ahead ≡ a → memory ≡ code.settled_by (side_ahead a) old.memory
    settled_is a is = memory_is ∙ ap (λ (b : Option ℕ). code.settled_by b old.memory) (sym s.memory.ahead ∙ ap side_ahead is)

    go : (a : Option Round) → w.memory.ahead ≡ a → GoesOnUnseen w (record old { memory = memory; calls = calls })
    go None is = record {
      middle = record { memory = record (w.memory) { work = core.Scanning 0 core.AtNumber []; engine = core.Resting }; tale = w.tale; progress = NoCall };
      before = silently (λ now. not_ready w core.Settling at ended now tt) (ends_settling_none (record { client = c; there = there; next = record (w.memory) { work = core.Scanning 0 core.AtNumber []; engine = core.Resting }; move = record { side = side; holds = holds; at = at; none = is; is = refl }; entry = ended.entry; made = ended.made; at = ended.at; is = refl })) tt;
      shows = shows (record (w.memory) { work = core.Scanning 0 core.AtNumber []; engine = core.Resting }) s.head
          (subst (λ (q : CodeMemory). ShowsMemory q (record (w.memory) { work = core.Scanning 0 core.AtNumber []; engine = core.Resting })) (sym (settled_is None is)) (shows_scan s.memory));
      owner = refl;
      clients = refl;
      due = λ due. absurd (not_due w core.Settling at ended due tt);
      ready = omega (arith, there);
    }
    go (Some round) is = record {
      middle = record { memory = record (w.memory) { work = core.Filling 0; engine = core.Recorded }; tale = w.tale; progress = NoCall };
      before = silently (λ now. not_ready w core.Settling at ended now tt) (ends_settling_round (record { client = c; there = there; next = record (w.memory) { work = core.Filling 0; engine = core.Recorded }; move = record { side = side; holds = holds; round = round; at = at; some = is; is = refl }; entry = ended.entry; made = ended.made; at = ended.at; is = refl })) tt;
      shows = shows (record (w.memory) { work = core.Filling 0; engine = core.Recorded }) s.head
          (subst (λ (q : CodeMemory). ShowsMemory q (record (w.memory) { work = core.Filling 0; engine = core.Recorded })) (sym (settled_is (Some round) is)) (shows_recorded s.memory));
      owner = refl;
      clients = refl;
      due = λ due. absurd (not_due w core.Settling at ended due tt);
      ready = tt;
    }

-- the calls of a round are being made where the holder is at them
pub calls_going : {old : CodeWorld} {w : World} (c side : ℕ) → IsWorld w → ShowsWorld old w → w.memory.owner ≡ core.Held c side → w.memory.work ≡ core.Calling → old.calls.going ≡ false → ⊥
calls_going {old} {w} c side is s holds at idle =
    fits_in w core.Writing NoCall (no_call s.device idle) (work_suits core.Calling is.memory_is holds at).0 is
