-- A call of the device fails.
use Rattle.std.proofs.Common.{◌≡◌, ℕ, ◌-◌, ◌<◌, ◌≤◌, ◌⊎◌, List, [], ◌∷◌, ◌++◌, length, None, ap, subst, sym, refl, ◌∙◌, inl, inr, arith, length-append}
use Rattle.pb_crash.specs.declared.leaves.Leaves.{Leaves}
use Rattle.pb_pmem.specs.declared.log.LogOp.{LogOp}
use Rattle.pb_pmem.specs.Device.{Tale}
use Rattle.pb_pmem.specs.Count.{Rose}
use Rattle.pb_object.specs.History.{state_after}
use Rattle.pb_object.specs.Standing.{Standing}
use Rattle.pb_events.specs.declared.event.Event.TheVariants.{Fail}
use Rattle.pb_events.specs.declared.event.Stepped.TheVariants.{Went}
use Rattle.pb_core.specs.DeviceParts.{IsWorld, IsWriting, opened_state}
use Rattle.pb_core.specs.Memory as core
use Rattle.pb_core.specs.Memory.{Memory, clients_of, shown}
use Rattle.pb_core.specs.World.{CallProgress, NoCall, InCall, World}
use Rattle.pb_core.specs.WorldMoves.{failed, last_calls}
use Rattle.pb_core.proofs.Devices.{first_calls, plan_cut}
use Rattle.pb_core.proofs.Lists.{IsBefore, two_cuts}
use Rattle.pb_core.proofs.Turns.{work_suits}
use Rattle.pb_core.proofs.Worlds.{fits_in, shown_is}
use Rattle.pb_play.specs.declared.calls.Calls.{Calls}
use Rattle.pb_play.specs.declared.device.Device.{Device}
use Rattle.pb_play.specs.declared.memory.Memory.{Memory as CodeMemory}
use Rattle.pb_play.specs.declared.world.World.{World as CodeWorld}
use Rattle.pb_play.specs.Device.{ShowsDevice, FailsCall}
use Rattle.pb_core.specs.Play.{IsCallable}
use Rattle.pb_round_play.specs.Counts as round_counts
use Rattle.pb_play.specs.Seats as code
use Rattle.pb_play.specs.Shown.{ShowsMemory}
use Rattle.pb_play.specs.Worlds.{ShowsWorld, MovesTo}
use Rattle.pb_play.proofs.Devices.{due_reached, callable_going}

-- what is in doubt stays so
shows_failed : {p : CodeMemory} {m : Memory} → ShowsMemory p m → ShowsMemory (code.fails p) (record m { count = round_counts.counted p.count; work = core.Noting m.count (round_counts.counted p.count); engine = core.Doubtful })
shows_failed {p} {m} s = record {
  head = s.head;
  valid = s.valid;
  places = s.places;
  clients = s.clients;
  next = s.next;
  turn = s.turn;
  noted = s.noted;
  count = refl;
  owner = s.owner;
  room = s.room;
  work = ap (λ (from : ℕ). core.Noting from (round_counts.counted p.count)) s.count;
  met = s.met;
  engine = refl;
  ahead = s.ahead;
  rounds = s.rounds;
}

-- the round is dropped
shows_dropped : {p : CodeMemory} {m : Memory} → ShowsMemory p m → ShowsMemory (code.fails (code.drops p)) (record m { count = round_counts.counted p.count; work = core.Noting m.count (round_counts.counted p.count); ahead = None; engine = core.Doubtful })
shows_dropped {p} {m} s = record {
  head = s.head;
  valid = s.valid;
  places = s.places;
  clients = s.clients;
  next = tt;
  turn = s.turn;
  noted = s.noted;
  count = refl;
  owner = s.owner;
  room = s.room;
  work = ap (λ (from : ℕ). core.Noting from (round_counts.counted p.count)) s.count;
  met = s.met;
  engine = refl;
  ahead = refl;
  rounds = s.rounds;
}

pub fails_to_settle : {old : CodeWorld} {w : World} {memory : CodeMemory} {calls : Calls} {device : Device} (c side : ℕ) (how : Leaves) → IsWorld w → ShowsWorld old w → w.memory.owner ≡ core.Held c side → c < clients_of w.memory → w.memory.work ≡ core.Settling → Rose old.memory.count (round_counts.counted old.memory.count) → memory ≡ code.fails old.memory → FailsCall how w.tale w.progress calls device → MovesTo w (Fail c how) (record old { memory = memory; calls = calls; device = device }) Went
fails_to_settle {old} {w} {memory} c side how is s holds there at rose memory_is fails =
    let m = w.memory in
    let next : Memory = record m { count = round_counts.counted old.memory.count; work = core.Noting m.count (round_counts.counted old.memory.count) } in
    record {
      next = record { memory = next; tale = failed how fails.op w.tale; progress = NoCall };
      move = (ap round_counts.counted (sym s.memory.count), inl (record { there = there; next = next; move = record { side = side; holds = holds; to = round_counts.counted old.memory.count; at = at; rose = subst (λ (n : ℕ). Rose n (round_counts.counted old.memory.count)) (sym s.memory.count) rose; is = refl }; entry = fails.entry; made = fails.made; op = fails.op; left = fails.left; at = fails.at; is = refl; says = refl }));
      shows = record {
        memory = subst (λ (q : CodeMemory). ShowsMemory q next) (sym memory_is) (subst (λ (e : core.Engine). ShowsMemory (code.fails old.memory) (record next { engine = e })) (sym (work_suits core.Settling is.memory_is holds at)) (shows_failed s.memory));
        device = fails.shows;
        head = s.head;
      };
    }

-- A call of a round

-- the round is dropped where more calls than the last ones were left, and in doubt where not
pub fails_to_write : {old : CodeWorld} {w : World} {memory : CodeMemory} {calls : Calls} {device : Device} (c side : ℕ) (how : Leaves) → IsWorld w → ShowsWorld old w → w.memory.owner ≡ core.Held c side → c < clients_of w.memory → w.memory.work ≡ core.Calling → Rose old.memory.count (round_counts.counted old.memory.count)
    → (fails : FailsCall how w.tale w.progress calls device)
    → (3 < length (fails.op ∷ fails.left) → memory ≡ code.fails (code.drops old.memory))
    → (length (fails.op ∷ fails.left) ≤ 3 → memory ≡ code.fails old.memory)
    → MovesTo w (Fail c how) (record old { memory = memory; calls = calls; device = device }) Went
fails_to_write {old} {w} {memory} {calls} {device} c side how is s holds there at rose fails many few =
    go (two_cuts fails.made (fails.op ∷ fails.left) (first_calls writing.planned) last (plan_cut writing.planned))
  where
    m : Memory
    m = w.memory

    writing : IsWriting w.tale (opened_state m) m.published m.ahead fails.entry fails.made (fails.op ∷ fails.left)
    writing = fits_in w core.Writing (InCall fails.entry fails.made (fails.op ∷ fails.left)) fails.at (work_suits core.Calling is.memory_is holds at).0 is

    last : List LogOp
    last = last_calls (state_after (opened_state m) m.published) writing.round

    as_shown : last ≡ last_calls (shown m) writing.round
    as_shown = ap (λ (t : Standing). last_calls t writing.round) (sym (shown_is m))

    to : ℕ
    to = round_counts.counted old.memory.count

    risen : Rose m.count to
    risen = subst (λ (n : ℕ). Rose n to) (sym s.memory.count) rose

    dropped : Memory
    dropped = record m { count = to; work = core.Noting m.count to; ahead = None; engine = core.Doubtful }

    doubted : Memory
    doubted = record m { count = to; work = core.Noting m.count to; engine = core.Doubtful }

    Result : Type 0
    Result = MovesTo w (Fail c how) (record old { memory = memory; calls = calls; device = device }) Went

    stages : (more : List LogOp) → fails.left ≡ more ++ last → Result
    stages more rest = record {
      next = record { memory = dropped; tale = failed how fails.op w.tale; progress = NoCall };
      move = (
        ap round_counts.counted (sym s.memory.count),
        inr (inl (record {
          there = there;
          next = dropped;
          move = record { side = side; holds = holds; to = to; at = at; rose = risen; is = refl };
          round = writing.round;
          ahead = writing.ahead_is;
          entry = fails.entry;
          made = fails.made;
          op = fails.op;
          more = more;
          at = fails.at ∙ ap (λ (l : List LogOp). InCall fails.entry fails.made (fails.op ∷ l)) (rest ∙ ap (λ (l : List LogOp). more ++ l) as_shown);
          is = refl;
          says = refl;
        })),
      );
      shows = record {
        memory = subst (λ (q : CodeMemory). ShowsMemory q dropped) (sym (many (omega (arith, ap length rest, length-append more last)))) (shows_dropped s.memory);
        device = fails.shows;
        head = s.head;
      };
    }

    commits : (before : List LogOp) → last ≡ before ++ fails.op ∷ fails.left → Result
    commits before whole = record {
      next = record { memory = doubted; tale = failed how fails.op w.tale; progress = NoCall };
      move = (
        ap round_counts.counted (sym s.memory.count),
        inr (inr (record {
          there = there;
          next = doubted;
          move = record { side = side; holds = holds; to = to; at = at; rose = risen; is = refl };
          round = writing.round;
          ahead = writing.ahead_is;
          entry = fails.entry;
          made = fails.made;
          op = fails.op;
          left = fails.left;
          at = fails.at;
          before = before;
          last = sym as_shown ∙ whole;
          is = refl;
          says = refl;
        })),
      );
      shows = record {
        memory = subst (λ (q : CodeMemory). ShowsMemory q doubted) (sym (few (omega (arith, ap length whole, length-append before (fails.op ∷ fails.left))))) (shows_failed s.memory);
        device = fails.shows;
        head = s.head;
      };
    }

    before_last : (more : List LogOp) → fails.op ∷ fails.left ≡ more ++ last → Result
    before_last [] rest = commits [] (sym rest)
    before_last (first ∷ more) rest = stages more (cc)

    go : IsBefore fails.made (fails.op ∷ fails.left) (first_calls writing.planned) last ⊎ IsBefore (first_calls writing.planned) last fails.made (fails.op ∷ fails.left) → Result
    go (inl cut) = before_last cut.more cut.rest
    go (inr cut) = commits cut.more cut.rest

-- so many calls are left
pub how_many : {calls : Calls} {device : Device} {tale : Tale} {progress : CallProgress} {entry made left : List LogOp} {op : LogOp} → ShowsDevice calls device tale progress → progress ≡ InCall entry made (op ∷ left) → IsCallable progress → length calls.plan.items - calls.made ≡ length (op ∷ left)
how_many {made = made} {left = left} {op = op} s at due =
    let reached = due_reached s at (callable_going s due) in
    omega (arith, reached.count, ap length reached.all, length-append made (op ∷ left))
