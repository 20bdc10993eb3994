-- The steps of the holder.
use Rattle.std.proofs.Common.{◌≡◌, ◌≢◌, ℕ, ◌<◌, Bool, true, false, List, [], ◌∷◌, ◌++◌, ap, subst, sym, refl, ◌∙◌, inl, inr, arith}
use Rattle.std.proofs.lemmas.Bool.{false≢true}
use Rattle.pb_object.specs.declared.request.Ask.{Ask}
use Rattle.pb_crash.specs.declared.leaves.Leaves.{Leaves}
use Rattle.pb_pmem.specs.declared.log.LogOp.{LogOp}
use Rattle.pb_pmem.specs.Device.{with_op}
use Rattle.pb_layout.specs.Represents.{header_for}
use Rattle.pb_events.specs.declared.event.Event.TheVariants.{Step, Fail}
use Rattle.pb_events.specs.declared.event.Stepped.{Stepped}
use Rattle.pb_events.specs.declared.event.Stepped.TheVariants.{Went}
use Rattle.pb_core.specs.DeviceParts.{IsWorld}
use Rattle.pb_core.specs.Memory as core
use Rattle.pb_core.specs.Memory.{Memory, Owner, Work, clients_of, shown, side_of_operation}
use Rattle.pb_core.specs.MemoryParts.{IsMemory, HasPart}
use Rattle.pb_core.specs.Client.{is_holding}
use Rattle.pb_core.specs.Possible.{MayStep, IsCallDue}
use Rattle.pb_core.specs.WordMoves.{IsNotReopening}
use Rattle.pb_core.specs.World.{CallProgress, InCall, World}
use Rattle.pb_core.proofs.Scans.{the_scan}
use Rattle.pb_core.proofs.Turns.{work_suits}
use Rattle.pb_core.proofs.Worlds.{fits_in}
use Rattle.pb_play.specs.declared.memory.Memory.{Memory as CodeMemory}
use Rattle.pb_play.specs.declared.world.World.{World as CodeWorld}
use Rattle.pb_play.specs.Steps.{StepsTo, MakesWordStep, StepsWaiting}
use Rattle.pb_play.specs.Worlds.{ShowsWorld, IsDue, GoesOnUnseen, MovesTo, HasStepped, CallsNext}
use Rattle.pb_core.specs.Play.{IsReadyForStep, IsNextSeen, IsCalling, at_once}
use Rattle.pb_core.proofs.Plays.{keeps_before, comes_as}
use Rattle.pb_play.proofs.Fitting.{world_fits}
use Rattle.pb_play.proofs.Starts.{start_stays}

-- A step on a word is one of the world's

pub word_moved : {old : CodeWorld} {w : World} {memory : CodeMemory} {answer : Stepped} (c : ℕ) → ShowsWorld old w → StepsTo w.memory c memory answer → MovesTo w (Step c) (record old { memory = memory }) answer
word_moved {old} {w} c s to = record {
  next = record w { memory = to.next };
  move = inl (record { next = to.next; move = to.step; is = refl });
  shows = record { memory = to.shows; device = s.device; head = ap header_for (start_stays to.step.move) ∙ s.head };
}

pub word_moves : {old : CodeWorld} {w : World} {memory : CodeMemory} {answer : Stepped} (c : ℕ) → IsWorld w → ShowsWorld old w → IsNotReopening w.memory.owner → c < clients_of w.memory → MakesWordStep old.memory c memory answer → MovesTo w (Step c) (record old { memory = memory }) answer
word_moves {old} {w} {memory} {answer} c is s running there steps =
    word_moved {old = old} c s (steps w.memory s.memory is.memory_is (world_fits is) running there)

-- .. and so is one of a client that waits
-- nothing that nobody sees is due before a step of a client that doesn't hold the turn
others_at_once : (owner : Owner) (work : core.Work) (clients : ℕ) (progress : CallProgress) (c : ℕ) → IsNotReopening owner → ((side : ℕ) → owner ≢ core.Held c side) → IsNextSeen owner work clients progress c
others_at_once core.Free work clients progress c running never = tt
others_at_once (core.Held d side) work clients progress c running never = λ same. absurd (never side (ap (λ (e : ℕ). core.Held e side) same))
others_at_once core.Closed work clients progress c running never = running

pub waits_step : {old : CodeWorld} {w : World} {memory : CodeMemory} {answer : Stepped} (c : ℕ) → IsWorld w → ShowsWorld old w → MayStep w c → ((side : ℕ) → w.memory.owner ≢ core.Held c side) → StepsWaiting old.memory c memory answer → HasStepped w (Step c) (record old { memory = memory }) answer
waits_step {old} {w} {memory} {answer} c is s may never steps =
    let to : StepsTo w.memory c memory answer = steps w.memory s.memory is.memory_is (world_fits is) running may.there may.busy (waits (is_holding (w.memory.book c).stage) refl) in
    let moved = word_moved {old = old} c s to in
    record { next = moved.next; step = record { middle = w; before = at_once (others_at_once w.memory.owner w.memory.work (clients_of w.memory) w.progress c running never) refl; move = moved.move }; shows = moved.shows }
  where
    runs : (owner : Owner) → w.memory.owner ≡ owner → IsNotReopening owner
    runs core.Free at = tt
    runs (core.Held d side) at = tt
    runs core.Closed at = absurd (false≢true (sym may.busy ∙ (is.memory_is.clients c may.there).rests at))

    running : IsNotReopening w.memory.owner
    running = runs w.memory.owner refl

    waits : (b : Bool) → is_holding (w.memory.book c).stage ≡ b → b ≡ false
    waits false at = refl
    waits true at = absurd (never (side_of_operation (w.memory.book c).ask.op) ((is.memory_is.clients c may.there).holding at))

pub holder_runs : {owner : Owner} (c side : ℕ) → owner ≡ core.Held c side → IsNotReopening owner
holder_runs c side holds = subst IsNotReopening (sym holds) tt

-- .. and so is a call of the device
pub call_moves : {new : CodeWorld} {w : World} {answer : Stepped} (c side : ℕ) → w.memory.owner ≡ core.Held c side → c < clients_of w.memory → IsCalling w.memory.work → (answer ≡ Went) × CallsNext w new → MovesTo w (Step c) new answer
call_moves {new} {w} c side holds there calling called =
    let next = called.1 in
    record {
      next = record w { tale = with_op next.op w.tale; progress = InCall next.entry (next.made ++ next.op ∷ []) next.left };
      move = inr (calling, record { there = there; side = side; holds = holds; entry = next.entry; made = next.made; op = next.op; left = next.left; at = next.at; is = refl; says = called.0 });
      shows = next.shows;
    }

-- what is ready where the calls are due
pub ready_at : (w : World) (work : Work) → w.memory.work ≡ work → IsReadyForStep w.memory.work (clients_of w.memory) w.progress → IsReadyForStep work (clients_of w.memory) w.progress
ready_at w work at ready = subst (λ (x : Work). IsReadyForStep x (clients_of w.memory) w.progress) at ready

-- A step after moves that nobody sees

-- the holder's next step is the one that what it is at is ready for
holder_seen : (w : World) (c side : ℕ) → w.memory.owner ≡ core.Held c side → IsReadyForStep w.memory.work (clients_of w.memory) w.progress → IsNextSeen w.memory.owner w.memory.work (clients_of w.memory) w.progress c
holder_seen w c side holds ready =
    subst (λ (o : Owner). IsNextSeen o w.memory.work (clients_of w.memory) w.progress c) (sym holds) (λ _. ready)

holder_ready : (w : World) (c side : ℕ) → w.memory.owner ≡ core.Held c side → IsNextSeen w.memory.owner w.memory.work (clients_of w.memory) w.progress c → IsReadyForStep w.memory.work (clients_of w.memory) w.progress
holder_ready w c side holds seen =
    (subst (λ (o : Owner). IsNextSeen o w.memory.work (clients_of w.memory) w.progress c) holds seen) refl

pub steps_on : {between new : CodeWorld} {w : World} {answer : Stepped} (c side : ℕ) → IsWorld w → w.memory.owner ≡ core.Held c side → c < clients_of w.memory → (on : GoesOnUnseen w between) → ((v : World) → IsWorld v → ShowsWorld between v → c < clients_of v.memory → IsReadyForStep v.memory.work (clients_of v.memory) v.progress → MovesTo v (Step c) new answer) → HasStepped w (Step c) new answer
steps_on {between} {new} {w} {answer} c side is holds there on moves =
    let moved : MovesTo on.middle (Step c) new answer = moves on.middle (keeps_before is on.before) on.shows (omega (arith, there, on.clients)) on.ready in
    record {
      next = moved.next;
      step = record { middle = on.middle; before = comes_as (holder_seen w c side holds) (holder_ready w c side holds) on.before; move = moved.move };
      shows = moved.shows;
    }

-- Where the scan stands

abbrev pub IsWithin : core.Part → Type 0
IsWithin core.AtNumber = ⊥
IsWithin (core.AtCode number) = Unit {0}
IsWithin (core.AtFirst number code) = Unit {0}
IsWithin (core.AtSecond number code a) = Unit {0}
IsWithin (core.AtThird number code a b) = Unit {0}

part_there : (m : Memory) (d : ℕ) (part : core.Part) → IsWithin part → HasPart (shown m) m.start.clients (m.requests d) d part → d < clients_of m
part_there m d core.AtNumber inside has = absurd inside
part_there m d (core.AtCode number) inside has = has.0
part_there m d (core.AtFirst number code) inside has = has.0
part_there m d (core.AtSecond number code a) inside has = has.0
part_there m d (core.AtThird number code a b) inside has = has.0

pub part_ready : {m : Memory} (c side d : ℕ) (part : core.Part) (seen : List Ask) → IsMemory m → m.owner ≡ core.Held c side → m.work ≡ core.Scanning d part seen → IsWithin part → d < clients_of m
part_ready {m} c side d part seen sound holds at inside = part_there m d part inside (the_scan d part seen sound holds at).part_is

pub client_ready : {m : Memory} (c side d : ℕ) (part : core.Part) (seen : List Ask) → IsMemory m → m.owner ≡ core.Held c side → m.work ≡ core.Scanning d part seen → d ≢ clients_of m → d < clients_of m
client_ready c side d part seen sound holds at other = omega (arith, (the_scan d part seen sound holds at).within, other)

-- while it scans no call is being made
pub scan_idle : {w : World} (c side d : ℕ) (part : core.Part) (seen : List Ask) {entry made left : List LogOp} → IsWorld w → w.memory.owner ≡ core.Held c side → w.memory.work ≡ core.Scanning d part seen → w.progress ≡ InCall entry made left → ⊥
scan_idle {w} c side d part seen {entry} {made} {left} is holds at going =
    fits_in w core.Resting (InCall entry made left) going (work_suits (core.Scanning d part seen) is.memory_is holds at).0 is

-- A call that fails, after moves that nobody sees
pub fails_on : {between new : CodeWorld} {w : World} {answer : Stepped} (c side : ℕ) (how : Leaves) → IsWorld w → w.memory.owner ≡ core.Held c side → c < clients_of w.memory → (on : GoesOnUnseen w between) → IsCallDue w.memory.work w.progress (clients_of w.memory) → ((v : World) → IsWorld v → ShowsWorld between v → c < clients_of v.memory → IsDue v → MovesTo v (Fail c how) new answer) → HasStepped w (Fail c how) new answer
fails_on {between} {new} {w} {answer} c side how is holds there on due moves =
    let moved : MovesTo on.middle (Fail c how) new answer = moves on.middle (keeps_before is on.before) on.shows (omega (arith, there, on.clients)) (on.due due) in
    record {
      next = moved.next;
      step = record { middle = on.middle; before = comes_as (holder_seen w c side holds) (holder_ready w c side holds) on.before; move = moved.move };
      shows = moved.shows;
    }
