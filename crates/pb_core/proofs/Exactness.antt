-- Where events are possible alone.
use Rattle.std.proofs.Common.{◌≡◌, ℕ, zero, suc, ◌+◌, ◌<◌, ◌≤◌, true, false, List, [], ◌∷◌, ◌++◌, ap, subst, sym, refl, ◌∙◌, inl, inr}
use Rattle.std.proofs.lemmas.Bool.{false≢true}
use Rattle.pb_crash.specs.declared.leaves.Leaves.{Leaves}
use Rattle.pb_pmem.specs.declared.log.LogOp.{LogOp}
use Rattle.pb_pmem.specs.Crash.{least_cut, greatest_cut}
use Rattle.pb_pmem.specs.Device.{Tale, with_op}
use Rattle.pb_object.specs.declared.request.Ask.{Ask}
use Rattle.pb_object.specs.History.{state_after}
use Rattle.pb_object.specs.Request.{IsOperation}
use Rattle.pb_object.specs.Standing.{Standing, newest}
use Rattle.pb_layout.specs.RegionOps.{settle_to}
use Rattle.pb_layout.specs.Represents.{header_for}
use Rattle.pb_events.specs.declared.event.Event.TheVariants.{Ask as AskEvent, Step, Crash, Reopen, ReopenFail}
use Rattle.pb_events.specs.declared.event.Stepped.{Stepped}
use Rattle.pb_events.specs.declared.event.Stepped.TheVariants.{Went}
use Rattle.pb_core.specs.Client.{Stage, Idle, Storing, Looking, LoadsNumber, LoadsCode, LoadsValue, LoadsExtra, Confirming, Lacking, Taking, Holding, is_idle, Client}
use Rattle.pb_core.specs.DeviceParts.{IsSteady, IsUnsettled, opened_state, IsWorld}
use Rattle.pb_core.specs.Memory.{Owner, Free, Held, Closed, Resting, Doubtful, Memory, clients_of}
use Rattle.pb_core.specs.MemoryParts.{IsMemory}
use Rattle.pb_core.specs.Possible.{IsOpening, IsReopening, IsPossible, MayAsk, MayStep, MayCrash, IsExact}
use Rattle.pb_core.specs.WordMoves.{IsNotReopening, asks, Asks, WordMove, storing, announcing, looking, matching, lacking_held, lacking_free, loading_code, loading_value, loading_extra, confirming, finding_new, finding_held, taking_sure, taking_unsure, missing, passing_over, meeting, scanning_code, scanning_first, scanning_second, scanning_own, scanning_other, filling, publishing_own, publishing_others, noting, giving_up}
use Rattle.pb_core.specs.World.{CallProgress, NoCall, InCall, World}
use Rattle.pb_core.specs.WorldMoves.{Silent, begins_calls, ends_calls, begins_settling, ends_settling_none, ends_settling_round, opens, Silents, failed, Moves}
use Rattle.pb_core.proofs.Devices.{steady_holds}
use Rattle.pb_core.proofs.Failing.{may_fail, can_fail}
use Rattle.pb_core.proofs.Possible.{can_step}
use Rattle.pb_core.proofs.Runs.{can_crash}
use Rattle.pb_core.proofs.Turns.{the_holder}
use Rattle.pb_core.proofs.Worlds.{keeps-silents, fits_in, closed_suits}

-- Moves that nobody sees

-- they leave the clients and the device as they are
record IsSameTo (old new : World) : Type 0 where
  clients : new.memory.start ≡ old.memory.start
  book : new.memory.book ≡ old.memory.book
  tale : new.tale ≡ old.tale

same_book : {old new : World} (next : Memory) (progress : CallProgress) → new ≡ record { memory = next; tale = old.tale; progress = progress } → next.start ≡ old.memory.start → next.book ≡ old.memory.book → IsSameTo old new
same_book next progress is start book = record {
  clients = ap (λ (w : World). w.memory.start) is ∙ start;
  book = ap (λ (w : World). w.memory.book) is ∙ book;
  tale = ap (λ (w : World). w.tale) is;
}

same-silent : {old new : World} → Silent old new → IsSameTo old new
same-silent (begins_calls step) =
    same_book step.next _ step.is (ap (λ (m : Memory). m.start) step.move.is) (ap (λ (m : Memory). m.book) step.move.is)
same-silent (ends_calls step) =
    same_book step.next _ step.is (ap (λ (m : Memory). m.start) step.move.is) (ap (λ (m : Memory). m.book) step.move.is)
same-silent {old} (begins_settling step) = same_book old.memory _ step.is refl refl
same-silent (ends_settling_none step) =
    same_book step.next _ step.is (ap (λ (m : Memory). m.start) step.move.is) (ap (λ (m : Memory). m.book) step.move.is)
same-silent (ends_settling_round step) =
    same_book step.next _ step.is (ap (λ (m : Memory). m.start) step.move.is) (ap (λ (m : Memory). m.book) step.move.is)
same-silent {old} (opens step) = same_book (record (old.memory) { owner = Free; engine = Resting }) _ step.is refl refl

same-silents : (count : ℕ) (old new : World) → Silents count old new → IsSameTo old new
same-silents zero old new same =
    record { clients = ap (λ (w : World). w.memory.start) same; book = ap (λ (w : World). w.memory.book) same; tale = ap (λ (w : World). w.tale) same }
same-silents (suc count) old new (middle, first, more) =
    let one = same-silent first in
    let rest = same-silents count middle new more in
    record { clients = rest.clients ∙ one.clients; book = rest.book ∙ one.book; tale = rest.tale ∙ one.tale }

-- while somebody holds the turn the region isn't being opened
held_open : (w : World) {c side : ℕ} → w.memory.owner ≡ Held c side → ¬ IsReopening w
held_open w holds opening = subst (λ (o : Owner). IsOpening o w.progress) holds opening

running_open : (w : World) → IsNotReopening w.memory.owner → ¬ IsReopening w
running_open w running opening = go w.memory.owner running opening
  where
    go : (owner : Owner) → IsNotReopening owner → IsOpening owner w.progress → ⊥
    go Free running opening = opening
    go (Held c side) running opening = opening
    go Closed running opening = running

-- there are none while the region is being opened, ..
silent_open : {old new : World} → Silent old new → ¬ IsReopening old
silent_open {old} (begins_calls step) = held_open old step.move.holds
silent_open {old} (ends_calls step) = held_open old step.move.holds
silent_open {old} (begins_settling step) = held_open old step.holds
silent_open {old} (ends_settling_none step) = held_open old step.move.holds
silent_open {old} (ends_settling_round step) = held_open old step.move.holds
silent_open {old} (opens step) =
    λ opening. subst (λ (p : CallProgress). IsOpening Closed p) step.at (subst (λ (o : Owner). IsOpening o old.progress) step.closed opening)

-- .. and after one it isn't closed
held_not_closed : (m next : Memory) {c side : ℕ} → next.owner ≡ m.owner → m.owner ≡ Held c side → ¬ (next.owner ≡ Closed)
held_not_closed m next same holds closed = cc

silent_not_closed : {old new : World} → Silent old new → ¬ (new.memory.owner ≡ Closed)
silent_not_closed {old} {new} (begins_calls step) closed =
    held_not_closed old.memory new.memory (ap (λ (w : World). w.memory.owner) step.is ∙ ap (λ (m : Memory). m.owner) step.move.is) step.move.holds closed
silent_not_closed {old} {new} (ends_calls step) closed =
    held_not_closed old.memory new.memory (ap (λ (w : World). w.memory.owner) step.is ∙ ap (λ (m : Memory). m.owner) step.move.is) step.move.holds closed
silent_not_closed {old} {new} (begins_settling step) closed =
    held_not_closed old.memory new.memory (ap (λ (w : World). w.memory.owner) step.is) step.holds closed
silent_not_closed {old} {new} (ends_settling_none step) closed =
    held_not_closed old.memory new.memory (ap (λ (w : World). w.memory.owner) step.is ∙ ap (λ (m : Memory). m.owner) step.move.is) step.move.holds closed
silent_not_closed {old} {new} (ends_settling_round step) closed =
    held_not_closed old.memory new.memory (ap (λ (w : World). w.memory.owner) step.is ∙ ap (λ (m : Memory). m.owner) step.move.is) step.move.holds closed
silent_not_closed (opens step) closed =
    let free : Free ≡ Closed = sym (ap (λ (w : World). w.memory.owner) step.is) ∙ closed in
    absurd (cc)

silents_not_closed : (count : ℕ) (old new : World) → Silents (suc count) old new → ¬ (new.memory.owner ≡ Closed)
silents_not_closed zero old new (middle, first, same) closed =
    silent_not_closed first (ap (λ (w : World). w.memory.owner) (sym same) ∙ closed)
silents_not_closed (suc count) old new (middle, first, more) closed = silents_not_closed count middle new more closed

-- where the region isn't being opened after them, it wasn't before
silents_open : (count : ℕ) (old new : World) → Silents count old new → ¬ IsReopening new → ¬ IsReopening old
silents_open zero old new same open_now = subst (λ (w : World). ¬ IsReopening w) same open_now
silents_open (suc count) old new (middle, first, more) open_now = silent_open first

-- Steps

idle_is : (stage : Stage) → is_idle stage ≡ true → stage ≡ Idle
idle_is Idle e = refl
idle_is (Storing count) e = absurd (false≢true e)
idle_is Looking e = absurd (false≢true e)
idle_is (LoadsNumber turn) e = absurd (false≢true e)
idle_is (LoadsCode turn) e = absurd (false≢true e)
idle_is (LoadsValue turn code) e = absurd (false≢true e)
idle_is (LoadsExtra turn code value) e = absurd (false≢true e)
idle_is (Confirming turn reply) e = absurd (false≢true e)
idle_is (Lacking turn found) e = absurd (false≢true e)
idle_is (Taking turn found) e = absurd (false≢true e)
idle_is Holding e = absurd (false≢true e)

-- the holder isn't idle
holder_busy : {m : Memory} {c side : ℕ} → IsMemory m → c < m.start.clients → m.owner ≡ Held c side → is_idle (m.book c).stage ≡ false
holder_busy {m} {c} {side} is there holds = ap is_idle (the_holder side (is.clients c there) holds).stage

busy-word : {old new : Memory} {c : ℕ} {answer : Stepped} → IsMemory old → c < old.start.clients → WordMove old c new answer → is_idle (old.book c).stage ≡ false
busy-word is there (storing move) = ap is_idle move.at
busy-word is there (announcing move) = ap is_idle move.at
busy-word is there (looking move) = ap is_idle move.at
busy-word is there (matching move) = ap is_idle move.at
busy-word is there (lacking_held move) = ap is_idle move.at
busy-word is there (lacking_free move) = ap is_idle move.at
busy-word is there (loading_code move) = ap is_idle move.at
busy-word is there (loading_value move) = ap is_idle move.at
busy-word is there (loading_extra move) = ap is_idle move.at
busy-word is there (confirming move) = ap is_idle move.at
busy-word is there (finding_new move) = ap is_idle move.at
busy-word is there (finding_held move) = ap is_idle move.at
busy-word is there (taking_sure move) = ap is_idle move.at
busy-word is there (taking_unsure move) = ap is_idle move.at
busy-word is there (missing move) = ap is_idle move.at
busy-word is there (passing_over move) = holder_busy is there move.holds
busy-word is there (meeting move) = holder_busy is there move.holds
busy-word is there (scanning_code move) = holder_busy is there move.holds
busy-word is there (scanning_first move) = holder_busy is there move.holds
busy-word is there (scanning_second move) = holder_busy is there move.holds
busy-word is there (scanning_own move) = holder_busy is there move.holds
busy-word is there (scanning_other move) = holder_busy is there move.holds
busy-word is there (filling move) = holder_busy is there move.holds
busy-word is there (publishing_own move) = holder_busy is there move.holds
busy-word is there (publishing_others move) = holder_busy is there move.holds
busy-word is there (noting move) = holder_busy is there move.holds
busy-word is there (giving_up move) = holder_busy is there move.holds

may_step : {w : World} {c : ℕ} → IsWorld w → IsPossible w (Step c) → MayStep w c
may_step {w} {c} is possible = go possible.next.move
  where
    middle : World
    middle = possible.next.middle

    same : IsSameTo w middle
    same = same-silents possible.next.silent w middle possible.next.silents

    after : IsWorld middle
    after = keeps-silents possible.next.silent w middle is possible.next.silents

    may : ¬ IsReopening middle → c < clients_of middle.memory → is_idle (middle.memory.book c).stage ≡ false → MayStep w c
    may open_now there busy = record {
      open_now = silents_open possible.next.silent w middle possible.next.silents open_now;
      there = subst (λ (s : Standing). c < s.clients) same.clients there;
      busy = ap (λ (book : ℕ → Client). is_idle (book c).stage) (sym same.book) ∙ busy;
    }

    go : Moves middle (Step c) possible.new possible.answer → MayStep w c
    go (inl step) =
        may (running_open middle step.move.running) step.move.there (busy-word after.memory_is step.move.there step.move.move)
    go (inr step) =
        may (held_open middle step.holds) step.there (holder_busy after.memory_is step.there step.holds)

-- Asking

may_ask : {w : World} {ask : Ask} → IsPossible w (AskEvent ask) → MayAsk w ask
may_ask {w} {ask} possible = record {
  open_now = silents_open possible.next.silent w middle possible.next.silents (running_open middle move.running);
  there = subst (λ (s : Standing). ask.client < s.clients) same.clients move.there;
  idle = ap (λ (book : ℕ → Client). is_idle (book ask.client).stage) (sym same.book) ∙ ap is_idle move.at;
  number = move.number ∙ ap (λ (book : ℕ → Client). (newest (book ask.client).kept).number + 1) same.book;
  few = move.few;
  operation = subst (λ (s : Standing). IsOperation s.kind ask.op) same.clients move.operation;
}
  where
    middle : World
    middle = possible.next.middle

    same : IsSameTo w middle
    same = same-silents possible.next.silent w middle possible.next.silents

    move : Asks middle.memory ask possible.next.move.next
    move = possible.next.move.move

-- a client asks in a world that is open
asks_now : {w : World} {ask : Ask} (middle : World) (count : ℕ) → Silents count w middle → IsNotReopening middle.memory.owner → MayAsk w ask → middle.memory.start ≡ w.memory.start → middle.memory.book ≡ w.memory.book → IsPossible w (AskEvent ask)
asks_now {w} {ask} middle count silents running may start book = record {
  new = record middle { memory = asks ask.client ask middle.memory };
  answer = Went;
  next = record {
    silent = count;
    middle = middle;
    silents = silents;
    move = record {
      next = asks ask.client ask middle.memory;
      move = record {
        running = running;
        there = subst (λ (s : Standing). ask.client < s.clients) (sym start) may.there;
        at = ap (λ (b : ℕ → Client). (b ask.client).stage) book ∙ idle_is (w.memory.book ask.client).stage may.idle;
        number = may.number ∙ ap (λ (b : ℕ → Client). (newest (b ask.client).kept).number + 1) (sym book);
        few = may.few;
        operation = subst (λ (s : Standing). IsOperation s.kind ask.op) (sym start) may.operation;
        is = refl;
      };
      is = refl;
      says = refl;
    };
  };
}

can_ask : {w : World} {ask : Ask} → MayAsk w ask → IsPossible w (AskEvent ask)
can_ask {w} {ask} may = go w.memory.owner refl w.progress refl
  where
    now : IsNotReopening w.memory.owner → IsPossible w (AskEvent ask)
    now running = asks_now w 0 refl running may refl refl

    opened_now : World
    opened_now = record { memory = record (w.memory) { owner = Free; engine = Resting }; tale = w.tale; progress = NoCall }

    opening : (owner : Owner) → w.memory.owner ≡ owner → (progress : CallProgress) → w.progress ≡ progress → ¬ IsOpening owner progress
    opening owner o progress p is = may.open_now (subst (λ (q : CallProgress). IsOpening w.memory.owner q) (sym p) (subst (λ (x : Owner). IsOpening x progress) (sym o) is))

    go : (owner : Owner) → w.memory.owner ≡ owner → (progress : CallProgress) → w.progress ≡ progress → IsPossible w (AskEvent ask)
    go Free o progress p = now (subst IsNotReopening (sym o) tt)
    go (Held c side) o progress p = now (subst IsNotReopening (sym o) tt)
    go Closed o NoCall p = absurd (opening Closed o NoCall p tt)
    go Closed o (InCall entry made []) p =
        asks_now opened_now 1 (opened_now, opens (record { closed = o; entry = entry; made = made; at = p; is = refl }), refl) tt may refl refl
    go Closed o (InCall entry made (op ∷ left)) p = absurd (opening Closed o (InCall entry made (op ∷ left)) p tt)

-- Crashing

may_crash : {w : World} {cut pick : ℕ} → IsPossible w (Crash cut pick) → MayCrash w cut
may_crash {w} {cut} {pick} possible =
    let same = same-silents possible.next.silent w possible.next.middle possible.next.silents in
    record {
      low = subst (λ (t : Tale). least_cut t.log ≤ cut) same.tale possible.next.move.low;
      high = subst (λ (t : Tale). cut ≤ greatest_cut t.log) same.tale possible.next.move.high;
    }

crashes_now : {w : World} (cut pick : ℕ) → IsWorld w → MayCrash w cut → IsPossible w (Crash cut pick)
crashes_now {w} cut pick is may =
    let crash = can_crash is cut pick may.low may.high in
    record { new = crash.0; answer = Went; next = record { silent = 0; middle = w; silents = refl; move = crash.1 } }

-- Opening the region again

-- the region is closed, at a place in its opening
at_opening : (w : World) (progress : CallProgress) → w.memory.owner ≡ Closed → w.progress ≡ progress → IsOpening Closed progress → IsReopening w
at_opening w progress closed at opening =
    subst (λ (p : CallProgress). IsOpening w.memory.owner p) (sym at) (subst (λ (o : Owner). IsOpening o progress) (sym closed) opening)

-- there were no moves that nobody sees before
closed_now : (count : ℕ) (w middle : World) → Silents count w middle → middle.memory.owner ≡ Closed → IsReopening middle → IsReopening w
closed_now zero w middle same closed opening = subst IsReopening same opening
closed_now (suc count) w middle silents closed opening = absurd (silents_not_closed count w middle silents closed)

may_reopen : {w : World} → IsPossible w Reopen → IsReopening w
may_reopen {w} possible = go possible.next.move
  where
    middle : World
    middle = possible.next.middle

    go : Moves middle Reopen possible.new possible.answer → IsReopening w
    go (inl step) =
        closed_now possible.next.silent w middle possible.next.silents step.closed (at_opening middle NoCall step.closed step.idle tt)
    go (inr step) =
        closed_now possible.next.silent w middle possible.next.silents step.closed (at_opening middle (InCall step.entry step.made (step.op ∷ step.left)) step.closed step.at tt)

may_fail_to_reopen : {w : World} {how : Leaves} → IsPossible w (ReopenFail how) → IsReopening w
may_fail_to_reopen {w} {how} possible = go possible.next.move
  where
    middle : World
    middle = possible.next.middle

    go : Moves middle (ReopenFail how) possible.new possible.answer → IsReopening w
    go (inl step) =
        closed_now possible.next.silent w middle possible.next.silents step.closed (at_opening middle NoCall step.closed step.idle tt)
    go (inr step) =
        closed_now possible.next.silent w middle possible.next.silents step.closed (at_opening middle (InCall step.entry step.made (step.op ∷ step.left)) step.closed step.at tt)

-- what is being opened is closed, at one of two places
opening_cases : (w : World) (Goal : Type 0) → IsReopening w → (w.memory.owner ≡ Closed → w.progress ≡ NoCall → Goal) → (w.memory.owner ≡ Closed → (entry made : List LogOp) (op : LogOp) (left : List LogOp) → w.progress ≡ InCall entry made (op ∷ left) → Goal) → Goal
opening_cases w Goal opening reads calls = go w.memory.owner refl w.progress refl opening
  where
    go : (owner : Owner) → w.memory.owner ≡ owner → (progress : CallProgress) → w.progress ≡ progress → IsOpening owner progress → Goal
    go Free o progress p opening = absurd opening
    go (Held c side) o progress p opening = absurd opening
    go Closed o NoCall p opening = reads o p
    go Closed o (InCall entry made []) p opening = absurd opening
    go Closed o (InCall entry made (op ∷ left)) p opening = calls o entry made op left p

can_reopen : {w : World} → IsWorld w → IsReopening w → IsPossible w Reopen
can_reopen {w} is opening = opening_cases w (IsPossible w Reopen) opening reads calls
  where
    reads : w.memory.owner ≡ Closed → w.progress ≡ NoCall → IsPossible w Reopen
    reads closed idle =
        let suits = closed_suits is.memory_is closed in
        let unsettled = fits_in w Doubtful NoCall idle suits.1 is in
        let steady : IsSteady w.tale (opened_state w.memory) w.memory.published = subst (IsUnsettled w.tale (opened_state w.memory) w.memory.published) suits.2 unsettled in
        let standing = state_after (opened_state w.memory) w.memory.published in
        record {
          new = record w { progress = InCall w.tale.log [] (settle_to (header_for standing) standing) };
          answer = Went;
          next = record { silent = 0; middle = w; silents = refl; move = inl (record { closed = closed; idle = idle; standing = standing; stands = steady_holds steady; is = refl; says = refl }) };
        }

    calls : w.memory.owner ≡ Closed → (entry made : List LogOp) (op : LogOp) (left : List LogOp) → w.progress ≡ InCall entry made (op ∷ left) → IsPossible w Reopen
    calls closed entry made op left at = record {
      new = record w { tale = with_op op w.tale; progress = InCall entry (made ++ op ∷ []) left };
      answer = Went;
      next = record { silent = 0; middle = w; silents = refl; move = inr (record { closed = closed; entry = entry; made = made; op = op; left = left; at = at; is = refl; says = refl }) };
    }

can_fail_to_reopen : {w : World} (how : Leaves) → IsReopening w → IsPossible w (ReopenFail how)
can_fail_to_reopen {w} how opening = opening_cases w (IsPossible w (ReopenFail how)) opening reads calls
  where
    reads : w.memory.owner ≡ Closed → w.progress ≡ NoCall → IsPossible w (ReopenFail how)
    reads closed idle =
        record { new = w; answer = Went; next = record { silent = 0; middle = w; silents = refl; move = inl (record { closed = closed; idle = idle; is = refl; says = refl }) } }

    calls : w.memory.owner ≡ Closed → (entry made : List LogOp) (op : LogOp) (left : List LogOp) → w.progress ≡ InCall entry made (op ∷ left) → IsPossible w (ReopenFail how)
    calls closed entry made op left at = record {
      new = record w { tale = failed how op w.tale; progress = NoCall };
      answer = Went;
      next = record { silent = 0; middle = w; silents = refl; move = inr (record { closed = closed; entry = entry; made = made; op = op; left = left; at = at; is = refl; says = refl }) };
    }

-- All of it

pub exact : {w : World} → IsWorld w → IsExact w
exact {w} is = record {
  asks = λ ask. (may_ask, can_ask);
  steps = λ client. may_step is;
  can_step = λ plans client. can_step is plans;
  fails = λ client how. may_fail;
  can_fail = λ plans client how. can_fail how is plans;
  crashes = λ cut pick. (may_crash, crashes_now cut pick is);
  reopens = (may_reopen, can_reopen is);
  fails_to_reopen = λ how. (may_fail_to_reopen, can_fail_to_reopen how);
}
