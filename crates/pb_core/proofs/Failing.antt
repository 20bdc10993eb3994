-- Where a call of the device may fail.
use Rattle.std.proofs.Common.{◌≡◌, ◌⊎◌, ℕ, zero, suc, ◌+◌, ◌<◌, List, [], ◌∷◌, ◌++◌, drop, Some, None, ap, subst, sym, refl, ◌∙◌, inl, inr, arith}
use Rattle.pb_crash.specs.declared.leaves.Leaves.{Leaves}
use Rattle.pb_pmem.specs.declared.log.LogOp.{LogOp}
use Rattle.pb_pmem.specs.declared.log.LogOp.TheVariants.{Word}
use Rattle.pb_object.specs.declared.request.Ask.{Ask}
use Rattle.pb_object.specs.History.{state_after}
use Rattle.pb_object.specs.Standing.{Standing}
use Rattle.pb_layout.specs.declared.header.TheConstants.{MAGIC}
use Rattle.pb_events.specs.declared.event.Event.TheVariants.{Fail}
use Rattle.pb_events.specs.declared.event.Stepped.TheVariants.{Went}
use Rattle.pb_core.specs.DeviceParts.{IsWriting, opened_state, IsWorld}
use Rattle.pb_core.specs.HolderMoves.{round_by}
use Rattle.pb_core.specs.Memory.{Owner, Held, AtNumber, AtCode, AtFirst, AtSecond, AtThird, Work, NoWork, Settling, Scanning, Calling, Filling, Noting, GivingUp, Writing, Doubtful, Memory, clients_of, shown, known_standing}
use Rattle.pb_core.specs.Possible.{IsPossible, HasPlan, IsCallDue, MayFail}
use Rattle.pb_core.specs.World.{CallProgress, NoCall, InCall, World}
use Rattle.pb_core.specs.WorldMoves.{Silent, begins_calls, ends_calls, begins_settling, ends_settling_none, ends_settling_round, opens, Silents, settling_plan, failed, last_calls, Moves}
use Rattle.pb_core.proofs.Devices.{first_calls, plan_cut}
use Rattle.pb_core.proofs.Lists.{IsBefore, two_cuts}
use Rattle.pb_core.proofs.Possible.{plan_first, one_silent}
use Rattle.pb_core.proofs.Turns.{free≢held, work_suits}
use Rattle.pb_core.proofs.Worlds.{shown_is, fits_in, keeps-silents}

-- Before a move that nobody sees

due_at : (w : World) (work : Work) (progress : CallProgress) → w.memory.work ≡ work → w.progress ≡ progress → IsCallDue work progress (clients_of w.memory) → IsCallDue w.memory.work w.progress (clients_of w.memory)
due_at w work progress at going due =
    subst (λ (x : Work). IsCallDue x w.progress (clients_of w.memory)) (sym at) (subst (λ (p : CallProgress). IsCallDue work p (clients_of w.memory)) (sym going) due)

due_in : (w : World) (work : Work) (progress : CallProgress) → w.memory.work ≡ work → w.progress ≡ progress → IsCallDue w.memory.work w.progress (clients_of w.memory) → IsCallDue work progress (clients_of w.memory)
due_in w work progress at going due =
    subst (λ (p : CallProgress). IsCallDue work p (clients_of w.memory)) going (subst (λ (x : Work). IsCallDue x w.progress (clients_of w.memory)) at due)

abbrev work_of : World → Work
work_of w = w.memory.work

abbrev progress_of : World → CallProgress
progress_of w = w.progress

abbrev owner_of : World → Owner
owner_of w = w.memory.owner

-- where a call is next after one, it is so before it
fail_before : {w v : World} {c : ℕ} → Silent w v → MayFail v c → MayFail w c
fail_before {w} {v} {c} (begins_calls step) may = record {
  there = subst (λ (s : Standing). c < s.clients) (ap (λ (x : World). x.memory.start) step.is ∙ ap (λ (m : Memory). m.start) step.move.is) may.there;
  side = may.side;
  holds = sym (ap owner_of step.is ∙ ap (λ (m : Memory). m.owner) step.move.is) ∙ may.holds;
  due = due_at w (Scanning (clients_of w.memory) AtNumber step.move.seen) NoCall step.move.at step.idle refl;
}
fail_before {w} {v} (ends_calls step) may =
    absurd (due_in v (Filling 0) NoCall (ap work_of step.is ∙ ap (λ (m : Memory). m.work) step.move.is) (ap progress_of step.is) may.due)
fail_before {w} {v} {c} (begins_settling step) may = record {
  there = subst (λ (s : Standing). c < s.clients) (ap (λ (x : World). x.memory.start) step.is) may.there;
  side = may.side;
  holds = sym (ap owner_of step.is) ∙ may.holds;
  due = due_at w Settling NoCall step.at step.idle tt;
}
fail_before {w} {v} (ends_settling_none step) may =
    let same : clients_of v.memory ≡ clients_of w.memory = ap (λ (x : World). clients_of x.memory) step.is ∙ ap clients_of step.move.is in
    let over : 0 ≡ clients_of v.memory = due_in v (Scanning 0 AtNumber []) NoCall (ap work_of step.is ∙ ap (λ (m : Memory). m.work) step.move.is) (ap progress_of step.is) may.due in
    absurd (omega (arith, over, same, step.there))
fail_before {w} {v} (ends_settling_round step) may =
    absurd (due_in v (Filling 0) NoCall (ap work_of step.is ∙ ap (λ (m : Memory). m.work) step.move.is) (ap progress_of step.is) may.due)
fail_before {w} {v} {c} (opens step) may = absurd (free≢held c may.side (sym (ap owner_of step.is) ∙ may.holds))

fail_before_all : {c : ℕ} (count : ℕ) (w v : World) → Silents count w v → MayFail v c → MayFail w c
fail_before_all {c} zero w v same may = subst (λ (x : World). MayFail x c) same may
fail_before_all (suc count) w v (middle, first, more) may = fail_before first (fail_before_all count middle v more may)

pub may_fail : {w : World} {c : ℕ} {how : Leaves} → IsPossible w (Fail c how) → MayFail w c
may_fail {w} {c} {how} possible =
    fail_before_all possible.next.silent w middle possible.next.silents (go possible.next.move)
  where
    middle : World
    middle = possible.next.middle

    go : Moves middle (Fail c how) possible.new possible.answer → MayFail middle c
    go (inl step) = record {
      there = step.there;
      side = step.move.side;
      holds = step.move.holds;
      due = due_at middle Settling (InCall step.entry step.made (step.op ∷ step.left)) step.move.at step.at tt;
    }
    go (inr (inl step)) = record {
      there = step.there;
      side = step.move.side;
      holds = step.move.holds;
      due = due_at middle Calling (InCall step.entry step.made (step.op ∷ (step.more ++ last_calls (shown middle.memory) step.round))) step.move.at step.at tt;
    }
    go (inr (inr step)) = record {
      there = step.there;
      side = step.move.side;
      holds = step.move.holds;
      due = due_at middle Calling (InCall step.entry step.made (step.op ∷ step.left)) step.move.at step.at tt;
    }

-- Calls that may fail do

-- behind moves that nobody sees a call fails: of the memory this is next
fails_behind : {w : World} {c : ℕ} {how : Leaves} (op : LogOp) (middle : World) (count : ℕ) → Silents count w middle → (next : Memory) → Moves middle (Fail c how) (record { memory = next; tale = failed how op middle.tale; progress = NoCall }) Went → IsPossible w (Fail c how)
fails_behind {w} {c} {how} op middle count silents next move = record {
  new = record { memory = next; tale = failed how op middle.tale; progress = NoCall };
  answer = Went;
  next = record { silent = count; middle = middle; silents = silents; move = move };
}

-- a call of settling
fails_settling : {w : World} (middle : World) {c side : ℕ} (how : Leaves) (count : ℕ) (entry made : List LogOp) (op : LogOp) (left : List LogOp) → Silents count w middle → c < clients_of middle.memory → middle.memory.owner ≡ Held c side → middle.memory.work ≡ Settling → middle.progress ≡ InCall entry made (op ∷ left) → IsPossible w (Fail c how)
fails_settling {w} middle {c} {side} how count entry made op left silents there holds at going =
    fails_behind op middle count silents next (inl (record {
      there = there;
      next = next;
      move = record { side = side; holds = holds; to = middle.memory.count + 1; at = at; rose = inl (omega arith); is = refl };
      entry = entry;
      made = made;
      op = op;
      left = left;
      at = going;
      is = refl;
      says = refl;
    }))
  where
    next : Memory
    next = record (middle.memory) { count = middle.memory.count + 1; work = Noting middle.memory.count (middle.memory.count + 1) }

-- a call of a round: before its index word, or from there on
fails_calling : {w : World} (middle : World) {c side : ℕ} (how : Leaves) (count : ℕ) (entry made : List LogOp) (op : LogOp) (left : List LogOp) → Silents count w middle → IsWorld middle → c < clients_of middle.memory → middle.memory.owner ≡ Held c side → middle.memory.work ≡ Calling → middle.progress ≡ InCall entry made (op ∷ left) → IsPossible w (Fail c how)
fails_calling {w} middle {c} {side} how count entry made op left silents is there holds at going =
    go (two_cuts made (op ∷ left) (first_calls writing.planned) last (plan_cut writing.planned))
  where
    m : Memory
    m = middle.memory

    writing : IsWriting middle.tale (opened_state m) m.published m.ahead entry made (op ∷ left)
    writing = fits_in middle Writing (InCall entry made (op ∷ left)) going (work_suits Calling is.memory_is holds at).0 is

    last : List LogOp
    last = last_calls (state_after (opened_state m) m.published) writing.round

    as_shown : last ≡ last_calls (shown m) writing.round
    as_shown = ap (λ (s : Standing). last_calls s writing.round) (sym (shown_is m))

    dropped : Memory
    dropped = record m { count = m.count + 1; work = Noting m.count (m.count + 1); ahead = None; engine = Doubtful }

    doubted : Memory
    doubted = record m { count = m.count + 1; work = Noting m.count (m.count + 1); engine = Doubtful }

    stages : (more : List LogOp) → left ≡ more ++ last → IsPossible w (Fail c how)
    stages more rest =
        fails_behind op middle count silents dropped (inr (inl (record {
          there = there;
          next = dropped;
          move = record { side = side; holds = holds; to = m.count + 1; at = at; rose = inl (omega arith); is = refl };
          round = writing.round;
          ahead = writing.ahead_is;
          entry = entry;
          made = made;
          op = op;
          more = more;
          at = going ∙ ap (λ (l : List LogOp). InCall entry made (op ∷ l)) (rest ∙ ap (λ (l : List LogOp). more ++ l) as_shown);
          is = refl;
          says = refl;
        })))

    commits : (before : List LogOp) → last ≡ before ++ op ∷ left → IsPossible w (Fail c how)
    commits before whole =
        fails_behind op middle count silents doubted (inr (inr (record {
          there = there;
          next = doubted;
          move = record { side = side; holds = holds; to = m.count + 1; at = at; rose = inl (omega arith); is = refl };
          round = writing.round;
          ahead = writing.ahead_is;
          entry = entry;
          made = made;
          op = op;
          left = left;
          at = going;
          before = before;
          last = sym as_shown ∙ whole;
          is = refl;
          says = refl;
        })))

    before_last : (more : List LogOp) → op ∷ left ≡ more ++ last → IsPossible w (Fail c how)
    before_last [] rest = commits [] (sym rest)
    before_last (first ∷ more) rest = stages more (cc)

    go : IsBefore made (op ∷ left) (first_calls writing.planned) last ⊎ IsBefore (first_calls writing.planned) last made (op ∷ left) → IsPossible w (Fail c how)
    go (inl cut) = before_last cut.more cut.rest
    go (inr cut) = commits cut.more cut.rest

pub can_fail : {w : World} {c : ℕ} (how : Leaves) → IsWorld w → HasPlan w → MayFail w c → IsPossible w (Fail c how)
can_fail {w} {c} how is plans may = go w.memory.work refl w.progress refl may.due
  where
    begun : World
    begun = record w { progress = InCall w.tale.log [] (settling_plan w.memory) }

    scanned : (d : ℕ) (seen : List Ask) → w.memory.work ≡ Scanning d AtNumber seen → w.progress ≡ NoCall → d ≡ clients_of w.memory → IsPossible w (Fail c how)
    scanned d seen at idle over =
        let here : w.memory.work ≡ Scanning (clients_of w.memory) AtNumber seen = at ∙ ap (λ (e : ℕ). Scanning e AtNumber seen) over in
        let plan = plans c may.side seen may.holds here in
        let first = plan_first plan.1 in
        let next : Memory = record (w.memory) { ahead = Some (round_by may.side (known_standing w.memory) seen); work = Calling; engine = Writing } in
        let middle : World = record { memory = next; tale = w.tale; progress = InCall w.tale.log [] plan.0 } in
        let silents : Silents 1 w middle = one_silent (begins_calls (record { client = c; there = may.there; next = next; move = record { side = may.side; holds = may.holds; seen = seen; at = here; is = refl }; idle = idle; plan = plan.0; planned = plan.1; is = refl })) in
        fails_calling middle how 1 w.tale.log [] first.0 first.1 silents (keeps-silents 1 w middle is silents) may.there may.holds refl (ap (InCall w.tale.log []) first.2)

    go : (work : Work) → w.memory.work ≡ work → (progress : CallProgress) → w.progress ≡ progress → IsCallDue work progress (clients_of w.memory) → IsPossible w (Fail c how)
    go NoWork at progress going due = absurd due
    go Settling at NoCall idle due =
        fails_settling begun how 1 w.tale.log [] (Word 0 0 MAGIC) (drop 1 (settling_plan w.memory)) (one_silent (begins_settling (record { client = c; side = may.side; holds = may.holds; at = at; idle = idle; is = refl }))) may.there may.holds at refl
    go Settling at (InCall entry made []) going due = absurd due
    go Settling at (InCall entry made (op ∷ left)) going due =
        fails_settling w how 0 entry made op left refl may.there may.holds at going
    go (Scanning d AtNumber seen) at NoCall idle due = scanned d seen at idle due
    go (Scanning d (AtCode number) seen) at NoCall idle due = absurd due
    go (Scanning d (AtFirst number code) seen) at NoCall idle due = absurd due
    go (Scanning d (AtSecond number code a) seen) at NoCall idle due = absurd due
    go (Scanning d (AtThird number code a b) seen) at NoCall idle due = absurd due
    go (Scanning d part seen) at (InCall entry made left) going due = absurd due
    go Calling at NoCall idle due = absurd due
    go Calling at (InCall entry made []) going due = absurd due
    go Calling at (InCall entry made (op ∷ left)) going due =
        fails_calling w how 0 entry made op left refl is may.there may.holds at going
    go (Filling count) at progress going due = absurd due
    go (Noting from to) at progress going due = absurd due
    go (GivingUp from to) at progress going due = absurd due
