-- The calls of an engine one after the other.
use Rattle.std.proofs.Common.{◌≡◌, ℕ, ◌+◌, Bool, true, false, List, [], ◌∷◌, ◌++◌, length, Option, Some, None, option_map, refl, sym, ap, subst, ◌∙◌, arith, length-append}
use Rattle.std.proofs.lemmas.List.{append-nil, append_assoc}
use Rattle.pb_pmem.specs.declared.device.DeviceFault.{DeviceFault}
use Rattle.pb_pmem.specs.declared.log.LogOp.{LogOp}
use Rattle.pb_pmem.specs.Device.{Tale}
use Rattle.pb_pmem.specs.Operations.{with_ops, IsFailedPrefix}
use Rattle.pb_object.specs.History.{Round, History, state_after}
use Rattle.pb_object.specs.Standing.{Standing}
use Rattle.pb_layout.specs.RegionOps.{settle_to}
use Rattle.pb_layout.specs.Represents.{header_for}
use Rattle.pb_layout_laws.proofs.Histories.{state_after-append}
use Rattle.pb_engine.specs.Calls.{EngineCall, Made, Failed, Settled, FailedSettling, Progress, progress_of, with_doubt, settled_rounds, after_call, after_calls, IsRoundOps, IsCutRoundOps, settling_ops, IsCall, AreCalls, ops_of, all_ops, failure_count, HasCalled}
use Rattle.pb_engine.specs.Operations.{round_ops}
use Rattle.pb_engine.specs.Outcomes.{IsNextRecordOf, HasMade, HasFailedToMake, HasSettled, HasFailedToSettle}
use Rattle.pb_engine.specs.View.{FailedRound, EngineView, settled_standing}

-- Calls after calls

pub after_calls-append : (p : Progress) (a b : List EngineCall) → after_calls p (a ++ b) ≡ after_calls (after_calls p a) b
after_calls-append p [] b = refl
after_calls-append p (call ∷ a) b = after_calls-append (after_call p call) a b

pub AreCalls-append : (s : Standing) (p : Progress) (a b : List EngineCall) → AreCalls s p a → AreCalls s (after_calls p a) b → AreCalls s p (a ++ b)
AreCalls-append s p [] b first second = second
AreCalls-append s p (call ∷ a) b first second = (first.0, AreCalls-append s (after_call p call) a b first.1 second)

pub all_ops-append : (a b : List EngineCall) → all_ops (a ++ b) ≡ all_ops a ++ all_ops b
all_ops-append [] b = refl
all_ops-append (call ∷ a) b = ap (λ (ops : List LogOp). ops_of call ++ ops) (all_ops-append a b) ∙ sym (append_assoc (ops_of call) (all_ops a) (all_ops b))

pub failure_count-append : (a b : List EngineCall) → failure_count (a ++ b) ≡ failure_count a + failure_count b
failure_count-append [] b = omega arith
failure_count-append (Made round ops ∷ a) b = failure_count-append a b
failure_count-append (Failed failed ops ∷ a) b = omega (arith, failure_count-append a b)
failure_count-append (Settled ops ∷ a) b = failure_count-append a b
failure_count-append (FailedSettling ops ∷ a) b = omega (arith, failure_count-append a b)

told_more : (old : Option Tale) (a b : List LogOp) → option_map (with_ops b) (option_map (with_ops a) old) ≡ option_map (with_ops (a ++ b)) old
told_more None a b = refl
told_more (Some tale) a b = ap (λ (log : List LogOp). Some (record { base = tale.base; log = log })) (append_assoc tale.log a b)

none_added : (old : Option Tale) → old ≡ option_map (with_ops []) old
none_added None = refl
none_added (Some tale) = ap (λ (log : List LogOp). Some (record { base = tale.base; log = log })) (sym (append-nil tale.log))

never_nil : (calls : List EngineCall) (call : EngineCall) → calls ++ call ∷ [] ≡ [] → ⊥
never_nil calls call is = omega (arith, ap length is, length-append calls (call ∷ []))

-- Beginning

pub none_called : (start : EngineView) → HasCalled start start [] 0 []
none_called start = record {
  are = tt;
  come = refl;
  failed = refl;
  told = none_added start.device.told;
  idle = λ _. refl;
}

-- One call more

one_more : (start old new : EngineView) (rounds more : History) (failures later : ℕ) (calls : List EngineCall) (call : EngineCall) → HasCalled start old rounds failures calls → IsCall start.standing (progress_of rounds old) call → after_call (progress_of rounds old) call ≡ progress_of more new
    → later ≡ failures + failure_count (call ∷ []) → new.device.told ≡ option_map (with_ops (ops_of call)) old.device.told → HasCalled start new more later (calls ++ call ∷ [])
one_more start old new rounds more failures later calls call called is moved counted told = record {
  are = AreCalls-append start.standing (progress_of [] start) calls (call ∷ []) called.are (subst (λ (p : Progress). IsCall start.standing p call) (sym called.come) is, tt);
  come = after_calls-append (progress_of [] start) calls (call ∷ []) ∙ (ap (λ (p : Progress). after_call p call) called.come ∙ moved);
  failed = failure_count-append calls (call ∷ []) ∙ (ap (λ (n : ℕ). n + failure_count (call ∷ [])) called.failed ∙ sym counted);
  told = told ∙ (ap (option_map (with_ops (ops_of call))) called.told ∙ (told_more start.device.told (all_ops calls) (ops_of call) ∙ ap (λ (ops : List LogOp). option_map (with_ops ops) start.device.told) (sym (all_ops-append calls (call ∷ []) ∙ ap (λ (ops : List LogOp). all_ops calls ++ ops) (append-nil (ops_of call))))));
  idle = λ is_nil. absurd (never_nil calls call is_nil);
}

module _ (start old new : EngineView) (rounds : History) (failures : ℕ) (calls : List EngineCall) (called : HasCalled start old rounds failures calls) (standing : old.standing ≡ state_after start.standing rounds) where
  pub round_called : (round : Round) → old.sure ≡ true → (made : HasMade round old new) → HasCalled start new (rounds ++ round ∷ []) failures (calls ++ Made round (round_ops old round made.lines) ∷ [])
  round_called round sure made =
      one_more start old new rounds (rounds ++ round ∷ []) failures failures calls (Made round (round_ops old round made.lines)) called
      (sure, record { engine = old; standing = standing; lines = made.lines; record_is = subst (λ (t : Standing). IsNextRecordOf t round made.lines) standing made.record_is; ops_are = refl })
      (λ i. record { rounds = rounds ++ round ∷ []; sure = sym made.sure i; doubt = sym made.doubt i })
      (omega arith) made.device.told

  pub failure_called : (round : Round) (fault : DeviceFault) → old.sure ≡ true → (failed : HasFailedToMake round fault old new) → HasCalled start new rounds (failures + 1) (calls ++ Failed (record { round = round; called = failed.called }) failed.device.stops.ops ∷ [])
  failure_called round fault sure failed =
      one_more start old new rounds rounds failures (failures + 1) calls (Failed (record { round = round; called = failed.called }) failed.device.stops.ops) called
      (sure, record { engine = old; standing = standing; lines = failed.lines; record_is = subst (λ (t : Standing). IsNextRecordOf t round failed.lines) standing failed.record_is; cut = failed.device.stops.cut })
      (λ i. record { rounds = rounds; sure = sym failed.unsure.sure i; doubt = sym failed.doubt i })
      (omega arith) failed.device.stops.told

  -- settling goes to the settled standing
  settled_to : settled_standing old.standing old.doubt ≡ state_after start.standing (settled_rounds rounds old.doubt)
  settled_to = by_doubt old.doubt
    where
      by_called : (b : Bool) (round : Round) → settled_standing old.standing (Some (record { round = round; called = b })) ≡ state_after start.standing (with_doubt b rounds round)
      by_called true round = ap (λ (t : Standing). state_after t (round ∷ [])) standing ∙ sym (state_after-append start.standing rounds (round ∷ []))
      by_called false round = standing

      by_doubt : (doubt : Option FailedRound) → settled_standing old.standing doubt ≡ state_after start.standing (settled_rounds rounds doubt)
      by_doubt None = standing
      by_doubt (Some failed) = by_called failed.called failed.round

  pub settling_called : old.sure ≡ false → HasSettled old new → HasCalled start new (settled_rounds rounds old.doubt) failures (calls ++ Settled (settle_to (header_for new.standing) new.standing) ∷ [])
  settling_called unsure settled =
      one_more start old new rounds (settled_rounds rounds old.doubt) failures failures calls (Settled (settle_to (header_for new.standing) new.standing)) called
      (unsure, ap (λ (t : Standing). settle_to (header_for t) t) (settled.standing ∙ settled_to))
      (λ i. record { rounds = settled_rounds rounds old.doubt; sure = sym settled.sure i; doubt = sym settled.doubt i })
      (omega arith) settled.device.told

  pub failed_settling_called : (fault : DeviceFault) → old.sure ≡ false → (failed : HasFailedToSettle fault old new) → HasCalled start new rounds (failures + 1) (calls ++ FailedSettling failed.device.stops.ops ∷ [])
  failed_settling_called fault unsure failed =
      one_more start old new rounds rounds failures (failures + 1) calls (FailedSettling failed.device.stops.ops) called
      (unsure, subst (λ (t : Standing). IsFailedPrefix (settle_to (header_for t) t) failed.device.stops.ops) settled_to failed.device.stops.cut)
      (λ i. record { rounds = rounds; sure = sym failed.unsure.sure i; doubt = sym failed.doubt i })
      (omega arith) failed.device.stops.told

-- Behind earlier rounds

abbrev pub behind : History → Progress → Progress
behind rounds p = record p { rounds = rounds ++ p.rounds }

module _ (s : Standing) (rounds : History) where
  settled_behind : (more : History) (doubt : Option FailedRound) → settled_rounds (rounds ++ more) doubt ≡ rounds ++ settled_rounds more doubt
  settled_behind more None = refl
  settled_behind more (Some failed) = by_called failed.called failed.round
    where
      by_called : (b : Bool) (round : Round) → with_doubt b (rounds ++ more) round ≡ rounds ++ with_doubt b more round
      by_called true round = append_assoc rounds more (round ∷ [])
      by_called false round = refl

  state_behind : (more : History) → state_after (state_after s rounds) more ≡ state_after s (rounds ++ more)
  state_behind more = sym (state_after-append s rounds more)

  settling_behind : (p : Progress) → settling_ops (state_after s rounds) p ≡ settling_ops s (behind rounds p)
  settling_behind p = ap (λ (t : Standing). settle_to (header_for t) t) (state_behind (settled_rounds p.rounds p.doubt) ∙ ap (state_after s) (sym (settled_behind p.rounds p.doubt)))

  call_behind : (p : Progress) (call : EngineCall) → IsCall (state_after s rounds) p call → IsCall s (behind rounds p) call
  call_behind p (Made round ops) is = (is.0, subst (λ (t : Standing). IsRoundOps t round ops) (state_behind p.rounds) is.1)
  call_behind p (Failed failed ops) is = (is.0, subst (λ (t : Standing). IsCutRoundOps t failed ops) (state_behind p.rounds) is.1)
  call_behind p (Settled ops) is = (is.0, is.1 ∙ settling_behind p)
  call_behind p (FailedSettling ops) is = (is.0, subst (λ (all : List LogOp). IsFailedPrefix all ops) (settling_behind p) is.1)

  after_behind : (p : Progress) (call : EngineCall) → after_call (behind rounds p) call ≡ behind rounds (after_call p call)
  after_behind p (Made round ops) = ap (λ (h : History). record { rounds = h; sure = true; doubt = None }) (append_assoc rounds p.rounds (round ∷ []))
  after_behind p (Failed failed ops) = refl
  after_behind p (Settled ops) = ap (λ (h : History). record { rounds = h; sure = true; doubt = None }) (settled_behind p.rounds p.doubt)
  after_behind p (FailedSettling ops) = refl

  calls_behind : (p : Progress) (calls : List EngineCall) → AreCalls (state_after s rounds) p calls → AreCalls s (behind rounds p) calls
  calls_behind p [] are = tt
  calls_behind p (call ∷ calls) are =
      (call_behind p call are.0, subst (λ (q : Progress). AreCalls s q calls) (sym (after_behind p call)) (calls_behind (after_call p call) calls are.1))

  come_behind : (p : Progress) (calls : List EngineCall) → after_calls (behind rounds p) calls ≡ behind rounds (after_calls p calls)
  come_behind p [] = refl
  come_behind p (call ∷ calls) = ap (λ (q : Progress). after_calls q calls) (after_behind p call) ∙ come_behind (after_call p call) calls

pub called_on : (first middle last : EngineView) (rounds more : History) (failures others : ℕ) (before after : List EngineCall) → HasCalled first middle rounds failures before → middle.standing ≡ state_after first.standing rounds → HasCalled middle last more others after → HasCalled first last (rounds ++ more) (failures + others) (before ++ after)
called_on first middle last rounds more failures others before after one standing two = record {
  are = AreCalls-append first.standing (progress_of [] first) before after one.are (subst (λ (p : Progress). AreCalls first.standing p after) (sym here) (calls_behind first.standing rounds (progress_of [] middle) after (subst (λ (t : Standing). AreCalls t (progress_of [] middle) after) standing two.are)));
  come = after_calls-append (progress_of [] first) before after ∙ (ap (λ (p : Progress). after_calls p after) here ∙ (come_behind first.standing rounds (progress_of [] middle) after ∙ ap (behind rounds) two.come));
  failed = omega (arith, failure_count-append before after, one.failed, two.failed);
  told = two.told ∙ (ap (option_map (with_ops (all_ops after))) one.told ∙ (told_more first.device.told (all_ops before) (all_ops after) ∙ ap (λ (ops : List LogOp). option_map (with_ops ops) first.device.told) (sym (all_ops-append before after))));
  idle = λ none.
      let first_none : before ≡ [] = no_front before none in
      let second_none : after ≡ [] = ap (λ (calls : List EngineCall). calls ++ after) (sym first_none) ∙ none in
      two.idle second_none ∙ one.idle first_none;
}
  where
    here : after_calls (progress_of [] first) before ≡ behind rounds (progress_of [] middle)
    here = one.come ∙ ap (λ (h : History). record { rounds = h; sure = middle.sure; doubt = middle.doubt }) (sym (append-nil rounds))

    no_front : (calls : List EngineCall) → calls ++ after ≡ [] → calls ≡ []
    no_front [] is = refl
    no_front (call ∷ calls) is = absurd (omega (arith, ap length is))
