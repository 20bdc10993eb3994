-- What calls of an engine come to, one after the other.
use Rattle.std.proofs.Common.{◌≡◌, ◌⊎◌, ℕ, min, ◌+◌, ◌≤◌, Bool, true, false, List, [], ◌∷◌, ◌++◌, length, Option, Some, None, IfSome, option_map, refl, sym, ap, subst, ◌∙◌, inl, inr, arith, length-append, ◌≢◌, ◌<◌, zero, suc}
use Rattle.std.proofs.Math.Seq.{take-append_seam}
use Rattle.std.proofs.lemmas.Bool.{cases_eq}
use Rattle.std.proofs.lemmas.List.{append-nil, append_assoc}
use Rattle.pb_pmem.specs.declared.device.DeviceFault.{DeviceFault}
use Rattle.pb_pmem.specs.declared.log.LogOp.{LogOp}
use Rattle.pb_pmem.specs.Count.{Rose, last_count}
use Rattle.pb_pmem.specs.Device.{Device, Tale}
use Rattle.pb_pmem.specs.Operations.{with_ops, IsFailedPrefix}
use Rattle.pb_object.specs.History.{Round, History, after_round, state_after, IsLegalRound, IsLegal}
use Rattle.pb_object.specs.declared.kind.Kind.{Kind}
use Rattle.pb_object.specs.Standing.{Standing, side_count, rounds_of}
use Rattle.pb_layout.specs.declared.header.Header.{Header}
use Rattle.pb_layout_laws.proofs.Rounds.{next_side, next_header}
use Rattle.pb_layout.specs.Damage.{HasRegion}
use Rattle.pb_layout.specs.Doubt.{either_state, IsRoundInDoubt, HasRoundLanded}
use Rattle.pb_layout.specs.Exits.{sealed_round}
use Rattle.pb_layout.specs.LogHistory.{LoggedRound, rounds_in, AreSealed, history_of}
use Rattle.pb_layout.specs.Recovered.{Represents}
use Rattle.pb_layout.specs.RegionOps.{settle_to}
use Rattle.pb_layout.specs.Represents.{header_for}
use Rattle.pb_layout.specs.ToldExits.{IsCoveredExit, IsSealedAfter, IsReadyWith, IsInDoubt, contents_of, StaysLanded}
use Rattle.pb_layout.proofs.OneRecovery.{has_region}
use Rattle.pb_layout_laws.proofs.Histories.{rounds_in-append, state_after-append, AreSealed-append}
use Rattle.pb_layout_laws.proofs.ReadyWithOne.{only_member}
use Rattle.pb_layout_laws.proofs.Settling.{settling_failing}
use Rattle.pb_layout_laws.proofs.ToldCalls.{told_exit, told_then, told_then_sealed, nothing_told, sealed_after, sealed_then, after_then, if_told, from_told}
use Rattle.pb_engine.specs.Covers.{RoundCovers, FailedRoundCovers, SettleCovers, FailedSettleCovers}
use Rattle.pb_engine.specs.Calls.{EngineCall, Made, Failed, Settled, FailedSettling, HasCalled, with_doubt, settled_rounds}
use Rattle.pb_engine.specs.Good.{BeginsAt, IsInDoubtAfter, IsDecidedAfter, settlings, HasCost, IsQuiet, HasCome}
use Rattle.pb_engine.specs.Operations.{round_ops}
use Rattle.pb_engine.specs.Outcomes.{stored_over, stored_on_first, stored_on_second, HasMade, HasFailedToMake, HasSettled, HasFailedToSettle}
use Rattle.pb_engine.specs.View.{FailedRound, EngineView, was_called, settled_by, settled_standing, KnownRecords, IsKnown, AreKnown, IsHeld}
use Rattle.pb_engine.proofs.Called.{none_called, round_called, failure_called, settling_called, failed_settling_called}
use Rattle.pb_engine.proofs.Costs.{fences-append, syncs-append, round_fences, round_syncs, settling_fences, settling_syncs}
use Rattle.pb_pmem.specs.declared.line.Line.{Line}

-- a device on which no round was told holds what it held
pub still_stands : (tale : Tale) (new : Device) (s : Standing) (members : List (Option Standing)) (left : IsCoveredExit tale new s [] members) → Represents (contents_of tale) s → IfSome new.told (λ after. Represents (contents_of after) s)
still_stands tale new s members left stands =
    if_told (λ (after : Tale). Represents (contents_of after) s) new.told (with_ops left.ops tale) left.told (elim left.exit.covers.end [
      | inl here ↦ here
      | inr nothing ↦ absurd (nothing.before (subst (λ (log : List LogOp). HasRegion (contents_of (record { base = tale.base; log = log }))) (sym (take-append_seam tale.log left.ops)) (has_region (contents_of tale) s stands)))
    ])

-- Beginning

no_settlings : (sure : Bool) → settlings sure sure ≡ 0
no_settlings true = refl
no_settlings false = refl

none_done : (tale : Tale) → Some tale ≡ Some (with_ops [] tale)
none_done tale = ap (λ (log : List LogOp). Some (record { base = tale.base; log = log })) (sym (append-nil tale.log))

none_of_settling : (s : Standing) → IsFailedPrefix (settle_to (header_for s) s) []
none_of_settling s = record { prefix = []; failed = _; rest = _; whole = refl; added = inl refl }

decided_at_start : (tale : Tale) (members : List (Option Standing)) (start : EngineView) (sure : Bool) → start.sure ≡ sure → BeginsAt tale members start → IsDecidedAfter tale members start start.standing []
decided_at_start tale members start true is begins =
    inl (nothing_told begins.told (subst (λ (ms : List (Option Standing)). IsReadyWith ms tale) (begins.alone is) begins.ready))
decided_at_start tale members start false is begins = inr (
  is,
  refl,
  record {
    left = told_exit [] (begins.told ∙ none_done tale) (settling_failing tale.base tale.log [] start.standing members begins.ready begins.stands (none_of_settling start.standing));
    stands = if_told (λ (after : Tale). Represents (contents_of after) start.standing) start.device.told tale begins.told begins.stands;
  },
)

pub at_start : (start : EngineView) → HasCome start start [] 0 []
at_start start = record {
  legal = tt;
  standing = refl;
  count = omega arith;
  calm = λ none. refl;
  rose = λ some. absurd (some refl);
  each = omega arith;
  called = none_called start;
  quiet = λ calm. record { sure = λ sure. sure; doubt = λ none. none; known = λ sure known. known; holds = λ none held. held };
  covered = λ tale members begins. record {
    decided = λ uncalled. decided_at_start tale members start start.sure refl begins;
    in_doubt = λ failed is called. absurd (cc (begins.decided, is));
  };
  cost = λ tale told decided calm. record {
    ops = [];
    told = told ∙ none_done tale;
    fences = refl;
    syncs = omega (arith, no_settlings start.sure);
  };
}

-- A round more

legal-push : (s : Standing) (rounds : History) (round : Round) → IsLegal s rounds → IsLegalRound (state_after s rounds) round → IsLegal s (rounds ++ round ∷ [])
legal-push s [] round legal next = (next, tt)
legal-push s (first ∷ rounds) round legal next = (legal.0, legal-push (after_round s first) rounds round legal.1 next)

length-push : (rounds : History) (round : Round) → length (rounds ++ round ∷ []) ≡ length rounds + 1
length-push rounds round = length-append rounds (round ∷ [])

-- where the device was ready with the standing alone, and is sure or failed before an index word
Sealed : Tale → EngineView → Standing → History → Type 0
Sealed tale old s rounds = IsSealedAfter tale old.device s rounds

pub ready_then : (tale : Tale) (old : EngineView) (s : Standing) (rounds : History) → old.standing ≡ state_after s rounds → (after : IsSealedAfter tale old.device s rounds) → IsReadyWith (Some old.standing ∷ []) (with_ops after.left.ops tale)
ready_then tale old s rounds standing after =
    subst (λ (t : Standing). IsReadyWith (Some t ∷ []) (with_ops after.left.ops tale)) (sym standing) after.left.exit.ready

sure_is_sealed : (tale : Tale) (members : List (Option Standing)) (old : EngineView) (s : Standing) (rounds : History) → old.sure ≡ true → IsDecidedAfter tale members old s rounds → IsSealedAfter tale old.device s rounds
sure_is_sealed tale members old s rounds sure (inl after) = after
sure_is_sealed tale members old s rounds sure (inr found) = absurd (cc (sure, found.0))

sealed_so_far : (tale : Tale) (members : List (Option Standing)) (start old : EngineView) (rounds : History) (failures : ℕ) (calls : List EngineCall) → HasCome start old rounds failures calls → old.sure ≡ true → old.doubt ≡ None → BeginsAt tale members start → IsSealedAfter tale old.device start.standing rounds
sealed_so_far tale members start old rounds failures calls come sure none begins =
    sure_is_sealed tale members old start.standing rounds sure ((come.covered tale members begins).decided (ap was_called none))

told_more : (old new : Option Tale) (tale : Tale) (ops more : List LogOp) → old ≡ Some (with_ops ops tale) → new ≡ option_map (with_ops more) old → new ≡ Some (with_ops (ops ++ more) tale)
told_more old new tale ops more told grown =
    grown ∙ (ap (option_map (with_ops more)) told ∙ ap (λ (log : List LogOp). Some (record { base = tale.base; log = log })) (append_assoc tale.log ops more))

-- what is known of the records in use stays known
stored_known : (known : KnownRecords) (lines : List Line) → (stored_over known lines).in_use ≢ None
stored_known known lines none = absurd (cc (none))

stays_known : (old new : EngineView) (round : Round) → HasMade round old new → AreKnown old → AreKnown new
stays_known old new round made known side below = go side (subst (λ (k : Kind). side < side_count k) kind below)
  where
    kind : new.standing.kind ≡ old.standing.kind
    kind = ap (λ (s : Standing). s.kind) made.standing ∙ ap (λ (h : Header). h.kind) (next_header old.standing round)

    first : (at : ℕ) → IsKnown old 0 → (stored_on_first old at made.lines).in_use ≢ None
    first zero before = stored_known old.first made.lines
    first (suc at) before = before

    second : (at : ℕ) → IsKnown old 1 → (stored_on_second old at made.lines).in_use ≢ None
    second zero before = before
    second (suc at) before = stored_known old.second made.lines

    go : (side : ℕ) → side < side_count old.standing.kind → IsKnown new side
    go zero inside none = first round.side (known 0 inside) (ap (λ (k : KnownRecords). k.in_use) (sym made.first) ∙ none)
    go (suc side) inside none = second round.side (λ one. known (suc side) inside one) (ap (λ (k : KnownRecords). k.in_use) (sym made.second) ∙ none)

made_held : (old new : EngineView) (round : Round) → HasMade round old new → IsHeld old → IsHeld new
made_held old new round made held = record {
  stands = made.holds (held.in_use round.side (next_side old.standing round made.record_is.next.legal)) held.stands;
  in_use = made.in_use held.in_use;
}

pub after_round_made : (start old new : EngineView) (rounds : History) (failures : ℕ) (calls : List EngineCall) (round : Round) → HasCome start old rounds failures calls → old.sure ≡ true → old.doubt ≡ None → (made : HasMade round old new) → RoundCovers round old new
    → HasCome start new (rounds ++ round ∷ []) failures (calls ++ Made round (round_ops old round made.lines) ∷ [])
after_round_made start old new rounds failures calls round come sure none made covers = record {
  legal = legal-push start.standing rounds round come.legal (subst (λ (t : Standing). IsLegalRound t round) come.standing made.record_is.next.legal);
  standing = made.standing ∙ (ap (λ (t : Standing). after_round t round) come.standing ∙ sym (state_after-append start.standing rounds (round ∷ [])));
  count = omega (arith, come.count, made.device.faults);
  calm = λ calm. made.device.faults ∙ come.calm calm;
  rose = λ some. subst (Rose start.device.faults) (sym made.device.faults) (come.rose some);
  each = omega (arith, come.each, made.device.faults);
  called = round_called start old new rounds failures calls come.called come.standing round sure made;
  quiet = λ calm.
      let before = come.quiet calm in
      record {
        sure = λ _. made.sure;
        doubt = λ _. made.doubt;
        known = λ first known. stays_known old new round made (before.known first known);
        holds = λ first held. made_held old new round made (before.holds first held);
      };
  covered = λ tale members begins. record {
    decided = λ uncalled.
        let after = sealed_so_far tale members start old rounds failures calls come sure none begins in
        let tale_then : Tale = with_ops after.left.ops tale in
        inl (sealed_then after (subst (λ (t : Standing). IsCoveredExit tale_then new.device t (sealed_round round ∷ []) (Some (after_round t round) ∷ [])) come.standing
        (covers tale_then after.left.told (ready_then tale old start.standing rounds come.standing after))));
    in_doubt = λ failed is called. absurd (cc (made.doubt, is));
  };
  cost = λ tale told decided calm.
      let before = come.cost tale told decided calm in
      let ops : List LogOp = round_ops old round made.lines in
      record {
        ops = before.ops ++ ops;
        told = told_more old.device.told new.device.told tale before.ops ops before.told made.device.told;
        fences = omega (arith, fences-append before.ops ops, before.fences, round_fences old round made.lines, length-push rounds round);
        syncs = omega (arith, syncs-append before.ops ops, before.syncs, round_syncs old round made.lines, length-push rounds round, ap (settlings start.sure) (sure ∙ sym made.sure));
      };
}

-- A failing call: the count rose

pub rises : (first second third : ℕ) → first ≤ second → Rose second third → Rose first third
rises first second third most (inl less) = inl (omega arith)
rises first second third most (inr last) = elim (cases_eq first second) [
  | inl e ↦ inr (e ∙ last.0, last.1)
  | inr apart ↦ inl (omega (arith, last.0, last.1, apart))
]

most_then : (first second third : ℕ) → first ≤ second → Rose second third → first ≤ third
most_then first second third most (inl less) = omega arith
most_then first second third most (inr last) = omega (arith, last.0, last.1)

one_failed : (first second third failures : ℕ) → min (first + failures) last_count ≤ second → Rose second third → min (first + (failures + 1)) last_count ≤ third
one_failed first second third failures most (inl less) = omega (arith, most, less)
one_failed first second third failures most (inr last) = omega (arith, most, last.0, last.1)

-- a round in doubt after sealed ones
doubt_after : (tale : Tale) (old new : EngineView) (s : Standing) (rounds : History) (round : Round) (after : IsSealedAfter tale old.device s rounds) → old.standing ≡ state_after s rounds → IsInDoubt (with_ops after.left.ops tale) new.device old.standing round → IsInDoubtAfter tale new.device s rounds round
doubt_after tale old new s rounds round after standing doubt =
    let again : IsInDoubt (with_ops after.left.ops tale) new.device (state_after s rounds) round = subst (λ (t : Standing). IsInDoubt (with_ops after.left.ops tale) new.device t round) standing doubt in
    let both : rounds_in (after.history ++ again.history) ≡ rounds ++ rounds_in again.history = rounds_in-append after.history again.history ∙ ap (λ (h : History). h ++ rounds_in again.history) after.rounds_are in
    record {
      history = after.history ++ again.history;
      left = after_then after again.left;
      state = elim again.rounds [
        | inl (told, still) ↦ inl (AreSealed-append after.history again.history after.sealed (subst AreSealed (sym told) tt), both ∙ (ap (λ (h : List LoggedRound). rounds ++ rounds_in h) told ∙ append-nil rounds), still)
        | inr (told, landed) ↦ inr (both ∙ ap (λ (h : History). rounds ++ h) told, landed)
      ];
    }

-- nothing more after sealed rounds
pub sealed_still : (tale : Tale) (old new : EngineView) (s : Standing) (rounds : History) (after : IsSealedAfter tale old.device s rounds) → old.standing ≡ state_after s rounds → IsCoveredExit (with_ops after.left.ops tale) new.device old.standing [] (Some old.standing ∷ []) → IsSealedAfter tale new.device s rounds
sealed_still tale old new s rounds after standing exit =
    subst (IsSealedAfter tale new.device s) (append-nil rounds)
    (sealed_after after (record {
      history = [];
      left = subst (λ (t : Standing). IsCoveredExit (with_ops after.left.ops tale) new.device t [] (Some t ∷ [])) standing exit;
      sealed = tt;
      rounds_are = refl;
    }))

same_doubt : (new : EngineView) (failed other : FailedRound) → new.doubt ≡ Some failed → new.doubt ≡ Some other → failed ≡ other
same_doubt new failed other one two = cc (one, two)

pub after_round_failed : (start old new : EngineView) (rounds : History) (failures : ℕ) (calls : List EngineCall) (round : Round) (fault : DeviceFault) → HasCome start old rounds failures calls → old.sure ≡ true → old.doubt ≡ None → (failed : HasFailedToMake round fault old new) → FailedRoundCovers round old new
    → HasCome start new rounds (failures + 1) (calls ++ Failed (record { round = round; called = failed.called }) failed.device.stops.ops ∷ [])
after_round_failed start old new rounds failures calls round fault come sure none failed covers = record {
  legal = come.legal;
  standing = failed.standing ∙ come.standing;
  count = most_then start.device.faults old.device.faults new.device.faults come.count failed.device.stops.rose;
  calm = λ calm. absurd (omega (arith, calm));
  rose = λ some. rose;
  each = one_failed start.device.faults old.device.faults new.device.faults failures come.each failed.device.stops.rose;
  called = failure_called start old new rounds failures calls come.called come.standing round fault sure failed;
  quiet = λ calm. absurd (omega (arith, calm));
  covered = λ tale members begins.
      let after = sealed_so_far tale members start old rounds failures calls come sure none begins in
      let tale_then : Tale = with_ops after.left.ops tale in
      let ready = ready_then tale old start.standing rounds come.standing after in
      record {
        decided = λ uncalled. inl (sealed_still tale old new start.standing rounds after come.standing (covers.uncalled uncalled tale_then after.left.told ready));
        in_doubt = λ doubt is called.
            let same : round ≡ doubt.round = ap (λ (f : FailedRound). f.round) (same_doubt new (record { round = round; called = failed.called }) doubt failed.doubt is) in
            subst (IsInDoubtAfter tale new.device start.standing rounds) same
            (doubt_after tale old new start.standing rounds round after come.standing (covers.called (ap was_called is ∙ called) tale_then after.left.told ready));
      };
  cost = λ tale told decided calm. absurd (omega (arith, calm));
}
  where
    rose : Rose start.device.faults new.device.faults
    rose = rises start.device.faults old.device.faults new.device.faults come.count failed.device.stops.rose

-- Settling

-- a settling of what was found, or after a round that failed before its index word
settled_found : (tale : Tale) (members : List (Option Standing)) (old new : EngineView) (s : Standing) (rounds : History) → old.standing ≡ state_after s rounds
    → ((earlier : Tale) (between : List (Option Standing)) → old.device.told ≡ Some earlier → IsReadyWith between earlier → Represents (contents_of earlier) old.standing → IsCoveredExit earlier new.device old.standing [] (Some old.standing ∷ []))
    → IsDecidedAfter tale members old s rounds → IsSealedAfter tale new.device s rounds
settled_found tale members old new s rounds standing covers (inl after) =
    let tale_then : Tale = with_ops after.left.ops tale in
    let ready = ready_then tale old s rounds standing after in
    sealed_still tale old new s rounds after standing (covers tale_then (Some old.standing ∷ []) after.left.told ready (only_member (contents_of tale_then) old.standing ready.holds))
settled_found tale members old new s rounds standing covers (inr (unsure, none, found)) =
    let tale_then : Tale = with_ops found.left.ops tale in
    let here : old.standing ≡ s = standing ∙ ap (state_after s) none in
    let stands = subst (Represents (contents_of tale_then)) (sym here) (from_told (λ (after : Tale). Represents (contents_of after) s) old.device.told tale_then found.left.told found.stands) in
    let exit = subst (λ (t : Standing). IsCoveredExit tale_then new.device t [] (Some t ∷ [])) here (covers tale_then members found.left.told found.left.exit.ready stands) in
    subst (IsSealedAfter tale new.device s) (sym none) (record {
      history = [];
      left = told_then_sealed found.left exit tt;
      sealed = tt;
      rounds_are = refl;
    })

-- one of a round in doubt, or of one that has landed
settled_doubt : (tale : Tale) (old new : EngineView) (s : Standing) (rounds : History) (failed : FailedRound) → old.standing ≡ state_after s rounds → old.doubt ≡ Some failed → failed.called ≡ true → SettleCovers old new → IsInDoubtAfter tale old.device s rounds failed.round → IsSealedAfter tale new.device s (rounds ++ failed.round ∷ [])
settled_doubt tale old new s rounds failed standing is called covers doubt = go doubt.state
  where
    tale_then : Tale
    tale_then = with_ops doubt.left.ops tale

    moved : state_after s (rounds ++ failed.round ∷ []) ≡ after_round (state_after s rounds) failed.round
    moved = state_after-append s rounds (failed.round ∷ [])

    go : (AreSealed doubt.history × (rounds_in doubt.history ≡ rounds) × IfSome old.device.told (λ after. IsRoundInDoubt after.base after.log (state_after s rounds) failed.round))
        ⊎ ((rounds_in doubt.history ≡ rounds ++ failed.round ∷ []) × IfSome old.device.told (λ after. HasRoundLanded after.base after.log (state_after s rounds) failed.round))
        → IsSealedAfter tale new.device s (rounds ++ failed.round ∷ [])
    go (inl (sealed, told, still)) =
        let in_doubt = subst (λ (t : Standing). IsRoundInDoubt tale_then.base tale_then.log t failed.round) (sym standing) (from_told (λ (after : Tale). IsRoundInDoubt after.base after.log (state_after s rounds) failed.round) old.device.told tale_then doubt.left.told still) in
        let exit = subst (λ (t : Standing). IsCoveredExit tale_then new.device t (sealed_round failed.round ∷ []) (Some (after_round t failed.round) ∷ [])) (standing ∙ ap (state_after s) (sym told)) (covers.decided failed is called tale_then doubt.left.told in_doubt) in
        let joined = told_then_sealed doubt.left exit sealed in
        let last : state_after s (rounds ++ failed.round ∷ []) ≡ after_round (state_after s (rounds_in doubt.history)) failed.round = moved ∙ ap (λ (h : History). after_round (state_after s h) failed.round) (sym told) in
        record {
          history = doubt.history ++ sealed_round failed.round ∷ [];
          left = subst (λ (t : Standing). IsCoveredExit tale new.device s (doubt.history ++ sealed_round failed.round ∷ []) (Some t ∷ [])) (sym last) joined;
          sealed = AreSealed-append doubt.history (sealed_round failed.round ∷ []) sealed (refl, tt);
          rounds_are = rounds_in-append doubt.history (sealed_round failed.round ∷ []) ∙ ap (λ (h : History). h ++ failed.round ∷ []) told;
        }
    go (inr (told, landed)) =
        let has_landed = subst (λ (t : Standing). HasRoundLanded tale_then.base tale_then.log t failed.round) (sym standing) (from_told (λ (after : Tale). HasRoundLanded after.base after.log (state_after s rounds) failed.round) old.device.told tale_then doubt.left.told landed) in
        let here : after_round old.standing failed.round ≡ state_after s (rounds_in doubt.history) = ap (λ (t : Standing). after_round t failed.round) standing ∙ (sym moved ∙ ap (state_after s) (sym told)) in
        let exit = subst (λ (t : Standing). IsCoveredExit tale_then new.device t [] (Some t ∷ [])) here (covers.landed failed is called tale_then doubt.left.told has_landed) in
        let joined = told_then doubt.left exit (inr refl) in
        let all = covers.sealed tale_then doubt.left.told in
        let end : Tale = with_ops joined.left.ops tale in
        let sealed : AreSealed (history_of end.base end.log (length tale.log)) = from_told (λ (after : Tale). (from : ℕ) → from ≤ length tale_then.log → AreSealed (history_of after.base after.log from)) new.device.told end joined.left.told all (length tale.log) (omega (arith, length-append tale.log doubt.left.ops)) in
        record {
          history = joined.history;
          left = subst (λ (h : History). IsCoveredExit tale new.device s joined.history (Some (state_after s h) ∷ [])) told joined.left;
          sealed = subst AreSealed (sym joined.left.exit.covers.told) sealed;
          rounds_are = joined.rounds ∙ (append-nil (rounds_in doubt.history) ∙ told);
        }

-- the rounds after settling are legal, and lead to the settled standing
settled_legal : (s : Standing) (rounds : History) (at : Standing) (called : Bool) (round : Round) → at ≡ state_after s rounds → IsLegalRound at round → IsLegal s rounds → IsLegal s (with_doubt called rounds round)
settled_legal s rounds at true round standing next legal = legal-push s rounds round legal (subst (λ (t : Standing). IsLegalRound t round) standing next)
settled_legal s rounds at false round standing next legal = legal

settled_state : (s : Standing) (rounds : History) (at : Standing) (called : Bool) (round : Round) → at ≡ state_after s rounds → settled_by called at round ≡ state_after s (with_doubt called rounds round)
settled_state s rounds at true round standing = ap (λ (t : Standing). after_round t round) standing ∙ sym (state_after-append s rounds (round ∷ []))
settled_state s rounds at false round standing = standing

pub after_settled : (start old new : EngineView) (rounds : History) (failures : ℕ) (calls : List EngineCall) → HasCome start old rounds failures calls → ((failed : FailedRound) → old.doubt ≡ Some failed → IsLegalRound old.standing failed.round) → old.sure ≡ false → HasSettled old new → SettleCovers old new
    → HasCome start new (settled_rounds rounds old.doubt) failures (calls ++ Settled (settle_to (header_for new.standing) new.standing) ∷ [])
after_settled start old new rounds failures calls come legal unsure settled covers = by_doubt old.doubt refl
  where
    ops : List LogOp
    ops = settle_to (header_for new.standing) new.standing

    start_unsure : failures ≡ 0 → start.sure ≡ false
    start_unsure calm = unsure_before start.sure refl
      where
        unsure_before : (sure : Bool) → start.sure ≡ sure → start.sure ≡ false
        unsure_before true is = absurd (cc ((come.quiet calm).sure is, unsure))
        unsure_before false is = is

    count : start.device.faults ≤ new.device.faults
    count = omega (arith, come.count, settled.device.faults)

    calm : failures ≡ 0 → new.device.faults ≡ start.device.faults
    calm none = settled.device.faults ∙ come.calm none

    rose : failures ≢ 0 → Rose start.device.faults new.device.faults
    rose some = subst (Rose start.device.faults) (sym settled.device.faults) (come.rose some)

    each : min (start.device.faults + failures) last_count ≤ new.device.faults
    each = omega (arith, come.each, settled.device.faults)

    called : HasCalled start new (settled_rounds rounds old.doubt) failures (calls ++ Settled ops ∷ [])
    called = settling_called start old new rounds failures calls come.called come.standing unsure settled

    settled_held : old.doubt ≡ None → IsHeld old → IsHeld new
    settled_held none held = record { stands = settled.holds none held.stands; in_use = settled.in_use none held.in_use }

    quiet : failures ≡ 0 → IsQuiet start new
    quiet none =
        let before = come.quiet none in
        record {
          sure = λ _. settled.sure;
          doubt = λ _. settled.doubt;
          known = λ first known. absurd (cc (before.sure first, unsure));
          holds = λ first held. settled_held (before.doubt first) (before.holds first held);
        }

    cost_with : (history : History) → (tale : Tale) → HasCost tale start old rounds → failures ≡ 0 → length history ≡ length rounds → HasCost tale start new history
    cost_with history tale before calm same = record {
      ops = before.ops ++ ops;
      told = told_more old.device.told new.device.told tale before.ops ops before.told settled.device.told;
      fences = omega (arith, fences-append before.ops ops, before.fences, settling_fences (header_for new.standing) (rounds_of new.standing 0) (rounds_of new.standing 1), same);
      syncs = omega (arith, syncs-append before.ops ops, before.syncs, settling_syncs (header_for new.standing) (rounds_of new.standing 0) (rounds_of new.standing 1), same, before_settling, after_settling);
    }
      where
        before_settling : settlings start.sure old.sure ≡ 0
        before_settling = (λ i. settlings (start_unsure calm i) (unsure i))

        after_settling : settlings start.sure new.sure ≡ 1
        after_settling = (λ i. settlings (start_unsure calm i) (settled.sure i))

    by_doubt : (doubt : Option FailedRound) → old.doubt ≡ doubt → HasCome start new (settled_rounds rounds doubt) failures (calls ++ Settled ops ∷ [])
    by_doubt None none = record {
      legal = come.legal;
      standing = settled.standing ∙ (ap (settled_standing old.standing) none ∙ come.standing);
      count = count;
      calm = calm;
      rose = rose;
      each = each;
      called = subst (λ (d : Option FailedRound). HasCalled start new (settled_rounds rounds d) failures (calls ++ Settled ops ∷ [])) none called;
      quiet = quiet;
      covered = λ tale members begins. record {
        decided = λ uncalled. inl (settled_found tale members old new start.standing rounds come.standing (covers.found (ap was_called none)) ((come.covered tale members begins).decided (ap was_called none)));
        in_doubt = λ failed is called. absurd (cc (settled.doubt, is));
      };
      cost = λ tale told decided none_failed. cost_with rounds tale (come.cost tale told decided none_failed) none_failed refl;
    }
    by_doubt (Some failed) is = record {
      legal = settled_legal start.standing rounds old.standing failed.called failed.round come.standing (legal failed is) come.legal;
      standing = settled.standing ∙ (ap (settled_standing old.standing) is ∙ settled_state start.standing rounds old.standing failed.called failed.round come.standing);
      count = count;
      calm = calm;
      rose = rose;
      each = each;
      called = subst (λ (d : Option FailedRound). HasCalled start new (settled_rounds rounds d) failures (calls ++ Settled ops ∷ [])) is called;
      quiet = quiet;
      covered = λ tale members begins. record {
        decided = λ uncalled. inl (by_called failed.called refl tale members begins);
        in_doubt = λ other other_is called. absurd (cc (settled.doubt, other_is));
      };
      cost = λ tale told decided none_failed. absurd (cc ((come.quiet none_failed).doubt decided, is));
    }
      where
        by_called : (called : Bool) → failed.called ≡ called → (tale : Tale) (members : List (Option Standing)) → BeginsAt tale members start → IsSealedAfter tale new.device start.standing (with_doubt called rounds failed.round)
        by_called true called tale members begins =
            settled_doubt tale old new start.standing rounds failed come.standing is called covers ((come.covered tale members begins).in_doubt failed is called)
        by_called false called tale members begins =
            settled_found tale members old new start.standing rounds come.standing (covers.found (ap was_called is ∙ called)) ((come.covered tale members begins).decided (ap was_called is ∙ called))

-- A settling that failed

failed_found : (tale : Tale) (members : List (Option Standing)) (old new : EngineView) (s : Standing) (rounds : History) → old.standing ≡ state_after s rounds → new.sure ≡ false
    → ((earlier : Tale) (between : List (Option Standing)) → old.device.told ≡ Some earlier → IsReadyWith between earlier → Represents (contents_of earlier) old.standing → IsCoveredExit earlier new.device old.standing [] between)
    → IsDecidedAfter tale members old s rounds → IsDecidedAfter tale members new s rounds
failed_found tale members old new s rounds standing unsure covers (inl after) =
    let tale_then : Tale = with_ops after.left.ops tale in
    let ready = ready_then tale old s rounds standing after in
    inl (sealed_still tale old new s rounds after standing (covers tale_then (Some old.standing ∷ []) after.left.told ready (only_member (contents_of tale_then) old.standing ready.holds)))
failed_found tale members old new s rounds standing unsure covers (inr (before, none, found)) =
    let tale_then : Tale = with_ops found.left.ops tale in
    let here : old.standing ≡ s = standing ∙ ap (state_after s) none in
    let held = from_told (λ (after : Tale). Represents (contents_of after) s) old.device.told tale_then found.left.told found.stands in
    let exit = subst (λ (t : Standing). IsCoveredExit tale_then new.device t [] members) here (covers tale_then members found.left.told found.left.exit.ready (subst (Represents (contents_of tale_then)) (sym here) held)) in
    inr (
      unsure,
      none,
      record {
        left = told_then_sealed found.left exit tt;
        stands = still_stands tale_then new.device s members exit held;
      },
    )

failed_doubt : (tale : Tale) (old new : EngineView) (s : Standing) (rounds : History) (failed : FailedRound) → old.standing ≡ state_after s rounds → old.doubt ≡ Some failed → failed.called ≡ true → FailedSettleCovers old new → IsInDoubtAfter tale old.device s rounds failed.round → IsInDoubtAfter tale new.device s rounds failed.round
failed_doubt tale old new s rounds failed standing is called covers doubt = go doubt.state
  where
    tale_then : Tale
    tale_then = with_ops doubt.left.ops tale

    moved : state_after s (rounds ++ failed.round ∷ []) ≡ after_round (state_after s rounds) failed.round
    moved = state_after-append s rounds (failed.round ∷ [])

    go : (AreSealed doubt.history × (rounds_in doubt.history ≡ rounds) × IfSome old.device.told (λ after. IsRoundInDoubt after.base after.log (state_after s rounds) failed.round))
        ⊎ ((rounds_in doubt.history ≡ rounds ++ failed.round ∷ []) × IfSome old.device.told (λ after. HasRoundLanded after.base after.log (state_after s rounds) failed.round))
        → IsInDoubtAfter tale new.device s rounds failed.round
    go (inl (sealed, told, still)) =
        let in_doubt = subst (λ (t : Standing). IsRoundInDoubt tale_then.base tale_then.log t failed.round) (sym standing) (from_told (λ (after : Tale). IsRoundInDoubt after.base after.log (state_after s rounds) failed.round) old.device.told tale_then doubt.left.told still) in
        let again = subst (λ (t : Standing). IsInDoubt tale_then new.device t failed.round) standing (covers.decided failed is called tale_then doubt.left.told in_doubt) in
        let left = subst (λ (t : Standing). IsCoveredExit tale_then new.device t again.history (either_state (state_after s rounds) failed.round)) (ap (state_after s) (sym told)) again.left in
        let both : rounds_in (doubt.history ++ again.history) ≡ rounds ++ rounds_in again.history = rounds_in-append doubt.history again.history ∙ ap (λ (h : History). h ++ rounds_in again.history) told in
        record {
          history = doubt.history ++ again.history;
          left = told_then_sealed doubt.left left sealed;
          state = elim again.rounds [
            | inl (none, kept) ↦ inl (AreSealed-append doubt.history again.history sealed (subst AreSealed (sym none) tt), both ∙ (ap (λ (h : List LoggedRound). rounds ++ rounds_in h) none ∙ append-nil rounds), kept)
            | inr (one, landed) ↦ inr (both ∙ ap (λ (h : History). rounds ++ h) one, landed)
          ];
        }
    go (inr (told, landed)) =
        let has_landed = subst (λ (t : Standing). HasRoundLanded tale_then.base tale_then.log t failed.round) (sym standing) (from_told (λ (after : Tale). HasRoundLanded after.base after.log (state_after s rounds) failed.round) old.device.told tale_then doubt.left.told landed) in
        let stays = subst (λ (t : Standing). StaysLanded tale_then new.device t failed.round) standing (covers.landed failed is called tale_then doubt.left.told has_landed) in
        let here : after_round (state_after s rounds) failed.round ≡ state_after s (rounds_in doubt.history) = sym moved ∙ ap (state_after s) (sym told) in
        let exit = subst (λ (t : Standing). IsCoveredExit tale_then new.device t [] (either_state (state_after s rounds) failed.round)) here stays.left in
        let joined = told_then doubt.left exit (inr refl) in
        record {
          history = joined.history;
          left = joined.left;
          state = inr (joined.rounds ∙ (append-nil (rounds_in doubt.history) ∙ told), stays.still);
        }

pub after_settling_failed : (start old new : EngineView) (rounds : History) (failures : ℕ) (calls : List EngineCall) (fault : DeviceFault) → HasCome start old rounds failures calls → old.sure ≡ false → (failed : HasFailedToSettle fault old new) → FailedSettleCovers old new
    → HasCome start new rounds (failures + 1) (calls ++ FailedSettling failed.device.stops.ops ∷ [])
after_settling_failed start old new rounds failures calls fault come unsure failed covers = record {
  legal = come.legal;
  standing = failed.standing ∙ come.standing;
  count = most_then start.device.faults old.device.faults new.device.faults come.count failed.device.stops.rose;
  calm = λ calm. absurd (omega (arith, calm));
  rose = λ some. rose;
  each = one_failed start.device.faults old.device.faults new.device.faults failures come.each failed.device.stops.rose;
  called = failed_settling_called start old new rounds failures calls come.called come.standing fault unsure failed;
  quiet = λ calm. absurd (omega (arith, calm));
  covered = λ tale members begins. record {
    decided = λ uncalled.
        let was : was_called old.doubt ≡ false = ap was_called (sym failed.doubt) ∙ uncalled in
        failed_found tale members old new start.standing rounds come.standing failed.unsure.sure (covers.found was) ((come.covered tale members begins).decided was);
    in_doubt = λ doubt is called.
        let was : old.doubt ≡ Some doubt = sym failed.doubt ∙ is in
        failed_doubt tale old new start.standing rounds doubt come.standing was called covers ((come.covered tale members begins).in_doubt doubt was called);
  };
  cost = λ tale told decided calm. absurd (omega (arith, calm));
}
  where
    rose : Rose start.device.faults new.device.faults
    rose = rises start.device.faults old.device.faults new.device.faults come.count failed.device.stops.rose
