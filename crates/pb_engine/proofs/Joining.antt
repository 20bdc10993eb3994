-- Where an engine's calls begin, and calls after other calls.
use Rattle.std.proofs.Common.{◌≡◌, ◌⊎◌, ℕ, suc, ◌+◌, ◌≤◌, Bool, true, false, List, [], ◌∷◌, ◌++◌, length, Option, Some, None, IfSome, option_map, refl, sym, ap, subst, ◌∙◌, inl, inr, arith, length-append}
use Rattle.std.specs.List.{All}
use Rattle.std.proofs.lemmas.Bool.{cases_eq}
use Rattle.std.proofs.lemmas.List.{append-nil, append_assoc, get_or-set_same, length-set}
use Rattle.std.proofs.lemmas.List.Elements.{All-nil, All-cons}
use Rattle.pb_pmem.specs.declared.line.Line.{Line}
use Rattle.pb_pmem.specs.declared.log.LogOp.{LogOp}
use Rattle.pb_pmem.specs.Count.{Rose, last_count}
use Rattle.pb_pmem.specs.Device.{Device, Tale, IsReplay}
use Rattle.pb_pmem.specs.Operations.{with_ops, IsFailedPrefix}
use Rattle.pb_object.specs.History.{Entry, Round, History, kept_by, after_entry, after_entries, after_round, state_after, AreLegal, IsLegalRound, IsLegal}
use Rattle.pb_object.specs.Standing.{Standing, keep, kept_list_of, newest, newest_of}
use Rattle.pb_layout.specs.declared.header.Header.{Header}
use Rattle.pb_layout.specs.Doubt.{either_state, IsRoundInDoubt, HasRoundLanded}
use Rattle.pb_layout.specs.LogHistory.{rounds_in}
use Rattle.pb_layout.specs.Recovered.{Represents}
use Rattle.pb_layout.specs.RegionOps.{settle_to}
use Rattle.pb_layout.specs.Represents.{header_for}
use Rattle.pb_layout.specs.ToldExits.{IsCoveredExit, IsSealedAfter, IsReadyWith, StaysFound, contents_of}
use Rattle.pb_layout.proofs.OneRecovery.{not_damaged}
use Rattle.pb_layout_laws.proofs.Histories.{rounds_in-append, state_after-append, AreSealed-append}
use Rattle.pb_layout_laws.proofs.ReadyWithOne.{only_member}
use Rattle.pb_layout_laws.proofs.Rounds.{RiseFrom, rise_from_zero, rise-others, after_entries-other}
use Rattle.pb_layout_laws.proofs.ToldCalls.{from_told, told_then_sealed, sealed_after, after_then}
use Rattle.pb_pair.proofs.Told.{told_now}
use Rattle.pb_engine.specs.Calls.{EngineCall}
use Rattle.pb_engine.specs.Good.{BeginsAt, IsInDoubtAfter, IsDecidedAfter, IsCovered, settlings, HasCome}
use Rattle.pb_engine.specs.Opening.{IsFreshEngine, IsAdopted, IsAdoptRefusal}
use Rattle.pb_engine.specs.View.{FailedRound, EngineView, was_called, settled_by, settled_standing}
use Rattle.pb_engine.proofs.Called.{called_on}
use Rattle.pb_engine.proofs.Coming.{ready_then, sealed_still, rises}
use Rattle.pb_engine.proofs.Costs.{fences-append, syncs-append}
use Rattle.pb_pmem.specs.declared.device.DeviceFault.{DeviceFault}
use Rattle.pb_layout.specs.Damage.{IsDamagedAt}
use Rattle.pb_layout_laws.proofs.Settling.{settling_may_be_repeated}
use Rattle.pb_pair.specs.declared.why.Why.{Why}
use Rattle.pb_pair.specs.declared.why.Why.TheVariants.{Memory, Device as DeviceWhy, Taken, NoRegion, Damaged}
use Rattle.pb_engine.specs.Outcomes.{HasSettled, HasFailedToSettle}

-- Where calls begin

pub fresh_begins : (head : Header) (old : Device) (new : EngineView) (tale : Tale) → (fresh : IsFreshEngine head old new) → (told : old.told ≡ Some tale) → (ready : IsReadyWith (None ∷ []) tale) → BeginsAt (with_ops (fresh.covers tale told ready).ops tale) (Some new.standing ∷ []) new
fresh_begins head old new tale fresh told ready =
    let left = fresh.covers tale told ready in
    let tale_then : Tale = with_ops left.ops tale in
    let alone : IsReadyWith (Some new.standing ∷ []) tale_then = subst (λ (s : Standing). IsReadyWith (Some s ∷ []) tale_then) (sym fresh.standing) left.exit.ready in
    record {
      told = left.told;
      ready = alone;
      stands = only_member (contents_of tale_then) new.standing alone.holds;
      alone = λ sure. refl;
      decided = fresh.doubt;
    }

pub adopted_begins : (device : Device) (engine : EngineView) (tale : Tale) (members : List (Option Standing)) → IsAdopted device engine → IsReplay device → device.told ≡ Some tale → IsReadyWith members tale → BeginsAt tale members engine
adopted_begins device engine tale members adopted replay told ready = record {
  told = ap (λ (d : Device). d.told) adopted.same ∙ told;
  ready = ready;
  stands = subst (λ (now : Option (List Line)). IfSome now (λ lines. Represents lines engine.standing)) (told_now device tale replay told) adopted.stands;
  alone = λ sure. absurd (cc (adopted.sure, sure));
  decided = adopted.doubt;
}

-- Calls after others

legal-append : (s : Standing) (a b : History) → IsLegal s a → IsLegal (state_after s a) b → IsLegal s (a ++ b)
legal-append s [] b first second = second
legal-append s (round ∷ a) b first second = (first.0, legal-append (after_round s round) a b first.1 second)

rose_on : (first middle last : ℕ) → Rose first middle → middle ≤ last → Rose first last
rose_on first middle last (inl less) most = inl (omega arith)
rose_on first middle last (inr (one, two)) most = elim (cases_eq last last_count) [
  | inl e ↦ inr (one, e)
  | inr apart ↦ inl (omega (arith, one, two, apart))
]

settlings_sum : (first middle last : Bool) → (first ≡ true → middle ≡ true) → (middle ≡ true → last ≡ true) → settlings first middle + settlings middle last ≡ settlings first last
settlings_sum true true last one two = refl
settlings_sum true false last one two = absurd (cc (one refl))
settlings_sum false true true one two = refl
settlings_sum false true false one two = absurd (cc (two refl))
settlings_sum false false last one two = omega arith

told_on : (told : Option Tale) (tale : Tale) (ops more : List LogOp) → told ≡ Some (with_ops more (with_ops ops tale)) → told ≡ Some (with_ops (ops ++ more) tale)
told_on told tale ops more is = is ∙ ap (λ (log : List LogOp). Some (record { base = tale.base; log = log })) (append_assoc tale.log ops more)

-- a round in doubt after others, after sealed rounds
doubt_on : (tale : Tale) (middle : Device) (last : Device) (s between : Standing) (rounds more : History) (round : Round) → between ≡ state_after s rounds → (after : IsSealedAfter tale middle s rounds) → IsInDoubtAfter (with_ops after.left.ops tale) last between more round → IsInDoubtAfter tale last s (rounds ++ more) round
doubt_on tale middle last s between rounds more round standing after doubt = record {
  history = after.history ++ doubt.history;
  left = subst (λ (t : Standing). IsCoveredExit tale last s (after.history ++ doubt.history) (either_state t round)) moved (after_then after left);
  state = elim doubt.state [
    | inl (sealed, told, still) ↦ inl (AreSealed-append after.history doubt.history after.sealed sealed, both ∙ ap (λ (h : History). rounds ++ h) told, subst (λ (t : Standing). IfSome last.told (λ end. IsRoundInDoubt end.base end.log t round)) here still)
    | inr (told, landed) ↦ inr (both ∙ (ap (λ (h : History). rounds ++ h) told ∙ sym (append_assoc rounds more (round ∷ []))), subst (λ (t : Standing). IfSome last.told (λ end. HasRoundLanded end.base end.log t round)) here landed)
  ];
}
  where
    left : IsCoveredExit (with_ops after.left.ops tale) last (state_after s rounds) doubt.history (either_state (state_after (state_after s rounds) more) round)
    left = subst (λ (t : Standing). IsCoveredExit (with_ops after.left.ops tale) last t doubt.history (either_state (state_after t more) round)) standing doubt.left

    moved : state_after (state_after s rounds) more ≡ state_after s (rounds ++ more)
    moved = sym (state_after-append s rounds more)

    here : state_after between more ≡ state_after s (rounds ++ more)
    here = ap (λ (t : Standing). state_after t more) standing ∙ moved

    both : rounds_in (after.history ++ doubt.history) ≡ rounds ++ rounds_in doubt.history
    both = rounds_in-append after.history doubt.history ∙ ap (λ (h : History). h ++ rounds_in doubt.history) after.rounds_are

-- what is covered of the calls after a settled middle, or one where nothing was settled yet
covered_on : (tale : Tale) (members : List (Option Standing)) (middle last : EngineView) (s : Standing) (rounds more : History) → middle.doubt ≡ None → middle.standing ≡ state_after s rounds → IsDecidedAfter tale members middle s rounds
    → ((earlier : Tale) (between : List (Option Standing)) → BeginsAt earlier between middle → IsCovered earlier between middle.standing last more) → IsCovered tale members s last (rounds ++ more)
covered_on tale members middle last s rounds more none standing (inl after) covered = record {
  decided = λ uncalled. inl (decided (cov.decided uncalled));
  in_doubt = λ failed is called. doubt_on tale middle.device last.device s middle.standing rounds more failed.round standing after (cov.in_doubt failed is called);
}
  where
    tale_then : Tale
    tale_then = with_ops after.left.ops tale

    begins : BeginsAt tale_then (Some middle.standing ∷ []) middle
    begins = record {
      told = after.left.told;
      ready = ready_then tale middle s rounds standing after;
      stands = only_member (contents_of tale_then) middle.standing (ready_then tale middle s rounds standing after).holds;
      alone = λ sure. refl;
      decided = none;
    }

    cov : IsCovered tale_then (Some middle.standing ∷ []) middle.standing last more
    cov = covered tale_then (Some middle.standing ∷ []) begins

    decided : IsDecidedAfter tale_then (Some middle.standing ∷ []) last middle.standing more → IsSealedAfter tale last.device s (rounds ++ more)
    decided (inl sealed) =
        sealed_after after (subst (λ (t : Standing). IsSealedAfter tale_then last.device t more) standing sealed)
    decided (inr (unsure, nothing, found)) =
        subst (IsSealedAfter tale last.device s) (sym (append-nil rounds) ∙ ap (λ (h : History). rounds ++ h) (sym nothing)) (sealed_still tale middle last s rounds after standing found.left)
covered_on tale members middle last s rounds more none standing (inr (unsure, nothing, found)) covered = record {
  decided = λ uncalled. decided (cov.decided uncalled);
  in_doubt = λ failed is called. doubt (cov.in_doubt failed is called);
}
  where
    tale_then : Tale
    tale_then = with_ops found.left.ops tale

    here : middle.standing ≡ s
    here = standing ∙ ap (state_after s) nothing

    all : more ≡ rounds ++ more
    all = ap (λ (h : History). h ++ more) (sym nothing)

    begins : BeginsAt tale_then members middle
    begins = record {
      told = found.left.told;
      ready = found.left.exit.ready;
      stands = subst (Represents (contents_of tale_then)) (sym here) (from_told (λ (end : Tale). Represents (contents_of end) s) middle.device.told tale_then found.left.told found.stands);
      alone = λ sure. absurd (cc (sure, unsure));
      decided = none;
    }

    cov : IsCovered tale_then members s last more
    cov = subst (λ (t : Standing). IsCovered tale_then members t last more) here (covered tale_then members begins)

    decided : IsDecidedAfter tale_then members last s more → IsDecidedAfter tale members last s (rounds ++ more)
    decided (inl sealed) = inl (subst (IsSealedAfter tale last.device s) all (record {
      history = sealed.history;
      left = told_then_sealed found.left sealed.left tt;
      sealed = sealed.sealed;
      rounds_are = sealed.rounds_are;
    }))
    decided (inr (still, none_more, again)) = inr (
      still,
      sym all ∙ none_more,
      record {
        left = told_then_sealed found.left again.left tt;
        stands = again.stands;
      },
    )

    doubt : {round : Round} → IsInDoubtAfter tale_then last.device s more round → IsInDoubtAfter tale last.device s (rounds ++ more) round
    doubt {round} is = subst (λ (h : History). IsInDoubtAfter tale last.device s h round) all (record {
      history = is.history;
      left = told_then_sealed found.left is.left tt;
      state = is.state;
    })

pub come_on : (first middle last : EngineView) (rounds more : History) (failures others : ℕ) (calls later : List EngineCall) → HasCome first middle rounds failures calls → middle.doubt ≡ None → HasCome middle last more others later → HasCome first last (rounds ++ more) (failures + others) (calls ++ later)
come_on first middle last rounds more failures others calls later one none two = record {
  legal = legal-append first.standing rounds more one.legal (subst (λ (s : Standing). IsLegal s more) one.standing two.legal);
  standing = two.standing ∙ (ap (λ (s : Standing). state_after s more) one.standing ∙ sym (state_after-append first.standing rounds more));
  count = omega (arith, one.count, two.count);
  calm = λ calm. two.calm (calm_after calm) ∙ one.calm (calm_before calm);
  rose = λ some. elim (cases_eq failures 0) [
    | inl nothing ↦ rises first.device.faults middle.device.faults last.device.faults one.count (two.rose (λ no_others. some (omega (arith, nothing, no_others))))
    | inr before ↦ rose_on first.device.faults middle.device.faults last.device.faults (one.rose before) two.count
  ];
  each = omega (arith, one.each, two.each);
  called = called_on first middle last rounds more failures others calls later one.called one.standing two.called;
  quiet = λ calm.
      let before = one.quiet (calm_before calm) in
      let after = two.quiet (calm_after calm) in
      record {
        sure = λ sure. after.sure (before.sure sure);
        doubt = λ nothing. after.doubt none;
        known = λ sure known. after.known (before.sure sure) (before.known sure known);
        holds = λ nothing held. after.holds none (before.holds nothing held);
      };
  covered = λ tale members begins. covered_on tale members middle last first.standing rounds more none one.standing ((one.covered tale members begins).decided (ap was_called none)) two.covered;
  cost = λ tale told decided calm.
      let before = one.cost tale told decided (calm_before calm) in
      let tale_then : Tale = with_ops before.ops tale in
      let after = two.cost tale_then before.told none (calm_after calm) in
      record {
        ops = before.ops ++ after.ops;
        told = told_on last.device.told tale before.ops after.ops after.told;
        fences = omega (arith, fences-append before.ops after.ops, before.fences, after.fences, length-append rounds more);
        syncs = omega (arith, syncs-append before.ops after.ops, before.syncs, after.syncs, length-append rounds more, settlings_sum first.sure middle.sure last.sure (one.quiet (calm_before calm)).sure (two.quiet (calm_after calm)).sure);
      };
}
  where
    calm_before : failures + others ≡ 0 → failures ≡ 0
    calm_before calm = omega (arith, calm)

    calm_after : failures + others ≡ 0 → others ≡ 0
    calm_after calm = omega (arith, calm)

-- What a round keeps

abbrev IsKeptIn : Standing → Entry → Type 0
IsKeptIn t entry = newest_of t entry.client ≡ kept_by entry

kept_after : (s : Standing) (side floor : ℕ) (entries : List Entry) → length s.kept ≡ s.clients → AreLegal s side entries → RiseFrom floor entries → All (IsKeptIn (after_entries s entries)) entries
kept_after s side floor [] long legal rise = All-nil (IsKeptIn s)
kept_after s side floor (entry ∷ entries) long legal rise =
    let own : kept_list_of (after_entry s entry) entry.client ≡ keep (kept_by entry) (kept_list_of s entry.client) = get_or-set_same s.kept entry.client (keep (kept_by entry) (kept_list_of s entry.client)) [] (omega (arith, legal.0.client, long)) in
    let later = after_entries-other (after_entry s entry) entries entry.client (rise-others entry.client (suc entry.client) entries (omega arith) rise.1) in
    All-cons (IsKeptIn (after_entries (after_entry s entry) entries)) entry entries (ap newest (later ∙ own))
    (kept_after (after_entry s entry) side (suc entry.client) entries (length-set s.kept entry.client (keep (kept_by entry) (kept_list_of s entry.client)) ∙ long) legal.1 rise.1)

pub round_kept : (s : Standing) (round : Round) → length s.kept ≡ s.clients → IsLegalRound s round → All (IsKeptIn (after_round s round)) round.entries
round_kept s round long legal = kept_after s round.side 0 round.entries long legal.legal (rise_from_zero round.entries legal.rising)

-- Opening again

uncalled_stays : (s : Standing) (doubt : Option FailedRound) → was_called doubt ≡ false → settled_standing s doubt ≡ s
uncalled_stays s None uncalled = refl
uncalled_stays s (Some failed) uncalled = ap (λ (called : Bool). settled_by called s failed.round) uncalled

pub stays_found : (old new : EngineView) (fault : DeviceFault) (tale : Tale) → was_called old.doubt ≡ false → old.device.told ≡ Some tale → IsReadyWith (Some old.standing ∷ []) tale → HasSettled old new ⊎ HasFailedToSettle fault old new → StaysFound tale new.device old.standing
stays_found old new fault tale uncalled told ready (inl settled) =
    let s = old.standing in
    let same : new.standing ≡ s = settled.standing ∙ uncalled_stays s old.doubt uncalled in
    record {
      ops = settle_to (header_for s) s;
      told = settled.device.told ∙ (ap (option_map (with_ops (settle_to (header_for new.standing) new.standing))) told ∙ ap (λ (t : Standing). Some (with_ops (settle_to (header_for t) t) tale)) same);
      images = settling_may_be_repeated tale.base tale.log (settle_to (header_for s) s) s ready (inr refl);
    }
stays_found old new fault tale uncalled told ready (inr failed) =
    let s = old.standing in
    let stops = failed.device.stops in
    record {
      ops = stops.ops;
      told = stops.told ∙ ap (option_map (with_ops stops.ops)) told;
      images = settling_may_be_repeated tale.base tale.log stops.ops s ready (inl (subst (λ (t : Standing). IsFailedPrefix (settle_to (header_for t) t) stops.ops) (uncalled_stays s old.doubt uncalled) stops.cut));
    }

pub adopted_always : (old new : Device) (why : Why) (lines : List Line) (s : Standing) → IsAdoptRefusal old new why → old.now ≡ Some lines → Represents lines s → (why ≡ Memory) ⊎ ((fault : DeviceFault) × (why ≡ DeviceWhy fault))
adopted_always old new Memory lines s refusal now stands = inl refl
adopted_always old new (DeviceWhy fault) lines s refusal now stands = inr (fault, refl)
adopted_always old new Taken lines s refusal now stands = absurd refusal
adopted_always old new NoRegion lines s refusal now stands = absurd refusal
adopted_always old new (Damaged line) lines s refusal now stands =
    absurd (not_damaged lines s line stands (subst (λ (told : Option (List Line)). IfSome told (λ ls. IsDamagedAt ls line)) now refusal.1))
