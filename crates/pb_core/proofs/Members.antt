-- What the device of each world may be found with, and that it is ready with that.
use Rattle.std.proofs.Common.{◌≡◌, ◌⊎◌, ℕ, suc, ◌+◌, ◌<◌, ◌≤◌, nat_le, List, [], ◌∷◌, ◌++◌, Option, Some, None, length, ap, subst, sym, refl, ◌∙◌, inl, inr, arith}
use Rattle.std.proofs.lemmas.Bool.{cond-true, cond-false, le-leb, lt-leb}
use Rattle.std.proofs.lemmas.List.{append-nil, length-append}
use Rattle.pb_pmem.specs.declared.log.LogOp.{LogOp}
use Rattle.pb_pmem.specs.Device.{Tale}
use Rattle.pb_object.specs.History.{Round, History, after_round, state_after}
use Rattle.pb_object.specs.Standing.{Standing}
use Rattle.pb_layout.specs.Doubt.{either_state}
use Rattle.pb_layout.specs.Ready.{IsReady}
use Rattle.pb_layout_laws.proofs.Histories.{state_after-append}
use Rattle.pb_core.specs.DeviceParts.{with_log, IsSteady, IsWriting, IsInDoubtAfter, IsUnsettled, Fits}
use Rattle.pb_core.specs.Laws.{members_in_doubt, members_in_round, members_by}
use Rattle.pb_core.specs.Memory.{Engine, Resting, Recorded, Writing, Doubtful, with_round_ahead, coming}
use Rattle.pb_core.specs.World.{CallProgress, NoCall, InCall, IsRoundPlan}
use Rattle.pb_core.specs.WorldMoves.{last_calls}
use Rattle.pb_core.proofs.Calls.{writing_ends, settling_goes_on, settling_ends}
use Rattle.pb_core.proofs.Devices.{steady_at, first_calls, plan_cut, begun_prefix, staging_leaves, committing_leaves}
use Rattle.pb_core.proofs.Lists.{IsBefore, two_cuts}

abbrev IsReadyWith : Tale → List (Option Standing) → Type 0
IsReadyWith tale members = IsReady tale.base tale.log members

-- Where no call is under way

ready_behind : {tale : Tale} {s : Standing} (rounds : History) (ahead : Option Round) → IsSteady tale s (rounds ++ coming ahead) → IsReadyWith tale (Some (with_round_ahead ahead (state_after s rounds)) ∷ [])
ready_behind {tale} {s} rounds None steady =
    subst (λ (h : History). IsReadyWith tale (Some (state_after s h) ∷ [])) (append-nil rounds) steady.exit.ready
ready_behind {tale} {s} rounds (Some round) steady =
    subst (λ (t : Standing). IsReadyWith tale (Some t ∷ [])) (state_after-append s rounds (round ∷ [])) steady.exit.ready

ready_in_doubt : {tale : Tale} {s : Standing} {rounds : History} {round : Round} → IsInDoubtAfter tale s rounds round → IsReadyWith tale (either_state (state_after s rounds) round)
ready_in_doubt {tale} {s} {rounds} {round} doubt =
    subst (λ (l : List LogOp). IsReady tale.base l (either_state (state_after s rounds) round)) (sym doubt.log) doubt.doubt.exit.ready

ready_unsettled : {tale : Tale} (s : Standing) (rounds : History) (ahead : Option Round) → IsUnsettled tale s rounds ahead → IsReadyWith tale (members_in_doubt ahead (state_after s rounds))
ready_unsettled s rounds None steady = steady.exit.ready
ready_unsettled s rounds (Some round) doubt = ready_in_doubt doubt

-- In the calls of a round

-- the index word is still to be called: ..
members-before : (op : LogOp) (left more : List LogOp) (s : Standing) (round : Round) → op ∷ left ≡ more ++ last_calls s round → members_in_round (op ∷ left) s round ≡ Some s ∷ []
members-before op left more s round whole =
    let long : suc (length left) ≡ length more + length (last_calls s round) = ap (λ (l : List LogOp). length l) whole ∙ length-append more (last_calls s round) in
    cond-true (nat_le (length (last_calls s round)) (suc (length left))) (Some s ∷ []) (either_state s round) (le-leb (length (last_calls s round)) (suc (length left)) (omega (arith, long)))

-- .. or it was called
members-from : (op : LogOp) (left : List LogOp) (first : LogOp) (more : List LogOp) (s : Standing) (round : Round) → last_calls s round ≡ (first ∷ more) ++ op ∷ left → members_in_round (op ∷ left) s round ≡ either_state s round
members-from op left first more s round whole =
    let long : length (last_calls s round) ≡ suc (length more) + suc (length left) = ap (λ (l : List LogOp). length l) whole ∙ length-append (first ∷ more) (op ∷ left) in
    cond-false (nat_le (length (last_calls s round)) (suc (length left))) (Some s ∷ []) (either_state s round) (lt-leb (length (last_calls s round)) (suc (length left)) (omega (arith, long)))

ready_writing : {tale : Tale} {s : Standing} {rounds : History} {ahead : Option Round} {entry made : List LogOp} (left : List LogOp) (writing : IsWriting tale s rounds ahead entry made left) → IsReadyWith tale (members_in_round left (state_after s rounds) writing.round)
ready_writing {tale} {s} {rounds} {ahead} {entry} {made} [] writing =
    subst (λ (a : Option Round). IsReadyWith tale (Some (with_round_ahead a (state_after s rounds)) ∷ [])) writing.ahead_is (ready_behind rounds ahead (writing_ends writing))
ready_writing {tale} {s} {rounds} {ahead} {entry} {made} (op ∷ left) writing =
    go (two_cuts made (op ∷ left) (first_calls writing.planned) (last_calls at writing.round) (plan_cut writing.planned))
  where
    at : Standing
    at = state_after s rounds

    -- all calls so far write no line in use
    staged : (more : List LogOp) → first_calls writing.planned ≡ made ++ more → op ∷ left ≡ more ++ last_calls at writing.round → IsReadyWith tale (members_in_round (op ∷ left) at writing.round)
    staged more first rest =
        let steady : IsSteady tale s rounds = steady_at (entry ++ made) (sym writing.log) (staging_leaves made writing.begun writing.planned (inr (more, first))) in
        subst (IsReadyWith tale) (sym (members-before op left more at writing.round rest)) steady.exit.ready

    go : IsBefore made (op ∷ left) (first_calls writing.planned) (last_calls at writing.round) ⊎ IsBefore (first_calls writing.planned) (last_calls at writing.round) made (op ∷ left) → IsReadyWith tale (members_in_round (op ∷ left) at writing.round)
    go (inl cut) = staged cut.more cut.first cut.rest
    go (inr cut) = behind cut.more cut.first cut.rest
      where
        behind : (more : List LogOp) → made ≡ first_calls writing.planned ++ more → last_calls at writing.round ≡ more ++ op ∷ left → IsReadyWith tale (members_in_round (op ∷ left) at writing.round)
        behind [] first rest =
            staged [] (sym (append-nil (first_calls writing.planned)) ∙ (sym first ∙ sym (append-nil made))) (sym rest)
        behind (index ∷ more) first rest =
            let doubt : IsInDoubtAfter (with_log tale (entry ++ (first_calls writing.planned ++ index ∷ more))) s rounds writing.round = committing_leaves (index ∷ more) writing.begun writing.planned (begun_prefix (last_calls at writing.round) (index ∷ more) op left rest) in
            let same : entry ++ (first_calls writing.planned ++ index ∷ more) ≡ tale.log = ap (λ (l : List LogOp). entry ++ l) (sym first) ∙ sym writing.log in
            subst (IsReadyWith tale) (sym (members-from op left index more at writing.round rest)) (subst (λ (l : List LogOp). IsReady tale.base l (either_state at writing.round)) same (ready_in_doubt doubt))

-- In each world

ready_in_round : (tale : Tale) (s : Standing) (rounds : History) (ahead : Option Round) (entry made left : List LogOp) → IsWriting tale s rounds ahead entry made left → IsReadyWith tale (members_by Writing (InCall entry made left) ahead (state_after s rounds))
ready_in_round tale s rounds ahead entry made left writing =
    subst (λ (a : Option Round). IsReadyWith tale (members_by Writing (InCall entry made left) a (state_after s rounds))) (sym writing.ahead_is) (ready_writing left writing)

pub fits_ready : (tale : Tale) (s : Standing) (rounds : History) (ahead : Option Round) (engine : Engine) (progress : CallProgress) → Fits engine progress tale s rounds ahead → IsReadyWith tale (members_by engine progress ahead (state_after s rounds))
fits_ready tale s rounds ahead Resting NoCall fits = fits.exit.ready
fits_ready tale s rounds ahead Resting (InCall entry made left) fits = absurd fits
fits_ready tale s rounds ahead Recorded NoCall fits = ready_behind rounds ahead fits
fits_ready tale s rounds ahead Recorded (InCall entry made left) fits = absurd fits
fits_ready tale s rounds ahead Writing NoCall fits = absurd fits
fits_ready tale s rounds ahead Writing (InCall entry made left) fits =
    ready_in_round tale s rounds ahead entry made left fits
fits_ready tale s rounds ahead Doubtful NoCall fits = ready_unsettled s rounds ahead fits
fits_ready tale s rounds ahead Doubtful (InCall entry made []) fits =
    ready_behind rounds ahead (settling_ends fits)
fits_ready tale s rounds ahead Doubtful (InCall entry made (op ∷ left)) fits =
    ready_unsettled s rounds ahead (settling_goes_on fits)
