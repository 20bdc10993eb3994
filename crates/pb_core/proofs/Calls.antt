-- Calls of the device that are being made: how far they came, and what is left of them where one fails.
use Rattle.std.proofs.Common.{◌≡◌, ◌⊎◌, List, [], ◌∷◌, ◌++◌, Option, Some, None, option_to_list, ap, subst, sym, refl, ◌∙◌, inl, inr}
use Rattle.std.proofs.lemmas.List.{append-nil, append_assoc, append_cancel_right}
use Rattle.pb_crash.specs.declared.leaves.Leaves.{Leaves}
use Rattle.pb_crash.specs.Leaves.{left_by}
use Rattle.pb_pmem.specs.declared.log.LogOp.{LogOp}
use Rattle.pb_pmem.specs.Device.{Tale}
use Rattle.pb_pmem.specs.Operations.{IsFailedPrefix, with_ops}
use Rattle.pb_object.specs.History.{Round, History, after_round, state_after}
use Rattle.pb_object.specs.Standing.{Standing}
use Rattle.pb_layout.specs.RegionOps.{settle_to}
use Rattle.pb_layout.specs.Represents.{header_for}
use Rattle.pb_layout_laws.proofs.InDoubt.{settling_after, settling_after_failing}
use Rattle.pb_layout_laws.proofs.Settling.{settling_failing, settling_leaves_one}
use Rattle.pb_core.specs.DeviceParts.{with_log, IsSteady, IsWriting, IsInDoubtAfter, IsUnsettled, IsSettling}
use Rattle.pb_core.specs.Memory.{with_round_ahead, coming}
use Rattle.pb_core.specs.World.{IsRoundPlan}
use Rattle.pb_core.specs.WorldMoves.{failed, last_calls}
use Rattle.pb_core.proofs.Devices.{steady_at, first_calls, plan_cut, steady_holds, steady_quiet, steady_sealed, failed_prefix, begun_prefix, staging_leaves, committing_leaves, committing_seals}
use Rattle.pb_core.proofs.Lists.{IsBefore, two_cuts}

doubt_log : {tale : Tale} {s : Standing} {rounds : History} {round : Round} (log : List LogOp) → log ≡ tale.log → IsInDoubtAfter (with_log tale log) s rounds round → IsInDoubtAfter tale s rounds round
doubt_log {tale} {s} {rounds} {round} log same doubt =
    subst (λ (l : List LogOp). IsInDoubtAfter (with_log tale l) s rounds round) same doubt

-- A round

-- how far its calls came: its index word is still to be called; it was, and the round is in doubt; or all are made, and it is sealed
pub data HasReached (tale : Tale) (s : Standing) (rounds : History) (round : Round) : Type 0 where
  before_it : IsSteady tale s rounds → HasReached tale s rounds round
  in_doubt : IsInDoubtAfter tale s rounds round → HasReached tale s rounds round
  behind_it : IsSteady tale s (rounds ++ round ∷ []) → HasReached tale s rounds round

pub writing_reached : {tale : Tale} {s : Standing} {rounds : History} {ahead : Option Round} {entry made left : List LogOp} (writing : IsWriting tale s rounds ahead entry made left) → HasReached tale s rounds writing.round
writing_reached {tale} {s} {rounds} {ahead} {entry} {made} {left} writing =
    go left writing.planned (two_cuts made left (first_calls writing.planned) (last_calls (state_after s rounds) writing.round) (plan_cut writing.planned))
  where
    go : (left : List LogOp) (planned : IsRoundPlan (with_log tale entry) (state_after s rounds) writing.round (made ++ left)) → IsBefore made left (first_calls planned) (last_calls (state_after s rounds) writing.round) ⊎ IsBefore (first_calls planned) (last_calls (state_after s rounds) writing.round) made left → HasReached tale s rounds writing.round
    go left planned (inl cut) =
        before_it (steady_at (entry ++ made) (sym writing.log) (staging_leaves made writing.begun planned (inr (cut.more, cut.first))))
    go [] planned (inr cut) =
        behind_it (steady_at (entry ++ made) (sym writing.log) (subst (λ (ops : List LogOp). IsSteady (with_log tale (entry ++ ops)) s (rounds ++ writing.round ∷ [])) (append-nil made) (committing_seals writing.begun planned)))
    go (op ∷ rest) planned (inr cut) =
        in_doubt (doubt_log (entry ++ made) (sym writing.log) (subst (λ (ops : List LogOp). IsInDoubtAfter (with_log tale (entry ++ ops)) s rounds writing.round) (sym cut.first) (committing_leaves cut.more writing.begun planned (begun_prefix (last_calls (state_after s rounds) writing.round) cut.more op rest cut.rest))))

-- all its calls are made
pub writing_ends : {tale : Tale} {s : Standing} {rounds : History} {ahead : Option Round} {entry made : List LogOp} → IsWriting tale s rounds ahead entry made [] → IsSteady tale s (rounds ++ coming ahead)
writing_ends {tale} {s} {rounds} {ahead} {entry} {made} writing =
    subst (λ (a : Option Round). IsSteady tale s (rounds ++ coming a)) (sym writing.ahead_is) (steady_at (entry ++ made) (sym writing.log) (subst (λ (ops : List LogOp). IsSteady (with_log tale (entry ++ ops)) s (rounds ++ writing.round ∷ [])) (append-nil made) (committing_seals writing.begun writing.planned)))

-- the log after a failing call
failed_log : (tale : Tale) (entry made : List LogOp) (how : Leaves) (op : LogOp) → tale.log ≡ entry ++ made → entry ++ (made ++ option_to_list (left_by how op)) ≡ (failed how op tale).log
failed_log tale entry made how op log =
    sym (append_assoc entry made (option_to_list (left_by how op))) ∙ ap (λ (l : List LogOp). l ++ option_to_list (left_by how op)) (sym log)

-- one fails before its index word
pub staging_fails : {tale : Tale} {s : Standing} {rounds : History} {ahead : Option Round} {entry made : List LogOp} (how : Leaves) (op : LogOp) (more : List LogOp) (round : Round) → ahead ≡ Some round → IsWriting tale s rounds ahead entry made (op ∷ (more ++ last_calls (state_after s rounds) round)) → IsSteady (failed how op tale) s rounds
staging_fails {tale} {s} {rounds} {ahead} {entry} {made} how op more round same writing =
    steady_at (entry ++ (made ++ option_to_list (left_by how op))) (failed_log tale entry made how op writing.log) (staging_leaves (made ++ option_to_list (left_by how op)) writing.begun writing.planned (inl (failed_prefix how (first_calls writing.planned) made op more whole)))
  where
    its : writing.round ≡ round
    its = cc (writing.ahead_is, same)

    last : last_calls (state_after s rounds) round ≡ last_calls (state_after s rounds) writing.round
    last = ap (last_calls (state_after s rounds)) (sym its)

    whole : first_calls writing.planned ≡ made ++ op ∷ more
    whole =
        append_cancel_right (first_calls writing.planned) (made ++ op ∷ more) (last_calls (state_after s rounds) writing.round) (sym (plan_cut writing.planned) ∙ (ap (λ (l : List LogOp). made ++ op ∷ (more ++ l)) last ∙ sym (append_assoc made (op ∷ more) (last_calls (state_after s rounds) writing.round))))

-- one fails from its index word on
pub committing_fails : {tale : Tale} {s : Standing} {rounds : History} {ahead : Option Round} {entry made : List LogOp} (how : Leaves) (op : LogOp) (before left : List LogOp) (round : Round) → ahead ≡ Some round → last_calls (state_after s rounds) round ≡ before ++ op ∷ left → IsWriting tale s rounds ahead entry made (op ∷ left) → IsInDoubtAfter (failed how op tale) s rounds round
committing_fails {tale} {s} {rounds} {ahead} {entry} {made} how op before left round same last writing =
    subst (IsInDoubtAfter (failed how op tale) s rounds) its (doubt_log (entry ++ (made ++ option_to_list (left_by how op))) (failed_log tale entry made how op writing.log) (subst (λ (ops : List LogOp). IsInDoubtAfter (with_log tale (entry ++ ops)) s rounds writing.round) ops (committing_leaves (before ++ option_to_list (left_by how op)) writing.begun writing.planned (failed_prefix how (last_calls (state_after s rounds) writing.round) before op left its_last))))
  where
    its : writing.round ≡ round
    its = cc (writing.ahead_is, same)

    its_last : last_calls (state_after s rounds) writing.round ≡ before ++ op ∷ left
    its_last = ap (last_calls (state_after s rounds)) its ∙ last

    first : made ≡ first_calls writing.planned ++ before
    first =
        append_cancel_right made (first_calls writing.planned ++ before) (op ∷ left) (plan_cut writing.planned ∙ (ap (λ (l : List LogOp). first_calls writing.planned ++ l) its_last ∙ sym (append_assoc (first_calls writing.planned) before (op ∷ left))))

    ops : first_calls writing.planned ++ (before ++ option_to_list (left_by how op)) ≡ made ++ option_to_list (left_by how op)
    ops =
        sym (append_assoc (first_calls writing.planned) before (option_to_list (left_by how op))) ∙ ap (λ (l : List LogOp). l ++ option_to_list (left_by how op)) (sym first)

-- Settling

settles_steady : {tale : Tale} {s : Standing} {rounds : History} (ops : List LogOp) → IsSteady tale s rounds → IsFailedPrefix (settle_to (header_for (state_after s rounds)) (state_after s rounds)) ops ⊎ (ops ≡ settle_to (header_for (state_after s rounds)) (state_after s rounds)) → IsSteady (with_ops ops tale) s rounds
settles_steady {tale} {s} {rounds} ops steady (inl cut) =
    steady_quiet steady (settling_failing tale.base tale.log ops (state_after s rounds) (Some (state_after s rounds) ∷ []) steady.exit.ready (steady_holds steady) cut)
settles_steady {tale} {s} {rounds} ops steady (inr all) =
    subst (λ (l : List LogOp). IsSteady (with_ops l tale) s rounds) (sym all) (steady_quiet steady (settling_leaves_one tale.base tale.log (state_after s rounds) (Some (state_after s rounds) ∷ []) steady.exit.ready (steady_holds steady)))

settles_doubt : {tale : Tale} {s : Standing} {rounds : History} {round : Round} (ops : List LogOp) → IsInDoubtAfter tale s rounds round → IsFailedPrefix (settle_to (header_for (state_after s rounds)) (after_round (state_after s rounds) round)) ops → IsInDoubtAfter (with_ops ops tale) s rounds round
settles_doubt {tale} {s} {rounds} {round} ops doubt cut = record {
  entry = doubt.entry;
  made = doubt.made ++ ops;
  log = ap (λ (l : List LogOp). l ++ ops) doubt.log ∙ append_assoc doubt.entry doubt.made ops;
  begun = doubt.begun;
  doubt = settling_after_failing doubt.doubt cut;
}

settles_round : {tale : Tale} {s : Standing} {rounds : History} {round : Round} → IsInDoubtAfter tale s rounds round → IsSteady (with_ops (settle_to (header_for (state_after s rounds)) (after_round (state_after s rounds) round)) tale) s (rounds ++ round ∷ [])
settles_round {tale} {s} {rounds} {round} doubt =
    let settle = settle_to (header_for (state_after s rounds)) (after_round (state_after s rounds) round) in
    steady_at (doubt.entry ++ (doubt.made ++ settle)) (sym (append_assoc doubt.entry doubt.made settle) ∙ ap (λ (l : List LogOp). l ++ settle) (sym doubt.log)) (steady_sealed doubt.begun (settling_after doubt.doubt))

-- what is in doubt after some calls of settling
unsettled_after : (tale : Tale) (s : Standing) (rounds : History) (ahead : Option Round) (ops : List LogOp) → IsUnsettled tale s rounds ahead → IsFailedPrefix (settle_to (header_for (state_after s rounds)) (with_round_ahead ahead (state_after s rounds))) ops → IsUnsettled (with_ops ops tale) s rounds ahead
unsettled_after tale s rounds None ops unsettled cut = settles_steady ops unsettled (inl cut)
unsettled_after tale s rounds (Some round) ops unsettled cut = settles_doubt ops unsettled cut

-- and after all of them
settled_after : (tale : Tale) (s : Standing) (rounds : History) (ahead : Option Round) → IsUnsettled tale s rounds ahead → IsSteady (with_ops (settle_to (header_for (state_after s rounds)) (with_round_ahead ahead (state_after s rounds))) tale) s (rounds ++ coming ahead)
settled_after tale s rounds None unsettled =
    subst (IsSteady (with_ops (settle_to (header_for (state_after s rounds)) (state_after s rounds)) tale) s) (sym (append-nil rounds)) (settles_steady (settle_to (header_for (state_after s rounds)) (state_after s rounds)) unsettled (inr refl))
settled_after tale s rounds (Some round) unsettled = settles_round unsettled

unsettled_log : (tale : Tale) (s : Standing) (rounds : History) (ahead : Option Round) (log : List LogOp) → log ≡ tale.log → IsUnsettled (with_log tale log) s rounds ahead → IsUnsettled tale s rounds ahead
unsettled_log tale s rounds ahead log same unsettled =
    subst (λ (l : List LogOp). IsUnsettled (with_log tale l) s rounds ahead) same unsettled

-- a call is left: what was in doubt is so still
pub settling_goes_on : {tale : Tale} {s : Standing} {rounds : History} {ahead : Option Round} {entry made left : List LogOp} {op : LogOp} → IsSettling tale s rounds ahead entry made (op ∷ left) → IsUnsettled tale s rounds ahead
settling_goes_on {tale} {s} {rounds} {ahead} {entry} {made} {left} {op} settling =
    unsettled_log tale s rounds ahead (entry ++ made) (sym settling.log) (unsettled_after (with_log tale entry) s rounds ahead made settling.begun (begun_prefix (settle_to (header_for (state_after s rounds)) (with_round_ahead ahead (state_after s rounds))) made op left (sym settling.planned)))

-- all its calls are made
pub settling_ends : {tale : Tale} {s : Standing} {rounds : History} {ahead : Option Round} {entry made : List LogOp} → IsSettling tale s rounds ahead entry made [] → IsSteady tale s (rounds ++ coming ahead)
settling_ends {tale} {s} {rounds} {ahead} {entry} {made} settling =
    steady_at (entry ++ made) (sym settling.log) (subst (λ (ops : List LogOp). IsSteady (with_log tale (entry ++ ops)) s (rounds ++ coming ahead)) (sym settling.planned ∙ append-nil made) (settled_after (with_log tale entry) s rounds ahead settling.begun))

-- how far settling came
pub settling_reached : {tale : Tale} {s : Standing} {rounds : History} {ahead : Option Round} {entry made left : List LogOp} → IsSettling tale s rounds ahead entry made left → IsUnsettled tale s rounds ahead ⊎ IsSteady tale s (rounds ++ coming ahead)
settling_reached {tale} {s} {rounds} {ahead} {entry} {made} {left} settling = go left settling
  where
    go : (left : List LogOp) → IsSettling tale s rounds ahead entry made left → IsUnsettled tale s rounds ahead ⊎ IsSteady tale s (rounds ++ coming ahead)
    go [] settling = inr (settling_ends settling)
    go (op ∷ left) settling = inl (settling_goes_on settling)

-- one of them fails
pub settling_fails : {tale : Tale} {s : Standing} {rounds : History} {ahead : Option Round} {entry made left : List LogOp} (how : Leaves) (op : LogOp) → IsSettling tale s rounds ahead entry made (op ∷ left) → IsUnsettled (failed how op tale) s rounds ahead
settling_fails {tale} {s} {rounds} {ahead} {entry} {made} {left} how op settling =
    unsettled_log (failed how op tale) s rounds ahead (entry ++ (made ++ option_to_list (left_by how op))) (failed_log tale entry made how op settling.log) (unsettled_after (with_log tale entry) s rounds ahead (made ++ option_to_list (left_by how op)) settling.begun (failed_prefix how (settle_to (header_for (state_after s rounds)) (with_round_ahead ahead (state_after s rounds))) made op left (sym settling.planned)))
