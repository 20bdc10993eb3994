-- Calls one after the other over a device that tells its log.
use Rattle.std.proofs.Common.{◌≡◌, ◌⊎◌, List, [], ◌∷◌, ◌++◌, length, Option, Some, IfSome, ap, subst, sym, refl, ◌∙◌, inl, inr}
use Rattle.std.proofs.lemmas.List.{append-nil, append_assoc}
use Rattle.pb_pmem.specs.declared.line.Line.{Line}
use Rattle.pb_pmem.specs.declared.log.LogOp.{LogOp}
use Rattle.pb_pmem.specs.Device.{Device, Tale}
use Rattle.pb_pmem.specs.Operations.{with_ops}
use Rattle.pb_object.specs.History.{Round, History, after_round, state_after}
use Rattle.pb_object.specs.Standing.{Standing}
use Rattle.pb_layout.specs.Damage.{HasRegion}
use Rattle.pb_layout.specs.Doubt.{either_state, IsRoundInDoubt, HasRoundLanded, IsExitInDoubt}
use Rattle.pb_layout.specs.Exits.{IsExit, sealed_round}
use Rattle.pb_layout.specs.LogHistory.{LoggedRound, rounds_in, AreSealed, history_of}
use Rattle.pb_layout.specs.Ready.{ImageRepresentsOne}
use Rattle.pb_layout.specs.ToldExits.{IsCoveredExit, IsSealedAfter, IsReadyWith, IsInDoubt, contents_of}
use Rattle.pb_layout.proofs.OneRecovery.{has_region}
use Rattle.pb_layout_laws.proofs.Calls.{calls-append, calls-append_sealed, nothing_done}
use Rattle.pb_layout_laws.proofs.Growing.{rounds_of-parts}
use Rattle.pb_layout_laws.proofs.Histories.{rounds_in-append, state_after-append, AreSealed-append}
use Rattle.pb_layout_laws.proofs.ReadyWithOne.{only_member}

-- One call

pub told_exit : {tale : Tale} {new : Device} {s : Standing} {history : List LoggedRound} {members : List (Option Standing)} (ops : List LogOp) → new.told ≡ Some (with_ops ops tale) → IsExit tale.base tale.log ops s history members → IsCoveredExit tale new s history members
told_exit ops told exit = record { ops = ops; told = told; exit = exit }

pub if_told : (P : Tale → Type 0) (told : Option Tale) (tale : Tale) → told ≡ Some tale → P tale → IfSome told P
if_told P told tale is holds = subst (λ (o : Option Tale). IfSome o P) (sym is) holds

pub from_told : (P : Tale → Type 0) (told : Option Tale) (tale : Tale) → told ≡ Some tale → IfSome told P → P tale
from_told P told tale is holds = subst (λ (o : Option Tale). IfSome o P) is holds

-- a call that left a round in doubt
pub told_doubt : {tale : Tale} {new : Device} {s : Standing} {round : Round} (ops : List LogOp) → new.told ≡ Some (with_ops ops tale) → IsExitInDoubt tale.base tale.log ops s round → IsInDoubt tale new s round
told_doubt {tale} {new} {s} {round} ops told left = record {
  history = left.history;
  left = told_exit ops told left.exit;
  rounds = elim left.rounds [
    | inl (none, doubt) ↦ inl (none, if_told (λ (after : Tale). IsRoundInDoubt after.base after.log s round) new.told (with_ops ops tale) told doubt)
    | inr (is, landed) ↦ inr (is, if_told (λ (after : Tale). HasRoundLanded after.base after.log s round) new.told (with_ops ops tale) told landed)
  ];
}

-- Two calls

more_told : (tale : Tale) (first second : List LogOp) → Some (with_ops second (with_ops first tale)) ≡ Some (with_ops (first ++ second) tale)
more_told tale first second = ap (λ (l : List LogOp). Some (record tale { log = l })) (append_assoc tale.log first second)

-- a call after another one, where all rounds of that are sealed or the call tells none itself: its history has the rounds of both
pub record IsCoveredByBoth (tale : Tale) (new : Device) (s : Standing) (first second : List LoggedRound) (members : List (Option Standing)) : Type 0 where
  pub history : List LoggedRound
  pub left : IsCoveredExit tale new s history members
  pub rounds : rounds_in history ≡ rounds_in first ++ rounds_in second

pub told_then : {tale : Tale} {mid new : Device} {s : Standing} {first second : List LoggedRound} {between members : List (Option Standing)} (one : IsCoveredExit tale mid s first between) → IsCoveredExit (with_ops one.ops tale) new (state_after s (rounds_in first)) second members → AreSealed first ⊎ (second ≡ []) → IsCoveredByBoth tale new s first second members
told_then {tale} {mid} {new} {s} {first} {second} {between} {members} one two apart =
    let joined : (tale.log ++ one.ops) ++ two.ops ≡ tale.log ++ (one.ops ++ two.ops) = append_assoc tale.log one.ops two.ops in
    record {
      history = history_of tale.base (tale.log ++ (one.ops ++ two.ops)) (length tale.log);
      left = told_exit (one.ops ++ two.ops) (two.told ∙ more_told tale one.ops two.ops) (calls-append one.exit two.exit apart);
      rounds = ap (λ (l : List LogOp). rounds_in (history_of tale.base l (length tale.log))) (sym joined) ∙ (rounds_of-parts tale.base (tale.log ++ one.ops) two.ops (length tale.log) one.exit.covers.within ∙ (λ i. rounds_in (sym one.exit.covers.told i) ++ rounds_in (sym two.exit.covers.told i)));
    }

-- after sealed rounds the history is the two, one after the other
pub told_then_sealed : {tale : Tale} {mid new : Device} {s : Standing} {first second : List LoggedRound} {between members : List (Option Standing)} (one : IsCoveredExit tale mid s first between) → IsCoveredExit (with_ops one.ops tale) new (state_after s (rounds_in first)) second members → AreSealed first → IsCoveredExit tale new s (first ++ second) members
told_then_sealed {tale} one two sealed =
    told_exit (one.ops ++ two.ops) (two.told ∙ more_told tale one.ops two.ops) (calls-append_sealed one.exit two.exit sealed)

-- Several calls whose rounds are sealed

pub nothing_told : {tale : Tale} {device : Device} {s : Standing} → device.told ≡ Some tale → IsReadyWith (Some s ∷ []) tale → IsSealedAfter tale device s []
nothing_told {tale} {device} {s} told ready = record {
  history = [];
  left = told_exit [] (told ∙ ap (λ (l : List LogOp). Some (record tale { log = l })) (sym (append-nil tale.log))) (nothing_done tale.base tale.log s ready);
  sealed = tt;
  rounds_are = refl;
}

-- one more call
pub after_then : {tale : Tale} {mid new : Device} {s : Standing} {rounds : History} {back : List LoggedRound} {members : List (Option Standing)} (after : IsSealedAfter tale mid s rounds) → IsCoveredExit (with_ops after.left.ops tale) new (state_after s rounds) back members → IsCoveredExit tale new s (after.history ++ back) members
after_then {tale} {mid} {new} {s} {rounds} {back} {members} after second =
    told_then_sealed after.left (subst (λ (h : History). IsCoveredExit (with_ops after.left.ops tale) new (state_after s h) back members) (sym after.rounds_are) second) after.sealed

-- sealed rounds after sealed rounds
pub sealed_after : {tale : Tale} {mid new : Device} {s : Standing} {rounds more : History} (after : IsSealedAfter tale mid s rounds) → IsSealedAfter (with_ops after.left.ops tale) new (state_after s rounds) more → IsSealedAfter tale new s (rounds ++ more)
sealed_after {tale} {mid} {new} {s} {rounds} {more} after last = record {
  history = after.history ++ last.history;
  left = subst (λ (t : Standing). IsCoveredExit tale new s (after.history ++ last.history) (Some t ∷ [])) (sym (state_after-append s rounds more)) (after_then after last.left);
  sealed = AreSealed-append after.history last.history after.sealed last.sealed;
  rounds_are = rounds_in-append after.history last.history ∙ (λ i. after.rounds_are i ++ last.rounds_are i);
}

-- one more sealed round
pub sealed_then : {tale : Tale} {mid new : Device} {s : Standing} {rounds : History} {round : Round} (after : IsSealedAfter tale mid s rounds) → IsCoveredExit (with_ops after.left.ops tale) new (state_after s rounds) (sealed_round round ∷ []) (Some (after_round (state_after s rounds) round) ∷ []) → IsSealedAfter tale new s (rounds ++ round ∷ [])
sealed_then {tale} {mid} {new} {s} {rounds} {round} after last =
    sealed_after after (record { history = sealed_round round ∷ []; left = last; sealed = (refl, tt); rounds_are = refl })

-- a round in doubt: the log tells the rounds before it, or these and it
pub record IsDoubtAfter (tale : Tale) (new : Device) (s : Standing) (rounds : History) (round : Round) : Type 0 where
  pub history : List LoggedRound
  pub left : IsCoveredExit tale new s history (either_state (state_after s rounds) round)
  pub rounds_are : ((rounds_in history ≡ rounds) × IfSome new.told (λ t. IsRoundInDoubt t.base t.log (state_after s rounds) round)) ⊎ ((rounds_in history ≡ rounds ++ round ∷ []) × IfSome new.told (λ t. HasRoundLanded t.base t.log (state_after s rounds) round))

pub doubt_then : {tale : Tale} {mid new : Device} {s : Standing} {rounds : History} {round : Round} (after : IsSealedAfter tale mid s rounds) → IsInDoubt (with_ops after.left.ops tale) new (state_after s rounds) round → IsDoubtAfter tale new s rounds round
doubt_then {tale} {mid} {new} {s} {rounds} {round} after doubt =
    let both : rounds_in (after.history ++ doubt.history) ≡ rounds ++ rounds_in doubt.history = rounds_in-append after.history doubt.history ∙ ap (λ (h : History). h ++ rounds_in doubt.history) after.rounds_are in
    record {
      history = after.history ++ doubt.history;
      left = after_then after doubt.left;
      rounds_are = elim doubt.rounds [
        | inl (none, still) ↦ inl (both ∙ (ap (λ (h : List LoggedRound). rounds ++ rounds_in h) none ∙ append-nil rounds), still)
        | inr (is, landed) ↦ inr (both ∙ ap (λ (h : History). rounds ++ h) is, landed)
      ];
    }

-- What the device holds

-- a device that is ready with standings alone has a region
pub region_of_one : (image : List Line) (s : Standing) → ImageRepresentsOne image (Some s ∷ []) → HasRegion image
region_of_one image s stands = has_region image s (only_member image s stands)

pub region_of_two : (image : List Line) (s t : Standing) → ImageRepresentsOne image (Some s ∷ Some t ∷ []) → HasRegion image
region_of_two image s t (inl stands) = has_region image s stands
region_of_two image s t (inr (inl stands)) = has_region image t stands
region_of_two image s t (inr (inr never)) = absurd never

pub told_region : {tale : Tale} {new : Device} {s : Standing} {history : List LoggedRound} {members : List (Option Standing)} (left : IsCoveredExit tale new s history members) → ((image : List Line) → ImageRepresentsOne image members → HasRegion image) → IfSome new.told (λ end. HasRegion (contents_of end))
told_region {tale} {new} left region =
    if_told (λ (end : Tale). HasRegion (contents_of end)) new.told (with_ops left.ops tale) left.told (region (contents_of (with_ops left.ops tale)) left.exit.ready.holds)
