-- Calls one after the other.
use Rattle.std.proofs.Common.{◌≡◌, ◌⊎◌, ℕ, ◌≤◌, List, [], ◌∷◌, ◌++◌, length, Option, Some, ap, subst, sym, ◌∙◌, inl, inr}
use Rattle.std.proofs.lemmas.List.{append_assoc}
use Rattle.std.proofs.lemmas.List.Elements.{All-nil}
use Rattle.pb_pmem.specs.declared.line.Line.{Line}
use Rattle.pb_pmem.specs.declared.log.LogOp.{LogOp}
use Rattle.pb_object.specs.History.{state_after}
use Rattle.pb_object.specs.Standing.{Standing}
use Rattle.pb_layout.specs.Covers.{Covers}
use Rattle.pb_layout.specs.Exits.{HasOneUnsealedAtMostAlways, IsExit}
use Rattle.pb_layout.specs.InUse.{IsOutside}
use Rattle.pb_layout.specs.LogHistory.{LoggedRound, rounds_in, AreSealed, history_of}
use Rattle.pb_layout.specs.Ready.{IsReady}
use Rattle.pb_layout_laws.proofs.Growing.{history_of-front}
use Rattle.pb_layout_laws.proofs.Compose.{coverings-append, one_unsealed-append}
use Rattle.pb_layout_laws.proofs.Histories.{AreSealed-append}
use Rattle.pb_layout_laws.proofs.UnusedLines.{writing_unused}

-- a call after another one, whose rounds are sealed, or that tells none itself
pub calls-append : {base : List Line} {log ops more : List LogOp} {s : Standing} {first second : List LoggedRound} {between members : List (Option Standing)} → IsExit base log ops s first between → IsExit base (log ++ ops) more (state_after s (rounds_in first)) second members → AreSealed first ⊎ (second ≡ []) → IsExit base log (ops ++ more) s (history_of base (log ++ (ops ++ more)) (length log)) members
calls-append {base} {log} {ops} {more} {s} {first} {second} {between} {members} one two apart =
    let joined : (log ++ ops) ++ more ≡ log ++ (ops ++ more) = append_assoc log ops more in
    record {
      covers = subst (λ (l : List LogOp). Covers base l (length log) s (history_of base l (length log))) joined (coverings-append base (log ++ ops) more (length log) s first second one.covers two.covers);
      one_unsealed = subst (λ (l : List LogOp). HasOneUnsealedAtMostAlways base l (length log)) joined (one_unsealed-append base (log ++ ops) more (length log) one.covers.within (elim apart [ inl sealed ↦ inl (subst AreSealed one.covers.told sealed) | inr none ↦ inr (sym two.covers.told ∙ none) ]) one.one_unsealed two.one_unsealed);
      ready = subst (λ (l : List LogOp). IsReady base l members) joined two.ready;
    }

-- after sealed rounds the history is the two, one after the other
pub calls-append_sealed : {base : List Line} {log ops more : List LogOp} {s : Standing} {first second : List LoggedRound} {between members : List (Option Standing)} → IsExit base log ops s first between → IsExit base (log ++ ops) more (state_after s (rounds_in first)) second members → AreSealed first → IsExit base log (ops ++ more) s (first ++ second) members
calls-append_sealed {base} {log} {ops} {more} {s} {first} {second} {between} {members} one two sealed =
    subst (λ (h : List LoggedRound). IsExit base log (ops ++ more) s h members) whole (calls-append one two (inl sealed))
  where
    whole : history_of base (log ++ (ops ++ more)) (length log) ≡ first ++ second
    whole =
        ap (λ (l : List LogOp). history_of base l (length log)) (sym (append_assoc log ops more)) ∙ (history_of-front base (log ++ ops) more (length log) one.covers.within (subst AreSealed one.covers.told sealed) ∙ (λ i. sym one.covers.told i ++ sym two.covers.told i))

-- where all rounds that the log told are sealed, they are so after a call whose rounds are sealed
pub all_stays_sealed : {base : List Line} {log ops : List LogOp} {s : Standing} {history : List LoggedRound} {members : List (Option Standing)} (from : ℕ) → IsExit base log ops s history members → AreSealed history → from ≤ length log → AreSealed (history_of base log from) → AreSealed (history_of base (log ++ ops) from)
all_stays_sealed {base} {log} {ops} from exit sealed within before =
    subst AreSealed (sym (history_of-front base log ops from within before)) (AreSealed-append (history_of base log from) (history_of base (log ++ ops) (length log)) before (subst AreSealed exit.covers.told sealed))

-- nothing was done to a device that is ready with s
pub nothing_done : (base : List Line) (log : List LogOp) (s : Standing) → IsReady base log (Some s ∷ []) → IsExit base log [] s [] (Some s ∷ [])
nothing_done base log s ready = writing_unused base log [] s ready (All-nil (IsOutside s))
