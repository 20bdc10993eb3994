-- Covering, shown prefix by prefix of what a call did.
use Rattle.std.proofs.Common.{◌≡◌, ℕ, ◌+◌, ◌-◌, ◌≤◌, ◌⊎◌, false, List, [], ◌++◌, length, take, drop, Option, ap, subst, sym, ◌∙◌, inl, inr, arith}
use Rattle.std.specs.List.{list_any}
use Rattle.std.proofs.Math.Seq.{take-append_seam, take-append-add, drop-append_seam}
use Rattle.std.proofs.lemmas.List.{take_all, length-append}
use Rattle.pb_pmem.specs.declared.line.Line.{Line}
use Rattle.pb_pmem.specs.declared.log.LogOp.{LogOp}
use Rattle.pb_pmem.specs.Contents.{contents}
use Rattle.pb_pmem.specs.Crash.{is_sync, IsCrashImage, IsCrashImageAt}
use Rattle.pb_object.specs.History.{state_after}
use Rattle.pb_object.specs.Standing.{Standing}
use Rattle.pb_layout.specs.Covers.{IsCoveredBy, IsAsBefore, HasNoSync, Covers}
use Rattle.pb_layout.specs.Damage.{HasRegion}
use Rattle.pb_layout.specs.LogHistory.{LoggedRound, rounds_in, history_after, history_of}
use Rattle.pb_layout.specs.Ready.{ImageRepresents}
use Rattle.pb_layout.specs.Recovered.{Represents}
use Rattle.pb_layout_laws.proofs.Histories.{history_of-second}

-- an image that represents what one at the call's start represented
pub record IsAsAtStart (base : List Line) (log : List LogOp) (image : List Line) : Type 0 where
  pub earlier : List Line
  pub left : IsCrashImage base log earlier
  pub member : Option Standing
  pub stood : ImageRepresents earlier member
  pub stands : ImageRepresents image member

-- after a prefix of what a call did, each image is covered, or as at the start while there was no sync
abbrev pub IsCoveredPrefix : List Line → List LogOp → Standing → List LogOp → Type 0
IsCoveredPrefix base log s prefix =
    (image : List Line) → IsCrashImage base (log ++ prefix) image → IsCoveredBy s (history_after (contents base log) [] prefix) image ⊎ ((list_any is_sync prefix ≡ false) × IsAsAtStart base log image)

-- what the device holds in the end: the state after the history, or nothing as before
abbrev pub EndsAs : List Line → List LogOp → List LogOp → Standing → List LoggedRound → Type 0
EndsAs base log ops s history =
    Represents (contents base (log ++ ops)) (state_after s (rounds_in history)) ⊎ ((¬ HasRegion (contents base log)) × (list_any is_sync ops ≡ false) × (¬ HasRegion (contents base (log ++ ops))))

pub covers_by_prefixes : (base : List Line) (log ops : List LogOp) (s : Standing) (history : List LoggedRound) → history ≡ history_after (contents base log) [] ops → ((count : ℕ) → IsCoveredPrefix base log s (take count ops)) → EndsAs base log ops s history → Covers base (log ++ ops) (length log) s history
covers_by_prefixes base log ops s history told prefixes end = record {
  within = omega (arith, length-append log ops);
  told = told ∙ sym (history_of-second base log ops);
  images = λ moment low high image left. at moment low high image left;
  end = elim end [
    | inl stands ↦ inl stands
    | inr still ↦ inr (record {
      before = subst (λ (l : List LogOp). ¬ HasRegion (contents base l)) (sym (take-append_seam log ops)) still.0;
      no_sync = ap (λ (l : List LogOp). list_any is_sync (drop (length log) l)) (take_all (length (log ++ ops)) (log ++ ops) (omega arith)) ∙ (ap (list_any is_sync) (drop-append_seam log ops) ∙ still.1);
      now = still.2;
    })
  ];
}
  where
    at : (moment : ℕ) → length log ≤ moment → moment ≤ length (log ++ ops) → (image : List Line) → IsCrashImageAt base (log ++ ops) moment image → IsCoveredBy s (history_of base (take moment (log ++ ops)) (length log)) image ⊎ (HasNoSync (length log) moment (log ++ ops) × IsAsBefore base (log ++ ops) (length log) image)
    at moment low high image left =
        elim (prefixes (moment - length log) image (subst (λ (l : List LogOp). IsCrashImage base l image) prefix left)) [
          | inl covered ↦ inl (subst (λ (h : List LoggedRound). IsCoveredBy s h image) (sym (ap (λ (l : List LogOp). history_of base l (length log)) prefix ∙ history_of-second base log (take (moment - length log) ops))) covered)
          | inr as_start ↦ inr (
            ap (λ (l : List LogOp). list_any is_sync (drop (length log) l)) prefix ∙ (ap (list_any is_sync) (drop-append_seam log (take (moment - length log) ops)) ∙ as_start.0),
            record {
              earlier = as_start.1.earlier;
              left = subst (λ (l : List LogOp). IsCrashImage base l as_start.1.earlier) (sym (take-append_seam log ops)) as_start.1.left;
              member = as_start.1.member;
              stood = as_start.1.stood;
              stands = as_start.1.stands;
            },
          )
        ]
      where
        prefix : take moment (log ++ ops) ≡ log ++ take (moment - length log) ops
        prefix =
            let e : moment ≡ length log + (moment - length log) = omega arith in
            ap (λ (n : ℕ). take n (log ++ ops)) e ∙ take-append-add log ops (moment - length log)
