-- Calls that write no line in use.
use Rattle.std.proofs.Common.{◌≡◌, ℕ, ◌<◌, ◌≤◌, false, List, [], ◌∷◌, ◌++◌, All, take, Some, ap, sym, refl, ◌∙◌, inl, arith}
use Rattle.std.proofs.lemmas.Bool.Decides.{nat_tests}
use Rattle.std.proofs.lemmas.List.Elements.{All-head, All-tail, All-take}
use Rattle.pb_pmem.specs.declared.line.Line.{Line}
use Rattle.pb_pmem.specs.declared.log.LogOp.{LogOp}
use Rattle.pb_pmem.specs.declared.log.LogOp.TheVariants.{Whole, Word, Back, Fence, Sync}
use Rattle.pb_pmem.specs.Contents.{applied, contents}
use Rattle.pb_pmem.specs.Operations.{IsFailedPrefix}
use Rattle.pb_pmem.proofs.CrashLaws.{IsCrashImage-contents}
use Rattle.pb_object.specs.Standing.{Standing}
use Rattle.pb_layout.specs.Exits.{AllImagesRepresent, IsExit}
use Rattle.pb_layout.specs.InUse.{IsOutside}
use Rattle.pb_layout.specs.LogHistory.{LoggedRound, raises_index, recorded_by_op, history_after}
use Rattle.pb_layout.specs.Ready.{IsReady}
use Rattle.pb_layout.proofs.LogHistories.{history_after-none, history_after-first}
use Rattle.pb_layout_laws.proofs.CutOff.{added_has, cut_off_keeps}
use Rattle.pb_layout_laws.proofs.Frame.{unused_all}
use Rattle.pb_layout_laws.proofs.OneUnsealed.{covered_stepwise}
use Rattle.pb_layout_laws.proofs.Prefixes.{IsCoveredPrefix, covers_by_prefixes}
use Rattle.pb_layout_laws.proofs.ReadyWithOne.{images_from_one, one_from_images}

-- Writes outside the lines in use

no_index : (lines : List Line) (line word to : ℕ) → ¬ (line < 3) → raises_index lines line word to ≡ false
no_index lines line word to far =
    let past : 3 ≤ line = omega arith in grind (arith, nat_tests)

unused_records : (s : Standing) (op : LogOp) (lines : List Line) → IsOutside s op → recorded_by_op op lines [] ≡ []
unused_records s (Whole line to) lines outside = refl
unused_records s (Word line word to) lines outside =
    rw (no_index lines line word to (λ below. outside (inl below))) refl
unused_records s (Back first count) lines outside = refl
unused_records s Fence lines outside = refl
unused_records s Sync lines outside = refl

-- they tell no round
pub unused_history : (s : Standing) (lines : List Line) (ops : List LogOp) → All (IsOutside s) ops → history_after lines [] ops ≡ []
unused_history s lines [] outside = history_after-none lines []
unused_history s lines (op ∷ ops) outside =
    history_after-first lines [] op ops ∙ (ap (λ (h : List LoggedRound). history_after (applied op lines) h ops) (unused_records s op lines (All-head (IsOutside s) op ops outside)) ∙ unused_history s (applied op lines) ops (All-tail (IsOutside s) op ops outside))

pub unused_covered : (base : List Line) (log ops : List LogOp) (s : Standing) → AllImagesRepresent base log s → All (IsOutside s) ops → IsCoveredPrefix base log s ops
unused_covered base log ops s stand outside image left =
    inl (record {
      kept = [];
      lost = [];
      whole = unused_history s (contents base log) ops outside;
      unsealed = tt;
      stands = unused_all base log ops s stand outside image left;
    })

-- and leave the standing alone
pub writing_unused : (base : List Line) (log ops : List LogOp) (s : Standing) → IsReady base log (Some s ∷ []) → All (IsOutside s) ops → IsExit base log ops s [] (Some s ∷ [])
writing_unused base log ops s ready outside =
    let stand = images_from_one base log s ready in
    let after = unused_all base log ops s stand outside in
    let covers = covers_by_prefixes base log ops s [] (sym (unused_history s (contents base log) ops outside)) (λ count. unused_covered base log (take count ops) s stand (All-take (IsOutside s) count ops outside)) (inl (after (contents base (log ++ ops)) (IsCrashImage-contents base (log ++ ops)))) in
    record {
      covers = covers;
      one_unsealed = covered_stepwise covers (omega arith);
      ready = one_from_images base (log ++ ops) s after;
    }

-- so it is where they are cut off
pub unused_cut_off : (s : Standing) (all ops : List LogOp) → All (IsOutside s) all → IsFailedPrefix all ops → All (IsOutside s) ops
unused_cut_off s all ops outside cut = cut_off_keeps (IsOutside s) (added_has (IsOutside s) (λ line to other outside. outside) (λ _. tt)) all ops outside cut

pub writing_unused_failing : (base : List Line) (log all ops : List LogOp) (s : Standing) → IsReady base log (Some s ∷ []) → All (IsOutside s) all → IsFailedPrefix all ops → IsExit base log ops s [] (Some s ∷ [])
writing_unused_failing base log all ops s ready outside cut =
    writing_unused base log ops s ready (unused_cut_off s all ops outside cut)
