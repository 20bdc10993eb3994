-- What holds of each operation of a list holds of what is left of it where it is cut off.
use Rattle.std.proofs.Common.{ℕ, List, [], ◌∷◌, ◌++◌, length, subst, sym, inl, inr}
use Rattle.std.specs.List.{All}
use Rattle.std.proofs.Math.Seq.{take-append_seam, drop-append_seam}
use Rattle.std.proofs.lemmas.List.Elements.{All-head, All-nil, All-cons, All-append, All-take, All-drop}
use Rattle.pb_pmem.specs.declared.line.Line.{Line}
use Rattle.pb_pmem.specs.declared.log.LogOp.{LogOp}
use Rattle.pb_pmem.specs.declared.log.LogOp.TheVariants.{Whole, Word, Back, Fence, Sync}
use Rattle.pb_pmem.specs.Device.{MayAdd}
use Rattle.pb_pmem.specs.Operations.{IsFailedPrefix}

-- what a failing call adds has what its operation has
abbrev pub KeepsAdded : (LogOp → Type 0) → Type 0
KeepsAdded P = (failed op : LogOp) → P failed → MayAdd failed op → P op

-- so it is where it doesn't depend on what a line is written with, and a fence has it where a sync does
pub added_has : (P : LogOp → Type 0) → ((line : ℕ) (to other : Line) → P (Whole line to) → P (Whole line other)) → (P Sync → P Fence) → KeepsAdded P
added_has P any fence (Whole line to) (Whole at other) has may =
    subst (λ (n : ℕ). P (Whole n other)) (sym may) (any line to other has)
added_has P any fence (Whole line to) (Word at word other) has may = absurd may
added_has P any fence (Whole line to) (Back first count) has may = absurd may
added_has P any fence (Whole line to) Fence has may = absurd may
added_has P any fence (Whole line to) Sync has may = absurd may
added_has P any fence (Word line word to) op has may = subst P (sym may) has
added_has P any fence (Back first count) op has may = subst P (sym may) has
added_has P any fence Fence op has may = subst P (sym may) has
added_has P any fence Sync (Whole at other) has may = absurd may
added_has P any fence Sync (Word at word other) has may = absurd may
added_has P any fence Sync (Back first count) has may = absurd may
added_has P any fence Sync Fence has may = fence has
added_has P any fence Sync Sync has may = has

pub cut_off_keeps : (P : LogOp → Type 0) → KeepsAdded P → (all ops : List LogOp) → All P all → IsFailedPrefix all ops → All P ops
cut_off_keeps P added all ops holds cut =
    let whole = subst (λ (l : List LogOp). All P l) cut.whole holds in
    let prefix = subst (λ (l : List LogOp). All P l) (take-append_seam cut.prefix (cut.failed ∷ cut.rest)) (All-take P (length cut.prefix) (cut.prefix ++ cut.failed ∷ cut.rest) whole) in
    let failed = All-head P cut.failed cut.rest (subst (λ (l : List LogOp). All P l) (drop-append_seam cut.prefix (cut.failed ∷ cut.rest)) (All-drop P (length cut.prefix) (cut.prefix ++ cut.failed ∷ cut.rest) whole)) in
    elim cut.added [
      | inl same ↦ subst (λ (l : List LogOp). All P l) (sym same) prefix
      | inr more ↦ subst (λ (l : List LogOp). All P l) (sym more.2) (All-append P cut.prefix (more.0 ∷ []) prefix (All-cons P more.0 [] (added cut.failed more.0 failed more.1) (All-nil P)))
    ]
