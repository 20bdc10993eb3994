-- Readiness: how it is kept, and what a device at rest is ready with.
use Rattle.std.proofs.Common.{◌≡◌, ℕ, List, [], ◌∷◌, ◌++◌, Option, Some, None, All, length, ap, subst, sym, refl, inl, inr, arith}
use Rattle.std.proofs.lemmas.List.{append_assoc, take_all}
use Rattle.std.proofs.lemmas.List.Elements.{All-append}
use Rattle.pb_pmem.specs.declared.line.Line.{Line}
use Rattle.pb_pmem.specs.declared.log.LogOp.{LogOp}
use Rattle.pb_pmem.specs.declared.log.LogOp.TheVariants.{Whole, Word, Back, Fence, Sync}
use Rattle.pb_pmem.specs.Contents.{contents}
use Rattle.pb_pmem.specs.Crash.{IsCrashImage, IsAtRest}
use Rattle.pb_pmem.specs.Lines.{word_of}
use Rattle.pb_pmem.proofs.CrashLaws.{IsCrashImage-contents, WritesSame, LeavesAlone, LeavesAlone-same}
use Rattle.pb_object.specs.Standing.{Standing}
use Rattle.pb_layout.specs.Header.{word}
use Rattle.pb_layout.specs.Ready.{ImageRepresents, IsSettlingWord, IsAllowed, IsReady}
use Rattle.pb_layout.specs.Recovered.{Represents}
use Rattle.pb_layout.proofs.OneRecovery.{parts}

-- whatever may be done to a ready device leaves it as ready
pub ready_is_kept : (base : List Line) (log more : List LogOp) (members : List (Option Standing)) → IsReady base log members → All (IsAllowed members) more → IsReady base (log ++ more) members
ready_is_kept base log more members ready allowed =
    record {
      shape = ready.shape;
      holds = ready.images more allowed (contents base (log ++ more)) (IsCrashImage-contents base (log ++ more));
      images = λ rest all image left. ready.images (more ++ rest) (All-append (IsAllowed members) more rest allowed all) image (subst (λ l. IsCrashImage base l image) (append_assoc log more rest) left);
    }

-- a word that settling may write for a standing is the one that stands there in a region of it
pub settling_word : (lines : List Line) (s : Standing) (line place to : ℕ) → Represents lines s → IsSettlingWord line place to s → to ≡ word_of lines line place
settling_word lines s line place to stands (first, inl (here, magic)) =
    rw (first, here, magic) (sym (ap (λ (l : Line). word l 0) (parts lines s stands).header))
settling_word lines s line place to stands (first, inr (inl (here, count))) =
    rw (first, here, count) (sym (ap (λ (l : Line). word l 0) ((parts lines s stands).rounds 0 (omega arith))))
settling_word lines s line place to stands (first, inr (inr (here, count))) =
    rw (first, here, count) (sym (ap (λ (l : Line). word l 0) ((parts lines s stands).rounds 1 (omega arith))))

-- what may be done to a device that represents one member writes what stands there already
pub allowed_writes_same : (lines : List Line) (member : Option Standing) (op : LogOp) → ImageRepresents lines member → IsAllowed (member ∷ []) op → WritesSame lines op
allowed_writes_same lines member (Whole at to) stands allowed line place value written = absurd allowed
allowed_writes_same lines None (Word at other to) stands allowed line place value written = absurd allowed
allowed_writes_same lines (Some s) (Word at other to) stands (inl settle_ops) line place value (here, there, same) =
    rw (← here, ← there, ← same) (settling_word lines s at other to stands settle_ops)
allowed_writes_same lines (Some s) (Word at other to) stands (inr none_left) line place value written = absurd none_left
allowed_writes_same lines member (Back first count) stands allowed line place value written = absurd written
allowed_writes_same lines member Fence stands allowed line place value written = absurd written
allowed_writes_same lines member Sync stands allowed line place value written = absurd written

-- a device at rest is ready with what it represents, alone
pub at_rest_is_ready : (base : List Line) (log : List LogOp) (member : Option Standing) → IsAtRest base log → ImageRepresents (contents base log) member → IsReady base log (member ∷ [])
at_rest_is_ready base log member rest stands =
    record {
      shape = tt;
      holds = inl stands;
      images = λ more allowed image left. inl (subst (λ i. ImageRepresents i member) (sym (LeavesAlone-same base log more (contents base log) refl alone (λ k d inside. allowed_writes_same (contents base log) member _ stands (allowed k d inside)) image left)) stands);
    }
  where
    alone : LeavesAlone base log (contents base log)
    alone image left = rest.alone image (subst (λ l. IsCrashImage base l image) (sym (take_all (length log) log (omega arith))) left)
