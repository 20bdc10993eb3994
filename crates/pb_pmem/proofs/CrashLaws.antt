-- The laws of what a crash may leave.
use Rattle.std.proofs.Common.{◌≡◌, ℕ, suc, ◌⊎◌, ◌↔◌, true, false, List, [], ◌∷◌, ◌++◌, Some, length, reverse, take, Any, All, ap, subst, sym, refl, ◌∙◌, inl, inr, arith}
use Rattle.std.proofs.lemmas.Bool.{cases_Bool}
use Rattle.std.proofs.lemmas.List.{append-nil, append_assoc, reverse-reverse, reverse-append, take_all}
use Rattle.pb_pmem.specs.declared.line.Line.{Line}
use Rattle.pb_pmem.specs.declared.log.LogOp.{LogOp}
use Rattle.pb_pmem.specs.declared.log.LogOp.TheVariants.{Back, Fence, Sync}
use Rattle.pb_pmem.specs.Contents.{applied, contents}
use Rattle.pb_pmem.specs.Crash.{is_mark, is_sync, line_written, unbacked_writes, MayWrite, IsCrashImage, IsCrashImageAt, IsAtRest}
use Rattle.pb_pmem.specs.Lines.{word_of}
use Rattle.pb_pmem.specs.Past.{Words, now, AtNextMark, Last, AllAtNextMark, AllLast, Leaves}
use Rattle.pb_pmem.proofs.Agree.{Leaves-IsCrashImage, IsCrashImage-Leaves}
use Rattle.pb_pmem.proofs.Backed.{backed_past, unbacked_past, unbacked_writes-past, IsBackedOr, AtNextMark-backed}
use Rattle.pb_pmem.proofs.Bounds.{Last-at_mark, Leaves-after_Back, Leaves-after_Fence, Leaves-after_Sync}
use Rattle.pb_pmem.proofs.AtNextMark.{AtNextMark-now, Last-cases, Last-at_none, Last-AtNextMark, Last-now, Leaves-cases, Leaves-at_none, Leaves-now, Leaves-more, Leaves-AtNextMark, Leaves-Last, MayWrite-writes}
use Rattle.pb_pmem.proofs.Lines.{length-applied, length-contents, contents_push, contents-none}
use Rattle.pb_pmem.proofs.AnyLemmas.{Any-nil, Any-reverse, Any-weaker}
use Rattle.pb_pmem.proofs.Words.{same_images, word_of-applied}

-- the contents may be left
pub IsCrashImage-contents : (base : List Line) (log : List LogOp) → IsCrashImage base log (contents base log)
IsCrashImage-contents base log =
    IsCrashImage-Leaves base log (contents base log) (length-contents base log) (subst (λ l. Leaves base (reverse log) (word_of (contents base l))) (reverse-reverse log) (Leaves-now base (reverse log)))

reverse_push : (log : List LogOp) (op : LogOp) → reverse (log ++ op ∷ []) ≡ op ∷ reverse log
reverse_push log op = reverse-append log (op ∷ [])

Leaves_push : (base : List Line) (log : List LogOp) (op : LogOp) (image : List Line) → IsCrashImage base (log ++ op ∷ []) image → Leaves base (op ∷ reverse log) (word_of image)
Leaves_push base log op image h = rw (reverse_push log op) at (Leaves-IsCrashImage base (log ++ op ∷ []) image h)

IsCrashImage_push : (base : List Line) (log : List LogOp) (op : LogOp) (image : List Line) → length image ≡ length base → Leaves base (op ∷ reverse log) (word_of image) → IsCrashImage base (log ++ op ∷ []) image
IsCrashImage_push base log op image long h = IsCrashImage-Leaves base (log ++ op ∷ []) image long (rw (reverse_push log op) h)

pub IsCrashImage-Fence : (base : List Line) (log : List LogOp) (image : List Line) → IsCrashImage base (log ++ Fence ∷ []) image ↔ IsCrashImage base log image
IsCrashImage-Fence base log image = (
  (λ h. IsCrashImage-Leaves base log image h.left.lines (Leaves-after_Fence base (reverse log) (word_of image) (Leaves_push base log Fence image h))),
  (λ h. IsCrashImage_push base log Fence image h.left.lines (Leaves-more base Fence (reverse log) (word_of image) refl (inr (Leaves-IsCrashImage base log image h)))),
)

pub IsCrashImage-Back : (base : List Line) (log : List LogOp) (first count : ℕ) (image : List Line) → IsCrashImage base (log ++ Back first count ∷ []) image ↔ IsCrashImage base log image
IsCrashImage-Back base log first count image = (
  (λ h. IsCrashImage-Leaves base log image h.left.lines (Leaves-after_Back base first count (reverse log) (word_of image) (Leaves_push base log (Back first count) image h))),
  (λ h. IsCrashImage_push base log (Back first count) image h.left.lines (Leaves-more base (Back first count) (reverse log) (word_of image) refl (inr (Leaves-IsCrashImage base log image h)))),
)

pub IsCrashImage-Sync : (base : List Line) (log : List LogOp) (image : List Line) → IsCrashImage base (log ++ Sync ∷ []) image → IsCrashImage base log image
IsCrashImage-Sync base log image h =
    IsCrashImage-Leaves base log image h.left.lines (Leaves-AtNextMark base (reverse log) (word_of image) (Leaves-after_Sync base (reverse log) (word_of image) (Leaves_push base log Sync image h)))

-- Operations that write what stands there already

-- an operation that writes nothing but what stands in these lines
abbrev pub WritesSame : List Line → LogOp → Type 0
WritesSame lines op = (line word value : ℕ) → MayWrite line word value op → value ≡ word_of lines line word

-- it changes no line
pub applied-same : (op : LogOp) (lines : List Line) → WritesSame lines op → applied op lines ≡ lines
applied-same op lines same =
    same_images (applied op lines) lines (length-applied op lines) (λ line word. elim (word_of-applied op lines line word) [
      | inl still ↦ still
      | inr written ↦ same line word _ written
    ])

-- the device holds after it what it held
pub contents-same : (base : List Line) (log : List LogOp) (op : LogOp) → WritesSame (contents base log) op → contents base (log ++ op ∷ []) ≡ contents base log
contents-same base log op same = contents_push base log op ∙ applied-same op (contents base log) same

-- it adds no image
pub Leaves-same : (base : List Line) (op : LogOp) (past : List LogOp) (image : Words) → WritesSame (now base past) op → Leaves base (op ∷ past) image → Leaves base past image
Leaves-same base op past image same h = go (Leaves-cases base op past image h) (cases_Bool (is_mark op))
  where
    last : is_mark op ≡ false → AllLast base (op ∷ past) image → AllLast base past image
    last other l line word = at (Last-cases base op past line word (image line word) (l line word))
      where
        at : ((is_mark op ≡ true) × AtNextMark base past line word (image line word)) ⊎ ((is_mark op ≡ false) × (MayWrite line word (image line word) op ⊎ Last base past line word (image line word))) → Last base past line word (image line word)
        at (inl (mark, at_next_mark)) = Last-AtNextMark base past line word (image line word) at_next_mark
        at (inr (o, inl written)) = subst (λ x. Last base past line word x) (sym (same line word (image line word) written)) (Last-now base past line word)
        at (inr (o, inr l)) = l

    go : ((is_sync op ≡ true) × AllAtNextMark base past image) ⊎ ((is_sync op ≡ false) × (AllLast base (op ∷ past) image ⊎ Leaves base past image)) → (is_mark op ≡ true) ⊎ (is_mark op ≡ false) → Leaves base past image
    go (inl (sync, at_next_mark)) mark = Leaves-AtNextMark base past image at_next_mark
    go (inr (other, inr leaves)) mark = leaves
    go (inr (other, inl l)) (inl mark) = Leaves-AtNextMark base past image (Last-at_mark base op past image mark l)
    go (inr (other, inl l)) (inr no_mark) = Leaves-Last base past image (last no_mark l)

-- nor does it in the public form
pub IsCrashImage-same : (base : List Line) (log : List LogOp) (op : LogOp) (image : List Line) → WritesSame (contents base log) op → IsCrashImage base (log ++ op ∷ []) image → IsCrashImage base log image
IsCrashImage-same base log op image same h =
    IsCrashImage-Leaves base log image h.left.lines (Leaves-same base op (reverse log) (word_of image) (subst (λ l. WritesSame (contents base l) op) (sym (reverse-reverse log)) same) (Leaves_push base log op image h))

-- a crash leaves these lines alone
abbrev pub LeavesAlone : List Line → List LogOp → List Line → Type 0
LeavesAlone base log lines = (image : List Line) → IsCrashImage base log image → image ≡ lines

-- where a crash leaves what the device holds alone, it does so after any operations that write what stands there
pub LeavesAlone-same : (base : List Line) (log more : List LogOp) (lines : List Line) → contents base log ≡ lines → LeavesAlone base log lines → All (WritesSame lines) more → LeavesAlone base (log ++ more) lines
LeavesAlone-same base log [] lines at_next_mark alone same =
    subst (λ l. LeavesAlone base l lines) (sym (append-nil log)) alone
LeavesAlone-same base log (op ∷ more) lines at_next_mark alone same =
    subst (λ l. LeavesAlone base l lines) (append_assoc log (op ∷ []) more) (LeavesAlone-same base (log ++ op ∷ []) more lines (contents-same base log op first ∙ at_next_mark) (λ image h. alone image (IsCrashImage-same base log op image first h)) (λ k d inside. same (suc k) d (omega arith)))
  where
    first : WritesSame (contents base log) op
    first = subst (λ l. WritesSame l op) (sym at_next_mark) (same 0 op (omega arith))

-- The writes with no `Back` after them

unbacked-none : unbacked_writes [] ≡ []
unfolding unbacked_writes
unbacked-none = refl

unbacked_of_log : (log : List LogOp) → unbacked_writes log ≡ reverse (unbacked_past [] (reverse log))
unbacked_of_log log =
    ap unbacked_writes (sym (append-nil log ∙ refl) ∙ ap (λ l. l ++ []) (sym (reverse-reverse log))) ∙ (unbacked_writes-past (reverse log) [] ∙ (ap (λ l. reverse (unbacked_past [] (reverse log)) ++ l) unbacked-none ∙ append-nil _))

abbrev IsGivenLine : ℕ → List LogOp → Type 0
IsGivenLine line log = Any (λ op. line_written op ≡ Some line) (unbacked_writes log) → ⊥

-- where the line has none, a mark would settle one value alone
one_value : (base : List Line) (log : List LogOp) (line word value : ℕ) → IsGivenLine line log → AtNextMark base (reverse log) line word value → value ≡ word_of (now base (backed_past [] (reverse log))) line word
one_value base log line word value given at_next_mark = go (AtNextMark-backed base (reverse log) [] line word value refl at_next_mark)
  where
    go : IsBackedOr base (reverse log) [] line word value → value ≡ word_of (now base (backed_past [] (reverse log))) line word
    go (inl same) = same
    go (inr some) =
        absurd (given (rw (unbacked_of_log log) (Any-reverse (λ op. line_written op ≡ Some line) _ (Any-weaker (MayWrite line word value) (λ op. line_written op ≡ Some line) _ (λ op h. MayWrite-writes line word value op h) some))))

-- after a `Sync` such a line stands as the device holds it
pub word_of-Sync : (base : List Line) (log : List LogOp) (image : List Line) (line word : ℕ) → IsGivenLine line log → IsCrashImage base (log ++ Sync ∷ []) image → word_of image line word ≡ word_of (contents base log) line word
word_of-Sync base log image line word given h =
    one_value base log line word _ given (Leaves-after_Sync base (reverse log) (word_of image) (Leaves_push base log Sync image h) line word) ∙ (sym (one_value base log line word _ given (AtNextMark-now base (reverse log) line word)) ∙ ap (λ l. word_of (contents base l) line word) (reverse-reverse log))

-- a device where no line has such a write is at rest after a `Sync`
pub IsAtRest-Sync : (base : List Line) (log : List LogOp) → unbacked_writes log ≡ [] → IsAtRest base (log ++ Sync ∷ [])
IsAtRest-Sync base log none = record { left = rw whole (IsCrashImage-contents base (log ++ Sync ∷ [])); alone = alone }
  where
    whole : take (length (log ++ Sync ∷ [])) (log ++ Sync ∷ []) ≡ log ++ Sync ∷ []
    whole = take_all _ (log ++ Sync ∷ []) (omega arith)

    given : (line : ℕ) → IsGivenLine line log
    given line some = Any-nil (λ op. line_written op ≡ Some line) (rw none at some)

    alone : (image : List Line) → IsCrashImageAt base (log ++ Sync ∷ []) (length (log ++ Sync ∷ [])) image → image ≡ contents base (log ++ Sync ∷ [])
    alone image h = go (rw whole at h)
      where
        go : IsCrashImage base (log ++ Sync ∷ []) image → image ≡ contents base (log ++ Sync ∷ [])
        go left =
            same_images image (contents base log) (left.left.lines ∙ sym (length-contents base log)) (λ line word. word_of-Sync base log image line word (given line) left) ∙ sym (contents_push base log Sync)

-- a device to which nothing was done is at rest
pub IsAtRest-none : (base : List Line) → IsAtRest base []
IsAtRest-none base = record { left = IsCrashImage-contents base []; alone = alone }
  where
    alone : (image : List Line) → IsCrashImage base [] image → image ≡ contents base []
    alone image h =
        same_images image base h.left.lines (λ line word. Last-at_none base line word _ (Leaves-at_none base (word_of image) (Leaves-IsCrashImage base [] image h) line word)) ∙ sym (contents-none base)
