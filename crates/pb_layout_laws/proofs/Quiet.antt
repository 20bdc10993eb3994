-- Operations that make no region: they write neither the magic nor a round number, and no sync is among them.
use Rattle.std.proofs.Common.{◌≡◌, ◌≢◌, ℕ, ◌+◌, ◌<◌, ◌≤◌, Bool, true, false, ◌||◌, List, [], ◌∷◌, ◌++◌, reverse, Some, ap, subst, sym, refl, ◌∙◌, inl, inr, arith}
use Rattle.std.specs.List.{All, list_any}
use Rattle.std.proofs.lemmas.Bool.Decides.{nat_tests}
use Rattle.std.proofs.lemmas.List.{append_assoc, append-nil, reverse-append, reverse-reverse}
use Rattle.std.proofs.lemmas.List.Elements.{All-head, All-tail}
use Rattle.pb_pmem.specs.declared.line.Line.{Line}
use Rattle.pb_pmem.specs.declared.log.LogOp.{LogOp}
use Rattle.pb_pmem.specs.declared.log.LogOp.TheVariants.{Whole, Word, Back, Fence, Sync}
use Rattle.pb_pmem.specs.Contents.{applied, contents}
use Rattle.pb_pmem.specs.Crash.{is_sync, is_back_of, line_written}
use Rattle.pb_pmem.specs.Lines.{word_of}
use Rattle.pb_pmem.specs.Past.{Words, DiffersBy, Bounds}
use Rattle.pb_pmem.proofs.Bounds.{Bounds-write, Bounds-Back, Bounds-Fence, Bounds-Sync}
use Rattle.pb_layout.specs.LogHistory.{LoggedRound, recorded_by_op, history_after}
use Rattle.pb_layout.specs.declared.header.TheConstants.{MAGIC}
use Rattle.pb_layout.proofs.LogHistories.{history_after-none, history_after-first}
use Rattle.pb_pmem.specs.Operations.{IsFailedPrefix}
use Rattle.pb_layout_laws.proofs.CutOff.{added_has, cut_off_keeps}

-- One more operation of a log, in its order

-- a write
pub push_write : {base : List Line} {A T S : Words → Type 0} (log : List LogOp) (op : LogOp) (at : ℕ) (A' T' S' : Words → Type 0) → line_written op ≡ Some at → Bounds base (reverse log) A T S → ((before image : Words) → T before → DiffersBy op before image → T' image) → ((before image : Words) → S before → DiffersBy op before image → S' image) → ((image : Words) → A image → A' image) → ((image : Words) → T' image → A' image) → Bounds base (reverse (log ++ op ∷ [])) A' T' S'
push_write {base} log op at A' T' S' written bounds last at_next_mark old new =
    subst (λ (l : List LogOp). Bounds base l A' T' S') (sym (reverse-append log (op ∷ []))) (Bounds-write op at A' T' S' written bounds last at_next_mark old new)

-- the lines that a `Back` gives are the contents
abbrev pub HasGiven : ℕ → ℕ → List Line → Words → Type 0
HasGiven first count lines image =
    (line word : ℕ) → first ≤ line → line < first + count → image line word ≡ word_of lines line word

-- a `Back`
pub push_back : {base : List Line} {A T S : Words → Type 0} (log : List LogOp) (first count : ℕ) (S' : Words → Type 0) → Bounds base (reverse log) A T S → ((image : Words) → S image → HasGiven first count (contents base log) image → S' image) → Bounds base (reverse (log ++ Back first count ∷ [])) A T S'
push_back {base} {A} {T} {S} log first count S' bounds given =
    subst (λ (l : List LogOp). Bounds base l A T S') (sym (reverse-append log (Back first count ∷ []))) (Bounds-Back first count S' bounds (λ image at_next_mark is. given image at_next_mark (λ line word low high. is line word (within first count line low high) ∙ ap (λ (l : List LogOp). word_of (contents base l) line word) (reverse-reverse log))))
  where
    within : (first count line : ℕ) → first ≤ line → line < first + count → is_back_of line (Back first count) ≡ true
    within first count line low high = grind (arith, nat_tests)

-- a `Fence`
pub push_fence : {base : List Line} {A T S : Words → Type 0} (log : List LogOp) → Bounds base (reverse log) A T S → Bounds base (reverse (log ++ Fence ∷ [])) A S S
push_fence {base} {A} {T} {S} log bounds =
    subst (λ (l : List LogOp). Bounds base l A S S) (sym (reverse-append log (Fence ∷ []))) (Bounds-Fence bounds)

-- a `Sync`
pub push_sync : {base : List Line} {A T S : Words → Type 0} (log : List LogOp) → Bounds base (reverse log) A T S → Bounds base (reverse (log ++ Sync ∷ [])) S S S
push_sync {base} {A} {T} {S} log bounds =
    subst (λ (l : List LogOp). Bounds base l S S S) (sym (reverse-append log (Sync ∷ []))) (Bounds-Sync bounds)

-- Quiet operations

-- an operation that is no sync, and writes whole lines but line 0, and of line 0 the words after the first
abbrev pub IsQuiet : LogOp → Type 0
IsQuiet (Whole line to) = line ≢ 0
IsQuiet (Word line word to) = (line ≡ 0) × (word ≢ 0)
IsQuiet (Back first count) = Unit {0}
IsQuiet Fence = Unit {0}
IsQuiet Sync = ⊥

-- the first word isn't the magic
abbrev pub Bare : Words → Type 0
Bare words = words 0 0 ≢ MAGIC

quiet_op-records : (op : LogOp) (lines : List Line) → IsQuiet op → recorded_by_op op lines [] ≡ []
quiet_op-records (Whole line to) lines quiet = refl
quiet_op-records (Word line word to) lines quiet =
    subst (λ (n : ℕ). recorded_by_op (Word n word to) lines [] ≡ []) (sym quiet.0) refl
quiet_op-records (Back first count) lines quiet = refl
quiet_op-records Fence lines quiet = refl
quiet_op-records Sync lines quiet = refl

-- such operations record no round
pub quiet-records : (lines : List Line) (ops : List LogOp) → All IsQuiet ops → history_after lines [] ops ≡ []
quiet-records lines [] quiet = history_after-none lines []
quiet-records lines (op ∷ ops) quiet =
    history_after-first lines [] op ops ∙ (ap (λ (h : List LoggedRound). history_after (applied op lines) h ops) (quiet_op-records op lines (All-head IsQuiet op ops quiet)) ∙ quiet-records (applied op lines) ops (All-tail IsQuiet op ops quiet))

quiet_op-no_sync : (op : LogOp) → IsQuiet op → is_sync op ≡ false
quiet_op-no_sync (Whole line to) quiet = refl
quiet_op-no_sync (Word line word to) quiet = refl
quiet_op-no_sync (Back first count) quiet = refl
quiet_op-no_sync Fence quiet = refl
quiet_op-no_sync Sync quiet = absurd quiet

-- no sync is among them
pub quiet-no_sync : (ops : List LogOp) → All IsQuiet ops → list_any is_sync ops ≡ false
quiet-no_sync [] quiet = refl
quiet-no_sync (op ∷ ops) quiet =
    ap (λ (b : Bool). b || list_any is_sync ops) (quiet_op-no_sync op (All-head IsQuiet op ops quiet)) ∙ quiet-no_sync ops (All-tail IsQuiet op ops quiet)

-- a quiet operation keeps the first word from being the magic
keeps_bare : (op : LogOp) → IsQuiet op → (before image : Words) → Bare before → DiffersBy op before image → Bare image
keeps_bare (Whole line to) quiet before image bare differs is =
    elim (differs 0 0) [
      | inl same ↦ bare (sym same ∙ is)
      | inr written ↦ quiet written
    ]
keeps_bare (Word line word to) quiet before image bare differs is =
    elim (differs 0 0) [
      | inl same ↦ bare (sym same ∙ is)
      | inr written ↦ quiet.1 written.1
    ]
keeps_bare (Back first count) quiet before image bare differs is =
    elim (differs 0 0) [
      | inl same ↦ bare (sym same ∙ is)
      | inr written ↦ absurd written
    ]
keeps_bare Fence quiet before image bare differs is =
    elim (differs 0 0) [
      | inl same ↦ bare (sym same ∙ is)
      | inr written ↦ absurd written
    ]
keeps_bare Sync quiet before image bare differs is = quiet

quiet_op-bare : {base : List Line} (log : List LogOp) (op : LogOp) → IsQuiet op → Bounds base (reverse log) Bare Bare Bare → Bounds base (reverse (log ++ op ∷ [])) Bare Bare Bare
quiet_op-bare log (Whole line to) quiet bounds =
    push_write log (Whole line to) line Bare Bare Bare refl bounds (keeps_bare (Whole line to) quiet) (keeps_bare (Whole line to) quiet) (λ w b. b) (λ w b. b)
quiet_op-bare log (Word line word to) quiet bounds =
    push_write log (Word line word to) line Bare Bare Bare refl bounds (keeps_bare (Word line word to) quiet) (keeps_bare (Word line word to) quiet) (λ w b. b) (λ w b. b)
quiet_op-bare log (Back first count) quiet bounds = push_back log first count Bare bounds (λ w b given. b)
quiet_op-bare log Fence quiet bounds = push_fence log bounds
quiet_op-bare log Sync quiet bounds = absurd quiet

-- where no image had a region, none has one after quiet operations
pub quiet-bare : {base : List Line} (log ops : List LogOp) → All IsQuiet ops → Bounds base (reverse log) Bare Bare Bare → Bounds base (reverse (log ++ ops)) Bare Bare Bare
quiet-bare {base} log [] quiet bounds =
    subst (λ (l : List LogOp). Bounds base (reverse l) Bare Bare Bare) (sym (append-nil log)) bounds
quiet-bare {base} log (op ∷ ops) quiet bounds =
    subst (λ (l : List LogOp). Bounds base (reverse l) Bare Bare Bare) (append_assoc log (op ∷ []) ops) (quiet-bare (log ++ op ∷ []) ops (All-tail IsQuiet op ops quiet) (quiet_op-bare log op (All-head IsQuiet op ops quiet) bounds))

-- quiet operations that are cut off are quiet
pub cut_off-quiet : (all ops : List LogOp) → All IsQuiet all → IsFailedPrefix all ops → All IsQuiet ops
cut_off-quiet all ops quiet cut = cut_off_keeps IsQuiet (added_has IsQuiet (λ line to other quiet. quiet) (λ none. absurd none)) all ops quiet cut
