-- Images that are the same where a region is in use represent the same.
use Rattle.std.proofs.Common.{◌≡◌, ℕ, ◌<◌, ◌⊎◌, List, [], ◌∷◌, ◌++◌, All, length, reverse, subst, sym, refl, ◌∙◌, inl, inr, arith}
use Rattle.std.proofs.lemmas.Bool.{cases_lt}
use Rattle.std.proofs.lemmas.List.{get_or_past, append-nil, append_assoc, reverse-append}
use Rattle.std.proofs.lemmas.List.Elements.{All-head, All-tail}
use Rattle.pb_pmem.specs.declared.line.Line.{Line}
use Rattle.pb_pmem.specs.declared.log.LogOp.{LogOp}
use Rattle.pb_pmem.specs.declared.log.LogOp.TheVariants.{Whole, Word, Back, Fence, Sync}
use Rattle.pb_pmem.specs.Crash.{MayWrite}
use Rattle.pb_pmem.specs.Lines.{line_at, word_of, zero_line}
use Rattle.pb_pmem.specs.Past.{Words, Leaves, DiffersBy}
use Rattle.pb_pmem.proofs.Agree.{Leaves-IsCrashImage}
use Rattle.pb_pmem.proofs.Bounds.{Leaves-before}
use Rattle.pb_object.specs.Object.{State, Registers, Items, Rising, Waits}
use Rattle.pb_object.specs.Standing.{Standing}
use Rattle.pb_layout.specs.Represents.{header_for}
use Rattle.pb_layout.specs.Recovered.{Represents}
use Rattle.pb_layout.proofs.OneRecovery.{parts, from_parts}
use Rattle.pb_layout.proofs.ChangedRegion.{SameCells, frame, same_by_words}
use Rattle.pb_layout.specs.Exits.{AllImagesRepresent}
use Rattle.pb_layout.specs.InUse.{IsCellInUse, IsInUse, IsOutside}
use Rattle.pb_layout_laws.proofs.Images.{image_of, length-image_of, word_of-image_of, left_image}

same_cells : (a b : List Line) (s : Standing) (state : State) → ((line : ℕ) → IsCellInUse s state line → line_at a line ≡ line_at b line) → SameCells a b (header_for s) state
same_cells a b s (Registers registers) same = tt
same_cells a b s (Items size items) same = tt
same_cells a b s (Rising size items) same = tt
same_cells a b s (Waits size queue) same = λ place inside. same _ (place, inside, refl)

-- lines that are the same where a region is in use represent the same
pub represents_by_lines : (a b : List Line) (s : Standing) → length a ≡ length b → ((line : ℕ) → IsInUse s line → line_at a line ≡ line_at b line) → Represents a s → Represents b s
represents_by_lines a b s long same stands =
    from_parts b s (sym long ∙ stands.whole) (frame a b s (record {
      long = long;
      prefix = λ line inside. same line (inl inside);
      records = λ side place here inside. same _ (inr (inl (record { side = side; here = here; place = place; inside = inside; at = refl })));
      cells = same_cells a b s s.state (λ line cell. same line (inr (inr cell)));
    }) (parts a s stands))

-- the same of their words; those past the end don't matter
pub represents_by_words : (a b : List Line) (s : Standing) → length a ≡ length b → ((line word : ℕ) → IsInUse s line → line < length a → word < 8 → word_of a line word ≡ word_of b line word) → Represents a s → Represents b s
represents_by_words a b s long same stands =
    represents_by_lines a b s long lines stands
  where
    lines : (line : ℕ) → IsInUse s line → line_at a line ≡ line_at b line
    lines line used = elim (cases_lt line (length a)) [
      | inl inside ↦ same_by_words a b line (λ word within. same line word used inside within)
      | inr past ↦ get_or_past a line zero_line past ∙ sym (get_or_past b line zero_line (omega (arith, long)))
    ]

-- Operations that write no line in use

not_written : (s : Standing) (op : LogOp) (line word value : ℕ) → IsOutside s op → IsInUse s line → ¬ MayWrite line word value op
not_written s (Whole at to) line word value outside used written = outside (subst (IsInUse s) (sym written) used)
not_written s (Word at place to) line word value outside used written = outside (subst (IsInUse s) (sym written.0) used)
not_written s (Back first count) line word value outside used written = written
not_written s Fence line word value outside used written = written
not_written s Sync line word value outside used written = written

-- after an operation that writes no line in use, an image has there the words of one that might be left before
pub unused_differs : (s : Standing) (op : LogOp) (before image : Words) → IsOutside s op → DiffersBy op before image → (line word : ℕ) → IsInUse s line → image line word ≡ before line word
unused_differs s op before image outside differs line word used = go (differs line word)
  where
    go : (image line word ≡ before line word) ⊎ MayWrite line word (image line word) op → image line word ≡ before line word
    go (inl same) = same
    go (inr written) = absurd (not_written s op line word (image line word) outside used written)

-- one operation that writes no line in use changes no image's standing
pub unused_one : (base : List Line) (log : List LogOp) (op : LogOp) (s : Standing) → AllImagesRepresent base log s → IsOutside s op → AllImagesRepresent base (log ++ op ∷ []) s
unused_one base log op s stand outside image left =
    let leaves = subst (λ past. Leaves base past (word_of image)) (reverse-append log (op ∷ [])) (Leaves-IsCrashImage base (log ++ op ∷ []) image left) in
    let first = Leaves-before base op (reverse log) (word_of image) leaves in
    let before = image_of (length base) first.0 in
    represents_by_words before image s (length-image_of (length base) first.0 ∙ sym left.left.lines) (λ line word used inside few. word_of-image_of (length base) first.0 line word (omega (arith, length-image_of (length base) first.0)) few ∙ sym (unused_differs s op first.0 (word_of image) outside first.2 line word used)) (stand before (left_image base log first.0 first.1))

-- operations that write no line in use change no image's standing
pub unused_all : (base : List Line) (log ops : List LogOp) (s : Standing) → AllImagesRepresent base log s → All (IsOutside s) ops → AllImagesRepresent base (log ++ ops) s
unused_all base log [] s stand outside = subst (λ l. AllImagesRepresent base l s) (sym (append-nil log)) stand
unused_all base log (op ∷ ops) s stand outside =
    subst (λ l. AllImagesRepresent base l s) (append_assoc log (op ∷ []) ops) (unused_all base (log ++ op ∷ []) ops s (unused_one base log op s stand (All-head (IsOutside s) op ops outside)) (All-tail (IsOutside s) op ops outside))
