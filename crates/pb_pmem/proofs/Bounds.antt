-- The rules for one more operation: what is then known of the images that a crash may leave.
use Rattle.std.proofs.Common.{◌≡◌, ◌≢◌, ℕ, ◌⊎◌, Bool, true, false, not, ◌||◌, ◌&&◌, ◌==◌, List, [], ◌∷◌, Some, slice_index, ap, subst, sym, refl, ◌∙◌, inl, inr}
use Rattle.std.proofs.lemmas.Bool.{cases_Bool, false≢true}
use Rattle.std.proofs.lemmas.Bool.Decides.{eqb_tells}
use Rattle.std.proofs.Math.Path.{fun_ext}
use Rattle.pb_pmem.specs.declared.line.Line.{Line}
use Rattle.pb_pmem.specs.declared.log.LogOp.{LogOp}
use Rattle.pb_pmem.specs.declared.log.LogOp.TheVariants.{Back, Fence, Sync}
use Rattle.pb_pmem.specs.Contents.{applied}
use Rattle.pb_pmem.specs.Crash.{is_mark, is_sync, is_back_of, line_written, MayWrite}
use Rattle.pb_pmem.specs.Lines.{word_of}
use Rattle.pb_pmem.specs.Past.{Words, now, AtNextMark, Last, AllAtNextMark, AllLast, Leaves, writes_line, is_clean, DiffersBy, IsGiven, Bounds}
use Rattle.pb_pmem.proofs.AtNextMark.{test_fails, Back-writes_none, MayWrite-writes, AtNextMark-cases, AtNextMark-at_none, AtNextMark-now, Last-cases, Last-at_none, Last-now, Leaves-cases, Leaves-at_none, Leaves-AtNextMark, Leaves-Last}
use Rattle.pb_pmem.proofs.Words.{applied-none, line_at-applied_other, now-none, now-more}

-- a write is no mark and no `Back`
write-no_mark : (op : LogOp) (at : ℕ) → line_written op ≡ Some at → is_mark op ≡ false
write-no_mark op at e = test_fails is_mark (λ line to. refl) (λ line place to. refl) op at e

write-no_sync : (op : LogOp) (at : ℕ) → line_written op ≡ Some at → is_sync op ≡ false
write-no_sync op at e = test_fails is_sync (λ line to. refl) (λ line place to. refl) op at e

write-no_Back : (op : LogOp) (at line : ℕ) → line_written op ≡ Some at → is_back_of line op ≡ false
write-no_Back op at line e = test_fails (is_back_of line) (λ at to. refl) (λ at place to. refl) op at e

-- an image of which each word is what an operation may write, or is allowed before it, comes from an allowed one that differs from it
-- only where the operation may have written
unwritten : (Allowed : ℕ → ℕ → ℕ → Type 0) (held : Words) (op : LogOp) (image : Words) → ((line word : ℕ) → Allowed line word (held line word))
    → ((line word : ℕ) → MayWrite line word (image line word) op ⊎ Allowed line word (image line word))
    → (before : Words) × ((line word : ℕ) → Allowed line word (before line word)) × DiffersBy op before image
unwritten Allowed held op image held_allowed at =
    ((λ line word. before line word (at line word)), (λ line word. allowed line word (at line word)), (λ line word. differs line word (at line word)))
  where
    before : (line word : ℕ) → MayWrite line word (image line word) op ⊎ Allowed line word (image line word) → ℕ
    before line word (inl written) = held line word
    before line word (inr there) = image line word

    allowed : (line word : ℕ) (s : MayWrite line word (image line word) op ⊎ Allowed line word (image line word)) → Allowed line word (before line word s)
    allowed line word (inl written) = held_allowed line word
    allowed line word (inr there) = there

    differs : (line word : ℕ) (s : MayWrite line word (image line word) op ⊎ Allowed line word (image line word))
        → (image line word ≡ before line word s) ⊎ MayWrite line word (image line word) op
    differs line word (inl written) = inr written
    differs line word (inr there) = inl refl

-- so does one at the greatest cut
pub Last-before : (base : List Line) (op : LogOp) (past : List LogOp) (image : Words) → is_mark op ≡ false → AllLast base (op ∷ past) image
    → (before : Words) × AllLast base past before × DiffersBy op before image
Last-before base op past image other h =
    unwritten (Last base past) (word_of (now base past)) op image (Last-now base past) at
  where
    go : (line word : ℕ) → ((is_mark op ≡ true) × AtNextMark base past line word (image line word)) ⊎ ((is_mark op ≡ false) × (MayWrite line word (image line word) op ⊎ Last base past line word (image line word)))
        → MayWrite line word (image line word) op ⊎ Last base past line word (image line word)
    go line word (inl (mark, at_next_mark)) = absurd (false≢true (sym other ∙ mark))
    go line word (inr (no_mark, last)) = last

    at : (line word : ℕ) → MayWrite line word (image line word) op ⊎ Last base past line word (image line word)
    at line word = go line word (Last-cases base op past line word (image line word) (h line word))

-- and what a mark would settle, after an operation that gives no line
pub AtNextMark-before : (base : List Line) (op : LogOp) (past : List LogOp) (image : Words) → ((line : ℕ) → is_back_of line op ≡ false) → AllAtNextMark base (op ∷ past) image
    → (before : Words) × AllAtNextMark base past before × DiffersBy op before image
AtNextMark-before base op past image other h =
    unwritten (AtNextMark base past) (word_of (now base past)) op image (AtNextMark-now base past) at
  where
    go : (line word : ℕ) → ((is_back_of line op ≡ true) × (image line word ≡ word_of (now base past) line word)) ⊎ ((is_back_of line op ≡ false) × (MayWrite line word (image line word) op ⊎ AtNextMark base past line word (image line word)))
        → MayWrite line word (image line word) op ⊎ AtNextMark base past line word (image line word)
    go line word (inl (back, same)) = absurd (false≢true (sym (other line) ∙ back))
    go line word (inr (no_back, at_next_mark)) = at_next_mark

    at : (line word : ℕ) → MayWrite line word (image line word) op ⊎ AtNextMark base past line word (image line word)
    at line word = go line word (AtNextMark-cases base op past line word (image line word) (h line word))

-- a `Back` takes nothing away at the greatest cut
pub Last-after_Back : (base : List Line) (first count : ℕ) (past : List LogOp) (image : Words) → AllLast base (Back first count ∷ past) image → AllLast base past image
Last-after_Back base first count past image h line word =
    go (Last-cases base (Back first count) past line word (image line word) (h line word))
  where
    go : ((false ≡ true) × AtNextMark base past line word (image line word)) ⊎ ((false ≡ false) × (⊥ ⊎ Last base past line word (image line word))) → Last base past line word (image line word)
    go (inl (mark, at_next_mark)) = absurd (false≢true mark)
    go (inr (other, inl written)) = absurd written
    go (inr (other, inr last)) = last

-- what a mark after a `Back` would settle, a mark before it would too, and the lines that were given are the contents
pub AtNextMark-after_Back : (base : List Line) (first count : ℕ) (past : List LogOp) (image : Words) → AllAtNextMark base (Back first count ∷ past) image → AllAtNextMark base past image
AtNextMark-after_Back base first count past image h line word =
    go (AtNextMark-cases base (Back first count) past line word (image line word) (h line word))
  where
    go : ((is_back_of line (Back first count) ≡ true) × (image line word ≡ word_of (now base past) line word)) ⊎ ((is_back_of line (Back first count) ≡ false) × (⊥ ⊎ AtNextMark base past line word (image line word))) → AtNextMark base past line word (image line word)
    go (inl (back, same)) = subst (λ x. AtNextMark base past line word x) (sym same) (AtNextMark-now base past line word)
    go (inr (other, inl written)) = absurd written
    go (inr (other, inr at_next_mark)) = at_next_mark

pub AtNextMark-given : (base : List Line) (first count : ℕ) (past : List LogOp) (image : Words) → AllAtNextMark base (Back first count ∷ past) image → IsGiven (Back first count) (now base past) image
AtNextMark-given base first count past image h line word back =
    go (AtNextMark-cases base (Back first count) past line word (image line word) (h line word))
  where
    go : ((is_back_of line (Back first count) ≡ true) × (image line word ≡ word_of (now base past) line word)) ⊎ ((is_back_of line (Back first count) ≡ false) × (⊥ ⊎ AtNextMark base past line word (image line word))) → image line word ≡ word_of (now base past) line word
    go (inl (b, same)) = same
    go (inr (other, h)) = absurd (false≢true (sym other ∙ back))

-- a mark writes nothing
AtNextMark-after_mark : (base : List Line) (op : LogOp) (past : List LogOp) (image : Words) → (op ≡ Fence) ⊎ (op ≡ Sync) → AllAtNextMark base (op ∷ past) image → AllAtNextMark base past image
AtNextMark-after_mark base op past image which h line word =
    go which (AtNextMark-cases base op past line word (image line word) (h line word))
  where
    go : (op ≡ Fence) ⊎ (op ≡ Sync) → ((is_back_of line op ≡ true) × (image line word ≡ word_of (now base past) line word)) ⊎ ((is_back_of line op ≡ false) × (MayWrite line word (image line word) op ⊎ AtNextMark base past line word (image line word))) → AtNextMark base past line word (image line word)
    go which (inl (back, same)) = subst (λ x. AtNextMark base past line word x) (sym same) (AtNextMark-now base past line word)
    go (inl fence) (inr (other, inl written)) = absurd (subst (λ o. MayWrite line word (image line word) o) fence written)
    go (inr sync) (inr (other, inl written)) = absurd (subst (λ o. MayWrite line word (image line word) o) sync written)
    go which (inr (other, inr at_next_mark)) = at_next_mark

-- after a mark the greatest cut allows what that mark settles
pub Last-at_mark : (base : List Line) (op : LogOp) (past : List LogOp) (image : Words) → is_mark op ≡ true → AllLast base (op ∷ past) image → AllAtNextMark base past image
Last-at_mark base op past image mark h line word =
    go (Last-cases base op past line word (image line word) (h line word))
  where
    go : ((is_mark op ≡ true) × AtNextMark base past line word (image line word)) ⊎ ((is_mark op ≡ false) × (MayWrite line word (image line word) op ⊎ Last base past line word (image line word))) → AtNextMark base past line word (image line word)
    go (inl (m, at_next_mark)) = at_next_mark
    go (inr (other, h)) = absurd (false≢true (sym other ∙ mark))

-- The set of images

-- after a write, a crash leaves what it might leave before, or an image of the new greatest cut
pub Leaves-after_other : (base : List Line) (op : LogOp) (past : List LogOp) (image : Words) → is_sync op ≡ false → Leaves base (op ∷ past) image → AllLast base (op ∷ past) image ⊎ Leaves base past image
Leaves-after_other base op past image other h = go (Leaves-cases base op past image h)
  where
    go : ((is_sync op ≡ true) × AllAtNextMark base past image) ⊎ ((is_sync op ≡ false) × (AllLast base (op ∷ past) image ⊎ Leaves base past image)) → AllLast base (op ∷ past) image ⊎ Leaves base past image
    go (inl (sync, at_next_mark)) = absurd (false≢true (sym other ∙ sync))
    go (inr (o, h)) = h

-- an image after one more operation comes from one before, which differs only where the operation may have written
pub Leaves-before : (base : List Line) (op : LogOp) (past : List LogOp) (image : Words) → Leaves base (op ∷ past) image → (before : Words) × Leaves base past before × DiffersBy op before image
Leaves-before base op past image h = go (Leaves-cases base op past image h) (cases_Bool (is_mark op))
  where
    same : Leaves base past image → (before : Words) × Leaves base past before × DiffersBy op before image
    same leaves = (image, leaves, (λ line word. inl refl))

    go : ((is_sync op ≡ true) × AllAtNextMark base past image) ⊎ ((is_sync op ≡ false) × (AllLast base (op ∷ past) image ⊎ Leaves base past image)) → (is_mark op ≡ true) ⊎ (is_mark op ≡ false) → (before : Words) × Leaves base past before × DiffersBy op before image
    go (inl (sync, at_next_mark)) mark = same (Leaves-AtNextMark base past image at_next_mark)
    go (inr (other, inr leaves)) mark = same leaves
    go (inr (other, inl last)) (inl mark) = same (Leaves-AtNextMark base past image (Last-at_mark base op past image mark last))
    go (inr (other, inl last)) (inr no_mark) =
        let b = Last-before base op past image no_mark last in
        (b.0, Leaves-Last base past b.0 b.1, b.2)

-- a `Back` adds no image
pub Leaves-after_Back : (base : List Line) (first count : ℕ) (past : List LogOp) (image : Words) → Leaves base (Back first count ∷ past) image → Leaves base past image
Leaves-after_Back base first count past image h =
    go (Leaves-after_other base (Back first count) past image refl h)
  where
    go : AllLast base (Back first count ∷ past) image ⊎ Leaves base past image → Leaves base past image
    go (inl last) = Leaves-Last base past image (Last-after_Back base first count past image last)
    go (inr leaves) = leaves

-- and neither does a `Fence`
pub Leaves-after_Fence : (base : List Line) (past : List LogOp) (image : Words) → Leaves base (Fence ∷ past) image → Leaves base past image
Leaves-after_Fence base past image h = go (Leaves-after_other base Fence past image refl h)
  where
    go : AllLast base (Fence ∷ past) image ⊎ Leaves base past image → Leaves base past image
    go (inl last) = Leaves-AtNextMark base past image (Last-at_mark base Fence past image refl last)
    go (inr leaves) = leaves

-- after a `Sync` a crash leaves what that settles
pub Leaves-after_Sync : (base : List Line) (past : List LogOp) (image : Words) → Leaves base (Sync ∷ past) image → AllAtNextMark base past image
Leaves-after_Sync base past image h = go (Leaves-cases base Sync past image h)
  where
    go : ((true ≡ true) × AllAtNextMark base past image) ⊎ ((true ≡ false) × (AllLast base (Sync ∷ past) image ⊎ Leaves base past image)) → AllAtNextMark base past image
    go (inl (sync, at_next_mark)) = at_next_mark
    go (inr (other, h)) = absurd (false≢true (sym other))

-- The rules

-- the start: the one image is the base
pub Bounds-none : (base : List Line) (P : Words → Type 0) → P (word_of base) → Bounds base [] P P P
Bounds-none base P h =
    record {
      all = λ image leaves. at image (λ line word. Last-at_none base line word (image line word) (Leaves-at_none base image leaves line word));
      last = λ image last. at image (λ line word. Last-at_none base line word (image line word) (last line word));
      at_next_mark = λ image at_next_mark. at image (λ line word. AtNextMark-at_none base line word (image line word) (at_next_mark line word));
    }
  where
    at : (image : Words) → ((line word : ℕ) → image line word ≡ word_of base line word) → P image
    at image same = subst P (sym (fun_ext (λ line. fun_ext (λ word. same line word)))) h

-- a write: the images of the greatest cut and those that a mark would settle differ from those before only where it wrote
pub Bounds-write : {base : List Line} {past : List LogOp} {A T S : Words → Type 0} (op : LogOp) (at : ℕ) (A' T' S' : Words → Type 0) → line_written op ≡ Some at → Bounds base past A T S → ((before image : Words) → T before → DiffersBy op before image → T' image) → ((before image : Words) → S before → DiffersBy op before image → S' image) → ((image : Words) → A image → A' image) → ((image : Words) → T' image → A' image) → Bounds base (op ∷ past) A' T' S'
Bounds-write {base} {past} {A} {T} {S} op at A' T' S' written bounds new_last new_held old new =
    record { all = all; last = last; at_next_mark = at_next_mark }
  where
    last : (image : Words) → AllLast base (op ∷ past) image → T' image
    last image h = let b = Last-before base op past image (write-no_mark op at written) h in new_last b.0 image (bounds.last b.0 b.1) b.2

    at_next_mark : (image : Words) → AllAtNextMark base (op ∷ past) image → S' image
    at_next_mark image h =
        let b = AtNextMark-before base op past image (λ line. write-no_Back op at line written) h in
        new_held b.0 image (bounds.at_next_mark b.0 b.1) b.2

    all : (image : Words) → Leaves base (op ∷ past) image → A' image
    all image h = go (Leaves-after_other base op past image (write-no_sync op at written) h)
      where
        go : AllLast base (op ∷ past) image ⊎ Leaves base past image → A' image
        go (inl l) = new image (last image l)
        go (inr l) = old image (bounds.all image l)

-- a `Back`: the images that a mark would settle have its lines from the contents
pub Bounds-Back : {base : List Line} {past : List LogOp} {A T S : Words → Type 0} (first count : ℕ) (S' : Words → Type 0) → Bounds base past A T S → ((image : Words) → S image → IsGiven (Back first count) (now base past) image → S' image) → Bounds base (Back first count ∷ past) A T S'
Bounds-Back {base} {past} first count S' bounds given =
    record {
      all = λ image h. bounds.all image (Leaves-after_Back base first count past image h);
      last = λ image h. bounds.last image (Last-after_Back base first count past image h);
      at_next_mark = λ image h. given image (bounds.at_next_mark image (AtNextMark-after_Back base first count past image h)) (AtNextMark-given base first count past image h);
    }

-- a `Fence`: the greatest cut allows what it settles
pub Bounds-Fence : {base : List Line} {past : List LogOp} {A T S : Words → Type 0} → Bounds base past A T S → Bounds base (Fence ∷ past) A S S
Bounds-Fence {base} {past} bounds =
    record {
      all = λ image h. bounds.all image (Leaves-after_Fence base past image h);
      last = λ image h. bounds.at_next_mark image (Last-at_mark base Fence past image refl h);
      at_next_mark = λ image h. bounds.at_next_mark image (AtNextMark-after_mark base Fence past image (inl refl) h);
    }

-- a `Sync`: a crash leaves what it settles
pub Bounds-Sync : {base : List Line} {past : List LogOp} {A T S : Words → Type 0} → Bounds base past A T S → Bounds base (Sync ∷ past) S S S
Bounds-Sync {base} {past} bounds =
    record {
      all = λ image h. bounds.at_next_mark image (Leaves-after_Sync base past image h);
      last = λ image h. bounds.at_next_mark image (Last-at_mark base Sync past image refl h);
      at_next_mark = λ image h. bounds.at_next_mark image (AtNextMark-after_mark base Sync past image (inr refl) h);
    }

-- less may be said
pub Bounds-weaker : {base : List Line} {past : List LogOp} {A T S : Words → Type 0} (A' T' S' : Words → Type 0) → Bounds base past A T S → ((image : Words) → A image → A' image) → ((image : Words) → T image → T' image) → ((image : Words) → S image → S' image) → Bounds base past A' T' S'
Bounds-weaker A' T' S' bounds all last at_next_mark =
    record {
      all = λ image h. all image (bounds.all image h);
      last = λ image h. last image (bounds.last image h);
      at_next_mark = λ image h. at_next_mark image (bounds.at_next_mark image h);
    }

-- Clean lines

-- a line whose last write has a `Back` after it is one that a mark would settle as it is
pub AtNextMark-clean : (base : List Line) (past : List LogOp) (line word value : ℕ) → is_clean line past ≡ true → AtNextMark base past line word value → value ≡ word_of (now base past) line word
unfolding is_clean
AtNextMark-clean base [] line word value clean h =
    AtNextMark-at_none base line word value h ∙ sym (ap (λ lines. word_of lines line word) (now-none base))
AtNextMark-clean base (op ∷ past) line word value clean h =
    go (AtNextMark-clean base past line word value) (AtNextMark-cases base op past line word value h)
  where
    longer : word_of (applied op (now base past)) line word ≡ word_of (now base (op ∷ past)) line word
    longer = ap (λ lines. word_of lines line word) (sym (now-more base op past))

    not_written : (b c : Bool) → b ≡ false → (b || (not (writes_line line (line_written op)) && c)) ≡ true → (writes_line line (line_written op) ≡ false) × (c ≡ true)
    not_written b c e h = split (writes_line line (line_written op)) c (rw e at h)
      where
        split : (w d : Bool) → (not w && d) ≡ true → (w ≡ false) × (d ≡ true)
        split true d h = absurd (false≢true h)
        split false d h = (refl, h)

    other_line : writes_line line (line_written op) ≡ false → line_written op ≢ Some line
    other_line e some = same (eqb_tells line line)
      where
        same : ((line == line) ≡ true) × (line ≡ line) ⊎ ((line == line) ≡ false) × (line ≢ line) → ⊥
        same (inl (t, r)) = false≢true (sym (rw some at e) ∙ t)
        same (inr (f, n)) = n refl

    still : writes_line line (line_written op) ≡ false → word_of (applied op (now base past)) line word ≡ word_of (now base past) line word
    still e = ap (λ (l : Line). slice_index l.words word) (line_at-applied_other op (now base past) line (other_line e))

    go : (is_clean line past ≡ true → AtNextMark base past line word value → value ≡ word_of (now base past) line word) → ((is_back_of line op ≡ true) × (value ≡ word_of (now base past) line word)) ⊎ ((is_back_of line op ≡ false) × (MayWrite line word value op ⊎ AtNextMark base past line word value)) → value ≡ word_of (now base (op ∷ past)) line word
    go before (inl (back, same)) =
        same ∙ (sym (ap (λ lines. word_of lines line word) (applied-none op (now base past) (Back-writes_none line op back))) ∙ longer)
    go before (inr (other, inl written)) =
        absurd (other_line (not_written (is_back_of line op) (is_clean line past) other clean).0 (MayWrite-writes line word value op written))
    go before (inr (other, inr at_next_mark)) =
        let p = not_written (is_back_of line op) (is_clean line past) other clean in
        before p.1 at_next_mark ∙ (sym (still p.0) ∙ longer)
