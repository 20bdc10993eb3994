-- The contents are among what a mark would settle, that among what the greatest cut allows, and that among what a crash may leave.
use Rattle.std.proofs.Common.{◌≡◌, ℕ, ◌⊎◌, Bool, true, false, List, [], ◌∷◌, Option, Some, None, MatchBool, ap, subst, sym, refl, ◌∙◌, inl, inr}
use Rattle.std.proofs.lemmas.Bool.{cases_Bool, false≢true}
use Rattle.pb_pmem.specs.declared.line.Line.{Line}
use Rattle.pb_pmem.specs.declared.log.LogOp.{LogOp}
use Rattle.pb_pmem.specs.declared.log.LogOp.TheVariants.{Whole, Word, Back, Fence, Sync}
use Rattle.pb_pmem.specs.Contents.{applied}
use Rattle.pb_pmem.specs.Crash.{is_mark, is_sync, is_back_of, line_written, MayWrite}
use Rattle.pb_pmem.specs.Lines.{word_of}
use Rattle.pb_pmem.specs.Past.{Words, now, AtNextMark, Last, AllAtNextMark, AllLast, Leaves}
use Rattle.pb_pmem.proofs.Words.{applied-none, word_of-applied, now-none, now-more}

-- what a `MatchBool` says
pub MatchBool-cases : {P Q : Type 0} (b : Bool) → MatchBool b P Q → ((b ≡ true) × P) ⊎ ((b ≡ false) × Q)
MatchBool-cases true h = inl (refl, h)
MatchBool-cases false h = inr (refl, h)

pub MatchBool-true : (P Q : Type 0) (b : Bool) → b ≡ true → P → MatchBool b P Q
MatchBool-true P Q true e h = h
MatchBool-true P Q false e h = absurd (false≢true e)

pub MatchBool-false : (P Q : Type 0) (b : Bool) → b ≡ false → Q → MatchBool b P Q
MatchBool-false P Q true e h = absurd (false≢true (sym e))
MatchBool-false P Q false e h = h

-- The kinds of operations

-- a test that holds of no write
pub test_fails : (test : LogOp → Bool) → ((line : ℕ) (to : Line) → test (Whole line to) ≡ false) → ((line word to : ℕ) → test (Word line word to) ≡ false) → (op : LogOp) (at : ℕ) → line_written op ≡ Some at → test op ≡ false
test_fails test whole part (Whole line to) at e = whole line to
test_fails test whole part (Word line word to) at e = part line word to
test_fails test whole part (Back first count) at e = cc
test_fails test whole part Fence at e = cc
test_fails test whole part Sync at e = cc

test-writes_none : (test : LogOp → Bool) → ((line : ℕ) (to : Line) → test (Whole line to) ≡ false) → ((line word to : ℕ) → test (Word line word to) ≡ false) → (op : LogOp) → test op ≡ true → line_written op ≡ None
test-writes_none test whole part op e = go (line_written op) (test_fails test whole part op)
  where
    go : (written : Option ℕ) → ((at : ℕ) → written ≡ Some at → test op ≡ false) → written ≡ None
    go None fails = refl
    go (Some at) fails = absurd (false≢true (sym (fails at refl) ∙ e))

pub Back-writes_none : (line : ℕ) (op : LogOp) → is_back_of line op ≡ true → line_written op ≡ None
Back-writes_none line op e = test-writes_none (is_back_of line) (λ at to. refl) (λ at word to. refl) op e

pub mark-writes_none : (op : LogOp) → is_mark op ≡ true → line_written op ≡ None
mark-writes_none op e = test-writes_none is_mark (λ line to. refl) (λ line word to. refl) op e

pub mark-no_Back : (line : ℕ) (op : LogOp) → is_mark op ≡ true → is_back_of line op ≡ false
mark-no_Back line (Whole at to) e = refl
mark-no_Back line (Word at word to) e = refl
mark-no_Back line (Back first count) e = cc
mark-no_Back line Fence e = refl
mark-no_Back line Sync e = refl

pub sync-is_mark : (op : LogOp) → is_sync op ≡ true → is_mark op ≡ true
sync-is_mark (Whole at to) e = e
sync-is_mark (Word at word to) e = e
sync-is_mark (Back first count) e = e
sync-is_mark Fence e = refl
sync-is_mark Sync e = refl

-- a write of a word is a write of its line
pub MayWrite-writes : (line word value : ℕ) (op : LogOp) → MayWrite line word value op → line_written op ≡ Some line
MayWrite-writes line word value (Whole at to) h = ap Some h
MayWrite-writes line word value (Word at place to) h = ap Some h.0
MayWrite-writes line word value (Back first count) h = absurd h
MayWrite-writes line word value Fence h = absurd h
MayWrite-writes line word value Sync h = absurd h

pub mark-writes_nothing : (line word value : ℕ) (op : LogOp) → is_mark op ≡ true → MayWrite line word value op → ⊥
mark-writes_nothing line word value op e h =
    let some = MayWrite-writes line word value op h in
    let none = mark-writes_none op e in
    cc

-- One more operation

pub AtNextMark-cases : (base : List Line) (op : LogOp) (past : List LogOp) (line word value : ℕ) → AtNextMark base (op ∷ past) line word value → ((is_back_of line op ≡ true) × (value ≡ word_of (now base past) line word)) ⊎ ((is_back_of line op ≡ false) × (MayWrite line word value op ⊎ AtNextMark base past line word value))
unfolding AtNextMark
AtNextMark-cases base op past line word value h = MatchBool-cases (is_back_of line op) h

pub AtNextMark-Back : (base : List Line) (op : LogOp) (past : List LogOp) (line word value : ℕ) → is_back_of line op ≡ true → value ≡ word_of (now base past) line word → AtNextMark base (op ∷ past) line word value
unfolding AtNextMark
AtNextMark-Back base op past line word value e h = MatchBool-true _ _ (is_back_of line op) e h

pub AtNextMark-more : (base : List Line) (op : LogOp) (past : List LogOp) (line word value : ℕ) → is_back_of line op ≡ false → MayWrite line word value op ⊎ AtNextMark base past line word value → AtNextMark base (op ∷ past) line word value
unfolding AtNextMark
AtNextMark-more base op past line word value e h = MatchBool-false _ _ (is_back_of line op) e h

pub AtNextMark-none : (base : List Line) (line word value : ℕ) → value ≡ word_of base line word → AtNextMark base [] line word value
unfolding AtNextMark
AtNextMark-none base line word value h = h

pub AtNextMark-at_none : (base : List Line) (line word value : ℕ) → AtNextMark base [] line word value → value ≡ word_of base line word
unfolding AtNextMark
AtNextMark-at_none base line word value h = h

pub Last-cases : (base : List Line) (op : LogOp) (past : List LogOp) (line word value : ℕ) → Last base (op ∷ past) line word value → ((is_mark op ≡ true) × AtNextMark base past line word value) ⊎ ((is_mark op ≡ false) × (MayWrite line word value op ⊎ Last base past line word value))
unfolding Last
Last-cases base op past line word value h = MatchBool-cases (is_mark op) h

pub Last-mark : (base : List Line) (op : LogOp) (past : List LogOp) (line word value : ℕ) → is_mark op ≡ true → AtNextMark base past line word value → Last base (op ∷ past) line word value
unfolding Last
Last-mark base op past line word value e h = MatchBool-true _ _ (is_mark op) e h

pub Last-more : (base : List Line) (op : LogOp) (past : List LogOp) (line word value : ℕ) → is_mark op ≡ false → MayWrite line word value op ⊎ Last base past line word value → Last base (op ∷ past) line word value
unfolding Last
Last-more base op past line word value e h = MatchBool-false _ _ (is_mark op) e h

pub Last-none : (base : List Line) (line word value : ℕ) → value ≡ word_of base line word → Last base [] line word value
unfolding Last
Last-none base line word value h = h

pub Last-at_none : (base : List Line) (line word value : ℕ) → Last base [] line word value → value ≡ word_of base line word
unfolding Last
Last-at_none base line word value h = h

pub Leaves-cases : (base : List Line) (op : LogOp) (past : List LogOp) (image : Words) → Leaves base (op ∷ past) image → ((is_sync op ≡ true) × AllAtNextMark base past image) ⊎ ((is_sync op ≡ false) × (AllLast base (op ∷ past) image ⊎ Leaves base past image))
unfolding Leaves
Leaves-cases base op past image h = MatchBool-cases (is_sync op) h

pub Leaves-sync : (base : List Line) (op : LogOp) (past : List LogOp) (image : Words) → is_sync op ≡ true → AllAtNextMark base past image → Leaves base (op ∷ past) image
unfolding Leaves
Leaves-sync base op past image e h = MatchBool-true _ _ (is_sync op) e h

pub Leaves-more : (base : List Line) (op : LogOp) (past : List LogOp) (image : Words) → is_sync op ≡ false → AllLast base (op ∷ past) image ⊎ Leaves base past image → Leaves base (op ∷ past) image
unfolding Leaves
Leaves-more base op past image e h = MatchBool-false _ _ (is_sync op) e h

pub Leaves-at_none : (base : List Line) (image : Words) → Leaves base [] image → AllLast base [] image
unfolding Leaves
Leaves-at_none base image h = h

pub Leaves-none : (base : List Line) (image : Words) → AllLast base [] image → Leaves base [] image
unfolding Leaves
Leaves-none base image h = h

-- What is in what

-- the contents are among what a mark would settle
pub AtNextMark-now : (base : List Line) (past : List LogOp) (line word : ℕ) → AtNextMark base past line word (word_of (now base past) line word)
AtNextMark-now base [] line word =
    AtNextMark-none base line word _ (ap (λ lines. word_of lines line word) (now-none base))
AtNextMark-now base (op ∷ past) line word =
    subst (λ lines. AtNextMark base (op ∷ past) line word (word_of lines line word)) (sym (now-more base op past)) (go (AtNextMark-now base past line word) (cases_Bool (is_back_of line op)))
  where
    go : AtNextMark base past line word (word_of (now base past) line word) → (is_back_of line op ≡ true) ⊎ (is_back_of line op ≡ false) → AtNextMark base (op ∷ past) line word (word_of (applied op (now base past)) line word)
    go now_held (inl e) =
        AtNextMark-Back base op past line word _ e (ap (λ lines. word_of lines line word) (applied-none op (now base past) (Back-writes_none line op e)))
    go now_held (inr e) = AtNextMark-more base op past line word _ e (before (word_of-applied op (now base past) line word))
      where
        before : (word_of (applied op (now base past)) line word ≡ word_of (now base past) line word) ⊎ MayWrite line word (word_of (applied op (now base past)) line word) op → MayWrite line word (word_of (applied op (now base past)) line word) op ⊎ AtNextMark base past line word (word_of (applied op (now base past)) line word)
        before (inl same) = inr (subst (λ x. AtNextMark base past line word x) (sym same) now_held)
        before (inr written) = inl written

-- what a mark would settle is allowed at the greatest cut
pub Last-AtNextMark : (base : List Line) (past : List LogOp) (line word value : ℕ) → AtNextMark base past line word value → Last base past line word value
Last-AtNextMark base [] line word value h = Last-none base line word value (AtNextMark-at_none base line word value h)
Last-AtNextMark base (op ∷ past) line word value h =
    go (Last-AtNextMark base past line word value) (cases_Bool (is_mark op)) (AtNextMark-cases base op past line word value h)
  where
    go : (AtNextMark base past line word value → Last base past line word value) → (is_mark op ≡ true) ⊎ (is_mark op ≡ false) → ((is_back_of line op ≡ true) × (value ≡ word_of (now base past) line word)) ⊎ ((is_back_of line op ≡ false) × (MayWrite line word value op ⊎ AtNextMark base past line word value)) → Last base (op ∷ past) line word value
    go last (inl e) (inl (back, same)) = absurd (false≢true (sym (mark-no_Back line op e) ∙ back))
    go last (inl e) (inr (other, inl written)) = absurd (mark-writes_nothing line word value op e written)
    go last (inl e) (inr (other, inr at_next_mark)) = Last-mark base op past line word value e at_next_mark
    go last (inr e) (inl (back, same)) =
        Last-more base op past line word value e (inr (last (subst (λ x. AtNextMark base past line word x) (sym same) (AtNextMark-now base past line word))))
    go last (inr e) (inr (other, inl written)) = Last-more base op past line word value e (inl written)
    go last (inr e) (inr (other, inr at_next_mark)) = Last-more base op past line word value e (inr (last at_next_mark))

pub Last-now : (base : List Line) (past : List LogOp) (line word : ℕ) → Last base past line word (word_of (now base past) line word)
Last-now base past line word = Last-AtNextMark base past line word _ (AtNextMark-now base past line word)

-- what the greatest cut allows may be left
pub Leaves-Last : (base : List Line) (past : List LogOp) (image : Words) → AllLast base past image → Leaves base past image
Leaves-Last base [] image h = Leaves-none base image h
Leaves-Last base (op ∷ past) image h = go (cases_Bool (is_sync op))
  where
    at_next_mark : is_sync op ≡ true → AllAtNextMark base past image
    at_next_mark e line word = at (Last-cases base op past line word (image line word) (h line word))
      where
        at : ((is_mark op ≡ true) × AtNextMark base past line word (image line word)) ⊎ ((is_mark op ≡ false) × (MayWrite line word (image line word) op ⊎ Last base past line word (image line word))) → AtNextMark base past line word (image line word)
        at (inl (mark, at_next_mark)) = at_next_mark
        at (inr (other, last)) = absurd (false≢true (sym other ∙ sync-is_mark op e))

    go : (is_sync op ≡ true) ⊎ (is_sync op ≡ false) → Leaves base (op ∷ past) image
    go (inl e) = Leaves-sync base op past image e (at_next_mark e)
    go (inr e) = Leaves-more base op past image e (inl h)

pub Leaves-AtNextMark : (base : List Line) (past : List LogOp) (image : Words) → AllAtNextMark base past image → Leaves base past image
Leaves-AtNextMark base past image h =
    Leaves-Last base past image (λ line word. Last-AtNextMark base past line word _ (h line word))

-- the contents may be left
pub Leaves-now : (base : List Line) (past : List LogOp) → Leaves base past (word_of (now base past))
Leaves-now base past = Leaves-AtNextMark base past (word_of (now base past)) (AtNextMark-now base past)
