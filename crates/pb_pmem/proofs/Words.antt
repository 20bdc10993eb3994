-- Lemmas on what an operation does to one line and to one word.
use Rattle.std.proofs.Common.{◌≡◌, ◌≢◌, ℕ, ◌<◌, ◌≤◌, ◌⊎◌, List, [], ◌∷◌, ◌++◌, Some, None, length, get_or, set, reverse, slice_index, ap, sym, refl, ◌∙◌, inl, inr, arith, length-set}
use Rattle.std.proofs.lemmas.Bool.{cases_eq, cases_lt}
use Rattle.std.proofs.lemmas.List.{get_or-set_same, get_or-set_other, get_or_past, reverse-append, same_lists, get_or_default}
use Rattle.pb_pmem.specs.declared.line.Line.{Line}
use Rattle.pb_pmem.specs.declared.log.LogOp.{LogOp}
use Rattle.pb_pmem.specs.declared.log.LogOp.TheVariants.{Whole, Word, Back, Fence, Sync}
use Rattle.pb_pmem.specs.Contents.{applied, contents}
use Rattle.pb_pmem.specs.Crash.{line_written, MayWrite}
use Rattle.pb_pmem.specs.Lines.{line_at, word_of, zero_line, with_word}
use Rattle.pb_pmem.specs.Past.{now}
use Rattle.pb_pmem.proofs.Lines.{same_line, contents_push, contents-none}

-- an operation that writes no line changes nothing
pub applied-none : (op : LogOp) (lines : List Line) → line_written op ≡ None → applied op lines ≡ lines
applied-none (Whole at to) lines e = cc
applied-none (Word at word to) lines e = cc
applied-none (Back first count) lines e = refl
applied-none Fence lines e = refl
applied-none Sync lines e = refl

-- the other lines stay
pub line_at-applied_other : (op : LogOp) (lines : List Line) (line : ℕ) → line_written op ≢ Some line → line_at (applied op lines) line ≡ line_at lines line
line_at-applied_other (Whole at to) lines line other =
    get_or-set_other lines at line to zero_line (λ e. other (ap Some (sym e)))
line_at-applied_other (Word at word to) lines line other =
    get_or-set_other lines at line (with_word (line_at lines at) word to) zero_line (λ e. other (ap Some (sym e)))
line_at-applied_other (Back first count) lines line other = refl
line_at-applied_other Fence lines line other = refl
line_at-applied_other Sync lines line other = refl

-- a change of one line, seen at a line that is the same in two lists
set_at : (f : Line → Line) (a b : List Line) (at line : ℕ) → line_at a line ≡ line_at b line → length a ≡ length b → line_at (set a at (f (line_at a at))) line ≡ line_at (set b at (f (line_at b at))) line
set_at f a b at line same long = go (cases_eq line at)
  where
    past : (lines : List Line) → length lines ≤ line → line_at (set lines at (f (line_at lines at))) line ≡ zero_line
    past lines far = get_or_past (set lines at (f (line_at lines at))) line zero_line (omega (arith, length-set lines at (f (line_at lines at))))

    here : (lines : List Line) → line ≡ at → line < length lines → line_at (set lines at (f (line_at lines at))) line ≡ f (line_at lines line)
    here lines e near = rw (← e) (get_or-set_same lines line (f (line_at lines line)) zero_line near)

    go : (line ≡ at) ⊎ (line ≡ at → ⊥) → line_at (set a at (f (line_at a at))) line ≡ line_at (set b at (f (line_at b at))) line
    go (inr other) =
        get_or-set_other a at line (f (line_at a at)) zero_line other ∙ (same ∙ sym (get_or-set_other b at line (f (line_at b at)) zero_line other))
    go (inl e) = near_or_far (cases_lt line (length a))
      where
        near_or_far : (line < length a) ⊎ (length a ≤ line) → line_at (set a at (f (line_at a at))) line ≡ line_at (set b at (f (line_at b at))) line
        near_or_far (inl near) = here a e near ∙ (ap f same ∙ sym (here b e (omega arith)))
        near_or_far (inr far) = past a far ∙ sym (past b (omega arith))

-- an operation does the same to a line that is the same in two lists
pub line_at-applied_same : (op : LogOp) (a b : List Line) (line : ℕ) → line_at a line ≡ line_at b line → length a ≡ length b → line_at (applied op a) line ≡ line_at (applied op b) line
line_at-applied_same (Whole at to) a b line same long = set_at (λ _. to) a b at line same long
line_at-applied_same (Word at word to) a b line same long =
    set_at (λ l. with_word l word to) a b at line same long
line_at-applied_same (Back first count) a b line same long = same
line_at-applied_same Fence a b line same long = same
line_at-applied_same Sync a b line same long = same

-- a word after an operation is the word before it, or what it may write there
pub word_of-applied : (op : LogOp) (lines : List Line) (line word : ℕ) → (word_of (applied op lines) line word ≡ word_of lines line word) ⊎ MayWrite line word (word_of (applied op lines) line word) op
word_of-applied (Whole at to) lines line word = go (cases_eq line at)
  where
    go : (line ≡ at) ⊎ (line ≡ at → ⊥) → (word_of (applied (Whole at to) lines) line word ≡ word_of lines line word) ⊎ (at ≡ line)
    go (inl e) = inr (sym e)
    go (inr other) = inl (ap (λ (l : Line). slice_index l.words word) (get_or-set_other lines at line to zero_line other))
word_of-applied (Word at place to) lines line word = go (cases_eq line at) (cases_lt line (length lines))
  where
    go : (line ≡ at) ⊎ (line ≡ at → ⊥) → (line < length lines) ⊎ (length lines ≤ line) → (word_of (applied (Word at place to) lines) line word ≡ word_of lines line word) ⊎ ((at ≡ line) × (place ≡ word) × (to ≡ word_of (applied (Word at place to) lines) line word))
    go (inr other) near =
        inl (ap (λ (l : Line). slice_index l.words word) (get_or-set_other lines at line (with_word (line_at lines at) place to) zero_line other))
    go (inl e) (inr far) =
        inl (ap (λ (l : Line). slice_index l.words word) (get_or_past (applied (Word at place to) lines) line zero_line (omega (arith, length-set lines at (with_word (line_at lines at) place to))) ∙ sym (get_or_past lines line zero_line far)))
    go (inl e) (inl near) = place_of (cases_eq word place) (cases_lt word (length (line_at lines at).words))
      where
        line_here : line_at (applied (Word at place to) lines) line ≡ with_word (line_at lines at) place to
        line_here = rw e (get_or-set_same lines at (with_word (line_at lines at) place to) zero_line (rw e at near))

        here : word_of (applied (Word at place to) lines) line word ≡ get_or (set (line_at lines at).words place to) word 0
        here = ap (λ (l : Line). slice_index l.words word) line_here

        place_of : (word ≡ place) ⊎ (word ≡ place → ⊥) → (word < length (line_at lines at).words) ⊎ (length (line_at lines at).words ≤ word) → (word_of (applied (Word at place to) lines) line word ≡ word_of lines line word) ⊎ ((at ≡ line) × (place ≡ word) × (to ≡ word_of (applied (Word at place to) lines) line word))
        place_of (inr other) inside =
            inl (here ∙ (get_or-set_other (line_at lines at).words place word to 0 other ∙ ap (λ l. word_of lines l word) (sym e)))
        place_of (inl p) (inr out) =
            inl (here ∙ (get_or_past (set (line_at lines at).words place to) word 0 (omega (arith, length-set (line_at lines at).words place to)) ∙ (sym (get_or_past (line_at lines at).words word 0 out) ∙ ap (λ l. word_of lines l word) (sym e))))
        place_of (inl p) (inl inside) =
            inr (sym e, sym p, sym (here ∙ rw p (get_or-set_same (line_at lines at).words place to 0 (rw p at inside))))
word_of-applied (Back first count) lines line word = inl refl
word_of-applied Fence lines line word = inl refl
word_of-applied Sync lines line word = inl refl

-- lines are the same where all their words are
pub same_images : (a b : List Line) → length a ≡ length b → ((line word : ℕ) → word_of a line word ≡ word_of b line word) → a ≡ b
same_images a b long same =
    same_lists a b long (λ k d inside. get_or_default a k d zero_line inside ∙ (same_line (line_at a k) (line_at b k) (words k) ∙ get_or_default b k zero_line d (omega arith)))
  where
    words : (k : ℕ) → (line_at a k).words ≡ (line_at b k).words
    words k =
        same_lists (line_at a k).words (line_at b k).words ((line_at a k).eight ∙ sym (line_at b k).eight) (λ w d inside. get_or_default (line_at a k).words w d 0 inside ∙ (same k w ∙ get_or_default (line_at b k).words w 0 d (omega (arith, (line_at a k).eight, (line_at b k).eight))))

-- a past with one more operation
pub reverse-cons : (op : LogOp) (past : List LogOp) → reverse (op ∷ past) ≡ reverse past ++ op ∷ []
reverse-cons op past = reverse-append (op ∷ []) past

pub now-none : (base : List Line) → now base [] ≡ base
now-none base = contents-none base

pub now-more : (base : List Line) (op : LogOp) (past : List LogOp) → now base (op ∷ past) ≡ applied op (now base past)
now-more base op past = ap (contents base) (reverse-cons op past) ∙ contents_push base (reverse past) op
