-- The settled content and the loose writes, line by line and with the last operation first.
use Rattle.std.proofs.Common.{◌≡◌, ◌≢◌, ℕ, ◌⊎◌, Bool, true, false, cond, ◌||◌, List, [], ◌∷◌, ◌++◌, Option, Some, None, length, reverse, slice_index, Any, ap, sym, refl, ◌∙◌, inl, inr, append_assoc}
use Rattle.std.specs.List.{list_any}
use Rattle.std.proofs.lemmas.Bool.{cases_Bool, cases_eq, false≢true}
use Rattle.pb_pmem.specs.declared.line.Line.{Line}
use Rattle.pb_pmem.specs.declared.log.LogOp.{LogOp}
use Rattle.pb_pmem.specs.Crash.{is_back_of, is_backed, is_unbacked, backed_writes, unbacked_writes, line_written, MayWrite}
use Rattle.pb_pmem.specs.Lines.{line_at, word_of}
use Rattle.pb_pmem.specs.Past.{now, AtNextMark}
use Rattle.pb_pmem.proofs.AtNextMark.{Back-writes_none, MayWrite-writes, AtNextMark-cases, AtNextMark-Back, AtNextMark-more, AtNextMark-none, AtNextMark-at_none}
use Rattle.pb_pmem.proofs.Lines.{length-contents}
use Rattle.pb_pmem.proofs.AnyLemmas.{Any-nil, Any-cond_cases, Any-cond_here, Any-cond_there}
use Rattle.pb_pmem.proofs.Words.{line_at-applied_other, line_at-applied_same, now-none, now-more, reverse-cons}

-- the backed and the unbacked writes of a past that has `later` after it, the last one first
unfoldable pub backed_past : List LogOp → List LogOp → List LogOp
backed_past later [] = []
backed_past later (op ∷ past) =
    cond (is_backed (line_written op) later) (op ∷ backed_past (op ∷ later) past) (backed_past (op ∷ later) past)

unfoldable pub unbacked_past : List LogOp → List LogOp → List LogOp
unbacked_past later [] = []
unbacked_past later (op ∷ past) =
    cond (is_unbacked (line_written op) later) (op ∷ unbacked_past (op ∷ later) past) (unbacked_past (op ∷ later) past)

after_past : (op : LogOp) (past later : List LogOp) → reverse (op ∷ past) ++ later ≡ reverse past ++ op ∷ later
after_past op past later = ap (λ l. l ++ later) (reverse-cons op past) ∙ append_assoc (reverse past) (op ∷ []) later

pub backed_writes-past : (past later : List LogOp) → backed_writes (reverse past ++ later) ≡ reverse (backed_past later past) ++ backed_writes later
unfolding backed_writes backed_past
backed_writes-past [] later = refl
backed_writes-past (op ∷ past) later =
    ap backed_writes (after_past op past later) ∙ (backed_writes-past past (op ∷ later) ∙ go (is_backed (line_written op) later))
  where
    go : (b : Bool) → reverse (backed_past (op ∷ later) past) ++ cond b (op ∷ backed_writes later) (backed_writes later) ≡ reverse (cond b (op ∷ backed_past (op ∷ later) past) (backed_past (op ∷ later) past)) ++ backed_writes later
    go true = sym (after_past op (backed_past (op ∷ later) past) (backed_writes later))
    go false = refl

pub unbacked_writes-past : (past later : List LogOp) → unbacked_writes (reverse past ++ later) ≡ reverse (unbacked_past later past) ++ unbacked_writes later
unfolding unbacked_writes unbacked_past
unbacked_writes-past [] later = refl
unbacked_writes-past (op ∷ past) later =
    ap unbacked_writes (after_past op past later) ∙ (unbacked_writes-past past (op ∷ later) ∙ go (is_unbacked (line_written op) later))
  where
    go : (b : Bool) → reverse (unbacked_past (op ∷ later) past) ++ cond b (op ∷ unbacked_writes later) (unbacked_writes later) ≡ reverse (cond b (op ∷ unbacked_past (op ∷ later) past) (unbacked_past (op ∷ later) past)) ++ unbacked_writes later
    go true = sym (after_past op (unbacked_past (op ∷ later) past) (unbacked_writes later))
    go false = refl

-- does the operation write this line?
cases_written : (op : LogOp) (line : ℕ) → (line_written op ≡ Some line) ⊎ (line_written op ≢ Some line)
cases_written op line = go (line_written op)
  where
    at_line : (at : ℕ) → (at ≡ line) ⊎ (at ≡ line → ⊥) → (Some at ≡ Some line) ⊎ (Some at ≢ Some line)
    at_line at (inl e) = inl (ap Some e)
    at_line at (inr other) = inr (λ e. other cc)

    go : (written : Option ℕ) → (written ≡ Some line) ⊎ (written ≢ Some line)
    go None = inr (λ e. cc)
    go (Some at) = at_line at (cases_eq at line)

-- a past with an operation that doesn't write the line, or without it
line_at-now_cond : (base : List Line) (b : Bool) (op : LogOp) (past : List LogOp) (line : ℕ) → line_written op ≢ Some line → line_at (now base (cond b (op ∷ past) past)) line ≡ line_at (now base past) line
line_at-now_cond base true op past line other =
    ap (λ lines. line_at lines line) (now-more base op past) ∙ line_at-applied_other op (now base past) line other
line_at-now_cond base false op past line other = refl

length-now : (base : List Line) (past : List LogOp) → length (now base past) ≡ length base
length-now base past = length-contents base (reverse past)

-- where a `Back` of the line stands after a past, the line is settled whole
line_at-backed : (base : List Line) (past later : List LogOp) (line : ℕ) → list_any (is_back_of line) later ≡ true → line_at (now base (backed_past later past)) line ≡ line_at (now base past) line
unfolding backed_past
line_at-backed base [] later line back = refl
line_at-backed base (op ∷ past) later line back =
    go (cases_written op line) (line_at-backed base past (op ∷ later) line (or_true (is_back_of line op) back))
  where
    or_true : (b : Bool) → list_any (is_back_of line) later ≡ true → (b || list_any (is_back_of line) later) ≡ true
    or_true true e = refl
    or_true false e = e

    go : (line_written op ≡ Some line) ⊎ (line_written op ≢ Some line) → line_at (now base (backed_past (op ∷ later) past)) line ≡ line_at (now base past) line → line_at (now base (cond (is_backed (line_written op) later) (op ∷ backed_past (op ∷ later) past) (backed_past (op ∷ later) past))) line ≡ line_at (now base (op ∷ past)) line
    go (inl e) same =
        rw (e, back) (ap (λ lines. line_at lines line) (now-more base op (backed_past (op ∷ later) past)) ∙ (line_at-applied_same op _ _ line same (length-now base (backed_past (op ∷ later) past) ∙ sym (length-now base past)) ∙ sym (ap (λ lines. line_at lines line) (now-more base op past))))
    go (inr other) same =
        line_at-now_cond base (is_backed (line_written op) later) op (backed_past (op ∷ later) past) line other ∙ (same ∙ sym (ap (λ lines. line_at lines line) (now-more base op past) ∙ line_at-applied_other op (now base past) line other))

-- and no write of it is loose
unbacked-none : (past later : List LogOp) (line word value : ℕ) → list_any (is_back_of line) later ≡ true → Any (MayWrite line word value) (unbacked_past later past) → ⊥
unfolding unbacked_past
unbacked-none [] later line word value back some = Any-nil (MayWrite line word value) some
unbacked-none (op ∷ past) later line word value back some =
    go (unbacked-none past (op ∷ later) line word value (or_true (is_back_of line op) back)) (Any-cond_cases (MayWrite line word value) (is_unbacked (line_written op) later) op (unbacked_past (op ∷ later) past) some)
  where
    or_true : (b : Bool) → list_any (is_back_of line) later ≡ true → (b || list_any (is_back_of line) later) ≡ true
    or_true true e = refl
    or_true false e = e

    written : MayWrite line word value op → is_unbacked (line_written op) later ≡ false
    written h = rw (MayWrite-writes line word value op h, back) refl

    go : (Any (MayWrite line word value) (unbacked_past (op ∷ later) past) → ⊥) → ((is_unbacked (line_written op) later ≡ true) × MayWrite line word value op) ⊎ Any (MayWrite line word value) (unbacked_past (op ∷ later) past) → ⊥
    go rest (inl (e, h)) = false≢true (sym (written h) ∙ e)
    go rest (inr a) = rest a

-- where none stands after it, the last operation is no settled write of the line
line_at-unbacked : (base : List Line) (op : LogOp) (rest later : List LogOp) (line : ℕ) → list_any (is_back_of line) later ≡ false → line_at (now base (cond (is_backed (line_written op) later) (op ∷ rest) rest)) line ≡ line_at (now base rest) line
line_at-unbacked base op rest later line none = go (cases_written op line)
  where
    go : (line_written op ≡ Some line) ⊎ (line_written op ≢ Some line) → line_at (now base (cond (is_backed (line_written op) later) (op ∷ rest) rest)) line ≡ line_at (now base rest) line
    go (inl e) = rw (e, none) refl
    go (inr other) = line_at-now_cond base (is_backed (line_written op) later) op rest line other

-- what a mark would settle is the settled value, or that of a write with no `Back` after it
abbrev pub IsBackedOr : List Line → List LogOp → List LogOp → ℕ → ℕ → ℕ → Type 0
IsBackedOr base past later line word value =
    (value ≡ word_of (now base (backed_past later past)) line word) ⊎ Any (MayWrite line word value) (unbacked_past later past)

pub AtNextMark-backed : (base : List Line) (past later : List LogOp) (line word value : ℕ) → list_any (is_back_of line) later ≡ false → AtNextMark base past line word value → IsBackedOr base past later line word value
unfolding backed_past unbacked_past
AtNextMark-backed base [] later line word value none at_next_mark =
    inl (AtNextMark-at_none base line word value at_next_mark ∙ sym (ap (λ lines. word_of lines line word) (now-none base)))
AtNextMark-backed base (op ∷ past) later line word value none at_next_mark =
    go (λ (e : is_back_of line op ≡ false). AtNextMark-backed base past (op ∷ later) line word value (rw (e, none) refl)) (AtNextMark-cases base op past line word value at_next_mark)
  where
    settled : line_at (now base (cond (is_backed (line_written op) later) (op ∷ backed_past (op ∷ later) past) (backed_past (op ∷ later) past))) line ≡ line_at (now base (backed_past (op ∷ later) past)) line
    settled = line_at-unbacked base op (backed_past (op ∷ later) past) later line none

    there : IsBackedOr base past (op ∷ later) line word value → IsBackedOr base (op ∷ past) later line word value
    there (inl same) = inl (same ∙ sym (ap (λ (l : Line). slice_index l.words word) settled))
    there (inr a) = inr (Any-cond_there (MayWrite line word value) (is_unbacked (line_written op) later) op (unbacked_past (op ∷ later) past) a)

    go : (is_back_of line op ≡ false → AtNextMark base past line word value → IsBackedOr base past (op ∷ later) line word value) → ((is_back_of line op ≡ true) × (value ≡ word_of (now base past) line word)) ⊎ ((is_back_of line op ≡ false) × (MayWrite line word value op ⊎ AtNextMark base past line word value)) → IsBackedOr base (op ∷ past) later line word value
    go before (inl (back, same)) =
        inl (same ∙ sym (ap (λ (l : Line). slice_index l.words word) (settled ∙ line_at-backed base past (op ∷ later) line (rw back refl))))
    go before (inr (other, inl written)) =
        inr (Any-cond_here (MayWrite line word value) (is_unbacked (line_written op) later) op (unbacked_past (op ∷ later) past) (rw (MayWrite-writes line word value op written, none) refl) written)
    go before (inr (other, inr at_next_mark)) = there (before other at_next_mark)

pub AtNextMark-from_backed : (base : List Line) (past later : List LogOp) (line word value : ℕ) → list_any (is_back_of line) later ≡ false → IsBackedOr base past later line word value → AtNextMark base past line word value
unfolding backed_past unbacked_past
AtNextMark-from_backed base [] later line word value none (inl same) =
    AtNextMark-none base line word value (same ∙ ap (λ lines. word_of lines line word) (now-none base))
AtNextMark-from_backed base [] later line word value none (inr a) = absurd (Any-nil (MayWrite line word value) a)
AtNextMark-from_backed base (op ∷ past) later line word value none h =
    go (λ (e : is_back_of line op ≡ false). AtNextMark-from_backed base past (op ∷ later) line word value (rw (e, none) refl)) (cases_Bool (is_back_of line op)) h
  where
    settled : line_at (now base (cond (is_backed (line_written op) later) (op ∷ backed_past (op ∷ later) past) (backed_past (op ∷ later) past))) line ≡ line_at (now base (backed_past (op ∷ later) past)) line
    settled = line_at-unbacked base op (backed_past (op ∷ later) past) later line none

    here : ((is_unbacked (line_written op) later ≡ true) × MayWrite line word value op) ⊎ Any (MayWrite line word value) (unbacked_past (op ∷ later) past) → (Any (MayWrite line word value) (unbacked_past (op ∷ later) past) → AtNextMark base past line word value) → MayWrite line word value op ⊎ AtNextMark base past line word value
    here (inl (e, written)) rest = inl written
    here (inr a) rest = inr (rest a)

    go : (is_back_of line op ≡ false → IsBackedOr base past (op ∷ later) line word value → AtNextMark base past line word value) → (is_back_of line op ≡ true) ⊎ (is_back_of line op ≡ false) → IsBackedOr base (op ∷ past) later line word value → AtNextMark base (op ∷ past) line word value
    go before (inl back) (inl same) =
        AtNextMark-Back base op past line word value back (same ∙ ap (λ (l : Line). slice_index l.words word) (settled ∙ line_at-backed base past (op ∷ later) line (rw back refl)))
    go before (inl back) (inr a) =
        absurd (unbacked-none past (op ∷ later) line word value (rw back refl) (rw (Back-writes_none line op back) at a))
    go before (inr other) (inl same) =
        AtNextMark-more base op past line word value other (inr (before other (inl (same ∙ ap (λ (l : Line). slice_index l.words word) settled))))
    go before (inr other) (inr a) =
        AtNextMark-more base op past line word value other (here (Any-cond_cases (MayWrite line word value) (is_unbacked (line_written op) later) op (unbacked_past (op ∷ later) past) a) (λ b. before other (inr b)))
