-- Writes of a record's lines: of those that differ from what is known to be there, or of all.
use Rattle.std.proofs.Common.{◌≡◌, ℕ, ◌+◌, ◌<◌, ◌≤◌, ◌⊎◌, inl, inr, zero, suc, Bool, true, false, List, [], ◌∷◌, ◌++◌, length, drop, Option, Some, None, refl, sym, ap, subst, ◌∙◌, append_assoc, arith}
use Rattle.std.specs.Prelude.{if◌then◌else◌}
use Rattle.std.specs.List.{All}
use Rattle.std.proofs.lemmas.List.{get_or-drop, get_or-set_same, get_or-set_other}
use Rattle.std.proofs.lemmas.List.Elements.{All-nil, All-append, All-cons}
use Rattle.pb_pmem.specs.declared.line.Line.{Line}
use Rattle.pb_pmem.specs.declared.log.LogOp.{LogOp}
use Rattle.pb_pmem.specs.declared.log.LogOp.TheVariants.{Whole}
use Rattle.pb_pmem.specs.Contents.{contents}
use Rattle.pb_pmem.specs.Lines.{line_at, zero_line}
use Rattle.pb_pmem.specs.Operations.{writes_from}
use Rattle.pb_pmem.proofs.Lines.{contents-none, contents-one, contents-append, length-contents}
use Rattle.pb_pmem.proofs.WrittenLines.{writes_from-none, writes_from-more, line_at-writes_here}
use Rattle.pb_layout.specs.RegionOps.{is_same, changes_from, writes_over}
use Rattle.pb_layout.specs.Stages.{IsStagingOp, StagesRecord}
use Rattle.pb_layout.proofs.Lines.{same_from_eq}
use Rattle.pb_layout.proofs.Untouched.{IsApartFrom, Spares, line_at-spared}

abbrev no_lines : List Line
no_lines = []

-- a line is written where it differs
abbrev pub change_at : ℕ → Line → Line → List LogOp
change_at place before line = if is_same before line then [] else Whole place line ∷ []

pub changes_from-none : (first : ℕ) (before : List Line) → changes_from first before [] ≡ []
unfolding changes_from
changes_from-none first before = refl

pub changes_from-more : (first : ℕ) (before : List Line) (line : Line) (lines : List Line) → changes_from first before (line ∷ lines) ≡ change_at first (line_at before 0) line ++ changes_from (suc first) (drop 1 before) lines
unfolding changes_from
changes_from-more first before line lines = refl

none_left : (n : ℕ) → drop n (drop 1 no_lines) ≡ drop (suc n) no_lines
none_left zero = refl
none_left (suc n) = refl

drop-one : (n : ℕ) (before : List Line) → drop n (drop 1 before) ≡ drop (suc n) before
drop-one n [] = none_left n
drop-one n (line ∷ before) = refl

-- the changes of some lines, and of those after them
pub changes_from-append : (first : ℕ) (before a b : List Line) → changes_from first before (a ++ b) ≡ changes_from first before a ++ changes_from (first + length a) (drop (length a) before) b
changes_from-append first before [] b =
    let here : first ≡ first + 0 = omega arith in
    ap (λ (n : ℕ). changes_from n before b) here ∙ sym (ap (λ (none : List LogOp). none ++ changes_from (first + 0) before b) (changes_from-none first before))
changes_from-append first before (line ∷ a) b =
    let here : suc first + length a ≡ first + suc (length a) = omega arith in
    changes_from-more first before line (a ++ b)
    ∙ (ap (λ (l : List LogOp). change_at first (line_at before 0) line ++ l) (changes_from-append (suc first) (drop 1 before) a b)
    ∙ (sym (append_assoc (change_at first (line_at before 0) line) (changes_from (suc first) (drop 1 before) a) (changes_from (suc first + length a) (drop (length a) (drop 1 before)) b))
    ∙ ((λ i. sym (changes_from-more first before line a) i ++ changes_from (here i) (drop-one (length a) before i) b))))

-- What the changes leave

drop-line_at : (before : List Line) (place : ℕ) → line_at (drop 1 before) place ≡ line_at before (suc place)
drop-line_at before place = get_or-drop 1 before place zero_line ∙ ap (line_at before) (omega arith)

-- lines that lie apart from a piece: the first of them does, and the rest do
first_apart : (at count first long : ℕ) → (at + count ≤ first) ⊎ (first + suc long ≤ at) → IsApartFrom at count first
first_apart at count first long (inl before) = inr before
first_apart at count first long (inr after) = inl (omega arith)

rest_apart : (at count first long : ℕ) → (at + count ≤ first) ⊎ (first + suc long ≤ at) → (at + count ≤ suc first) ⊎ (suc first + long ≤ at)
rest_apart at count first long (inl before) = inl (omega arith)
rest_apart at count first long (inr after) = inr (omega arith)

-- they write no other lines
pub changes-spare : (at count first : ℕ) (before lines : List Line) → (at + count ≤ first) ⊎ (first + length lines ≤ at) → All (Spares at count) (changes_from first before lines)
changes-spare at count first before [] apart = subst (All (Spares at count)) (sym (changes_from-none first before)) (All-nil (Spares at count))
changes-spare at count first before (line ∷ lines) apart =
    subst (All (Spares at count)) (sym (changes_from-more first before line lines))
    (All-append (Spares at count) (change_at first (line_at before 0) line) (changes_from (suc first) (drop 1 before) lines) (one (is_same (line_at before 0) line)) (changes-spare at count (suc first) (drop 1 before) lines (rest_apart at count first (length lines) apart)))
  where
    one : (same : Bool) → All (Spares at count) (if same then [] else Whole first line ∷ [])
    one true = All-nil (Spares at count)
    one false = All-cons (Spares at count) (Whole first line) [] (first_apart at count first (length lines) apart) (All-nil (Spares at count))

-- and the lines are there
pub changes-there : (image : List Line) (first : ℕ) (before lines : List Line) → ((place : ℕ) → place < length lines → line_at image (first + place) ≡ line_at before place) → first + length lines ≤ length image → (place : ℕ) → place < length lines → line_at (contents image (changes_from first before lines)) (first + place) ≡ line_at lines place
changes-there image first before [] there fits place inside = absurd (omega arith)
changes-there image first before (line ∷ lines) there fits place inside =
    ap (λ (l : List LogOp). line_at (contents image l) (first + place)) (changes_from-more first before line lines)
    ∙ (ap (λ (l : List Line). line_at l (first + place)) (contents-append image (change_at first (line_at before 0) line) (changes_from (suc first) (drop 1 before) lines))
    ∙ at (λ k below. changes-there next (suc first) (drop 1 before) lines after (omega (arith, long)) k below) place inside)
  where
    next : List Line
    next = contents image (change_at first (line_at before 0) line)

    rest : List LogOp
    rest = changes_from (suc first) (drop 1 before) lines

    long : length next ≡ length image
    long = length-contents image (change_at first (line_at before 0) line)

    here_by : (same : Bool) → (same ≡ true → line_at before 0 ≡ line) → line_at (contents image (if same then [] else Whole first line ∷ [])) first ≡ line
    here_by true tells = ap (λ (l : List Line). line_at l first) (contents-none image) ∙ (ap (line_at image) (omega arith) ∙ (there 0 (omega arith) ∙ tells refl))
    here_by false tells = ap (λ (l : List Line). line_at l first) (contents-one image (Whole first line)) ∙ get_or-set_same image first line zero_line (omega arith)

    here : line_at next first ≡ line
    here = here_by (is_same (line_at before 0) line) (λ e. same_from_eq (line_at before 0) line (sym e))

    other_by : (same : Bool) (k : ℕ) → line_at (contents image (if same then [] else Whole first line ∷ [])) (suc first + k) ≡ line_at image (suc first + k)
    other_by true k = ap (λ (l : List Line). line_at l (suc first + k)) (contents-none image)
    other_by false k = ap (λ (l : List Line). line_at l (suc first + k)) (contents-one image (Whole first line)) ∙ get_or-set_other image first (suc first + k) line zero_line (λ e. omega arith)

    after : (k : ℕ) → k < length lines → line_at next (suc first + k) ≡ line_at (drop 1 before) k
    after k below = other_by (is_same (line_at before 0) line) k ∙ (ap (line_at image) (omega arith) ∙ (there (suc k) (omega arith) ∙ sym (drop-line_at before k)))

    at : ((k : ℕ) → k < length lines → line_at (contents next rest) (suc first + k) ≡ line_at lines k) → (place : ℕ) → place < suc (length lines) → line_at (contents next rest) (first + place) ≡ line_at (line ∷ lines) place
    at later zero inside =
        line_at-spared rest next first 1 (first + 0) (omega arith) (omega arith) (changes-spare first 1 (suc first) (drop 1 before) lines (inl (omega arith))) ∙ (ap (line_at next) (omega arith) ∙ here)
    at later (suc place) inside =
        ap (line_at (contents next rest)) (omega arith) ∙ later place (omega arith)

-- What the writes leave: so it is of all lines, and of either

pub writes-spare : (at count first : ℕ) (lines : List Line) → (at + count ≤ first) ⊎ (first + length lines ≤ at) → All (Spares at count) (writes_from first lines)
writes-spare at count first [] apart = subst (All (Spares at count)) (sym (writes_from-none first)) (All-nil (Spares at count))
writes-spare at count first (line ∷ lines) apart =
    subst (All (Spares at count)) (sym (writes_from-more first line lines)) (All-cons (Spares at count) (Whole first line) (writes_from (suc first) lines) (first_apart at count first (length lines) apart) (writes-spare at count (suc first) lines (rest_apart at count first (length lines) apart)))

pub over-spare : (at count first : ℕ) (spare : Option (List Line)) (lines : List Line) → (at + count ≤ first) ⊎ (first + length lines ≤ at) → All (Spares at count) (writes_over first spare lines)
over-spare at count first None lines apart = writes-spare at count first lines apart
over-spare at count first (Some before) lines apart = changes-spare at count first before lines apart

-- the lines are there after the writes
pub over-there : (image : List Line) (first : ℕ) (spare : Option (List Line)) (lines : List Line) → ((before : List Line) → spare ≡ Some before → (place : ℕ) → place < length lines → line_at image (first + place) ≡ line_at before place) → first + length lines ≤ length image → (place : ℕ) → place < length lines → line_at (contents image (writes_over first spare lines)) (first + place) ≡ line_at lines place
over-there image first None lines holds fits place inside = line_at-writes_here image first lines place inside fits
over-there image first (Some before) lines holds fits place inside = changes-there image first before lines (holds before refl) fits place inside

-- They stay within the record

changes_stage : (first count at : ℕ) (before lines : List Line) → first ≤ at → at + length lines ≤ first + count → All (IsStagingOp first count) (changes_from at before lines)
changes_stage first count at before [] low high = subst (All (IsStagingOp first count)) (sym (changes_from-none at before)) (All-nil (IsStagingOp first count))
changes_stage first count at before (line ∷ lines) low high =
    subst (All (IsStagingOp first count)) (sym (changes_from-more at before line lines))
    (All-append (IsStagingOp first count) (change_at at (line_at before 0) line) (changes_from (suc at) _ lines) (one (is_same (line_at before 0) line)) (changes_stage first count (suc at) _ lines (omega arith) (omega arith)))
  where
    one : (same : Bool) → All (IsStagingOp first count) (if same then [] else Whole at line ∷ [])
    one true = All-nil (IsStagingOp first count)
    one false = All-cons (IsStagingOp first count) (Whole at line) [] (low, omega arith) (All-nil (IsStagingOp first count))

pub quiet_writes : (first count at : ℕ) (lines : List Line) → first ≤ at → at + length lines ≤ first + count → All (IsStagingOp first count) (writes_from at lines)
quiet_writes first count at [] low high =
    subst (λ (l : List LogOp). All (IsStagingOp first count) l) (sym (writes_from-none at)) (All-nil (IsStagingOp first count))
quiet_writes first count at (line ∷ lines) low high =
    subst (λ (l : List LogOp). All (IsStagingOp first count) l) (sym (writes_from-more at line lines)) (All-cons (IsStagingOp first count) (Whole at line) (writes_from (suc at) lines) (low, omega arith) (quiet_writes first count (suc at) lines (omega arith) (omega arith)))

pub over_stage : (first : ℕ) (spare : Option (List Line)) (lines : List Line) → All (IsStagingOp first (length lines)) (writes_over first spare lines)
over_stage first None lines = quiet_writes first (length lines) first lines (omega arith) (omega arith)
over_stage first (Some before) lines = changes_stage first (length lines) first before lines (omega arith) (omega arith)

-- and put it in its place
pub over_stages : (image : List Line) (first : ℕ) (spare : Option (List Line)) (lines : List Line) → ((before : List Line) → spare ≡ Some before → (place : ℕ) → place < length lines → line_at image (first + place) ≡ line_at before place) → first + length lines ≤ length image → StagesRecord first lines image (writes_over first spare lines)
over_stages image first spare lines holds fits = record { all = over_stage first spare lines; there = over-there image first spare lines holds fits }
