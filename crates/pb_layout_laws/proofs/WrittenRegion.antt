-- A fresh region that is laid: what a crash leaves of it, before its magic is there and after it.
use Rattle.std.proofs.Common.{◌≡◌, ◌≢◌, ℕ, ◌<◌, ◌≤◌, ◌⊎◌, Bool, true, false, ◌==◌, List, [], ◌∷◌, ◌++◌, reverse, if◌then◌else◌, ap, subst, refl, ◌∙◌, inl, inr, arith}
use Rattle.std.proofs.lemmas.Bool.{false≢true}
use Rattle.std.proofs.lemmas.Bool.Decides.{nat_tests}
use Rattle.std.proofs.lemmas.List.{append_assoc}
use Rattle.pb_pmem.specs.declared.line.Line.{Line}
use Rattle.pb_pmem.specs.declared.log.LogOp.{LogOp}
use Rattle.pb_pmem.specs.declared.log.LogOp.TheVariants.{Back, Fence}
use Rattle.pb_pmem.specs.Contents.{contents}
use Rattle.pb_pmem.specs.Lines.{word_of}
use Rattle.pb_pmem.specs.Past.{Words, Bounds}
use Rattle.pb_pmem.proofs.Bounds.{Bounds-weaker}
use Rattle.pb_pmem.proofs.Lines.{contents_push}
use Rattle.pb_object.specs.Standing.{side_count}
use Rattle.pb_layout.specs.Header.{record_length}
use Rattle.pb_layout.specs.Region.{record_place}
use Rattle.pb_layout.specs.declared.header.Header.{Header}
use Rattle.pb_layout.specs.declared.header.TheConstants.{MAGIC}
use Rattle.pb_object.proofs.Sides.{few_sides}
use Rattle.pb_layout_laws.proofs.Quiet.{Bare, HasGiven, push_back, push_fence}
use Rattle.pb_layout.specs.RegionOps.{write_backs}
use Rattle.pb_layout.specs.Stages.{IsLineFrom}

-- a line of a fresh region: of its prefix, or of the first record of a side
abbrev pub IsFreshLine : Header → ℕ → Type 0
IsFreshLine head line =
    (line < 3) ⊎ (IsLineFrom (record_place head 0 0) (record_length head) line ⊎ ((1 < side_count head.kind) × IsLineFrom (record_place head 1 0) (record_length head) line))

-- a word of it but the magic is as in these lines
abbrev pub HasWritten : Header → List Line → Words → Type 0
HasWritten head lines words =
    (line word : ℕ) → IsFreshLine head line → (line ≡ 0 → word ≢ 0) → words line word ≡ word_of lines line word

-- a fresh region without its magic, and with it
abbrev pub Prepared : Header → List Line → Words → Type 0
Prepared head lines words = Bare words × HasWritten head lines words

abbrev pub Formed : Header → List Line → Words → Type 0
Formed head lines words = (words 0 0 ≡ MAGIC) × HasWritten head lines words

-- no region, and these lines as they were given
abbrev pub Given : List Line → (ℕ → Type 0) → Words → Type 0
Given lines Here words = Bare words × ((line word : ℕ) → Here line → words line word ≡ word_of lines line word)

-- one of these lines, or of so many more
abbrev pub OrBetween : (ℕ → Type 0) → ℕ → ℕ → ℕ → Type 0
OrBetween Here first count line = Here line ⊎ IsLineFrom first count line

-- a `Back` gives more lines
back_given : {base : List Line} {A T : Words → Type 0} (log : List LogOp) (lines : List Line) (Here : ℕ → Type 0) (first count : ℕ) → contents base log ≡ lines → Bounds base (reverse log) A T (Given lines Here) → Bounds base (reverse (log ++ Back first count ∷ [])) A T (Given lines (OrBetween Here first count))
back_given {base} log lines Here first count same bounds =
    push_back log first count (Given lines (OrBetween Here first count)) bounds more
  where
    more : (words : Words) → Given lines Here words → HasGiven first count (contents base log) words → Given lines (OrBetween Here first count) words
    more words before given = (before.0, at)
      where
        at : (line word : ℕ) → OrBetween Here first count line → words line word ≡ word_of lines line word
        at line word (inl here) = before.1 line word here
        at line word (inr between) =
            given line word between.0 between.1 ∙ ap (λ (l : List Line). word_of l line word) same

-- no line yet
abbrev pub Nowhere : ℕ → Type 0
Nowhere line = ⊥

-- the lines that the first `Back` gives, those with the second, and those with the third
abbrev pub AtFront : Header → ℕ → Type 0
AtFront head = OrBetween Nowhere 0 3

abbrev pub AtFirst : Header → ℕ → Type 0
AtFirst head = OrBetween (AtFront head) (record_place head 0 0) (record_length head)

abbrev pub AtSecond : Header → ℕ → Type 0
AtSecond head = OrBetween (AtFirst head) (record_place head 1 0) (record_length head)

-- what is given where the object has two sides, and where it has one
abbrev pub giving_by : Header → Bool → List LogOp
giving_by head two =
    Back 0 3 ∷ Back (record_place head 0 0) (record_length head) ∷ ((if two then Back (record_place head 1 0) (record_length head) ∷ [] else []) ++ Fence ∷ [])

-- operations that are added one by one
pub push_three : (log : List LogOp) (a b c : LogOp) → ((log ++ a ∷ []) ++ b ∷ []) ++ c ∷ [] ≡ log ++ a ∷ b ∷ c ∷ []
push_three log a b c =
    append_assoc (log ++ a ∷ []) (b ∷ []) (c ∷ []) ∙ append_assoc log (a ∷ []) (b ∷ c ∷ [])

pub push_four : (log : List LogOp) (a b c d : LogOp) → (((log ++ a ∷ []) ++ b ∷ []) ++ c ∷ []) ++ d ∷ [] ≡ log ++ a ∷ b ∷ c ∷ d ∷ []
push_four log a b c d =
    append_assoc ((log ++ a ∷ []) ++ b ∷ []) (c ∷ []) (d ∷ []) ∙ (append_assoc (log ++ a ∷ []) (b ∷ []) (c ∷ d ∷ []) ∙ append_assoc log (a ∷ []) (b ∷ c ∷ d ∷ []))

laid_of_first : (head : Header) (lines : List Line) (words : Words) → ¬ (1 < side_count head.kind) → Given lines (AtFirst head) words → Prepared head lines words
laid_of_first head lines words one given = (given.0, at)
  where
    at : HasWritten head lines words
    at line word (inl prefix) other = given.1 line word (inl (inr (omega arith, omega (arith, prefix))))
    at line word (inr (inl first)) other = given.1 line word (inr first)
    at line word (inr (inr second)) other = absurd (one second.0)

laid_of_second : (head : Header) (lines : List Line) (words : Words) → Given lines (AtSecond head) words → Prepared head lines words
laid_of_second head lines words given = (given.0, at)
  where
    at : HasWritten head lines words
    at line word (inl prefix) other = given.1 line word (inl (inl (inr (omega arith, omega (arith, prefix)))))
    at line word (inr (inl first)) other = given.1 line word (inl (inr first))
    at line word (inr (inr second)) other = given.1 line word (inr second.1)

write_backs_bounds_by : {base : List Line} (log : List LogOp) (head : Header) (two : Bool) → (1 < side_count head.kind → two ≡ true) → Bounds base (reverse log) Bare Bare Bare → Bounds base (reverse (log ++ giving_by head two)) Bare (Prepared head (contents base log)) (Prepared head (contents base log))
write_backs_bounds_by {base} log head two tells bounds = go two tells
  where
    lines : List Line
    lines = contents base log

    log_one : List LogOp
    log_one = log ++ Back 0 3 ∷ []

    log_two : List LogOp
    log_two = log_one ++ Back (record_place head 0 0) (record_length head) ∷ []

    log_three : List LogOp
    log_three = log_two ++ Back (record_place head 1 0) (record_length head) ∷ []

    same_one : contents base log_one ≡ lines
    same_one = contents_push base log (Back 0 3)

    same_two : contents base log_two ≡ lines
    same_two = contents_push base log_one (Back (record_place head 0 0) (record_length head)) ∙ same_one

    start : Bounds base (reverse log) Bare Bare (Given lines Nowhere)
    start =
        Bounds-weaker Bare Bare (Given lines Nowhere) bounds (λ w b. b) (λ w b. b) (λ w b. (b, λ line word here. absurd here))

    one : Bounds base (reverse log_one) Bare Bare (Given lines (AtFront head))
    one = back_given log lines Nowhere 0 3 refl start

    both : Bounds base (reverse log_two) Bare Bare (Given lines (AtFirst head))
    both = back_given log_one lines (AtFront head) (record_place head 0 0) (record_length head) same_one one

    three : Bounds base (reverse log_three) Bare Bare (Given lines (AtSecond head))
    three = back_given log_two lines (AtFirst head) (record_place head 1 0) (record_length head) same_two both

    go : (two : Bool) → (1 < side_count head.kind → two ≡ true) → Bounds base (reverse (log ++ giving_by head two)) Bare (Prepared head lines) (Prepared head lines)
    go true tells =
        subst (λ (l : List LogOp). Bounds base (reverse l) Bare (Prepared head lines) (Prepared head lines)) (push_four log (Back 0 3) (Back (record_place head 0 0) (record_length head)) (Back (record_place head 1 0) (record_length head)) Fence) (Bounds-weaker Bare (Prepared head lines) (Prepared head lines) (push_fence log_three three) (λ w b. b) (laid_of_second head lines) (laid_of_second head lines))
    go false tells =
        let single : ¬ (1 < side_count head.kind) = λ more. false≢true (tells more) in
        subst (λ (l : List LogOp). Bounds base (reverse l) Bare (Prepared head lines) (Prepared head lines)) (push_three log (Back 0 3) (Back (record_place head 0 0) (record_length head)) Fence) (Bounds-weaker Bare (Prepared head lines) (Prepared head lines) (push_fence log_two both) (λ w b. b) (λ w. laid_of_first head lines w single) (λ w. laid_of_first head lines w single))

two_sides : (count : ℕ) → count ≤ 2 → 1 < count → (count == 2) ≡ true
two_sides count few more = grind (arith, nat_tests)

-- after the given lines and the fence, what the greatest cut allows is the fresh region without its magic
pub write_backs_bounds : {base : List Line} (log : List LogOp) (head : Header) → Bounds base (reverse log) Bare Bare Bare → Bounds base (reverse (log ++ write_backs head)) Bare (Prepared head (contents base log)) (Prepared head (contents base log))
write_backs_bounds log head bounds =
    write_backs_bounds_by log head (side_count head.kind == 2) (two_sides (side_count head.kind) (few_sides head.kind)) bounds
