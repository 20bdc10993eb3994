-- Images as lists of lines and as words: what a crash may leave in words is left as lines.
use Rattle.std.proofs.Common.{◌≡◌, ℕ, zero, suc, ◌+◌, ◌<◌, ◌≤◌, ◌⊎◌, List, [], ◌∷◌, length, reverse, slice_index, ap, subst, sym, refl, ◌∙◌, inl, inr, arith}
use Rattle.std.proofs.lemmas.Bool.{cases_lt}
use Rattle.std.proofs.lemmas.List.{get_or_past}
use Rattle.pb_pmem.specs.declared.line.Line.{Line}
use Rattle.pb_pmem.specs.declared.log.LogOp.{LogOp}
use Rattle.pb_pmem.specs.Crash.{IsCrashImage}
use Rattle.pb_pmem.specs.Lines.{line_of, line_at, word_of, zero_line}
use Rattle.pb_pmem.specs.Past.{Words, now, AtNextMark, Last, AllAtNextMark, AllLast, Leaves}
use Rattle.pb_pmem.proofs.Agree.{IsCrashImage-Leaves}
use Rattle.pb_pmem.proofs.AtNextMark.{AtNextMark-now, Last-now, Leaves-cases, Leaves-sync, Leaves-more, Leaves-none, Leaves-at_none}
use Rattle.pb_pmem.proofs.Lines.{length-contents}
use Rattle.pb_pmem.proofs.Words.{same_images}
use Rattle.pb_layout.proofs.Lines.{line_from_words}

-- the line of the first eight words
abbrev pub line_in : Words → ℕ → Line
line_in words line = line_of (words line 0) (words line 1) (words line 2) (words line 3) (words line 4) (words line 5) (words line 6) (words line 7)

unfoldable pub lines_from : ℕ → ℕ → Words → List Line
lines_from first zero words = []
lines_from first (suc count) words = line_in words first ∷ lines_from (suc first) count words

-- the first so many lines
abbrev pub image_of : ℕ → Words → List Line
image_of count words = lines_from 0 count words

pub length-lines_from : (first count : ℕ) (words : Words) → length (lines_from first count words) ≡ count
unfolding lines_from
length-lines_from first zero words = refl
length-lines_from first (suc count) words = ap suc (length-lines_from (suc first) count words)

pub length-image_of : (count : ℕ) (words : Words) → length (image_of count words) ≡ count
length-image_of count words = length-lines_from 0 count words

line_at-lines_from : (first count : ℕ) (words : Words) (place : ℕ) → place < count → line_at (lines_from first count words) place ≡ line_in words (first + place)
unfolding lines_from
line_at-lines_from first zero words place inside = absurd (omega arith)
line_at-lines_from first (suc count) words zero inside = ap (λ (n : ℕ). line_in words n) (omega arith)
line_at-lines_from first (suc count) words (suc place) inside =
    line_at-lines_from (suc first) count words place (omega arith) ∙ ap (λ (n : ℕ). line_in words n) (omega arith)

pub line_at-image_of : (count : ℕ) (words : Words) (line : ℕ) → line < count → line_at (image_of count words) line ≡ line_in words line
line_at-image_of count words line inside =
    line_at-lines_from 0 count words line inside ∙ ap (λ (n : ℕ). line_in words n) (omega arith)

-- a line's words are those of the image
pub word_at : (words : Words) (line word : ℕ) → word < 8 → slice_index (line_in words line).words word ≡ words line word
word_at words line zero inside = refl
word_at words line (suc zero) inside = refl
word_at words line (suc (suc zero)) inside = refl
word_at words line (suc (suc (suc zero))) inside = refl
word_at words line (suc (suc (suc (suc zero)))) inside = refl
word_at words line (suc (suc (suc (suc (suc zero))))) inside = refl
word_at words line (suc (suc (suc (suc (suc (suc zero)))))) inside = refl
word_at words line (suc (suc (suc (suc (suc (suc (suc zero))))))) inside = refl
word_at words line (suc (suc (suc (suc (suc (suc (suc (suc word)))))))) inside = absurd (omega arith)

pub word_of-image_of : (count : ℕ) (words : Words) (line word : ℕ) → line < count → word < 8 → word_of (image_of count words) line word ≡ words line word
word_of-image_of count words line word inside few =
    ap (λ (l : Line). slice_index l.words word) (line_at-image_of count words line inside) ∙ word_at words line word few

-- lines with these words
pub line_in-is : (words : Words) (line : ℕ) (to : Line) → ((word : ℕ) → word < 8 → words line word ≡ slice_index to.words word) → line_in words line ≡ to
line_in-is words line to same =
    sym (line_from_words to _ _ _ _ _ _ _ _ (sym (same 0 (omega arith))) (sym (same 1 (omega arith))) (sym (same 2 (omega arith))) (sym (same 3 (omega arith))) (sym (same 4 (omega arith))) (sym (same 5 (omega arith))) (sym (same 6 (omega arith))) (sym (same 7 (omega arith))))

pub line_in-same : (a b : Words) (line : ℕ) → ((word : ℕ) → word < 8 → a line word ≡ b line word) → line_in a line ≡ line_in b line
line_in-same a b line same = line_in-is a line (line_in b line) (λ word few. same word few ∙ sym (word_at b line word few))

-- past the end of an image, and of a line, there are zeros
pub word_of-past : (lines : List Line) (line word : ℕ) → (length lines ≤ line) ⊎ (8 ≤ word) → word_of lines line word ≡ 0
word_of-past lines line word (inl far) =
    ap (λ (l : Line). slice_index l.words word) (get_or_past lines line zero_line far) ∙ zeros word
  where
    zeros : (word : ℕ) → slice_index zero_line.words word ≡ 0
    zeros zero = refl
    zeros (suc zero) = refl
    zeros (suc (suc zero)) = refl
    zeros (suc (suc (suc zero))) = refl
    zeros (suc (suc (suc (suc zero)))) = refl
    zeros (suc (suc (suc (suc (suc zero))))) = refl
    zeros (suc (suc (suc (suc (suc (suc zero)))))) = refl
    zeros (suc (suc (suc (suc (suc (suc (suc zero))))))) = refl
    zeros (suc (suc (suc (suc (suc (suc (suc (suc word)))))))) = refl
word_of-past lines line word (inr far) = get_or_past (line_at lines line).words word 0 (omega (arith, (line_at lines line).eight))

-- an image's words are within its lines, or zeros past the end
pub word_of-image_of_or : (count : ℕ) (words : Words) (line word : ℕ) → (word_of (image_of count words) line word ≡ words line word) ⊎ ((word_of (image_of count words) line word ≡ 0) × ((count ≤ line) ⊎ (8 ≤ word)))
word_of-image_of_or count words line word = go (cases_lt line count) (cases_lt word 8)
  where
    go : (line < count) ⊎ (count ≤ line) → (word < 8) ⊎ (8 ≤ word) → (word_of (image_of count words) line word ≡ words line word) ⊎ ((word_of (image_of count words) line word ≡ 0) × ((count ≤ line) ⊎ (8 ≤ word)))
    go (inl inside) (inl few) = inl (word_of-image_of count words line word inside few)
    go (inl inside) (inr far) = inr (word_of-past (image_of count words) line word (inr far), inr far)
    go (inr far) w = inr (word_of-past (image_of count words) line word (inl (omega (arith, length-image_of count words))), inl far)

-- an image is that of its words
pub image_of-word_of : (image : List Line) → image_of (length image) (word_of image) ≡ image
image_of-word_of image =
    same_images (image_of (length image) (word_of image)) image (length-image_of (length image) (word_of image)) (λ line word. go line word (word_of-image_of_or (length image) (word_of image) line word))
  where
    go : (line word : ℕ) → (word_of (image_of (length image) (word_of image)) line word ≡ word_of image line word) ⊎ ((word_of (image_of (length image) (word_of image)) line word ≡ 0) × ((length image ≤ line) ⊎ (8 ≤ word))) → word_of (image_of (length image) (word_of image)) line word ≡ word_of image line word
    go line word (inl same) = same
    go line word (inr past) = past.0 ∙ sym (word_of-past image line word past.1)

-- What a crash may leave, cut to the lines of the device

abbrev pub within : List Line → Words → Words
within base words = word_of (image_of (length base) words)

now-past : (base : List Line) (past : List LogOp) (line word : ℕ) → (length base ≤ line) ⊎ (8 ≤ word) → word_of (now base past) line word ≡ 0
now-past base past line word (inl far) = word_of-past (now base past) line word (inl (omega (arith, length-contents base (reverse past))))
now-past base past line word (inr far) = word_of-past (now base past) line word (inr far)

-- what holds of a word and of its contents holds of the word cut to the lines
one_within : (base : List Line) (past : List LogOp) (words : Words) (line word : ℕ) (P : ℕ → Type 0) → P (words line word) → P (word_of (now base past) line word) → P (within base words line word)
one_within base past words line word P here contents_is = go (word_of-image_of_or (length base) words line word)
  where
    go : (within base words line word ≡ words line word) ⊎ ((within base words line word ≡ 0) × ((length base ≤ line) ⊎ (8 ≤ word))) → P (within base words line word)
    go (inl same) = subst P (sym same) here
    go (inr far) = subst P (now-past base past line word far.1 ∙ sym far.0) contents_is

AtNextMark-within : (base : List Line) (past : List LogOp) (words : Words) → AllAtNextMark base past words → AllAtNextMark base past (within base words)
AtNextMark-within base past words at_next_mark line word =
    one_within base past words line word (AtNextMark base past line word) (at_next_mark line word) (AtNextMark-now base past line word)

Last-within : (base : List Line) (past : List LogOp) (words : Words) → AllLast base past words → AllLast base past (within base words)
Last-within base past words last line word =
    one_within base past words line word (Last base past line word) (last line word) (Last-now base past line word)

pub Leaves-within : (base : List Line) (past : List LogOp) (words : Words) → Leaves base past words → Leaves base past (within base words)
Leaves-within base [] words leaves = Leaves-none base (within base words) (Last-within base [] words (Leaves-at_none base words leaves))
Leaves-within base (op ∷ past) words leaves =
    elim (Leaves-cases base op past words leaves) [
      | inl sync ↦ Leaves-sync base op past (within base words) sync.0 (AtNextMark-within base past words sync.1)
      | inr other ↦ elim other.1 [
        | inl last ↦ Leaves-more base op past (within base words) other.0 (inl (Last-within base (op ∷ past) words last))
        | inr before ↦ Leaves-more base op past (within base words) other.0 (inr (Leaves-within base past words before))
      ]
    ]

-- what is left in words is left as an image
pub left_image : (base : List Line) (log : List LogOp) (words : Words) → Leaves base (reverse log) words → IsCrashImage base log (image_of (length base) words)
left_image base log words leaves =
    IsCrashImage-Leaves base log (image_of (length base) words) (length-image_of (length base) words) (Leaves-within base (reverse log) words leaves)
