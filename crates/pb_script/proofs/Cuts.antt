-- A source is cut at its line ends, and a line at its blanks.
use Rattle.std.proofs.Common.{◌≡◌, ℕ, ◌+◌, ◌<◌, ◌≤◌, Bool, true, false, cond, not, ltb, List, [], ◌∷◌, Option, Some, None, unwrap_or, length, get_or, take, drop, filter, refl, sym, ap, ◌∙◌, arith, one-add, add-one, ⊎_elim}
use Rattle.std.proofs.lemmas.Bool.{cases_Bool, cases_lt, lt-ltb, cond-true, cond-false}
use Rattle.std.proofs.lemmas.Bool.Decides.{nat_tests}
use Rattle.std.proofs.lemmas.List.{take_all, drop_all, drop_more, length-take-le}
use Rattle.std.proofs.lemmas.List.Splits.{slice_split-cons_yes, slice_split_none, slice_split_first}
use Rattle.std.proofs.lemmas.List.Sums.{prefix_len-le-length, passes_at_first, fails_before_first}
use Rattle.std.specs.List.{slice_split, onto_first, position_or_len}
use Rattle.pb_script.specs.Words.{is_line_end, is_blank, is_field_byte, lines, words}

-- the place of the first that passes, or the length, from what `position` answers
pub unwrap_or-position : (p : ℕ → Bool) (text : List ℕ) (found : Option ℕ) (len : ℕ) → found ≡ cond (ltb (position_or_len p text) (length text)) (Some (position_or_len p text)) None → len ≡ unwrap_or found (length text) → len ≡ position_or_len p text
unwrap_or-position p text found len e f =
    let most = prefix_len-le-length (λ x. not (p x)) text in
    grind (arith, nat_tests)

drop_past_first : (n : ℕ) (x : ℕ) (xs : List ℕ) → drop (1 + n) (x ∷ xs) ≡ drop n xs
drop_past_first n x xs = rw one-add refl

take_past_first : (n : ℕ) (x : ℕ) (xs : List ℕ) → take (1 + n) (x ∷ xs) ≡ x ∷ take n xs
take_past_first n x xs = rw one-add refl

position_yes : (p : ℕ → Bool) (x : ℕ) (xs : List ℕ) → p x ≡ true → position_or_len p (x ∷ xs) ≡ 0
position_yes p x xs e = rw e refl

position_no : (p : ℕ → Bool) (x : ℕ) (xs : List ℕ) → p x ≡ false → position_or_len p (x ∷ xs) ≡ 1 + position_or_len p xs
position_no p x xs e = rw e refl

pub words_none : words [] ≡ []
unfolding words
words_none = refl

words_blank : (byte : ℕ) (bytes : List ℕ) → is_blank byte ≡ true → words (byte ∷ bytes) ≡ words bytes
unfolding words
words_blank byte bytes e = ap (filter (λ word. ltb 0 (length word))) (slice_split-cons_yes is_blank byte bytes e)

-- blanks at the start hold no word
pub words_after_blanks : (text : List ℕ) → words text ≡ words (drop (position_or_len is_field_byte text) text)
words_after_blanks [] = refl
words_after_blanks (byte ∷ bytes) =
    ⊎_elim
    (λ (e : is_field_byte byte ≡ true). ap (λ n. words (drop n (byte ∷ bytes))) (sym (position_yes is_field_byte byte bytes e)))
    (λ (e : is_field_byte byte ≡ false).
    let blank : is_blank byte ≡ true = grind arith in
    words_blank byte bytes blank ∙ words_after_blanks bytes
    ∙ sym (ap (λ n. words (drop n (byte ∷ bytes))) (position_no is_field_byte byte bytes e) ∙ ap words (drop_past_first (position_or_len is_field_byte bytes) byte bytes)))
    (cases_Bool (is_field_byte byte))

words_first : (word : List ℕ) (text : List ℕ) (rest : List (List ℕ)) → 0 < length word → slice_split is_blank text ≡ word ∷ rest → words text ≡ word ∷ filter (λ word. ltb 0 (length word)) rest
unfolding words
words_first word text rest some e =
    ap (filter (λ word. ltb 0 (length word))) e ∙ cond-true (ltb 0 (length word)) _ _ (lt-ltb 0 (length word) some)

-- after them stands a word, up to the next blank
pub words_at_word : (text : List ℕ) → position_or_len is_field_byte text ≡ 0 → 0 < length text → words text ≡ take (position_or_len is_blank text) text ∷ words (drop (position_or_len is_blank text) text)
unfolding words
words_at_word text prefix some =
    let n = position_or_len is_blank text in
    let most : n ≤ length text = prefix_len-le-length (λ x. not (is_blank x)) text in
    let first : is_field_byte (get_or text 0 0) ≡ true = rw prefix at (passes_at_first is_field_byte text 0 (rw prefix some)) in
    let positive : 0 < n = ⊎_elim (λ (h : 0 < n). h) (λ (h : n ≤ 0).
    let zero : n ≡ 0 = omega arith in
    let blank : is_blank (get_or text 0 0) ≡ true = rw zero at (passes_at_first is_blank text 0 (rw zero some)) in
    absurd (grind arith)) (cases_lt 0 n) in
    let len : length (take n text) ≡ n = length-take-le n text most in
    ⊎_elim
    (λ (more : n < length text).
    words_first (take n text) text (slice_split is_blank (drop (n + 1) text)) (rw len positive) (slice_split_first is_blank text 0 more)
    ∙ ap (λ rest. take n text ∷ rest) (sym (words_blank (get_or text n 0) (drop (n + 1) text) (passes_at_first is_blank text 0 more)) ∙ ap words (sym (drop_more text n 0 more))))
    (λ (last : length text ≤ n).
    words_first text text [] some (slice_split_none is_blank text (λ k d h. fails_before_first is_blank text k d (omega arith)))
    ∙ ap (λ word. word ∷ []) (sym (take_all n text last)) ∙ ap (λ rest. take n text ∷ rest) (sym (ap words (drop_all n text last))))
    (cases_lt n (length text))

pub lines_none : lines [] ≡ []
unfolding lines
lines_none = refl

lines_end : (byte : ℕ) (bytes : List ℕ) → is_line_end byte ≡ true → lines (byte ∷ bytes) ≡ [] ∷ lines bytes
unfolding lines
lines_end byte bytes e = cond-true (is_line_end byte) _ _ e

lines_byte : (byte : ℕ) (bytes : List ℕ) → is_line_end byte ≡ false → lines (byte ∷ bytes) ≡ onto_first byte (lines bytes)
unfolding lines
lines_byte byte bytes e = cond-false (is_line_end byte) _ _ e

-- a line goes up to the next line end
pub lines_more : (source : List ℕ) → position_or_len is_line_end source < length source → lines source ≡ take (position_or_len is_line_end source) source ∷ lines (drop (position_or_len is_line_end source + 1) source)
lines_more [] more = absurd (omega arith)
lines_more (byte ∷ bytes) more =
    ⊎_elim
    (λ (e : is_line_end byte ≡ true). rw (position_yes is_line_end byte bytes e) (lines_end byte bytes e))
    (λ (e : is_line_end byte ≡ false).
    let n = position_or_len is_line_end bytes in
    let one = position_no is_line_end byte bytes e in
    let within : n < length bytes = grind arith in
    lines_byte byte bytes e ∙ ap (onto_first byte) (lines_more bytes within)
    ∙ ap (λ line. line ∷ lines (drop (n + 1) bytes)) (sym (take_past_first n byte bytes))
    ∙ ap (λ rest. take (1 + n) (byte ∷ bytes) ∷ lines rest) (sym (ap (λ k. drop k (byte ∷ bytes)) (add-one (1 + n)) ∙ ap (λ k. drop k bytes) (omega arith)))
    ∙ sym (ap (λ k. take k (byte ∷ bytes) ∷ lines (drop (k + 1) (byte ∷ bytes))) one))
    (cases_Bool (is_line_end byte))

-- or to the end of the source
pub lines_last : (source : List ℕ) → 0 < length source → length source ≤ position_or_len is_line_end source → lines source ≡ source ∷ []
lines_last [] some last = absurd (omega arith)
lines_last (byte ∷ []) some last =
    ⊎_elim
    (λ (e : is_line_end byte ≡ true). absurd (grind arith))
    (λ (e : is_line_end byte ≡ false). lines_byte byte [] e ∙ ap (onto_first byte) lines_none)
    (cases_Bool (is_line_end byte))
lines_last (byte ∷ next ∷ bytes) some last =
    ⊎_elim
    (λ (e : is_line_end byte ≡ true). absurd (grind arith))
    (λ (e : is_line_end byte ≡ false).
    let one = position_no is_line_end byte (next ∷ bytes) e in
    lines_byte byte (next ∷ bytes) e ∙ ap (onto_first byte) (lines_last (next ∷ bytes) (omega arith) (grind arith)))
    (cases_Bool (is_line_end byte))

-- after the blanks at the start there are none
pub no_blanks_after_blanks : (text : List ℕ) → position_or_len is_field_byte (drop (position_or_len is_field_byte text) text) ≡ 0
no_blanks_after_blanks [] = refl
no_blanks_after_blanks (byte ∷ bytes) =
    ⊎_elim
    (λ (e : is_field_byte byte ≡ true). ap (λ n. position_or_len is_field_byte (drop n (byte ∷ bytes))) (position_yes is_field_byte byte bytes e) ∙ position_yes is_field_byte byte bytes e)
    (λ (e : is_field_byte byte ≡ false).
    ap (λ n. position_or_len is_field_byte (drop n (byte ∷ bytes))) (position_no is_field_byte byte bytes e)
    ∙ ap (position_or_len is_field_byte) (drop_past_first (position_or_len is_field_byte bytes) byte bytes) ∙ no_blanks_after_blanks bytes)
    (cases_Bool (is_field_byte byte))
