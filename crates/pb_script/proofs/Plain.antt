-- What is printed in the plain form is read as the same requests.
use Rattle.std.proofs.Common.{◌≡◌, ℕ, ◌+◌, ◌-◌, ◌<◌, ◌≤◌, ◌^◌, false, ltb, eqb, List, [], ◌∷◌, ◌++◌, length, get_or, take, drop, map, filter, refl, sym, ap, ◌∙◌, arith, lit≤}
use Rattle.std.proofs.lemmas.Bool.{cond-true, cond-false, ne_eqb, lt-ltb}
use Rattle.std.proofs.lemmas.Bool.Decides.{nat_tests}
use Rattle.std.proofs.lemmas.List.{append-nil, append_assoc, take_at, drop_at, get_or_append_left, get_or_at, length-append, flat_map_more}
use Rattle.std.proofs.lemmas.List.Elements.{All-append, All-cons, All-weaker}
use Rattle.std.proofs.lemmas.List.Splits.{slice_split_at, slice_split_none}
use Rattle.std.proofs.lemmas.List.Sums.{position_or_len_is}
use Rattle.std.specs.Fmt.{decimal}
use Rattle.std.specs.List.{All, AllByRecursion, flat_map, position_or_len}
use Rattle.std.specs.Str.Lines.{strip_carriage_return}
use Rattle.pb_object.specs.declared.request.Ask.{Ask}
use Rattle.pb_object.specs.Text.{spaced}
use Rattle.pb_object.proofs.PlainWords.{IsWord, decimal_word}
use Rattle.pb_script.specs.Print.{request_text, line_text, script_text}
use Rattle.pb_script.specs.Words.{is_blank, is_line_end, lines, words}
use Rattle.pb_script.proofs.Cuts.{lines_more}

pub script_text_none : script_text [] ≡ []
unfolding script_text
script_text_none = refl

pub script_text_push : (asks : List Ask) (ask : Ask) → script_text (asks ++ ask ∷ []) ≡ script_text asks ++ line_text ask
unfolding script_text
script_text_push asks ask = sym (flat_map_more line_text [] asks ask)

pub script_text_first : (ask : Ask) (asks : List Ask) → script_text (ask ∷ asks) ≡ request_text ask ++ (10 ∷ script_text asks)
unfolding script_text
script_text_first ask asks = append_assoc (request_text ask) (10 ∷ []) (flat_map line_text asks)

pub spaced_push : (ns : List ℕ) (n : ℕ) → spaced (ns ++ n ∷ []) ≡ spaced ns ++ (32 ∷ decimal n)
spaced_push [] n = ap (λ t. 32 ∷ t) (append-nil (decimal n))
spaced_push (m ∷ ns) n = ap (λ t. 32 ∷ t) (ap (λ t. decimal m ++ t) (spaced_push ns n) ∙ sym (append_assoc (decimal m) (spaced ns) (32 ∷ decimal n)))

no_blank : (byte : ℕ) → 33 ≤ byte → is_blank byte ≡ false
no_blank byte h = grind (arith, nat_tests)

-- the first word of a text that goes on after a space
pub words_spaced : (word rest : List ℕ) → IsWord word → words (word ++ (32 ∷ rest)) ≡ word ∷ words rest
unfolding words
words_spaced word rest h =
    ap (filter (λ word. ltb 0 (length word))) (slice_split_at is_blank word 32 rest (All-weaker (λ byte. 33 ≤ byte) (λ byte. is_blank byte ≡ false) no_blank word h.bytes) refl)
    ∙ cond-true (ltb 0 (length word)) _ _ (lt-ltb 0 (length word) h.some)

-- the last word
words_last : (word : List ℕ) → IsWord word → words word ≡ word ∷ []
unfolding words
words_last word h =
    ap (filter (λ word. ltb 0 (length word))) (slice_split_none is_blank word (All-weaker (λ byte. 33 ≤ byte) (λ byte. is_blank byte ≡ false) no_blank word h.bytes))
    ∙ cond-true (ltb 0 (length word)) _ _ (lt-ltb 0 (length word) h.some)

abbrev pub AllSmall : List ℕ → Type 0
AllSmall ns = AllByRecursion (λ n. n < 2 ^ 64) ns

pub words_numbers : (word : List ℕ) (ns : List ℕ) → IsWord word → AllSmall ns → words (word ++ spaced ns) ≡ word ∷ map decimal ns
words_numbers word [] h small = ap words (append-nil word) ∙ words_last word h
words_numbers word (n ∷ ns) h small = words_spaced word (decimal n ++ spaced ns) h ∙ ap (λ rest. word ∷ rest) (words_numbers (decimal n) ns (decimal_word n small.0) small.1)

-- no byte of a line ends it, and none is a CR
abbrev pub IsText : List ℕ → Type 0
IsText text = All (λ byte. 32 ≤ byte) text

pub word_text : (word : List ℕ) → IsWord word → IsText word
word_text word h = All-weaker (λ byte. 33 ≤ byte) (λ byte. 32 ≤ byte) (λ byte l. omega arith) word h.bytes

pub space_text : (text : List ℕ) → IsText text → IsText (32 ∷ text)
space_text text h = All-cons (λ byte. 32 ≤ byte) 32 text (lit≤ tt) h

pub append_text : (prefix back : List ℕ) → IsText prefix → IsText back → IsText (prefix ++ back)
append_text prefix back h l = All-append (λ byte. 32 ≤ byte) prefix back h l

pub spaced_text : (ns : List ℕ) → AllSmall ns → IsText (spaced ns)
spaced_text [] small = λ k d h. absurd (omega arith)
spaced_text (n ∷ ns) small = space_text (decimal n ++ spaced ns) (append_text (decimal n) (spaced ns) (word_text (decimal n) (decimal_word n small.0)) (spaced_text ns small.1))

-- a source that begins with a line
pub lines_first : (line rest : List ℕ) → IsText line → lines (line ++ (10 ∷ rest)) ≡ line ∷ lines rest
lines_first line rest h =
    let source = line ++ (10 ∷ rest) in
    let len : position_or_len is_line_end source ≡ length line =
    position_or_len_is is_line_end source (length line) 0 (omega (arith, length-append line (10 ∷ rest)))
    (λ k l. rw (get_or_append_left line (10 ∷ rest) 0 k l) (let low = h k 0 l in grind (arith, nat_tests)))
    (λ l. rw (get_or_at line 10 rest 0 (length line) refl) refl) in
    lines_more source (omega (arith, length-append line (10 ∷ rest)))
    ∙ ap (λ n. take n source ∷ lines (drop (n + 1) source)) len
    ∙ ap (λ l. l ∷ lines (drop (length line + 1) source)) (take_at line (10 ∷ rest) (length line) refl)
    ∙ ap (λ r. line ∷ lines r) (ap (drop (length line + 1)) (sym (append_assoc line (10 ∷ []) rest)) ∙ drop_at (line ++ 10 ∷ []) rest (length line + 1) (length-append line (10 ∷ [])))

pub no_return : (line : List ℕ) → IsText line → strip_carriage_return line ≡ line
no_return [] h = refl
no_return (byte ∷ bytes) h =
    let line = byte ∷ bytes in
    let last = h (length line - 1) 0 (omega arith) in
    cond-false (eqb (get_or line (length line - 1) 0) 13) _ _ (ne_eqb (get_or line (length line - 1) 0) 13 (λ e. omega arith))
