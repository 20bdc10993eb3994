-- What a device holds after the writes that lay a fresh region.
use Rattle.std.proofs.Common.{◌≡◌, ℕ, zero, suc, ◌+◌, ◌<◌, ◌≤◌, ◌⊎◌, List, [], ◌∷◌, ◌++◌, length, get_or, set, slice_index, ap, subst, sym, refl, ◌∙◌, inl, inr, arith}
use Rattle.pb_pmem.specs.declared.line.Line.{Line}
use Rattle.pb_pmem.specs.declared.line.TheConstants.{LINES}
use Rattle.pb_pmem.specs.declared.log.LogOp.{LogOp}
use Rattle.pb_pmem.specs.Contents.{contents}
use Rattle.pb_pmem.specs.Lines.{line_at, word_of, with_word, zero_line}
use Rattle.pb_pmem.proofs.Lines.{contents-append, length-contents}
use Rattle.pb_object.specs.Codes.{kind_code}
use Rattle.pb_object.specs.declared.kind.Kind.{Kind}
use Rattle.pb_object.specs.declared.kind.Kind.TheVariants.{Map, Stack, Heap, Queue}
use Rattle.pb_object.specs.Standing.{side_count}
use Rattle.pb_layout.specs.declared.header.TheConstants.{VERSION}
use Rattle.pb_layout.specs.Shape.{IsHeader}
use Rattle.pb_layout.specs.Header.{record_length, old_record_length, old_first_record_line, header_line_of}
use Rattle.pb_layout.specs.Region.{record_place}
use Rattle.pb_layout.specs.declared.header.Header.{Header}
use Rattle.pb_layout.proofs.Lines.{eight_words}
use Rattle.pb_layout.proofs.OneRecovery.{record_fits}
use Rattle.pb_pmem.specs.Operations.{writes_from}
use Rattle.pb_layout.specs.RegionOps.{front_ops}
use Rattle.pb_layout.specs.Exits.{AreEmptyRecords}
use Rattle.pb_pmem.proofs.WrittenLines.{line_at-writes_other, line_at-writes_here}
use Rattle.pb_layout_laws.proofs.Geometry.{record_after}

-- The first three lines

-- the header's words after the first
abbrev pub with_header : Line → Header → Line
with_header line head =
    with_word (with_word (with_word (with_word (with_word (with_word (with_word line 1 VERSION) 2 (kind_code head.kind)) 3 head.clients) 4 head.size) 5 (old_record_length head)) 6 (old_first_record_line head)) 7 0

set_all : List ℕ → Header → List ℕ
set_all words head =
    set (set (set (set (set (set (set words 1 VERSION) 2 (kind_code head.kind)) 3 head.clients) 4 head.size) 5 (old_record_length head)) 6 (old_first_record_line head)) 7 0

header_word : (x0 x1 x2 x3 x4 x5 x6 x7 : ℕ) (head : Header) (word : ℕ) → 0 < word → word < 8 → get_or (set_all (x0 ∷ x1 ∷ x2 ∷ x3 ∷ x4 ∷ x5 ∷ x6 ∷ x7 ∷ []) head) word 0 ≡ slice_index (header_line_of head).words word
unfolding set_all
header_word x0 x1 x2 x3 x4 x5 x6 x7 head zero some few = absurd (omega arith)
header_word x0 x1 x2 x3 x4 x5 x6 x7 head (suc zero) some few = refl
header_word x0 x1 x2 x3 x4 x5 x6 x7 head (suc (suc zero)) some few = refl
header_word x0 x1 x2 x3 x4 x5 x6 x7 head (suc (suc (suc zero))) some few = refl
header_word x0 x1 x2 x3 x4 x5 x6 x7 head (suc (suc (suc (suc zero)))) some few = refl
header_word x0 x1 x2 x3 x4 x5 x6 x7 head (suc (suc (suc (suc (suc zero))))) some few = refl
header_word x0 x1 x2 x3 x4 x5 x6 x7 head (suc (suc (suc (suc (suc (suc zero)))))) some few = refl
header_word x0 x1 x2 x3 x4 x5 x6 x7 head (suc (suc (suc (suc (suc (suc (suc zero))))))) some few = refl
header_word x0 x1 x2 x3 x4 x5 x6 x7 head (suc (suc (suc (suc (suc (suc (suc (suc word)))))))) some few = absurd (omega arith)

-- its words are those of the header's line
pub word-with_header : (line : Line) (head : Header) (word : ℕ) → 0 < word → word < 8 → slice_index (with_header line head).words word ≡ slice_index (header_line_of head).words word
unfolding set_all
word-with_header line head word some few =
    ap (λ (xs : List ℕ). get_or (set_all xs head) word 0) (eight_words line.words line.eight) ∙ header_word (get_or line.words 0 0) (get_or line.words 1 0) (get_or line.words 2 0) (get_or line.words 3 0) (get_or line.words 4 0) (get_or line.words 5 0) (get_or line.words 6 0) (get_or line.words 7 0) head word some few

-- what the first three lines hold then; the others stay
pub record IsPrefixed (head : Header) (before lines : List Line) : Type 0 where
  pub header : (word : ℕ) → 0 < word → word < 8 → word_of lines 0 word ≡ slice_index (header_line_of head).words word
  pub first : line_at lines 1 ≡ zero_line
  pub second : line_at lines 2 ≡ zero_line
  pub others : (line : ℕ) → 3 ≤ line → line_at lines line ≡ line_at before line

contents-front_ops : (head : Header) (l0 l1 l2 : Line) (lines : List Line) → contents (l0 ∷ l1 ∷ l2 ∷ lines) (front_ops head) ≡ with_header l0 head ∷ zero_line ∷ zero_line ∷ lines
unfolding contents
contents-front_ops head l0 l1 l2 lines = refl

is_fronted : (head : Header) (l0 l1 l2 : Line) (lines : List Line) → IsPrefixed head (l0 ∷ l1 ∷ l2 ∷ lines) (with_header l0 head ∷ zero_line ∷ zero_line ∷ lines)
is_fronted head l0 l1 l2 lines = record {
  header = word-with_header l0 head;
  first = refl;
  second = refl;
  others = others;
}
  where
    others : (line : ℕ) → 3 ≤ line → line_at (with_header l0 head ∷ zero_line ∷ zero_line ∷ lines) line ≡ line_at (l0 ∷ l1 ∷ l2 ∷ lines) line
    others zero after = absurd (omega arith)
    others (suc zero) after = absurd (omega arith)
    others (suc (suc zero)) after = absurd (omega arith)
    others (suc (suc (suc line))) after = refl

-- they hold that after these operations
pub fronted : (head : Header) (before : List Line) → 3 ≤ length before → IsPrefixed head before (contents before (front_ops head))
fronted head [] long = absurd (omega arith)
fronted head (l0 ∷ []) long = absurd (omega arith)
fronted head (l0 ∷ l1 ∷ []) long = absurd (omega arith)
fronted head (l0 ∷ l1 ∷ l2 ∷ lines) long =
    subst (IsPrefixed head (l0 ∷ l1 ∷ l2 ∷ lines)) (sym (contents-front_ops head l0 l1 l2 lines)) (is_fronted head l0 l1 l2 lines)

-- A fresh region

-- all writes of a fresh region but the magic
abbrev pub laying : Header → List Line → List Line → List LogOp
laying head first second =
    writes_from (record_place head 0 0) first ++ (writes_from (record_place head 1 0) second ++ front_ops head)

-- what lines hold where a fresh region is laid
pub record IsWrittenIn (head : Header) (first second lines : List Line) : Type 0 where
  pub header : (word : ℕ) → 0 < word → word < 8 → word_of lines 0 word ≡ slice_index (header_line_of head).words word
  pub first_round : line_at lines 1 ≡ zero_line
  pub second_round : line_at lines 2 ≡ zero_line
  pub first_lines : (place : ℕ) → place < record_length head → line_at lines (record_place head 0 0 + place) ≡ line_at first place
  pub second_lines : 1 < side_count head.kind → (place : ℕ) → place < record_length head → line_at lines (record_place head 1 0 + place) ≡ line_at second place

-- an object has one side or two
pub one_or_two : (kind : Kind) → (side_count kind ≡ 1) ⊎ (side_count kind ≡ 2)
one_or_two Map = inl refl
one_or_two Stack = inl refl
one_or_two Heap = inl refl
one_or_two Queue = inr refl

-- after the writes of a fresh region it is laid
pub laid_in : (head : Header) (first second a : List Line) → IsHeader head → AreEmptyRecords head first second → length a ≡ LINES → IsWrittenIn head first second (contents a (laying head first second))
laid_in head first second a valid empty long = subst (IsWrittenIn head first second) (sym whole) laid
  where
    b : List Line
    b = contents a (writes_from (record_place head 0 0) first)

    c : List Line
    c = contents b (writes_from (record_place head 1 0) second)

    whole : contents a (laying head first second) ≡ contents c (front_ops head)
    whole =
        contents-append a (writes_from (record_place head 0 0) first) (writes_from (record_place head 1 0) second ++ front_ops head) ∙ contents-append b (writes_from (record_place head 1 0) second) (front_ops head)

    long_b : length b ≡ LINES
    long_b = length-contents a (writes_from (record_place head 0 0) first) ∙ long

    long_c : length c ≡ LINES
    long_c = length-contents b (writes_from (record_place head 1 0) second) ∙ long_b

    prefix : IsPrefixed head c (contents c (front_ops head))
    prefix = fronted head c (omega (arith, long_c))

    some : 0 < side_count head.kind
    some = elim (one_or_two head.kind) [
      | inl one ↦ omega (arith, one)
      | inr two ↦ omega (arith, two)
    ]

    laid : IsWrittenIn head first second (contents c (front_ops head))
    laid = record {
      header = prefix.header;
      first_round = prefix.first;
      second_round = prefix.second;
      first_lines = λ place inside. prefix.others (record_place head 0 0 + place) (omega (arith, record_after head 0 0)) ∙ (line_at-writes_other b (record_place head 1 0) second (record_place head 0 0 + place) (inl (omega (arith, inside))) ∙ line_at-writes_here a (record_place head 0 0) first place (omega (arith, inside, empty.first_record.long)) (omega (arith, empty.first_record.long, long, record_fits head 0 0 valid some (omega arith))));
      second_lines = λ two place inside. prefix.others (record_place head 1 0 + place) (omega (arith, record_after head 1 0)) ∙ line_at-writes_here b (record_place head 1 0) second place (omega (arith, inside, (empty.second_record two).long)) (omega (arith, (empty.second_record two).long, long_b, record_fits head 1 0 valid two (omega arith)));
    }
