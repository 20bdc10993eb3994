-- Lemmas on lines by their words, and on the codes of kinds.
use Rattle.std.proofs.Common.{◌∙◌, ◌≡◌, ℕ, Bool, true, eqb, List, [], ◌∷◌, length, get_or, ap, sym, Some, arith}
use Rattle.std.proofs.lemmas.Bool.Decides.{nat_tests}
use Rattle.std.proofs.lemmas.List.{drop_more, drop_all}
use Rattle.std.specs.Cmp.Lexicographic.{pointwise, bytes_decides}
use Rattle.pb_pmem.specs.declared.line.Line.{Line}
use Rattle.pb_pmem.specs.Lines.{line_of}
use Rattle.pb_pmem.proofs.Lines.{same_line}
use Rattle.pb_object.specs.declared.kind.Kind.{Kind}
use Rattle.pb_object.specs.Codes.{kind_code, kind_of_code}

-- eight words are those at their places
pub eight_words : (xs : List ℕ) → length xs ≡ 8 → xs ≡ get_or xs 0 0 ∷ get_or xs 1 0 ∷ get_or xs 2 0 ∷ get_or xs 3 0 ∷ get_or xs 4 0 ∷ get_or xs 5 0 ∷ get_or xs 6 0 ∷ get_or xs 7 0 ∷ []
eight_words xs e =
    let e0 = drop_more xs 0 0 (omega arith) in
    let e1 = drop_more xs 1 0 (omega arith) in
    let e2 = drop_more xs 2 0 (omega arith) in
    let e3 = drop_more xs 3 0 (omega arith) in
    let e4 = drop_more xs 4 0 (omega arith) in
    let e5 = drop_more xs 5 0 (omega arith) in
    let e6 = drop_more xs 6 0 (omega arith) in
    let e7 = drop_more xs 7 0 (omega arith) in
    let e8 = drop_all 8 xs (omega arith) in
    cc

-- a line is known by its eight words
pub line_from_words : (line : Line) (a b c d e f g h : ℕ) → get_or line.words 0 0 ≡ a → get_or line.words 1 0 ≡ b → get_or line.words 2 0 ≡ c → get_or line.words 3 0 ≡ d → get_or line.words 4 0 ≡ e → get_or line.words 5 0 ≡ f → get_or line.words 6 0 ≡ g → get_or line.words 7 0 ≡ h → line ≡ line_of a b c d e f g h
line_from_words line a b c d e f g h pa pb pc pd pe pf pg ph =
    let all = eight_words line.words line.eight in same_line line (line_of a b c d e f g h) (cc)

-- a code that stands for a kind is that kind's code
pub kind_code-of : (code : ℕ) (kind : Kind) → kind_of_code code ≡ Some kind → code ≡ kind_code kind
kind_code-of code kind e = grind (arith, nat_tests)

-- lines whose words compare as equal are the same
pub same_from_eq : (a b : Line) → true ≡ pointwise eqb a.words b.words → a ≡ b
same_from_eq a b e = same_line a b ((bytes_decides a.words b.words).0 (sym e))

-- a comparison of lines tells whether they are the same
pub eq_tells : (a b c : Line) (t : Bool) → t ≡ pointwise eqb a.words b.words → b ≡ c → (t ≡ true → a ≡ c) × (a ≡ c → t ≡ true)
eq_tells a b c t compared written = (
  λ yes. same_line a b ((bytes_decides a.words b.words).0 (sym compared ∙ yes)) ∙ written,
  λ same. compared ∙ (bytes_decides a.words b.words).1 (ap (λ (l : Line). l.words) (same ∙ sym written)),
)
