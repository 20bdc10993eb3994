-- What lines hold after writes of whole lines one after the other.
use Rattle.std.proofs.Common.{◌≡◌, ◌≢◌, ℕ, zero, suc, ◌+◌, ◌<◌, ◌≤◌, ◌⊎◌, List, [], ◌∷◌, length, set, ap, refl, ◌∙◌, inl, inr, arith}
use Rattle.std.proofs.lemmas.List.{length-set, get_or-set_same, get_or-set_other}
use Rattle.pb_pmem.specs.declared.line.Line.{Line}
use Rattle.pb_pmem.specs.declared.log.LogOp.TheVariants.{Whole}
use Rattle.pb_pmem.specs.Contents.{contents}
use Rattle.pb_pmem.specs.Lines.{line_at, zero_line}
use Rattle.pb_pmem.proofs.Lines.{contents-none, contents-first}
use Rattle.pb_pmem.specs.Operations.{writes_from}

pub writes_from-none : (first : ℕ) → writes_from first [] ≡ []
unfolding writes_from
writes_from-none first = refl

pub writes_from-more : (first : ℕ) (line : Line) (lines : List Line) → writes_from first (line ∷ lines) ≡ Whole first line ∷ writes_from (suc first) lines
unfolding writes_from
writes_from-more first line lines = refl

contents-writes_none : (a : List Line) (first : ℕ) → contents a (writes_from first []) ≡ a
contents-writes_none a first = ap (contents a) (writes_from-none first) ∙ contents-none a

contents-writes_more : (a : List Line) (first : ℕ) (line : Line) (lines : List Line) → contents a (writes_from first (line ∷ lines)) ≡ contents (set a first line) (writes_from (suc first) lines)
contents-writes_more a first line lines =
    ap (contents a) (writes_from-more first line lines) ∙ contents-first a (Whole first line) (writes_from (suc first) lines)

-- lines before and after the written ones stay
pub line_at-writes_other : (a : List Line) (first : ℕ) (lines : List Line) (line : ℕ) → (line < first) ⊎ (first + length lines ≤ line) → line_at (contents a (writes_from first lines)) line ≡ line_at a line
line_at-writes_other a first [] line out = ap (λ (l : List Line). line_at l line) (contents-writes_none a first)
line_at-writes_other a first (to ∷ lines) line out =
    ap (λ (l : List Line). line_at l line) (contents-writes_more a first to lines) ∙ (line_at-writes_other (set a first to) (suc first) lines line (further out) ∙ get_or-set_other a first line to zero_line (apart out))
  where
    further : (line < first) ⊎ (first + suc (length lines) ≤ line) → (line < suc first) ⊎ (suc first + length lines ≤ line)
    further (inl before) = inl (omega arith)
    further (inr after) = inr (omega arith)

    apart : (line < first) ⊎ (first + suc (length lines) ≤ line) → line ≢ first
    apart (inl before) = λ e. omega arith
    apart (inr after) = λ e. omega arith

-- the written lines are there
pub line_at-writes_here : (a : List Line) (first : ℕ) (lines : List Line) (place : ℕ) → place < length lines → first + length lines ≤ length a → line_at (contents a (writes_from first lines)) (first + place) ≡ line_at lines place
line_at-writes_here a first [] place inside fits = absurd (omega arith)
line_at-writes_here a first (to ∷ lines) zero inside fits =
    ap (λ (l : List Line). line_at l (first + 0)) (contents-writes_more a first to lines) ∙ (line_at-writes_other (set a first to) (suc first) lines (first + 0) (inl (omega arith)) ∙ (ap (λ (n : ℕ). line_at (set a first to) n) (omega arith) ∙ get_or-set_same a first to zero_line (omega arith)))
line_at-writes_here a first (to ∷ lines) (suc place) inside fits =
    ap (λ (l : List Line). line_at l (first + suc place)) (contents-writes_more a first to lines) ∙ (ap (λ (n : ℕ). line_at (contents (set a first to) (writes_from (suc first) lines)) n) (omega arith) ∙ line_at-writes_here (set a first to) (suc first) lines place (omega arith) (omega (arith, length-set a first to)))
