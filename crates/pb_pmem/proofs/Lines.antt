-- Lemmas on lines and their words, and on what operations do to them.
use Rattle.std.proofs.Common.{◌≡◌, ℕ, ◌<◌, List, [], ◌∷◌, ◌++◌, length, get_or, set, ap, ◌∙◌, refl}
use Rattle.std.proofs.Math.Nat.{ℕ_set}
use Rattle.std.proofs.lemmas.List.{get_or_default, length-set}
use mathlib.Core.HLevel.{is_prop→PathP}
use Rattle.pb_pmem.specs.declared.line.Line.{Line}
use Rattle.pb_pmem.specs.declared.log.LogOp.{LogOp}
use Rattle.pb_pmem.specs.declared.log.LogOp.TheVariants.{Whole, Word, Back, Fence, Sync}
use Rattle.pb_pmem.specs.Contents.{applied, contents}
use Rattle.pb_pmem.specs.Lines.{zero_line, with_word, line_at}

-- lines with the same words are the same
pub same_line : (a b : Line) → a.words ≡ b.words → a ≡ b
same_line a b e =
    λ i. record { words = e i; eight = is_prop→PathP (λ j. length (e j) ≡ 8) (λ j. ℕ_set (length (e j)) 8) a.eight b.eight i }

-- a word written through a reference to a line that was found at another default
pub set-with_word : (lines : List Line) (line word value : ℕ) (read out : Line) → line < length lines → out.words ≡ set (get_or lines line read).words word value → set lines line out ≡ set lines line (with_word (line_at lines line) word value)
set-with_word lines line word value read out inside e =
    ap (λ l. set lines line l) (same_line out (with_word (line_at lines line) word value) (e ∙ ap (λ l. set l.words word value) (get_or_default lines line read zero_line inside)))

-- an operation keeps the number of lines
pub length-applied : (op : LogOp) (lines : List Line) → length (applied op lines) ≡ length lines
length-applied (Whole line to) lines = length-set lines line to
length-applied (Word line word to) lines =
    length-set lines line (with_word (line_at lines line) word to)
length-applied (Back first count) lines = refl
length-applied Fence lines = refl
length-applied Sync lines = refl

-- nothing was done yet
pub contents-none : (base : List Line) → contents base [] ≡ base
unfolding contents
contents-none base = refl

-- the first operation of a log
pub contents-first : (base : List Line) (op : LogOp) (log : List LogOp) → contents base (op ∷ log) ≡ contents (applied op base) log
unfolding contents
contents-first base op log = refl

-- one operation
pub contents-one : (base : List Line) (op : LogOp) → contents base (op ∷ []) ≡ applied op base
contents-one base op = contents-first base op [] ∙ contents-none (applied op base)

-- a log has as many lines as its base
pub length-contents : (base : List Line) (log : List LogOp) → length (contents base log) ≡ length base
unfolding contents
length-contents base [] = refl
length-contents base (op ∷ log) =
    length-contents (applied op base) log ∙ length-applied op base

-- one log after another
pub contents-append : (base : List Line) (log more : List LogOp) → contents base (log ++ more) ≡ contents (contents base log) more
unfolding contents
contents-append base [] more = refl
contents-append base (op ∷ log) more = contents-append (applied op base) log more

-- one more operation
pub contents_push : (base : List Line) (log : List LogOp) (op : LogOp) → contents base (log ++ op ∷ []) ≡ applied op (contents base log)
contents_push base log op =
    contents-append base log (op ∷ []) ∙ contents-one (contents base log) op
