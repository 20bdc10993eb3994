-- Writes of lines, one after the other.
use Rattle.std.proofs.Common.{◌≡◌, ℕ, ◌+◌, ◌<◌, zero, suc, List, [], ◌∷◌, length, take, get_or, sym, ap, subst, ◌∙◌, arith}
use Rattle.pb_pmem.specs.declared.line.Line.{Line}
use Rattle.pb_pmem.specs.declared.log.LogOp.{LogOp}
use Rattle.pb_pmem.specs.declared.log.LogOp.TheVariants.{Whole}
use Rattle.pb_pmem.specs.Device.{Device}
use Rattle.pb_pmem.specs.Operations.{IsFailedPrefix, writes_from, Does, Stops}
use Rattle.pb_pmem.proofs.WrittenLines.{writes_from-none, writes_from-more}
use Rattle.pb_pmem.proofs.OperationSteps.{does_next, stops_next}

-- as many writes as lines
pub length-writes : (first : ℕ) (lines : List Line) → length (writes_from first lines) ≡ length lines
length-writes first [] = ap length (writes_from-none first)
length-writes first (line ∷ lines) = ap length (writes_from-more first line lines) ∙ ap suc (length-writes (suc first) lines)

-- the first so many
pub take-writes : (first place : ℕ) (lines : List Line) → writes_from first (take place lines) ≡ take place (writes_from first lines)
take-writes first zero lines = writes_from-none first
take-writes first (suc place) [] = writes_from-none first ∙ ap (take (suc place)) (sym (writes_from-none first))
take-writes first (suc place) (line ∷ lines) =
    writes_from-more first line (take place lines) ∙ (ap (λ ops. Whole first line ∷ ops) (take-writes (suc first) place lines) ∙ ap (take (suc place)) (sym (writes_from-more first line lines)))

-- the one at a place
pub writes-at : (first place : ℕ) (lines : List Line) (line : Line) (other : LogOp) → place < length lines → line ≡ get_or lines place line → Whole (first + place) line ≡ get_or (writes_from first lines) place other
writes-at first place [] line other within is = absurd (omega arith)
writes-at first zero (top ∷ lines) line other within is =
    let here : first + 0 ≡ first = omega arith in
    ap (λ (n : ℕ). Whole n line) here ∙ (ap (Whole first) is ∙ sym (ap (λ ops. get_or ops 0 other) (writes_from-more first top lines)))
writes-at first (suc place) (top ∷ lines) line other within is =
    let here : first + suc place ≡ suc first + place = omega arith in
    ap (λ (n : ℕ). Whole n line) here ∙ (writes-at (suc first) place lines line other (omega arith) is ∙ sym (ap (λ ops. get_or ops (suc place) other) (writes_from-more first top lines)))

-- the next line is written
pub does_write : (first place : ℕ) (lines : List Line) (line : Line) (x y z : Device) → place < length lines → line ≡ get_or lines place line → Does (writes_from first (take place lines)) x y → Does (Whole (first + place) line ∷ []) y z → Does (writes_from first (take (place + 1) lines)) x z
does_write first place lines line x y z within is before now =
    let ops = writes_from first lines in
    let op = Whole (first + place) line in
    rw (take-writes first (place + 1) lines)
    (does_next ops place op x y z (omega (arith, length-writes first lines)) (writes-at first place lines line op within is) (subst (λ (l : List LogOp). Does l x y) (take-writes first place lines) before) now)

-- the next write failed
pub stops_write : (first place : ℕ) (lines : List Line) (line : Line) (x y z : Device) → place < length lines → line ≡ get_or lines place line → Does (writes_from first (take place lines)) x y → Stops (IsFailedPrefix (Whole (first + place) line ∷ [])) y z → Stops (IsFailedPrefix (writes_from first lines)) x z
stops_write first place lines line x y z within is before now =
    let ops = writes_from first lines in
    let op = Whole (first + place) line in
    stops_next ops place op x y z (omega (arith, length-writes first lines)) (writes-at first place lines line op within is) (subst (λ (l : List LogOp). Does l x y) (take-writes first place lines) before) now
