-- Lines that operations leave as they are.
use Rattle.std.proofs.Common.{◌≡◌, ◌≢◌, ℕ, zero, suc, ◌+◌, ◌*◌, ◌<◌, ◌≤◌, ◌⊎◌, List, [], ◌∷◌, refl, ap, ◌∙◌, inl, inr, arith}
use Rattle.std.specs.List.{All}
use Rattle.std.proofs.lemmas.Bool.{cases_lt}
use Rattle.std.proofs.lemmas.List.{get_or-set_other}
use Rattle.std.proofs.lemmas.List.Elements.{All-head, All-tail}
use Rattle.pb_pmem.specs.declared.line.Line.{Line}
use Rattle.pb_pmem.specs.declared.log.LogOp.{LogOp}
use Rattle.pb_pmem.specs.declared.log.LogOp.TheVariants.{Whole, Word, Back, Fence, Sync}
use Rattle.pb_pmem.specs.Contents.{applied, contents}
use Rattle.pb_pmem.specs.Lines.{line_at, zero_line, with_word}
use Rattle.pb_pmem.proofs.Lines.{contents-none, contents-first, length-contents}
use Rattle.pb_layout.specs.declared.header.Header.{Header}
use Rattle.pb_layout.specs.Header.{record_length}
use Rattle.pb_layout.specs.Region.{record_place}
use Rattle.pb_layout.specs.Represents.{record_at}
use Rattle.pb_layout.proofs.ChangedRegion.{same_piece}

-- a line before or after so many lines from the first on
abbrev pub IsApartFrom : ℕ → ℕ → ℕ → Type 0
IsApartFrom first count line = (line < first) ⊎ (first + count ≤ line)

-- an operation that writes none of these lines
abbrev pub Spares : ℕ → ℕ → LogOp → Type 0
Spares first count (Whole line to) = IsApartFrom first count line
Spares first count (Word line word to) = IsApartFrom first count line
Spares first count (Back at many) = Unit {0}
Spares first count Fence = Unit {0}
Spares first count Sync = Unit {0}

other_line : (first count line at : ℕ) → first ≤ line → line < first + count → IsApartFrom first count at → line ≢ at
other_line first count line at low high (inl before) = λ e. omega arith
other_line first count line at low high (inr after) = λ e. omega arith

line_at-applied : (op : LogOp) (image : List Line) (first count line : ℕ) → first ≤ line → line < first + count → Spares first count op → line_at (applied op image) line ≡ line_at image line
line_at-applied (Whole at to) image first count line low high apart = get_or-set_other image at line to zero_line (other_line first count line at low high apart)
line_at-applied (Word at word to) image first count line low high apart = get_or-set_other image at line (with_word (line_at image at) word to) zero_line (other_line first count line at low high apart)
line_at-applied (Back at many) image first count line low high apart = refl
line_at-applied Fence image first count line low high apart = refl
line_at-applied Sync image first count line low high apart = refl

-- such operations leave the lines as they are
pub line_at-spared : (ops : List LogOp) (image : List Line) (first count line : ℕ) → first ≤ line → line < first + count → All (Spares first count) ops → line_at (contents image ops) line ≡ line_at image line
line_at-spared [] image first count line low high spares = ap (λ (l : List Line). line_at l line) (contents-none image)
line_at-spared (op ∷ ops) image first count line low high spares =
    ap (λ (l : List Line). line_at l line) (contents-first image op ops)
    ∙ (line_at-spared ops (applied op image) first count line low high (All-tail (Spares first count) op ops spares)
    ∙ line_at-applied op image first count line low high (All-head (Spares first count) op ops spares))

-- and so a record
pub record_at-spared : (ops : List LogOp) (image : List Line) (head : Header) (side which : ℕ) → All (Spares (record_place head side which) (record_length head)) ops → record_at (contents image ops) head side which ≡ record_at image head side which
record_at-spared ops image head side which spares =
    same_piece (contents image ops) image (record_place head side which) (record_length head) (length-contents image ops) (λ place inside. line_at-spared ops image (record_place head side which) (record_length head) (record_place head side which + place) (omega arith) (omega arith) spares)

-- records are apart as blocks
pub block_before : (m n count : ℕ) → m < n → m * count + count ≤ n * count
block_before m zero count less = absurd (omega arith)
block_before m (suc n) count less = elim (cases_lt m n) [
  | inl l ↦ let before = block_before m n count l in omega arith
  | inr e ↦ let same : m ≡ n = omega arith in rw same (omega arith)
]

pub blocks_apart_of : (head : Header) (side which other turn count : ℕ) → count ≡ record_length head → 2 * other + turn ≢ 2 * side + which → (record_place head other turn + record_length head ≤ record_place head side which) ⊎ (record_place head side which + count ≤ record_place head other turn)
blocks_apart_of head side which other turn count long apart =
    elim (cases_lt (2 * side + which) (2 * other + turn)) [
      | inl l ↦ let before = block_before (2 * side + which) (2 * other + turn) (record_length head) l in inr (omega arith)
      | inr l ↦ let before = block_before (2 * other + turn) (2 * side + which) (record_length head) (omega (arith, apart, l)) in inl (omega arith)
    ]
