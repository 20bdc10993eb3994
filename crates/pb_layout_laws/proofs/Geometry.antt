-- Where the parts of a region stand: within the device, and apart from each other.
use Rattle.std.proofs.Common.{◌≡◌, ◌≢◌, ℕ, zero, suc, ◌+◌, ◌*◌, ◌%◌, ◌<◌, ◌≤◌, sym, ap, inl, inr, arith}
use Rattle.std.proofs.Math.Nat.{mod-lt}
use Rattle.std.proofs.lemmas.Bool.{cases_lt}
use Rattle.pb_object.specs.declared.kind.Kind.{Kind}
use Rattle.pb_object.specs.declared.kind.Kind.TheVariants.{Queue}
use Rattle.pb_object.specs.Object.{State, Registers, Items, Rising, Waits}
use Rattle.pb_object.specs.ObjectLines.{kind_of}
use Rattle.pb_object.specs.Standing.{Standing, rounds_of}
use Rattle.pb_layout.specs.Shape.{IsHeader}
use Rattle.pb_layout.specs.Header.{record_length, first_record_line, cell_count}
use Rattle.pb_layout.specs.Region.{record_place, cell_place}
use Rattle.pb_layout.specs.Represents.{header_for}
use Rattle.pb_layout.specs.declared.header.Header.{Header}
use Rattle.pb_layout.specs.RegionOps.{spare_place}
use Rattle.pb_layout.specs.InUse.{IsCellInUse, IsInUse}

-- The two records of a side take turns

-- the parity of a round number is 0 or 1
pub parity-lt : (r : ℕ) → r % 2 < 2
parity-lt r = mod-lt r (omega arith)

-- two rounds later the same record is in use
pub parity-two : (r : ℕ) → (r + 2) % 2 ≡ r % 2
parity-two r = omega arith

-- one round later the other one is
pub parity-one : (r : ℕ) → (r + 1) % 2 ≢ r % 2
parity-one r = λ e. omega (arith, e)

-- The records are apart

-- records of one length, one after the other, have no line in common
pub blocks_apart : (m n count a b : ℕ) → m < n → a < count → b < count → m * count + a < n * count + b
blocks_apart m n count a b less left right = go n less
  where
    go : (n : ℕ) → m < n → m * count + a < n * count + b
    go zero less = absurd (omega arith)
    go (suc n) less = elim (cases_lt m n) [
      | inl l ↦ let before = go n l in omega arith
      | inr e ↦ let same : m ≡ n = omega arith in rw same (omega arith)
    ]

-- lines of two of a region's records are apart
pub records_apart : (head : Header) (side which other turn a b : ℕ) → 2 * side + which ≢ 2 * other + turn → a < record_length head → b < record_length head → record_place head side which + a ≢ record_place head other turn + b
records_apart head side which other turn a b apart left right e =
    elim (cases_lt (2 * side + which) (2 * other + turn)) [
      | inl l ↦ omega (arith, blocks_apart (2 * side + which) (2 * other + turn) (record_length head) a b l left right)
      | inr l ↦ omega (arith, blocks_apart (2 * other + turn) (2 * side + which) (record_length head) b a (omega arith) right left)
    ]

-- lines of a side's spare record and of any record in use are apart
pub spare_is_other : (head : Header) (side other round turn a b : ℕ) → (other ≡ side → turn ≡ round) → a < record_length head → b < record_length head → record_place head side ((round + 1) % 2) + a ≢ record_place head other (turn % 2) + b
spare_is_other head side other round turn a b same left right =
    records_apart head side ((round + 1) % 2) other (turn % 2) a b apart left right
  where
    apart : 2 * side + (round + 1) % 2 ≢ 2 * other + turn % 2
    apart e =
        let sides : other ≡ side = omega (arith, e, parity-lt (round + 1), parity-lt turn) in
        parity-one round (omega (arith, e, sides, ap (λ (n : ℕ). n % 2) (same sides)))

-- The records stand after the header, the round numbers and the cells

-- a record begins after the first three lines
pub record_after : (head : Header) (side which : ℕ) → 3 ≤ record_place head side which
record_after head side which = omega arith

-- and after the cells
pub record_after_cells : (head : Header) (side which : ℕ) → first_record_line head ≤ record_place head side which
record_after_cells head side which = omega arith

-- a cell lies after the first three lines
pub cell_after : (head : Header) (position : ℕ) → 3 ≤ cell_place head position
cell_after head position = omega arith

-- a queue's cells lie below its records
pub cell_offset : (head : Header) (position : ℕ) → IsHeader head → cell_place head position < 3 + head.size
cell_offset head position valid = omega (arith, mod-lt position valid.some_size)

pub cell_below : (head : Header) (position : ℕ) → IsHeader head → head.kind ≡ Queue → cell_place head position < first_record_line head
cell_below head position valid queue =
    omega (arith, mod-lt position valid.some_size, ap (λ (k : Kind). cell_count k head.size) queue)

-- The spare record is not in use

not_cell : (s : Standing) (state : State) (line : ℕ) → IsHeader (header_for s) → kind_of state ≡ s.kind → first_record_line (header_for s) ≤ line → ¬ IsCellInUse s state line
not_cell s (Registers registers) line valid kind after cell = cell
not_cell s (Items size items) line valid kind after cell = cell
not_cell s (Rising size items) line valid kind after cell = cell
not_cell s (Waits size queue) line valid kind after (place, inside, here) =
    omega (arith, here, cell_below (header_for s) (queue.taken + place) valid (sym kind))

-- no line of a side's spare record is in use
pub spare_not_in_use : (s : Standing) (side place : ℕ) → IsHeader (header_for s) → kind_of s.state ≡ s.kind → place < record_length (header_for s) → ¬ IsInUse s (spare_place (header_for s) side (rounds_of s side) + place)
spare_not_in_use s side place valid kind inside = go
  where
    place_of : ℕ
    place_of = spare_place (header_for s) side (rounds_of s side)

    go : ¬ IsInUse s (place_of + place)
    go (inl prefix) = omega (arith, prefix, record_after (header_for s) side ((rounds_of s side + 1) % 2))
    go (inr (inl record_line)) =
        spare_is_other (header_for s) side record_line.side (rounds_of s side) (rounds_of s record_line.side) place record_line.place (λ e. ap (rounds_of s) e) inside record_line.inside record_line.at
    go (inr (inr cell)) =
        not_cell s s.state (place_of + place) valid kind (omega (arith, record_after_cells (header_for s) side ((rounds_of s side + 1) % 2))) cell
