-- The index word of a round, and what it records.
use Rattle.std.proofs.Common.{◌≡◌, ℕ, ◌+◌, ◌-◌, ◌<◌, ◌≤◌, Bool, true, false, ◌&&◌, ◌==◌, nat_le, List, [], ◌∷◌, slice_index, ap, arith}
use Rattle.std.proofs.lemmas.Bool.Decides.{nat_tests}
use Rattle.pb_pmem.specs.declared.line.Line.{Line}
use Rattle.pb_pmem.specs.declared.log.LogOp.TheVariants.{Word}
use Rattle.pb_pmem.specs.Lines.{line_at, word_of}
use Rattle.pb_object.specs.History.{Round}
use Rattle.pb_object.specs.Standing.{Standing, side_count, rounds_of}
use Rattle.pb_layout.specs.LogHistory.{LoggedRound, sides_in, round_at, raises_index, recorded_by_op}
use Rattle.pb_layout.specs.Recovered.{Represents}
use Rattle.pb_layout.specs.Represents.{header_for}
use Rattle.pb_layout.specs.declared.header.Header.{Header}
use Rattle.pb_layout.proofs.OneRecovery.{parts}
use Rattle.pb_object.proofs.Sides.{few_sides}
use Rattle.pb_layout.proofs.Readers.{named_by_line}

-- a round as its index word records it, or later
abbrev pub logged : Round → Bool → Bool → LoggedRound
logged round backed sealed = record { round = round; backed = backed; sealed = sealed }

-- it is an index word over lines that represent the state before
raises_next : (lines : List Line) (s : Standing) (side : ℕ) → side < side_count s.kind → Represents lines s → raises_index lines (1 + side) 0 (rounds_of s side + 1) ≡ true
raises_next lines s side here stands =
    let has = parts lines s stands in
    let few : side < 2 = omega (arith, here, few_sides s.kind) in
    let old : word_of lines (1 + side) 0 ≡ rounds_of s side = ap (λ (l : Line). slice_index l.words 0) (has.rounds side few) in
    let sides : sides_in lines ≡ side_count s.kind = ap (λ (h : Header). side_count h.kind) (named_by_line (line_at lines 0) (header_for s) has.header) in
    index_test (1 + side) (sides_in lines) (rounds_of s side + 1) (word_of lines (1 + side) 0) (omega arith) (omega (arith, sides, here)) (omega (arith, old))
  where
    index_test : (line sides to before : ℕ) → 1 ≤ line → line ≤ sides → to ≡ before + 1 → (nat_le 1 line && nat_le line sides && (0 == 0) && (to == before + 1)) ≡ true
    index_test line sides to before low high more = grind (arith, nat_tests)

pub index_records : (lines : List Line) (s : Standing) (round : Round) → round.side < side_count s.kind → Represents lines s → round_at lines round.side (rounds_of s round.side + 1) ≡ round → recorded_by_op (Word (1 + round.side) 0 (rounds_of s round.side + 1)) lines [] ≡ logged round false false ∷ []
index_records lines s round here stands records =
    let back : 1 + round.side - 1 ≡ round.side = omega arith in
    rw (raises_next lines s round.side here stands, back) (ap (λ (r : Round). logged r false false ∷ []) records)
