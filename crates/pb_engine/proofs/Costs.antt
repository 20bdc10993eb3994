-- How many fences and syncs the operations of calls have.
use Rattle.std.proofs.Common.{◌≡◌, ℕ, suc, ◌+◌, ◌-◌, Bool, true, false, Option, Some, None, List, [], ◌∷◌, ◌++◌, length, drop, refl, sym, subst, arith}
use Rattle.std.specs.Prelude.{◌==◌, if◌then◌else◌}
use Rattle.std.specs.List.{All}
use Rattle.std.proofs.lemmas.List.Elements.{All-nil, All-head, All-tail, All-cons, All-append}
use Rattle.pb_pmem.specs.declared.line.Line.{Line}
use Rattle.pb_pmem.specs.declared.log.LogOp.{LogOp}
use Rattle.pb_pmem.specs.declared.log.LogOp.TheVariants.{Whole, Word, Back, Fence, Sync}
use Rattle.pb_pmem.specs.Lines.{line_at}
use Rattle.pb_pmem.specs.Operations.{writes_from}
use Rattle.pb_pmem.proofs.WrittenLines.{writes_from-none, writes_from-more}
use Rattle.pb_object.specs.Object.{State, Registers, Items, Rising, Waits}
use Rattle.pb_object.specs.History.{Round, after_round}
use Rattle.pb_object.specs.Standing.{side_count, rounds_of}
use Rattle.pb_layout.specs.declared.header.Header.{Header}
use Rattle.pb_layout.specs.NextRecord.{next_position}
use Rattle.pb_layout.specs.Cell.{cell_line_of}
use Rattle.pb_layout.specs.Region.{cell_place}
use Rattle.pb_layout.specs.RegionOps.{settle_ops, spare_place, is_same, changes_from, writes_over, stage_over}
use Rattle.pb_layout.specs.Represents.{header_for}
use Rattle.pb_layout.proofs.SparseWrites.{change_at, changes_from-none, changes_from-more}
use Rattle.pb_engine.specs.Good.{fence_count, sync_count}
use Rattle.pb_engine.specs.Operations.{puts_from, cell_ops, prepared_ops, committed_ops, round_ops}
use Rattle.pb_engine.specs.View.{EngineView, known_of}

-- an operation that is no mark
abbrev pub IsNoMark : LogOp → Type 0
IsNoMark (Whole line to) = Unit {0}
IsNoMark (Word line word to) = Unit {0}
IsNoMark (Back first count) = Unit {0}
IsNoMark Fence = ⊥
IsNoMark Sync = ⊥

pub fences-append : (a b : List LogOp) → fence_count (a ++ b) ≡ fence_count a + fence_count b
fences-append [] b = omega arith
fences-append (Whole line to ∷ a) b = fences-append a b
fences-append (Word line word to ∷ a) b = fences-append a b
fences-append (Back first count ∷ a) b = fences-append a b
fences-append (Fence ∷ a) b = omega (arith, fences-append a b)
fences-append (Sync ∷ a) b = fences-append a b

pub syncs-append : (a b : List LogOp) → sync_count (a ++ b) ≡ sync_count a + sync_count b
syncs-append [] b = omega arith
syncs-append (Whole line to ∷ a) b = syncs-append a b
syncs-append (Word line word to ∷ a) b = syncs-append a b
syncs-append (Back first count ∷ a) b = syncs-append a b
syncs-append (Fence ∷ a) b = syncs-append a b
syncs-append (Sync ∷ a) b = omega (arith, syncs-append a b)

no_fences : (ops : List LogOp) → All IsNoMark ops → fence_count ops ≡ 0
no_fences [] none = refl
no_fences (Whole line to ∷ ops) none = no_fences ops (All-tail IsNoMark (Whole line to) ops none)
no_fences (Word line word to ∷ ops) none = no_fences ops (All-tail IsNoMark (Word line word to) ops none)
no_fences (Back first count ∷ ops) none = no_fences ops (All-tail IsNoMark (Back first count) ops none)
no_fences (Fence ∷ ops) none = absurd (All-head IsNoMark Fence ops none)
no_fences (Sync ∷ ops) none = absurd (All-head IsNoMark Sync ops none)

no_syncs : (ops : List LogOp) → All IsNoMark ops → sync_count ops ≡ 0
no_syncs [] none = refl
no_syncs (Whole line to ∷ ops) none = no_syncs ops (All-tail IsNoMark (Whole line to) ops none)
no_syncs (Word line word to ∷ ops) none = no_syncs ops (All-tail IsNoMark (Word line word to) ops none)
no_syncs (Back first count ∷ ops) none = no_syncs ops (All-tail IsNoMark (Back first count) ops none)
no_syncs (Fence ∷ ops) none = absurd (All-head IsNoMark Fence ops none)
no_syncs (Sync ∷ ops) none = absurd (All-head IsNoMark Sync ops none)

-- writes have no marks

writes_unmarked : (first : ℕ) (lines : List Line) → All IsNoMark (writes_from first lines)
writes_unmarked first [] = subst (All IsNoMark) (sym (writes_from-none first)) (All-nil IsNoMark)
writes_unmarked first (line ∷ lines) =
    subst (All IsNoMark) (sym (writes_from-more first line lines)) (All-cons IsNoMark (Whole first line) (writes_from (suc first) lines) tt (writes_unmarked (suc first) lines))

changes_unmarked : (first : ℕ) (before lines : List Line) → All IsNoMark (changes_from first before lines)
changes_unmarked first before [] = subst (All IsNoMark) (sym (changes_from-none first before)) (All-nil IsNoMark)
changes_unmarked first before (line ∷ lines) =
    subst (All IsNoMark) (sym (changes_from-more first before line lines))
    (All-append IsNoMark (change_at first (line_at before 0) line) (changes_from (suc first) (drop 1 before) lines) (one (is_same (line_at before 0) line)) (changes_unmarked (suc first) (drop 1 before) lines))
  where
    one : (same : Bool) → All IsNoMark (if same then [] else Whole first line ∷ [])
    one true = All-nil IsNoMark
    one false = All-cons IsNoMark (Whole first line) [] tt (All-nil IsNoMark)

over_unmarked : (first : ℕ) (spare : Option (List Line)) (lines : List Line) → All IsNoMark (writes_over first spare lines)
over_unmarked first None lines = writes_unmarked first lines
over_unmarked first (Some before) lines = changes_unmarked first before lines

-- nor have puts of cells

puts_unmarked : (head : Header) (position : ℕ) (items : List ℕ) → All IsNoMark (puts_from head position items)
unfolding puts_from
puts_unmarked head position [] = All-nil IsNoMark
puts_unmarked head position (item ∷ items) =
    All-cons IsNoMark (Whole (cell_place head position) (cell_line_of position item)) (Back (cell_place head position) 1 ∷ puts_from head (suc position) items) tt
    (All-cons IsNoMark (Back (cell_place head position) 1) (puts_from head (suc position) items) tt (puts_unmarked head (suc position) items))

cells_unmarked : (head : Header) (from : ℕ) (state : State) → All IsNoMark (cell_ops head from state)
cells_unmarked head from (Registers registers) = All-nil IsNoMark
cells_unmarked head from (Items size items) = All-nil IsNoMark
cells_unmarked head from (Rising size items) = All-nil IsNoMark
cells_unmarked head from (Waits size queue) = puts_unmarked head from (drop (from - queue.taken) queue.items)

-- A round has one fence and one sync

pub round_fences : (engine : EngineView) (round : Round) (lines : List Line) → fence_count (round_ops engine round lines) ≡ 1
round_fences engine round lines =
    omega (
      arith,
      fences-append (prepared_ops engine round lines) (committed_ops engine round),
      fences-append (cell_ops (header_for engine.standing) (next_position engine.standing.state) (after_round engine.standing round).state) (stage_over place (known_of engine round.side).spare lines),
      fences-append (writes_over place (known_of engine round.side).spare lines) (Back place (length lines) ∷ Fence ∷ []),
      no_fences _ (cells_unmarked (header_for engine.standing) (next_position engine.standing.state) (after_round engine.standing round).state),
      no_fences _ (over_unmarked place (known_of engine round.side).spare lines),
    )
  where
    place : ℕ
    place = spare_place (header_for engine.standing) round.side (rounds_of engine.standing round.side)

pub round_syncs : (engine : EngineView) (round : Round) (lines : List Line) → sync_count (round_ops engine round lines) ≡ 1
round_syncs engine round lines =
    omega (
      arith,
      syncs-append (prepared_ops engine round lines) (committed_ops engine round),
      syncs-append (cell_ops (header_for engine.standing) (next_position engine.standing.state) (after_round engine.standing round).state) (stage_over place (known_of engine round.side).spare lines),
      syncs-append (writes_over place (known_of engine round.side).spare lines) (Back place (length lines) ∷ Fence ∷ []),
      no_syncs _ (cells_unmarked (header_for engine.standing) (next_position engine.standing.state) (after_round engine.standing round).state),
      no_syncs _ (over_unmarked place (known_of engine round.side).spare lines),
    )
  where
    place : ℕ
    place = spare_place (header_for engine.standing) round.side (rounds_of engine.standing round.side)

-- .. and settling has a sync alone

pub settling_fences : (head : Header) (first second : ℕ) → fence_count (settle_ops head first second) ≡ 0
settling_fences head first second = by_sides (side_count head.kind == 2)
  where
    by_sides : (two : Bool) → fence_count ((if two then Word 2 0 second ∷ [] else []) ++ Back 0 3 ∷ Sync ∷ []) ≡ 0
    by_sides true = refl
    by_sides false = refl

pub settling_syncs : (head : Header) (first second : ℕ) → sync_count (settle_ops head first second) ≡ 1
settling_syncs head first second = by_sides (side_count head.kind == 2)
  where
    by_sides : (two : Bool) → sync_count ((if two then Word 2 0 second ∷ [] else []) ++ Back 0 3 ∷ Sync ∷ []) ≡ 1
    by_sides true = refl
    by_sides false = refl
