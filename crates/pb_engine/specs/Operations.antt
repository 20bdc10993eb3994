-- The device operations of a round.
use Rattle.std.specs.Prelude.{ℕ, suc, ◌+◌, ◌-◌, Bool, true, false, List, [], ◌∷◌, ◌++◌, drop}
use Rattle.pb_pmem.specs.declared.line.Line.{Line}
use Rattle.pb_pmem.specs.declared.log.LogOp.{LogOp}
use Rattle.pb_pmem.specs.Operations.{IsFailedPrefix, IsFailedPrefixAfter}
use Rattle.pb_object.specs.History.{Round, after_round}
use Rattle.pb_object.specs.Object.{State, Registers, Items, Rising, Waits}
use Rattle.pb_object.specs.Standing.{rounds_of}
use Rattle.pb_layout.specs.declared.header.Header.{Header}
use Rattle.pb_layout.specs.NextRecord.{next_position}
use Rattle.pb_layout.specs.PutCell.{put_ops}
use Rattle.pb_layout.specs.RegionOps.{spare_place, commit_ops, stage_over}
use Rattle.pb_layout.specs.Represents.{header_for}
use Rattle.pb_engine.specs.View.{EngineView, known_of}

-- items are put into the cells of their positions, from one on, and each cell is given to the device
unfoldable pub puts_from : Header → ℕ → List ℕ → List LogOp
puts_from head position [] = []
puts_from head position (item ∷ items) = put_ops head position item ++ puts_from head (suc position) items

-- so are a queue's items from a position on; other objects have no cells
abbrev pub cell_ops : Header → ℕ → State → List LogOp
cell_ops head from (Registers registers) = []
cell_ops head from (Items size items) = []
cell_ops head from (Rising size items) = []
cell_ops head from (Waits size queue) = puts_from head from (drop (from - queue.taken) queue.items)

-- before its index word a round puts the cells of its items, writes those lines of its record that differ from what is known of the
-- spare one (all, where nothing is known), gives the record to the device, and fences
abbrev pub prepared_ops : EngineView → Round → List Line → List LogOp
prepared_ops engine round lines =
    cell_ops (header_for engine.standing) (next_position engine.standing.state) (after_round engine.standing round).state
    ++ stage_over (spare_place (header_for engine.standing) round.side (rounds_of engine.standing round.side)) (known_of engine round.side).spare lines

-- then it calls its index word, gives it to the device, and syncs
abbrev pub committed_ops : EngineView → Round → List LogOp
committed_ops engine round = commit_ops round.side (rounds_of engine.standing round.side + 1)

-- the operations of a round whose record is these lines
abbrev pub round_ops : EngineView → Round → List Line → List LogOp
round_ops engine round lines = prepared_ops engine round lines ++ committed_ops engine round

-- those of a round that failed before its index word was called, or from there on
abbrev pub IsFailedRoundOps : EngineView → Round → List Line → Bool → List LogOp → Type 0
IsFailedRoundOps engine round lines false ops = IsFailedPrefix (prepared_ops engine round lines) ops
IsFailedRoundOps engine round lines true ops = IsFailedPrefixAfter (prepared_ops engine round lines) (committed_ops engine round) ops
