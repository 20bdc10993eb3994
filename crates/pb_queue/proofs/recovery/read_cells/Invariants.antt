use Rattle.std.proofs.Common.{◌≡◌}
use Rattle.pb_queue.specs.Recovery.{HasReadCells}
use Rattle.pb_queue.proofs.recovery.read_cells.Given as goal

abbrev pub invariant-loop-position : goal.invariant-loop-position
invariant-loop-position g l = (l.pair ≡ l.fn.pair) × HasReadCells l.fn.pair l.position l.fn.items l.items
