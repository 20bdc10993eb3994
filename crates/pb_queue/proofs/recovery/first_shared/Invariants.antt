use Rattle.std.proofs.Common.{ℕ, ◌<◌}
use Rattle.pb_layout.specs.Represents.{IsApart}
use Rattle.pb_pair.specs.View.{at_side}
use Rattle.pb_queue.proofs.recovery.first_shared.Given as goal

abbrev pub invariant-loop-slot : goal.invariant-loop-slot
invariant-loop-slot l = (slot : ℕ) → slot < l.slot → IsApart (at_side l.puts l.takes) slot
