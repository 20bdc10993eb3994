use Rattle.std.proofs.Common.{◌≢◌, ℕ, ◌<◌}
use Rattle.pb_layout.specs.Header.{word}
use Rattle.pb_layout.specs.Record.{slot_line_at}
use Rattle.pb_queue.proofs.recovery.lacks_number.Given as goal

abbrev pub invariant-loop-slot : goal.invariant-loop-slot
invariant-loop-slot l = (slot : ℕ) → slot < l.slot → l.number ≢ word (slot_line_at l.lines l.client slot) 0
