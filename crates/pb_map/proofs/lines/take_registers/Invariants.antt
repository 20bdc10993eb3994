use Rattle.std.proofs.Common.{◌≡◌, ℕ, ◌<◌}
use Rattle.pb_object.specs.Map.{register_at}
use Rattle.pb_object.specs.MapLines.{register_in}
use Rattle.pb_map.proofs.lines.take_registers.Given as goal

abbrev pub invariant-loop-key : goal.invariant-loop-key
invariant-loop-key l = (key : ℕ) → key < l.key → register_at l.registers key ≡ register_in l.from key
