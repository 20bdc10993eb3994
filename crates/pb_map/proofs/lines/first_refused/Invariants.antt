use Rattle.std.proofs.Common.{ℕ, ◌<◌}
use Rattle.pb_object.specs.MapLines.{register_in, IsRegisterAt}
use Rattle.pb_map.proofs.lines.first_refused.Given as goal

abbrev pub invariant-loop-key : goal.invariant-loop-key
invariant-loop-key l = (key : ℕ) → key < l.key → IsRegisterAt l.size key (register_in l.from key)
