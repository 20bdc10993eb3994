use Rattle.std.proofs.Common.{ℕ, ◌<◌}
use Rattle.pb_object.proofs.item_lines.first_refused.Given as goal

abbrev pub invariant-loop-place : goal.invariant-loop-place
invariant-loop-place g l = (place : ℕ) → place < l.place → g.O.HoldsItems.IsPlace l.from place
