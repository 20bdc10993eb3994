use Rattle.pb_map.proofs.Changes.{IsChangedTo}
use Rattle.pb_map.proofs.lines.put_changed.Given as goal

abbrev pub invariant-loop-place : goal.invariant-loop-place
invariant-loop-place l = IsChangedTo l.registers l.asks l.fn.into l.into l.place
