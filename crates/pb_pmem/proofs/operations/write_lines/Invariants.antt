use Rattle.std.proofs.Common.{take}
use Rattle.pb_pmem.specs.Operations.{writes_from, Does}
use Rattle.pb_pmem.proofs.operations.write_lines.Given as goal

abbrev pub invariant-loop-place : goal.invariant-loop-place
invariant-loop-place g l = Does (writes_from l.first (take l.place l.lines)) (g.P.Pmem.seen l.fn.device) (g.P.Pmem.seen l.device)
