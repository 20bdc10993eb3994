use Rattle.std.proofs.Common.{take}
use Rattle.pb_pmem.specs.Operations.{Does}
use Rattle.pb_pmem.proofs.operations.make_all.Given as goal

abbrev pub invariant-loop-place : goal.invariant-loop-place
invariant-loop-place g l = Does (take l.place l.ops) (g.P.Pmem.seen l.fn.device) (g.P.Pmem.seen l.device)
