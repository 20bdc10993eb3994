use Rattle.std.proofs.Common.{◌≡◌, ◌++◌, take, drop}
use Rattle.pb_pmem.specs.Crash.{through_mark, after_mark}
use Rattle.pb_crash.proofs.cuts.mark_end.Given as goal

abbrev pub invariant-loop-i : goal.invariant-loop-i
invariant-loop-i l =
    (through_mark l.cut l.log ≡ take l.i l.log ++ through_mark l.left (drop l.i l.log)) × (after_mark l.cut l.log ≡ after_mark l.left (drop l.i l.log))
