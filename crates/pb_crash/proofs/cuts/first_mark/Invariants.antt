use Rattle.std.proofs.Common.{◌≡◌, ◌++◌, take, drop}
use Rattle.pb_pmem.specs.Crash.{until_mark}
use Rattle.pb_crash.proofs.cuts.first_mark.Given as goal

abbrev pub invariant-loop-i : goal.invariant-loop-i
invariant-loop-i l = until_mark l.log ≡ take l.i l.log ++ until_mark (drop l.i l.log)
