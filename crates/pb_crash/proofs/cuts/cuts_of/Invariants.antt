use Rattle.std.proofs.Common.{◌≡◌, ◌≤◌, take}
use Rattle.pb_pmem.specs.Crash.{marks, least_cut}
use Rattle.pb_crash.proofs.cuts.cuts_of.Given as goal

abbrev pub invariant-loop-op : goal.invariant-loop-op
invariant-loop-op l =
    (l.least ≡ least_cut (take l.op-index l.log)) × (l.count ≡ marks (take l.op-index l.log)) × (l.count ≤ l.op-index)
