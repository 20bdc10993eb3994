use Rattle.std.proofs.Common.{take}
use Rattle.pb_pmem.specs.Operations.{Does}
use Rattle.pb_layout.specs.RegionOps.{changes_from}
use Rattle.pb_pair.proofs.Changes.{IsWrittenTo}
use Rattle.pb_pair.proofs.store.write_changes.Given as goal

abbrev pub invariant-loop-place : goal.invariant-loop-place
invariant-loop-place g l =
    Does (changes_from l.first l.fn.spare (take l.place l.lines)) (g.P.Pmem.seen l.fn.device) (g.P.Pmem.seen l.device)
    × IsWrittenTo l.fn.spare l.lines l.spare l.place
