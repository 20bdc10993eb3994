use Rattle.std.proofs.Common.{◌≡◌, length, drop}
use Rattle.pb_pmem.specs.declared.line.TheConstants.{LINES}
use Rattle.pb_pmem.specs.Contents.{contents}
use Rattle.pb_crash.specs.Picked.{flooded}
use Rattle.pb_crash.proofs.image.flood.Given as goal

abbrev pub invariant-loop-op : goal.invariant-loop-op
invariant-loop-op l =
    (length l.lines ≡ LINES) × (contents l.lines (flooded l.value (drop l.op-index l.ops)) ≡ contents l.initial.lines (flooded l.value l.ops))
