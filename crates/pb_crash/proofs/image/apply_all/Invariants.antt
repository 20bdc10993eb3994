use Rattle.std.proofs.Common.{◌≡◌, length, drop}
use Rattle.pb_pmem.specs.declared.line.TheConstants.{LINES}
use Rattle.pb_pmem.specs.Contents.{contents}
use Rattle.pb_crash.proofs.image.apply_all.Given as goal

abbrev pub invariant-loop-op : goal.invariant-loop-op
invariant-loop-op l =
    (length l.lines ≡ LINES) × (contents l.lines (drop l.op-index l.ops) ≡ contents l.initial.lines l.ops)
