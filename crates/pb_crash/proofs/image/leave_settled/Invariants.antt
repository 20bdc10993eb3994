use Rattle.std.proofs.Common.{◌≡◌, length, drop}
use Rattle.pb_pmem.specs.declared.line.TheConstants.{LINES}
use Rattle.pb_pmem.specs.Contents.{contents}
use Rattle.pb_pmem.specs.Crash.{backed_writes}
use Rattle.pb_crash.proofs.image.leave_settled.Given as goal

abbrev pub invariant-loop-place : goal.invariant-loop-place
invariant-loop-place l = record {
  whole : length l.lines ≡ LINES;
  done : contents l.lines (backed_writes (drop l.place l.log)) ≡ contents l.initial.lines (backed_writes l.log);
}
