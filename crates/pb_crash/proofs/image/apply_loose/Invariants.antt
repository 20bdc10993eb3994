use Rattle.std.proofs.Common.{◌≡◌, length, drop}
use Rattle.pb_pmem.specs.declared.line.TheConstants.{LINES}
use Rattle.pb_pmem.specs.Contents.{contents}
use Rattle.pb_pmem.specs.Crash.{unbacked_writes}
use Rattle.pb_crash.proofs.image.apply_loose.Given as goal

abbrev pub invariant-loop-place : goal.invariant-loop-place
invariant-loop-place l = record {
  whole : length l.lines ≡ LINES;
  done : contents l.lines (unbacked_writes (drop l.place l.log)) ≡ contents l.initial.lines (unbacked_writes l.log);
}
