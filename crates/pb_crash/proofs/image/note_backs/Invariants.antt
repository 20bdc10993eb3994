use Rattle.std.specs.Prelude.{◌≡◌, length, take}
use Rattle.pb_pmem.specs.declared.line.TheConstants.{LINES}
use Rattle.pb_crash.specs.Backs.{HasLastBacks}
use Rattle.pb_crash.proofs.image.note_backs.Given as goal

abbrev pub invariant-loop-place : goal.invariant-loop-place
invariant-loop-place l = record {
  whole : length l.backs ≡ LINES;
  last : HasLastBacks (take l.place l.log) l.backs;
}
