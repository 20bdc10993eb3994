use Rattle.std.proofs.Common.{◌≤◌, ◌-◌, length, take}
use Rattle.std.specs.Io.KnownBytes.{Consumes}
use Rattle.pb_file.proofs.transfer.read_whole.Given as goal

abbrev pub invariant-loop-len : goal.invariant-loop-len
invariant-loop-len g l = record {
  within : l.len ≤ length l.into;
  consumed : Consumes (g.R.Read.remaining l.fn.file) (g.R.Read.remaining l.file) (take l.len l.into);
}

abbrev pub decreases-loop-len : goal.decreases-loop-len
decreases-loop-len g l = length l.into - l.len
