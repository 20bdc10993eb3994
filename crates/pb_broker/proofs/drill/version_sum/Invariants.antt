use Rattle.std.proofs.Common.{◌≡◌, ◌≤◌, length, take}
use Rattle.pb_object.specs.Object.{Registers}
use Rattle.pb_broker.specs.Comes.{version_sum}
use Rattle.pb_broker.proofs.drill.version_sum.Given as goal

abbrev pub invariant-loop-key : goal.invariant-loop-key
invariant-loop-key l = record {
  summed : l.sum ≡ version_sum (Registers (take l.key l.map));
  within : l.key ≤ length l.map;
}
