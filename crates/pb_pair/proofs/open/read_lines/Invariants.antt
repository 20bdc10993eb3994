use Rattle.std.proofs.Common.{◌≡◌, IfSome, take, drop}
use Rattle.pb_pair.proofs.open.read_lines.Given as goal

abbrev pub invariant-loop-place : goal.invariant-loop-place
invariant-loop-place g l = record {
  same : g.P.Pmem.seen l.device ≡ g.P.Pmem.seen l.fn.device;
  content : IfSome (g.P.Pmem.seen l.fn.device).now (λ lines. take l.place l.into ≡ take l.place (drop l.first lines));
}
