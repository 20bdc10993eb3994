use Rattle.std.proofs.Common.{◌≡◌, length}
use Rattle.pb_rule.specs.Opening.{HasStart}
use Rattle.pb_rule.proofs.opening.put_rows.Given as goal

abbrev pub invariant-loop-client : goal.invariant-loop-client
invariant-loop-client g l =
    (length l.start ≡ length l.initial.start) × HasStart (g.E.Engine.seen l.engine).standing l.client 0 l.start
