use Rattle.pb_shared.specs.Passes.{IsOf}
use Rattle.pb_shared_tests.proofs.rows.asks_again.Given as goal

abbrev pub invariant-loop-number : goal.invariant-loop-number
invariant-loop-number g l = IsOf l.object l.first
