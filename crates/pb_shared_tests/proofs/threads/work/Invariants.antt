use Rattle.pb_shared.specs.Passes.{IsOf}
use Rattle.pb_shared_tests.proofs.threads.work.Given as goal

abbrev pub invariant-loop-number : goal.invariant-loop-number
invariant-loop-number g l = IsOf l.fn.object l.worker.pass
