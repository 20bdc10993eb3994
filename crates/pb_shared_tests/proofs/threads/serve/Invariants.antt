use Rattle.pb_shared.specs.Passes.{IsOf}
use Rattle.pb_shared_tests.proofs.threads.serve.Given as goal

abbrev pub invariant-loop : goal.invariant-loop
invariant-loop g l = IsOf l.fn.object l.worker.pass
