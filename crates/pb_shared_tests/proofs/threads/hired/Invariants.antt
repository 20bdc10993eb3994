use Rattle.std.proofs.Common.{All, vec_len}
use Rattle.pb_shared.specs.Passes.{IsOf}
use Rattle.pb_shared_tests.proofs.threads.hired.Given as goal

abbrev pub decreases-loop-pass : goal.decreases-loop-pass
decreases-loop-pass g l = vec_len l.passes

abbrev pub invariant-loop-pass : goal.invariant-loop-pass
invariant-loop-pass g l =
    All (IsOf l.fn.object) l.passes.items × All (λ worker. IsOf l.fn.object worker.pass) l.workers.items
