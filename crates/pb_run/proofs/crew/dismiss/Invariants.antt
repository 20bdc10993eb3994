use Rattle.std.proofs.Common.{◌≡◌, ◌+◌, ◌≤◌, ◌++◌, map, vec_len, vec_capacity}
use Rattle.pb_run.proofs.crew.dismiss.Given as goal

abbrev pub decreases-loop-worker : goal.decreases-loop-worker
decreases-loop-worker g l = vec_len l.workers

abbrev pub invariant-loop-worker : goal.invariant-loop-worker
invariant-loop-worker g l =
    (map (λ worker. worker.pass) l.workers.items ++ l.passes.items ≡ map (λ worker. worker.pass) l.fn.workers.items)
    × (vec_len l.workers + vec_len l.passes ≤ vec_capacity l.passes)
