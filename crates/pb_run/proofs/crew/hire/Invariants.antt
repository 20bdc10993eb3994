use Rattle.std.proofs.Common.{◌≡◌, ◌+◌, ◌≤◌, ◌++◌, map, vec_len, vec_capacity}
use Rattle.pb_run.proofs.crew.hire.Given as goal

abbrev pub decreases-loop-pass : goal.decreases-loop-pass
decreases-loop-pass g l = vec_len l.passes

abbrev pub invariant-loop-pass : goal.invariant-loop-pass
invariant-loop-pass g l =
    (l.passes.items ++ map (λ worker. worker.pass) l.workers.items ≡ l.fn.passes.items)
    × (l.lists.items ++ map (λ worker. worker.lines) l.workers.items ≡ l.fn.lists.items)
    × (vec_len l.lists ≡ vec_len l.passes)
    × (vec_len l.passes + vec_len l.workers ≤ vec_capacity l.workers)
