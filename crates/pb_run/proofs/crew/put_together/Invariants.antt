use Rattle.pb_run.proofs.Together.{IsPutTo}
use Rattle.pb_run.proofs.crew.put_together.Given as goal

abbrev pub invariant-loop-place : goal.invariant-loop-place
invariant-loop-place g l =
    IsPutTo (λ worker. worker.lines) l.fn.asks l.fn.workers l.outcomes l.next l.place
