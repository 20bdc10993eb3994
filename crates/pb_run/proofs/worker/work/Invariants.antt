use Rattle.std.proofs.Common.{◌≡◌}
use Rattle.pb_shared.specs.Passes.{IsOf}
use Rattle.pb_run.proofs.Stepping.{IsRunTo}
use Rattle.pb_run.proofs.worker.work.Given as goal

abbrev pub invariant-loop-place : goal.invariant-loop-place
invariant-loop-place g l =
    (l.worker.lines.asks.items ≡ l.fn.worker.lines.asks.items)
    × IsOf l.fn.object l.worker.pass
    × (l.worker.pass.view.client ≡ l.fn.worker.pass.view.client)
    × IsRunTo l.fn.worker.pass.view.body.kept l.worker.lines.asks.items l.worker.lines.outcomes.items l.place l.left l.worker.pass.view
