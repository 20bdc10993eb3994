use Rattle.pb_core.specs.Client.{no_request}
use Rattle.pb_run.proofs.Together.{has_line, one_put}
use Rattle.pb_run.proofs.crew.put_together.Goals as goal

pub take_next-requires-clause-line : goal.take_next-requires-clause-line
take_next-requires-clause-line g c =
    has_line (λ worker. worker.lines) c.args.asks.now c.args.workers.now c.loop-place.outcomes c.loop-place.next c.loop-place.place no_request c.requires.lines c.requires.clients c.loop-place-test.true c.loop-place.invariant

pub loop-place-preserved : goal.loop-place-preserved
loop-place-preserved g c =
    one_put (λ worker. worker.lines) c.args.asks.now c.args.workers.now c.loop-place.outcomes c.loop-place.next c.take_next.new.next c.loop-place.place no_request c.take_next.result c.requires.lines (λ worker. worker.lines.same_length) c.requires.clients c.requires.few c.loop-place-test.true c.take_next.ensures.outcome c.take_next.ensures.next c.loop-place.invariant
