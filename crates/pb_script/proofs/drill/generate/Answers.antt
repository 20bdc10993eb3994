use Rattle.std.proofs.Common.{◌+◌, ◌%◌, ◌∙◌, arith}
use Rattle.pb_script.proofs.Drawn.{three_draws, op_drawn, one_more, all_drawn, asks_drawn}
use Rattle.pb_script.proofs.drill.generate.Goals as goal

pub loop-place-preserved : goal.loop-place-preserved
loop-place-preserved c =
    let seed = c.args.seed in
    let place = c.loop-place.place in
    let last = c.loop-place.draws.last in
    let op = op_drawn seed place last c.next_op-op.result c.loop-place.invariant.drawn c.next_op-op.ensures.op in
    record {
      drawn = c.next_op-op.ensures.last ∙ three_draws seed place last c.loop-place.invariant.drawn;
      asks = c.in_ok-push.ensures.items ∙ one_more seed c.args.clients place c.loop-place.asks.items _ c.loop-place.invariant.asks (λ i. record { client = place % c.args.clients; number = c.from.ensures i + 1; op = op i });
    }

pub returns-clause-asks : goal.returns-clause-asks
returns-clause-asks c =
    c.loop-place.invariant.asks
    ∙ all_drawn c.args.seed c.args.clients c.args.count c.loop-place.place (omega (arith, c.loop-place-test.false, c.loop-place.auto.place-end))

pub returns-clause-script : goal.returns-clause-script
returns-clause-script c =
    asks_drawn c.args.seed c.args.clients c.loop-place.place c.loop-place.asks.items c.loop-place.invariant.asks c.requires.some_clients
    (omega (arith, c.loop-place.auto.place-end, c.requires.few))
