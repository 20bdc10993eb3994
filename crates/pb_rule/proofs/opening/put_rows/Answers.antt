use Rattle.std.proofs.Common.{◌<◌, ◌*◌, ◌+◌, arith, ◌∙◌}
use Rattle.pb_rule.proofs.Opens.{start_count, next_client}
use Rattle.pb_rule.proofs.opening.put_rows.Goals as goal

pub loop-client-preserved : goal.loop-client-preserved
loop-client-preserved g c =
    let i = c.loop-client.invariant in
    let s = (g.E.Engine.seen c.args.engine.now).standing in
    let client = c.loop-client.client in
    let there : c.loop-client.client < s.clients = omega (arith, c.loop-client-test.true, c.requires.clients.0) in
    let a = c.put_row.ensures.put s there c.kept-kept.ensures (start_count s client 0 (4 * 0) _ (omega arith) i.1) in
    let b = c.put_row-in-loop-client.ensures.put s there c.kept-kept.ensures (start_count s client (4 * 0 + 4) (4 * 1) _ (omega arith) a) in
    (c.put_row-in-loop-client.ensures.long ∙ (c.put_row.ensures.long ∙ i.0), next_client s client _ (start_count s client (4 * 1 + 4) 8 _ (omega arith) b))
