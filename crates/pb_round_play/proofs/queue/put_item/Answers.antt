use Rattle.std.proofs.Common.{ap, ◌∙◌, arith}
use Rattle.pb_layout.specs.declared.header.Header.{Header}
use Rattle.pb_round_play.proofs.Queues.{put}
use Rattle.pb_round_play.proofs.queue.put_item.Goals as goal

pub returns-clause-put : goal.returns-clause-put
returns-clause-put c = λ lines start queue first s.
    let did = put c.args.item s (omega (arith, c.if-saturating_sub-from.false, c.saturating_sub.ensures, c.from.ensures, ap (λ (h : Header). h.size) c.head.view_is)) (omega (arith, c.if-tail-ge-LAST_POSITION.false)) c.plan_cell.ensures.plan in
    (c.new-2.ensures ∙ did.0, did.1)
