use Rattle.std.proofs.Common.{arith}
use Rattle.std.proofs.lemmas.Result.{err_from_is_err_and}
use Rattle.pb_queue.proofs.PutCells.{put_at_first, put_at_more, put_at_fails}
use Rattle.pb_queue.proofs.store.put_cells.Goals as goal

pub loop-position-init : goal.loop-position-init
loop-position-init g c = put_at_first c.args.items.now c.tail-position.result c.args.pair.now c.tail-position.ensures c.requires.sound c.requires.sure

pub returns-in_err-put_cell-clause-err : goal.returns-in_err-put_cell-clause-err
returns-in_err-put_cell-clause-err g c =
    let p = err_from_is_err_and c.from_residual.result c.from_residual.ensures.1 in
    rw (p.1, p.2) (put_at_fails c.args.items.now c.loop-position.position c.next_item.result c.args.pair.now c.loop-position.pair c.in_err-put_cell.field-0.0 c.put_cell.new.self c.requires.waits (omega (arith, c.loop-position.auto.position, c.tail-position.ensures)) (omega (arith, c.loop-position-test.true, c.next_tail-position-end.ensures.tail)) c.next_item.ensures c.loop-position.invariant c.in_err-put_cell.ensures.err)

pub loop-position-preserved : goal.loop-position-preserved
loop-position-preserved g c =
    put_at_more c.args.items.now c.loop-position.position c.next_item.result c.args.pair.now c.loop-position.pair c.put_cell.new.self c.requires.waits (omega (arith, c.loop-position.auto.position, c.tail-position.ensures)) (omega (arith, c.loop-position-test.true, c.next_tail-position-end.ensures.tail)) c.next_item.ensures c.loop-position.invariant c.in_ok-put_cell.ensures.ok
