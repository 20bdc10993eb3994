use Rattle.std.proofs.Common.{length, sym, ap, ◌∙◌}
use Rattle.pb_crash.proofs.Leaving.{settle_step, settle_all, length-settled}
use Rattle.pb_crash.proofs.image.leave_settled.Goals as goal

pub loop-place-preserved : goal.loop-place-preserved
loop-place-preserved c =
    let op = c.index-log-place.result in
    record {
      whole = ap length c.settle_one.ensures ∙ (length-settled c.loop-place.lines op c.is_settled-settled.result ∙ c.loop-place.invariant.whole);
      done = rw c.settle_one.ensures (settle_step c.loop-place.lines c.args.log.now c.loop-place.place op c.is_settled-settled.result c.loop-place-test.true c.index-log-place.is (c.is_settled-settled.ensures c.args.log.now c.requires.backs) ∙ c.loop-place.invariant.done);
    }

pub returns : goal.returns
returns c = sym (settle_all c.loop-place.lines c.args.log.now c.loop-place.place c.loop-place-test.false) ∙ c.loop-place.invariant.done
