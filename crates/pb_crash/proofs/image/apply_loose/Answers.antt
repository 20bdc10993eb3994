use Rattle.std.proofs.Common.{length, not, sym, ap, ◌∙◌}
use Rattle.pb_crash.proofs.Leaving.{loose_step, loose_all, length-settled}
use Rattle.pb_crash.proofs.image.apply_loose.Goals as goal

pub loop-place-preserved : goal.loop-place-preserved
loop-place-preserved c =
    let op = c.index-log-place.result in
    record {
      whole = ap length c.settle_one.ensures ∙ (length-settled c.loop-place.lines op (not c.is_settled-settled.result) ∙ c.loop-place.invariant.whole);
      done = rw c.settle_one.ensures (loose_step c.loop-place.lines c.args.log.now c.loop-place.place op c.is_settled-settled.result c.loop-place-test.true c.index-log-place.is (c.is_settled-settled.ensures c.args.log.now c.requires.backs) ∙ c.loop-place.invariant.done);
    }

pub returns : goal.returns
returns c = sym (loose_all c.loop-place.lines c.args.log.now c.loop-place.place c.loop-place-test.false) ∙ c.loop-place.invariant.done
