use Rattle.std.proofs.Common.{length, sym, ap, ◌∙◌}
use Rattle.pb_crash.proofs.Leaving.{flood_loose_step, flood_loose_all, length-flooded}
use Rattle.pb_crash.proofs.image.flood_loose.Goals as goal

pub loop-place-preserved : goal.loop-place-preserved
loop-place-preserved c =
    let op = c.index-log-place.result in
    record {
      whole = ap length c.flood_unless.ensures ∙ (length-flooded c.args.value c.loop-place.lines op c.is_settled-settled.result ∙ c.loop-place.invariant.whole);
      done = rw c.flood_unless.ensures (flood_loose_step c.args.value c.loop-place.lines c.args.log.now c.loop-place.place op c.is_settled-settled.result c.loop-place-test.true c.index-log-place.is (c.is_settled-settled.ensures c.args.log.now c.requires.backs) ∙ c.loop-place.invariant.done);
    }

pub returns : goal.returns
returns c = sym (flood_loose_all c.args.value c.loop-place.lines c.args.log.now c.loop-place.place c.loop-place-test.false) ∙ c.loop-place.invariant.done
