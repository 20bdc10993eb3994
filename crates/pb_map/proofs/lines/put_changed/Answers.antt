use Rattle.std.proofs.Common.{get_or, refl, arith}
use Rattle.pb_map.proofs.Changes.{no_ask, one_more, all_changed}
use Rattle.pb_map.proofs.lines.put_changed.Goals as goal

pub loop-place-preserved : goal.loop-place-preserved
loop-place-preserved c =
    one_more c.args.registers.now c.args.asks.now c.args.into.now c.loop-place.into c.put_named.new.into c.loop-place.place (get_or c.args.asks.now c.loop-place.place no_ask) c.loop-place.invariant c.loop-place-test.true refl (record {
      long = c.put_named.ensures.long;
      here = c.put_named.ensures.here;
      others = c.put_named.ensures.others;
      past = c.put_named.ensures.past;
    })

pub returns : goal.returns
returns c =
    all_changed c.args.registers.now c.args.asks.now c.args.into.now c.loop-place.into c.loop-place.place c.requires.registers c.requires.count (omega (arith, c.loop-place-test.false)) c.loop-place.invariant
