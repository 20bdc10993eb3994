use Rattle.std.proofs.Common.{arith}
use Rattle.pb_round_play.proofs.Planning.{planned_none, planned_more}
use Rattle.pb_round_play.proofs.store.plan_changes.Goals as goal

pub loop-place-init : goal.loop-place-init
loop-place-init c = record {
  plan = planned_none c.args.first c.args.before.now c.args.lines.now c.args.plan.now.items;
  few = omega arith;
  within = c.requires.within;
  capacity = omega arith;
}

pub loop-place-preserved : goal.loop-place-preserved
loop-place-preserved c = record {
  plan = planned_more c.args.first c.args.before.now c.args.lines.now c.loop-place.place c.index-before-place.result c.index-lines-place.result c.args.plan.now.items c.loop-place.plan.items c.plan_change.new.plan.items
      (record { within = c.loop-place-test.true; old_within = omega (arith, c.loop-place-test.true, c.requires.same); old_is = c.index-before-place.is; is = c.index-lines-place.is })
      c.loop-place.invariant.plan c.plan_change.ensures.plan;
  few = omega (arith, c.plan_change.ensures.few, c.loop-place.invariant.few);
  within = c.plan_change.ensures.within;
  capacity = omega (arith, c.plan_change.ensures.capacity, c.loop-place.invariant.capacity);
}
