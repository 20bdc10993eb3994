use Rattle.std.proofs.Common.{below_more}
use Rattle.pb_layout.specs.Record.{IsSlot}
use Rattle.pb_layout.proofs.record.first_bad_slot.Goals as goal

pub returns-then-not-is_slot : goal.returns-then-not-is_slot
returns-then-not-is_slot c = record {
  within = c.loop-place-test.true;
  before = c.loop-place.invariant;
  refused = λ slot. let yes = c.is_slot.ensures.1 slot in cc;
}

pub loop-place-preserved : goal.loop-place-preserved
loop-place-preserved c =
    below_more (IsSlot c.args.kind c.args.side c.args.lines.now) c.loop-place.place c.loop-place.invariant (c.is_slot.ensures.0 c.if-not-is_slot.false)
