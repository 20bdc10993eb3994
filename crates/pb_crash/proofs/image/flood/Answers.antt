use Rattle.std.proofs.Common.{length, sym, ap, ◌∙◌}
use Rattle.pb_pmem.proofs.Lines.{length-contents}
use Rattle.pb_crash.proofs.Doing.{flood_step, flood_all}
use Rattle.pb_crash.proofs.image.flood.Goals as goal

pub loop-op-preserved : goal.loop-op-preserved
loop-op-preserved c =
    let op = c.op-item.result in (
      ap length c.flood_one.ensures ∙ (length-contents c.loop-op.lines _ ∙ c.loop-op.invariant.0),
      rw c.flood_one.ensures (flood_step c.args.value c.loop-op.lines c.args.ops.now c.loop-op.op-index op c.loop-op-test.true c.op-item.is ∙ c.loop-op.invariant.1),
    )

pub returns : goal.returns
returns c =
    sym (flood_all c.args.value c.loop-op.lines c.args.ops.now c.loop-op.op-index c.loop-op-test.false) ∙ c.loop-op.invariant.1
