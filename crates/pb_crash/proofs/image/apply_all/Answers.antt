use Rattle.std.proofs.Common.{length, sym, ap, ◌∙◌}
use Rattle.pb_pmem.proofs.Lines.{length-applied}
use Rattle.pb_crash.proofs.Doing.{contents_step, contents_all}
use Rattle.pb_crash.proofs.image.apply_all.Goals as goal

pub loop-op-preserved : goal.loop-op-preserved
loop-op-preserved c =
    let op = c.op-item.result in (
      ap length c.apply.ensures ∙ (length-applied op c.loop-op.lines ∙ c.loop-op.invariant.0),
      rw c.apply.ensures (contents_step c.loop-op.lines c.args.ops.now c.loop-op.op-index op c.loop-op-test.true c.op-item.is ∙ c.loop-op.invariant.1),
    )

pub returns : goal.returns
returns c =
    sym (contents_all c.loop-op.lines c.args.ops.now c.loop-op.op-index c.loop-op-test.false) ∙ c.loop-op.invariant.1
