use Rattle.std.proofs.Common.{set, sym, ap, ◌∙◌}
use Rattle.pb_pmem.specs.declared.log.LogOp.TheVariants.{Whole}
use Rattle.pb_pmem.specs.Contents.{contents}
use Rattle.pb_pmem.proofs.Lines.{contents-one, contents-none}
use Rattle.pb_crash.specs.Leaves.{filled}
use Rattle.pb_crash.proofs.Doing.{flood_none}
use Rattle.pb_crash.proofs.image.flood_one.Goals as goal

pub returns-in-Whole : goal.returns-in-Whole
returns-in-Whole c =
    rw c.in-Whole.is (ap (λ l. set c.args.lines.now c.in-Whole.line l) c.filled.ensures ∙ sym (contents-one c.args.lines.now (Whole c.in-Whole.line (filled c.args.value))))

pub returns-in_default : goal.returns-in_default
returns-in_default c =
    sym (ap (contents c.args.lines.now) (flood_none c.args.value c.args.op.now c.in_default.not-Whole) ∙ contents-none c.args.lines.now)
