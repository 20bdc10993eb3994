use Rattle.std.proofs.Common.{Some, ap}
use Rattle.pb_pmem.specs.declared.log.LogOp.TheVariants.{Whole}
use Rattle.pb_crash.proofs.leaves.left_by.Goals as goal

pub returns-in-Whole : goal.returns-in-Whole
returns-in-Whole c =
    rw (c.in-Torn.is, c.in-Whole.is) (ap (λ l. Some (Whole c.in-Whole.line l)) c.filled.ensures)
