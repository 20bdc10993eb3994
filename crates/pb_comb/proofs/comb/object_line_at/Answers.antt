-- The record in use lies on the device.
use Rattle.std.proofs.Common.{◌%◌, ◌<◌, subst, arith}
use Rattle.pb_layout.specs.Shape.{Shape, IsHeader}
use Rattle.pb_layout.proofs.OneRecovery.{record_fits}
use Rattle.pb_comb.proofs.comb.object_line_at.Goals as goal

pub overflow_add-result : goal.overflow_add-result
overflow_add-result c =
    let parity : c.args.round % 2 < 2 = omega arith in
    omega (arith, c.record_line.ensures, record_fits c.args.head.now 0 (c.args.round % 2) (subst (λ (head : Shape). IsHeader head) c.head.view_is c.head.invariant) c.requires.side parity)
