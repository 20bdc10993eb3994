-- One slot after the other.
use Rattle.std.proofs.Common.{◌≡◌, ◌+◌, ◌-◌, ◌*◌, get_or, ap, ◌∙◌, arith, ℕ}
use Rattle.pb_object.specs.declared.request.TheConstants.{KEPT_REQUESTS}
use Rattle.pb_layout.proofs.ShiftedSlots.{first_shifted, next_shifted, all_shifted}
use Rattle.pb_layout.proofs.slots.put_in_front.Goals as goal

pub loop-slot-init : goal.loop-slot-init
loop-slot-init c = first_shifted c.args.before.now c.args.lines.now c.args.client c.args.kept.now c.client_line.result c.requires.room c.client_line.ensures

pub loop-slot-preserved : goal.loop-slot-preserved
loop-slot-preserved c =
    let at : 1 + KEPT_REQUESTS * c.args.client + c.loop-slot.slot - 1 ≡ KEPT_REQUESTS * c.args.client + c.loop-slot.slot = omega arith in
    next_shifted c.args.before.now c.args.lines.now c.loop-slot.lines c.args.client c.args.kept.now c.loop-slot.slot c.index-before-first.result c.requires.room c.requires.before c.loop-slot-test.true c.loop-slot.invariant
    (c.index-before-first.is ∙ ap (λ (n : ℕ). get_or c.args.before.now n c.index-before-first.result) at)

pub returns : goal.returns
returns c = all_shifted c.args.before.now c.args.lines.now c.loop-slot.lines c.args.client c.args.kept.now c.loop-slot.slot (omega arith) c.loop-slot.invariant
