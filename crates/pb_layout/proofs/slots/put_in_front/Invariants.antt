use Rattle.pb_layout.proofs.ShiftedSlots.{HasShifted}
use Rattle.pb_layout.proofs.slots.put_in_front.Given as goal

abbrev pub invariant-loop-slot : goal.invariant-loop-slot
invariant-loop-slot l = HasShifted l.before l.client l.kept l.fn.lines l.lines l.slot
