use Rattle.pb_layout.specs.Record.{AreSlots}
use Rattle.pb_layout.proofs.record.first_bad_slot.Given as goal

abbrev pub invariant-loop-place : goal.invariant-loop-place
invariant-loop-place l = AreSlots l.kind l.side l.lines l.place
