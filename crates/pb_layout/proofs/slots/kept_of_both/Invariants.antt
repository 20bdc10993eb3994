use Rattle.pb_layout.proofs.SlotLemmas.{HasGone}
use Rattle.pb_layout.proofs.slots.kept_of_both.Given as goal

abbrev pub invariant-loop : goal.invariant-loop
invariant-loop l = HasGone l.puts l.takes l.client l.counter l.puts_before l.takes_before
