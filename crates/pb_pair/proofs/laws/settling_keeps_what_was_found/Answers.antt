use Rattle.pb_pair.proofs.Reopened.{settling_keeps_what_was_found}
use Rattle.pb_pair.proofs.laws.settling_keeps_what_was_found.Goals as goal

pub returns : goal.returns
returns c = settling_keeps_what_was_found
