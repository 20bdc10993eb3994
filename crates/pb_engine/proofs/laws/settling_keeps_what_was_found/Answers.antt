use Rattle.pb_engine.proofs.Joining.{stays_found}
use Rattle.pb_engine.proofs.laws.settling_keeps_what_was_found.Goals as goal

pub returns : goal.returns
returns c = stays_found
