use Rattle.pb_engine.proofs.Coming.{after_settled}
use Rattle.pb_engine.proofs.laws.after_settling.Goals as goal

pub returns : goal.returns
returns c = after_settled
