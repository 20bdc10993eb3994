use Rattle.pb_engine.proofs.Coming.{after_round_made}
use Rattle.pb_engine.proofs.laws.after_a_round.Goals as goal

pub returns : goal.returns
returns c = after_round_made
