use Rattle.pb_engine.proofs.Coming.{at_start}
use Rattle.pb_engine.proofs.laws.beginning.Goals as goal

pub returns : goal.returns
returns c = at_start
