use Rattle.pb_engine.proofs.Joining.{adopted_begins}
use Rattle.pb_engine.proofs.laws.an_adopted_engine_begins.Goals as goal

pub returns : goal.returns
returns c = adopted_begins
