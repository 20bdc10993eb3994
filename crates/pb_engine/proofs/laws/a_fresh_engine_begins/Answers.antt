use Rattle.pb_engine.proofs.Joining.{fresh_begins}
use Rattle.pb_engine.proofs.laws.a_fresh_engine_begins.Goals as goal

pub returns : goal.returns
returns c = fresh_begins
