use Rattle.pb_engine.proofs.Joining.{adopted_always}
use Rattle.pb_engine.proofs.laws.what_stands_is_adopted.Goals as goal

pub returns : goal.returns
returns c = adopted_always
