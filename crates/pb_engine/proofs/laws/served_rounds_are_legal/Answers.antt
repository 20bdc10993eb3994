use Rattle.pb_engine.proofs.Served.{served_is_legal}
use Rattle.pb_engine.proofs.laws.served_rounds_are_legal.Goals as goal

pub returns : goal.returns
returns c = served_is_legal
