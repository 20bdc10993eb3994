use Rattle.pb_engine.proofs.Known.{known_in_use}
use Rattle.pb_engine.proofs.laws.known_records_are_in_use.Goals as goal

pub returns : goal.returns
returns c = known_in_use
