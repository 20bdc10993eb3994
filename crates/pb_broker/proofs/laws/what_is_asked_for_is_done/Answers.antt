use Rattle.pb_broker.proofs.Complete.{done_as_asked}
use Rattle.pb_broker.proofs.laws.what_is_asked_for_is_done.Goals as goal

pub returns : goal.returns
returns c = done_as_asked
