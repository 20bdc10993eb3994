use Rattle.pb_broker.proofs.Said.{applied_stays}
use Rattle.pb_broker.proofs.chains.what_was_applied_stays.Goals as goal

pub returns : goal.returns
returns c = applied_stays
