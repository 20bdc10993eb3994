use Rattle.pb_broker.proofs.Steps.{goes_on_behind}
use Rattle.pb_broker.proofs.chains.a_chain_goes_on.Goals as goal

pub returns : goal.returns
returns c = goes_on_behind
