use Rattle.pb_broker.proofs.Points.{sound_history}
use Rattle.pb_broker.proofs.Steps.{chain_sound}
use Rattle.pb_broker.proofs.chains.a_chain_has_one_history.Goals as goal

pub returns : goal.returns
returns c = λ now chain. sound_history now (chain_sound now chain)
