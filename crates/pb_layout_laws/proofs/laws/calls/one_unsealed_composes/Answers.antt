use Rattle.pb_layout_laws.proofs.Compose.{one_unsealed-compose}
use Rattle.pb_layout_laws.proofs.laws.calls.one_unsealed_composes.Goals as goal

pub returns : goal.returns
returns c = one_unsealed-compose
