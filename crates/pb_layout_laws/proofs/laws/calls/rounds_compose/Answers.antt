use Rattle.pb_layout_laws.proofs.Growing.{rounds_of-compose}
use Rattle.pb_layout_laws.proofs.laws.calls.rounds_compose.Goals as goal

pub returns : goal.returns
returns c = rounds_of-compose
