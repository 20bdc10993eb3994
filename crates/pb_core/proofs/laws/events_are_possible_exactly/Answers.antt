use Rattle.pb_core.proofs.Exactness.{exact}
use Rattle.pb_core.proofs.laws.events_are_possible_exactly.Goals as goal

pub returns : goal.returns
returns c = λ w. exact
