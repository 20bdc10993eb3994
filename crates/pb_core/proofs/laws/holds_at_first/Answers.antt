use Rattle.pb_core.proofs.Runs.{fresh_is_world}
use Rattle.pb_core.proofs.laws.holds_at_first.Goals as goal

pub returns : goal.returns
returns c = λ head w. fresh_is_world
