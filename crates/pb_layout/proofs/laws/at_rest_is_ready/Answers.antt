use Rattle.pb_layout.proofs.Readiness.{at_rest_is_ready}
use Rattle.pb_layout.proofs.laws.at_rest_is_ready.Goals as goal

pub returns : goal.returns
returns c = at_rest_is_ready
