use Rattle.pb_pair.proofs.Reopened.{stored_moves_on}
use Rattle.pb_pair.proofs.laws.storing_moves_on.Goals as goal

pub returns : goal.returns
returns c = stored_moves_on
