use Rattle.pb_pair.proofs.Reopened.{failed_in_doubt}
use Rattle.pb_pair.proofs.laws.failed_store_is_in_doubt.Goals as goal

pub returns : goal.returns
returns c = failed_in_doubt
