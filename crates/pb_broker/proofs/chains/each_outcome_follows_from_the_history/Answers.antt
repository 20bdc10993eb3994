use Rattle.pb_broker.proofs.Replied.{outcomes_follow}
use Rattle.pb_broker.proofs.chains.each_outcome_follows_from_the_history.Goals as goal

pub returns : goal.returns
returns c = outcomes_follow
