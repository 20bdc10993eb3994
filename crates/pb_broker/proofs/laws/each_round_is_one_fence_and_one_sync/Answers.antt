use Rattle.pb_broker.proofs.Making.{made_run_costs, settled_run_costs}
use Rattle.pb_broker.proofs.laws.each_round_is_one_fence_and_one_sync.Goals as goal

pub returns-clause-making : goal.returns-clause-making
returns-clause-making c = made_run_costs

pub returns-clause-settling : goal.returns-clause-settling
returns-clause-settling c = settled_run_costs
