use Rattle.pb_core.proofs.Runs.{one_history}
use Rattle.pb_core.proofs.laws.every_run_has_one_history.Goals as goal

pub returns : goal.returns
returns c = one_history
