use Rattle.pb_core.proofs.Runs.{told_by_log}
use Rattle.pb_core.proofs.laws.the_log_tells_the_history.Goals as goal

pub returns : goal.returns
returns c = λ w. told_by_log
