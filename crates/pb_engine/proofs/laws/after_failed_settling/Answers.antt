use Rattle.pb_engine.proofs.Coming.{after_settling_failed}
use Rattle.pb_engine.proofs.laws.after_failed_settling.Goals as goal

pub returns : goal.returns
returns c = after_settling_failed
