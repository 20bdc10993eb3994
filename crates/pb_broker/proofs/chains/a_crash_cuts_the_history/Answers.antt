use Rattle.pb_broker.proofs.Steps.{crash_cuts}
use Rattle.pb_broker.proofs.chains.a_crash_cuts_the_history.Goals as goal

pub returns : goal.returns
returns c = crash_cuts
