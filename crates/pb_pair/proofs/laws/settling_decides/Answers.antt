use Rattle.pb_pair.proofs.Reopened.{settled_decided, settled_found}
use Rattle.pb_pair.proofs.laws.settling_decides.Goals as goal

pub returns-clause-decided : goal.returns-clause-decided
returns-clause-decided c = settled_decided

pub returns-clause-found : goal.returns-clause-found
returns-clause-found c = settled_found
