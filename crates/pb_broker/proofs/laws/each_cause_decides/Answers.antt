use Rattle.pb_broker.proofs.Exact.{cause_decides}
use Rattle.pb_broker.proofs.laws.each_cause_decides.Goals as goal

pub returns : goal.returns
returns c = cause_decides
