use Rattle.pb_engine.proofs.Joining.{come_on}
use Rattle.pb_engine.proofs.laws.calls_after_calls.Goals as goal

pub returns : goal.returns
returns c = come_on
