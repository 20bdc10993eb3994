use Rattle.pb_layout_laws.proofs.ToldCalls.{sealed_after}
use Rattle.pb_layout_laws.proofs.laws.calls.sealed_calls_compose.Goals as goal

pub returns : goal.returns
returns c = λ tale middle new s rounds more. sealed_after
