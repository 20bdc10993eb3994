use Rattle.pb_layout_laws.proofs.Settling.{settling_failing}
use Rattle.pb_layout_laws.proofs.laws.settle.settling_failing.Goals as goal

pub returns : goal.returns
returns c = settling_failing
