use Rattle.pb_layout_laws.proofs.Settling.{settling_may_be_repeated}
use Rattle.pb_layout_laws.proofs.laws.settle.settling_may_be_repeated.Goals as goal

pub returns : goal.returns
returns c = settling_may_be_repeated
