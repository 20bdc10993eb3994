use Rattle.pb_layout_laws.proofs.Settling.{settling_leaves_one}
use Rattle.pb_layout_laws.proofs.laws.settle.settling_leaves_one.Goals as goal

pub returns : goal.returns
returns c = settling_leaves_one
