use Rattle.pb_layout_laws.proofs.InDoubt.{settling_landed}
use Rattle.pb_layout_laws.proofs.laws.settle.settling_landed_leaves_one.Goals as goal

pub returns : goal.returns
returns c = λ base log s round. settling_landed
