use Rattle.pb_layout_laws.proofs.InDoubt.{settling_landed_failing}
use Rattle.pb_layout_laws.proofs.laws.settle.settling_landed_failing.Goals as goal

pub returns : goal.returns
returns c = λ base log ops s round landed cut. settling_landed_failing landed ops cut
