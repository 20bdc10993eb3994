use Rattle.pb_layout_laws.proofs.InDoubt.{settling_doubt_failing}
use Rattle.pb_layout_laws.proofs.laws.settle.settling_doubt_failing.Goals as goal

pub returns : goal.returns
returns c = λ base log ops s round doubt cut. settling_doubt_failing doubt ops cut
