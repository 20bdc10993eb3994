use Rattle.pb_layout_laws.proofs.InDoubt.{settling_after_failing}
use Rattle.pb_layout_laws.proofs.laws.settle.settling_after_doubt_failing.Goals as goal

pub returns : goal.returns
returns c = λ base log ops more s round. settling_after_failing
