use Rattle.pb_layout_laws.proofs.InDoubt.{settling_after}
use Rattle.pb_layout_laws.proofs.laws.settle.settling_after_doubt.Goals as goal

pub returns : goal.returns
returns c = λ base log ops s round. settling_after
