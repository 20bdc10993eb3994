use Rattle.pb_layout_laws.proofs.InDoubt.{landed_still}
use Rattle.pb_layout_laws.proofs.laws.settle.landed_stays_landed.Goals as goal

pub returns : goal.returns
returns c = λ base log ops s round landed cut. landed_still landed ops cut
