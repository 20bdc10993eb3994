use Rattle.pb_layout_laws.proofs.InDoubt.{settling_doubt}
use Rattle.pb_layout_laws.proofs.laws.settle.settling_doubt_tells_the_round.Goals as goal

pub returns : goal.returns
returns c = λ base log s round. settling_doubt
