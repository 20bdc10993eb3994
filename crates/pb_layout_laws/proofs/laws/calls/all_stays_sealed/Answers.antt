use Rattle.pb_layout_laws.proofs.Calls.{all_stays_sealed}
use Rattle.pb_layout_laws.proofs.laws.calls.all_stays_sealed.Goals as goal

pub returns : goal.returns
returns c = λ base log ops s history members. all_stays_sealed
