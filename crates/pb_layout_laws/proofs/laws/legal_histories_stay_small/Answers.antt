use Rattle.pb_layout_laws.proofs.FewRounds.{legal_few}
use Rattle.pb_layout_laws.proofs.laws.legal_histories_stay_small.Goals as goal

pub returns : goal.returns
returns c = legal_few
