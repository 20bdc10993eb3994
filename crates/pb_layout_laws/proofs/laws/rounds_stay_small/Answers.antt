use Rattle.pb_layout_laws.proofs.FewRounds.{side_rounds_few}
use Rattle.pb_layout_laws.proofs.laws.rounds_stay_small.Goals as goal

pub returns : goal.returns
returns c = side_rounds_few
