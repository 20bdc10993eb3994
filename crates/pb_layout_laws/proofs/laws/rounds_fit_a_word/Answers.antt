use Rattle.pb_layout_laws.proofs.FewRounds.{rounds_fit}
use Rattle.pb_layout_laws.proofs.laws.rounds_fit_a_word.Goals as goal

pub returns : goal.returns
returns c = rounds_fit
