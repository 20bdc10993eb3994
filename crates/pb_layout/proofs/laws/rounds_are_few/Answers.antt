use Rattle.pb_layout.proofs.LegalHistories.{rounds_are_few}
use Rattle.pb_layout.proofs.laws.rounds_are_few.Goals as goal

pub returns : goal.returns
returns c = rounds_are_few
