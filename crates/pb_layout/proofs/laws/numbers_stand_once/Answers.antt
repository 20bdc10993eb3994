use Rattle.pb_layout.proofs.LegalHistories.{numbers_stand_once}
use Rattle.pb_layout.proofs.laws.numbers_stand_once.Goals as goal

pub returns : goal.returns
returns c = numbers_stand_once
