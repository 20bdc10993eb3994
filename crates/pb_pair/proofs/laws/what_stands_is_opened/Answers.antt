use Rattle.pb_pair.proofs.Reopened.{what_stands_is_opened}
use Rattle.pb_pair.proofs.laws.what_stands_is_opened.Goals as goal

pub returns : goal.returns
returns c = what_stands_is_opened
