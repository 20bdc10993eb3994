use Rattle.pb_pair.proofs.Reopened.{opening_finds_what_stands}
use Rattle.pb_pair.proofs.laws.opening_finds_what_stands.Goals as goal

pub returns : goal.returns
returns c = opening_finds_what_stands
