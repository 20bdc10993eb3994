use Rattle.pb_layout.proofs.OneRecovery.{represents_one}
use Rattle.pb_layout.proofs.laws.one_standing.Goals as goal

pub returns : goal.returns
returns c = represents_one c.args.image.now
