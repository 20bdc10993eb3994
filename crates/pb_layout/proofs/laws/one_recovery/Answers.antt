use Rattle.pb_layout.proofs.OneRecovery.{one_recovery}
use Rattle.pb_layout.proofs.laws.one_recovery.Goals as goal

pub returns : goal.returns
returns c = one_recovery c.args.image.now c.requires
