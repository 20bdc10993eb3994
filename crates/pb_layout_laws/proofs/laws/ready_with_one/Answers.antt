use Rattle.pb_layout_laws.proofs.ReadyWithOne.{ready_with_one}
use Rattle.pb_layout_laws.proofs.laws.ready_with_one.Goals as goal

pub returns : goal.returns
returns c = ready_with_one
