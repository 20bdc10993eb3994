use Rattle.pb_layout_laws.proofs.Fresh.{fresh_is_ready}
use Rattle.pb_layout_laws.proofs.laws.fresh_device_is_ready.Goals as goal

pub returns : goal.returns
returns c = fresh_is_ready
