use Rattle.pb_layout.proofs.Readiness.{ready_is_kept}
use Rattle.pb_layout.proofs.laws.ready_is_kept.Goals as goal

pub returns : goal.returns
returns c = ready_is_kept
