use Rattle.pb_layout_laws.proofs.InDoubt.{doubt_kept}
use Rattle.pb_layout_laws.proofs.laws.settle.doubt_is_kept.Goals as goal

pub returns : goal.returns
returns c = λ base log ops s round doubt allowed. doubt_kept doubt ops allowed
