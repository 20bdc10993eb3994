use Rattle.pb_layout_laws.proofs.Preparing.{cut_off_while_preparing}
use Rattle.pb_layout_laws.proofs.laws.formatting_failing_while_preparing.Goals as goal

pub returns : goal.returns
returns c = cut_off_while_preparing
