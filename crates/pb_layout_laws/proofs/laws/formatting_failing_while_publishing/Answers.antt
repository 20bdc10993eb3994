use Rattle.pb_layout_laws.proofs.Formatting.{cut_off_while_appearing}
use Rattle.pb_layout_laws.proofs.laws.formatting_failing_while_publishing.Goals as goal

pub returns : goal.returns
returns c = cut_off_while_appearing
