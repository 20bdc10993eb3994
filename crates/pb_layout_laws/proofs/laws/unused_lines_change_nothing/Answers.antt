use Rattle.pb_layout_laws.proofs.Frame.{unused_all}
use Rattle.pb_layout_laws.proofs.laws.unused_lines_change_nothing.Goals as goal

pub returns : goal.returns
returns c = unused_all
