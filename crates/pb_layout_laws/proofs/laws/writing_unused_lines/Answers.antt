use Rattle.pb_layout_laws.proofs.UnusedLines.{writing_unused}
use Rattle.pb_layout_laws.proofs.laws.writing_unused_lines.Goals as goal

pub returns : goal.returns
returns c = writing_unused
