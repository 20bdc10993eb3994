use Rattle.pb_layout_laws.proofs.UnusedLines.{writing_unused_failing}
use Rattle.pb_layout_laws.proofs.laws.writing_unused_lines_failing.Goals as goal

pub returns : goal.returns
returns c = writing_unused_failing
