-- Lines that compare as equal are the same.
use Rattle.std.proofs.Common.{◌∙◌}
use Rattle.pb_layout.proofs.Lines.{same_from_eq}
use Rattle.pb_layout.proofs.cells.cell_of.Goals as goal

pub returns-then-eq : goal.returns-then-eq
returns-then-eq c = same_from_eq _ _ c.if-eq.ensures ∙ c.cell.ensures
