use Rattle.pb_layout_laws.proofs.PutCells.{cells_of_a_round}
use Rattle.pb_layout_laws.proofs.laws.cells.cells_of_a_round.Goals as goal

pub returns : goal.returns
returns c = cells_of_a_round
