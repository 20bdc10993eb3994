use Rattle.pb_layout_laws.proofs.PutCells.{putting_a_cell_failing}
use Rattle.pb_layout_laws.proofs.laws.cells.putting_a_cell_failing.Goals as goal

pub returns : goal.returns
returns c = putting_a_cell_failing
