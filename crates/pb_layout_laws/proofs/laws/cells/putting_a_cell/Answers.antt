use Rattle.pb_layout_laws.proofs.PutCells.{putting_a_cell}
use Rattle.pb_layout_laws.proofs.laws.cells.putting_a_cell.Goals as goal

pub returns : goal.returns
returns c = putting_a_cell
