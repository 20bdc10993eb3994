use Rattle.pb_layout_laws.proofs.PutCells.{put_cells_stay}
use Rattle.pb_layout_laws.proofs.laws.cells.put_cells_stay.Goals as goal

pub returns : goal.returns
returns c = put_cells_stay
