use Rattle.pb_layout_laws.proofs.PutCells.{put_cell_is_there}
use Rattle.pb_layout_laws.proofs.laws.cells.put_cell_is_there.Goals as goal

pub returns : goal.returns
returns c = put_cell_is_there
