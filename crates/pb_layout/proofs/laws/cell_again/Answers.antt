use Rattle.pb_layout.proofs.Again.{cell_read}
use Rattle.pb_layout.proofs.laws.cell_again.Goals as goal

pub returns : goal.returns
returns c =
    cell_read c.args.position c.args.value c.cell.result c.cell_of.result c.cell.ensures c.cell_of.ensures
