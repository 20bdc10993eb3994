use Rattle.pb_layout.proofs.Lines.{eq_tells}
use Rattle.pb_pair.proofs.open.counts.Goals as goal

pub returns : goal.returns
returns c = eq_tells _ _ _ c.eq.result c.eq.ensures c.count_line.ensures
