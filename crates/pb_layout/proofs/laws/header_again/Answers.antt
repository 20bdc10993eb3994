use Rattle.pb_layout.proofs.Again.{header_read}
use Rattle.pb_layout.proofs.laws.header_again.Goals as goal

pub returns : goal.returns
returns c =
    header_read c.args.head.now c.header_line.result c.header_of.result c.header_line.ensures.valid c.header_line.ensures.line c.header_of.ensures.ok c.header_of.ensures.refused
