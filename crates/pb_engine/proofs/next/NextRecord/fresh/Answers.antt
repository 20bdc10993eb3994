use Rattle.std.proofs.Common.{replicate, ap, ◌∙◌}
use Rattle.pb_pmem.specs.declared.line.Line.{Line}
use Rattle.pb_pmem.specs.Lines.{zero_line}
use Rattle.pb_pmem.proofs.Lines.{same_line}
use Rattle.pb_engine.proofs.next.NextRecord.fresh.Goals as goal

pub returns : goal.returns
returns c =
    c.in_ok-lines.ensures.items_if_clones_equal (λ y h. h) ∙ ap (λ (line : Line). replicate c.args.count line) (same_line c.default.result zero_line c.default.ensures)
