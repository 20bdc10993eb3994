use Rattle.std.proofs.Common.{ℕ, ◌-◌, List, length, set, sym, ap, ◌∙◌, arith}
use Rattle.std.proofs.lemmas.List.{get_or-set_same}
use Rattle.pb_pmem.specs.declared.line.Line.{Line}
use Rattle.pb_pmem.specs.Lines.{line_at, zero_line}
use Rattle.pb_engine.proofs.next.NextRecord.put_count.Goals as goal

pub returns-clause-count : goal.returns-clause-count
returns-clause-count c =
    let lines = c.self.inside.lines.items in
    let last = c.len-last.ensures ∙ (c.self.inside.lines.ok.0 ∙ ap length c.self.view_is) in
    let new : List Line = set lines (c.len-last.result - 1) c.count_line.result in
    ap (λ (n : ℕ). line_at new (n - 1)) (sym last)
    ∙ (get_or-set_same lines (c.len-last.result - 1) c.count_line.result zero_line (omega (arith, last, c.requires, ap length c.self.view_is)) ∙ c.count_line.ensures)
