use Rattle.std.proofs.Common.{List, length, set, ap, subst, ◌∙◌, arith}
use Rattle.std.proofs.lemmas.List.{length-set, get_or-set_same, get_or-set_other}
use Rattle.pb_pmem.specs.declared.line.Line.{Line}
use Rattle.pb_pmem.specs.Lines.{zero_line}
use Rattle.pb_engine.specs.Next.{IsBegun}
use Rattle.pb_engine.proofs.next.NextRecord.carry.Goals as goal

pub returns : goal.returns
returns c =
    let lines = c.self.inside.lines.items in
    let new : List Line = set lines 0 c.count_line.result in
    subst (λ (before : List Line). IsBegun before c.args.round new) c.self.view_is (record {
      long = length-set lines 0 c.count_line.result;
      carries = get_or-set_same lines 0 c.count_line.result zero_line (omega (arith, c.requires, ap length c.self.view_is)) ∙ c.count_line.ensures;
      others = λ line some. get_or-set_other lines 0 line c.count_line.result zero_line (λ e. absurd (omega (arith, e, some)));
    })
