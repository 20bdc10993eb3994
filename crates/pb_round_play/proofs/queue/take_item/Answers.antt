use Rattle.std.proofs.Common.{ap, sym, ◌∙◌, arith, get_or}
use Rattle.pb_pmem.specs.declared.line.Line.{Line}
use Rattle.pb_pmem.specs.Lines.{line_at}
use Rattle.pb_layout.specs.Header.{word}
use Rattle.pb_pair.proofs.Changes.{line_found}
use Rattle.pb_round_play.proofs.Queues.{take}
use Rattle.pb_round_play.proofs.queue.take_item.Goals as goal

pub returns : goal.returns
returns c = record {
  taken = λ start queue first plan s.
      let here = c.index-lines-cell_of.result in
      let found = ap (λ (l : Line). word l 1) (sym c.index-lines-cell_of.is ∙ (sym (line_found c.args.lines.now c.cell_of.result here (omega (arith, c.cell_of.ensures.inside, c.requires.whole)) c.index-lines-cell_of.is) ∙ ap (line_at c.args.lines.now) c.cell_of.ensures.is)) in
      let did = take {plan = plan} (word (get_or c.args.lines.now c.cell_of.result here) 1) s c.if-position-ends.false found in
      (c.new-2.ensures ∙ did.0, did.1);
}
