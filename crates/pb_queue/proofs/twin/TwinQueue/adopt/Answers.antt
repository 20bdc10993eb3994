use Rattle.std.proofs.Common.{List, [], ap, sym, subst, length, ◌∙◌}
use Rattle.std.proofs.lemmas.List.{length-replicate}
use Rattle.pb_pmem.specs.Lines.{zero_line}
use Rattle.pb_layout.specs.Header.{record_length}
use Rattle.pb_pair.specs.View.{PairView}
use Rattle.pb_object.specs.declared.request.Ask.{Ask}
use Rattle.pb_engine.specs.Opening.{IsAdopted}
use Rattle.pb_queue.specs.View.{twin_view, IsTwin}
use Rattle.pb_queue.proofs.Opening.{adopted_twin, adopted_is}
use Rattle.pb_queue.proofs.twin.TwinQueue.adopt.Goals as goal

pub invariant_of-result : goal.invariant_of-result
invariant_of-result g c =
    let same = c.in-Ok.ensures.same in
    let head = c.header.ensures.head ∙ ap (λ (p : PairView). p.head) same in
    let long = ap length c.in-Ok-fresh.ensures ∙ (length-replicate c.record_len.result zero_line ∙ (c.record_len.ensures.length ∙ ap record_length head)) in
    subst (IsTwin c.recover.new.pair c.in-Ok.items c.in-Ok-fresh.next) (sym c.new.ensures)
    (subst (λ (p : PairView). IsTwin p c.in-Ok.items c.in-Ok-fresh.next []) (sym same)
    (adopted_twin c.args.pair c.in-Ok.items c.in-Ok-fresh.next c.requires.opened c.requires.kind c.in-Ok.ensures.ok long))

pub returns-clause-ok : goal.returns-clause-ok
returns-clause-ok g c =
    let same = c.in-Ok.ensures.same in
    subst (λ (asked : List Ask). IsAdopted c.args.pair.device (twin_view c.recover.new.pair c.in-Ok.items asked)) (sym c.new.ensures)
    (subst (λ (p : PairView). IsAdopted c.args.pair.device (twin_view p c.in-Ok.items [])) (sym same)
    (adopted_is c.args.pair c.in-Ok.items c.requires.opened c.requires.kind c.in-Ok.ensures.ok))
