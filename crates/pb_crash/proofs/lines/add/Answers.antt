use Rattle.std.proofs.Common.{◌≡◌, length, ap, sym, ◌∙◌, arith}
use Rattle.std.proofs.lemmas.List.{take_at}
use Rattle.pb_pmem.specs.Contents.{applied}
use Rattle.pb_pmem.proofs.Lines.{contents-none, contents-one, length-applied}
use Rattle.pb_crash.proofs.lines.add.Goals as goal

pub returns-in-Some-clause-lines : goal.returns-in-Some-clause-lines
returns-in-Some-clause-lines c =
    let lines = c.args.lines.now.items in
    let done : c.apply.new.lines ≡ applied c.in-Some.op lines = c.apply.ensures ∙ ap (applied c.in-Some.op) c.deref_mut.ensures.value in
    let same : length c.apply.new.lines ≡ length lines = ap length done ∙ length-applied c.in-Some.op lines in
    take_at c.apply.new.lines _ _ (omega (arith, c.args.lines.now.ok.0)) ∙ (done ∙ rw c.in-Some.is (sym (contents-one lines c.in-Some.op)))

pub returns-in_default-clause-lines : goal.returns-in_default-clause-lines
returns-in_default-clause-lines c =
    rw c.in_default.is (sym (contents-none c.args.lines.now.items))
