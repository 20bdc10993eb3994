use Rattle.std.proofs.Common.{◌≡◌, Some, length, ap, refl, ◌∙◌, arith}
use Rattle.std.proofs.lemmas.List.{with_items_is}
use Rattle.pb_pmem.specs.declared.log.LogOp.TheVariants.{Word}
use Rattle.pb_pmem.specs.Contents.{applied}
use Rattle.pb_pmem.proofs.Lines.{length-applied}
use Rattle.pb_image.proofs.sound.SoundPmem.set_word.Goals as goal

pub returns-clause-ok : goal.returns-clause-ok
returns-clause-ok c =
    let op = Word c.args.line c.args.word c.args.value in
    let old = c.args.self.now.lines in
    let done : c.apply.new.lines ≡ applied op old = c.apply.ensures ∙ ap (applied op) (c.deref_mut.ensures.value ∙ ap (λ v. v.lines) c.self.view_is) in
    let changed = ap length done ∙ length-applied op old in
    let before : length c.self.inside.lines.items ≡ length old = ap (λ v. length v.lines) c.self.view_is in
    let long : length c.apply.new.lines ≡ c.self.inside.lines.len = omega (arith, c.self.inside.lines.ok.0) in
    record { told = refl; now = ap Some (with_items_is c.self.inside.lines c.apply.new.lines long ∙ done); faults = refl }
