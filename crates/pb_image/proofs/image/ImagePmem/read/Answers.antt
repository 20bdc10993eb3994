use Rattle.std.proofs.Common.{◌≡◌, false, is_some, sym, ap, ◌∙◌, arith}
use Rattle.std.proofs.lemmas.List.{get_or_read}
use Rattle.pb_pmem.specs.Contents.{contents}
use Rattle.pb_pmem.specs.Lines.{zero_line, line_at}
use Rattle.pb_image.specs.State.{failure_of_read}
use Rattle.pb_image.proofs.Kept.{length-lines}
use Rattle.pb_image.proofs.Answer.{Reads-after_read}
use Rattle.pb_image.proofs.image.ImagePmem.read.Goals as goal

pub index-requires : goal.index-requires
index-requires c =
    let l = length-lines c.self.invariant c.self.inside.whole in
    omega (arith, c.self.inside.lines.ok.0)

pub returns-clause-ok : goal.returns-clause-ok
returns-clause-ok c =
    let new = c.next_read.new.self in
    let l = length-lines c.self.invariant c.self.inside.whole in
    let read = get_or_read c.self.inside.lines.items c.args.line _ (omega arith) c.index.ensures zero_line in
    let content : c.index.result.now ≡ line_at (contents new.base new.log) c.args.line = rw (← c.self.view_is, ← c.self.invariant.replayed) read in
    let answer : is_some (failure_of_read c.args.self.now) ≡ false = sym (ap is_some c.next_read.ensures.how) ∙ (sym c.is_some.ensures ∙ c.if-is_some.false) in
    Reads-after_read c.args.line c.index.result.now c.args.self.now new answer c.next_read.ensures.after content
