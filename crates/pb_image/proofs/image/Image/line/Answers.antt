use Rattle.std.proofs.Common.{arith}
use Rattle.std.proofs.lemmas.List.{get_or_read}
use Rattle.pb_pmem.specs.Lines.{zero_line}
use Rattle.pb_image.proofs.Kept.{length-lines}
use Rattle.pb_image.proofs.image.Image.line.Goals as goal

pub index-requires : goal.index-requires
index-requires c =
    let l = length-lines c.self.invariant c.self.inside.whole in
    omega (arith, c.self.inside.lines.ok.0)

pub returns : goal.returns
returns c =
    let l = length-lines c.self.invariant c.self.inside.whole in
    rw (← c.self.view_is, ← c.self.invariant.replayed) (get_or_read c.self.inside.lines.items _ _ (omega arith) c.index.ensures zero_line)
