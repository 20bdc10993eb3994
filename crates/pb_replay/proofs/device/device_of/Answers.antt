use Rattle.std.proofs.Common.{rules, ◌∙◌, length, sym, ap, arith}
use Rattle.std.proofs.lemmas.List.{ext_get_or}
use Rattle.pb_pmem.specs.Contents.{contents}
use Rattle.pb_pmem.specs.Lines.{zero_line}
use Rattle.pb_replay.proofs.device.device_of.Goals as goal

pub returns : goal.returns
returns c w shows =
    ext_get_or zero_line c.loop-line.device.lines (contents w.tale.base w.tale.log)
    (c.loop-line.device.whole ∙ sym (ap length shows.device.lines ∙ c.requires.built.device.lines))
    (λ place inside. c.loop-line.invariant w shows place (grind (arith, rules, inside, c.loop-line.device.whole)))
