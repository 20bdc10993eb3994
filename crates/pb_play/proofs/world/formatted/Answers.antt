use Rattle.std.proofs.Common.{rules, ◌∙◌, ap, arith}
use Rattle.std.proofs.Common.{◌∷◌, replicate}
use Rattle.pb_pmem.specs.declared.line.Line.{Line}
use Rattle.pb_pmem.specs.Lines.{zero_line}
use Rattle.pb_play.proofs.Formatted.{set_first}
use Rattle.pb_play.proofs.world.formatted.Goals as goal

-- src/world.rt:86:1
pub returns : goal.returns
returns c =
    set_first 2047 c.in_ok-lines.lines.items c.filled.result c.header_line.result (grind (arith, rules)) c.filled.ensures
    ∙ ap (λ (l : Line). l ∷ replicate 2047 zero_line) c.header_line.ensures.line
