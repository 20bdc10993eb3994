use Rattle.std.proofs.Common.{replicate, ap, ◌∙◌}
use Rattle.std.proofs.lemmas.Result.{IfOk-weaker}
use Rattle.pb_pmem.specs.declared.line.TheConstants.{LINES}
use Rattle.pb_image.proofs.lines.zero_lines.Goals as goal

pub returns : goal.returns
returns c =
    IfOk-weaker c.vec.result _ _ (λ lines same. same (λ y e. e) ∙ ap (λ l. replicate LINES l) c.filled.ensures) c.vec.ensures.items_if_clones_equal
