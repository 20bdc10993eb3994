use Rattle.std.proofs.Common.{◌∷◌, [], ◌++◌, add-one, ap, ◌∙◌}
use Rattle.pb_image.specs.Bytes.{lines_of_bytes}
use Rattle.pb_image.proofs.bytes.lines_from.Goals as goal

pub loop-i-init : goal.loop-i-init
unfolding lines_of_bytes
loop-i-init c = c.in_ok-lines.ensures.items

pub loop-i-preserved : goal.loop-i-preserved
unfolding lines_of_bytes
loop-i-preserved c =
    rw add-one (c.in_ok-push.ensures.items ∙ (ap (λ l. l ++ c.line_at.result ∷ []) c.loop-i.invariant ∙ ap (λ l. lines_of_bytes c.loop-i.i c.args.bytes.now ++ l ∷ []) c.line_at.ensures))
