use Rattle.std.proofs.Common.{◌∙◌}
use Rattle.pb_image.proofs.Kept.{IsKept-none}
use Rattle.pb_image.proofs.image.Image.begin.Goals as goal

pub invariant_of-result-2 : goal.invariant_of-result-2
invariant_of-result-2 c =
    IsKept-none (c.in_ok-lines.ensures.items ∙ c.deref.ensures.value) c.in_ok-log.ensures.items c.in_ok-log.ensures.capacity
