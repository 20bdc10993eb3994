use Rattle.std.proofs.Common.{length, ap, ◌∙◌}
use Rattle.pb_pmem.specs.declared.line.TheConstants.{LINES}
use Rattle.pb_image.proofs.Begun.{length-lines_of_bytes}
use Rattle.pb_image.proofs.image.Image.from_bytes.Goals as goal

pub begin-requires : goal.begin-requires
begin-requires c = ap length c.in_ok-lines_from.ensures ∙ length-lines_of_bytes LINES c.args.bytes.now
