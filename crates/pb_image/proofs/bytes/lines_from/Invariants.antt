use Rattle.std.proofs.Common.{◌≡◌}
use Rattle.pb_image.specs.Bytes.{lines_of_bytes}
use Rattle.pb_image.proofs.bytes.lines_from.Given as goal

abbrev pub invariant-loop-i : goal.invariant-loop-i
invariant-loop-i l = l.lines.items ≡ lines_of_bytes l.i l.bytes
