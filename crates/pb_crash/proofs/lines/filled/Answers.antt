use Rattle.std.proofs.Common.{refl}
use Rattle.pb_pmem.proofs.Lines.{same_line}
use Rattle.pb_crash.proofs.lines.filled.Goals as goal

pub returns : goal.returns
returns c = same_line _ _ refl
