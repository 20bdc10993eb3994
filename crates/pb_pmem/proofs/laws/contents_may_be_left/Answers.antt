use Rattle.std.proofs.Common.{take}
use Rattle.pb_pmem.proofs.CrashLaws.{IsCrashImage-contents}
use Rattle.pb_pmem.proofs.laws.contents_may_be_left.Goals as goal

pub returns : goal.returns
returns c = λ base log moment. IsCrashImage-contents base (take moment log)
