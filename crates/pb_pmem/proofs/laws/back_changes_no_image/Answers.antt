use Rattle.pb_pmem.proofs.CrashLaws.{IsCrashImage-Back}
use Rattle.pb_pmem.proofs.laws.back_changes_no_image.Goals as goal

pub returns : goal.returns
returns c = IsCrashImage-Back
