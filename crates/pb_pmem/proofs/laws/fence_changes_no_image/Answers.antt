use Rattle.pb_pmem.proofs.CrashLaws.{IsCrashImage-Fence}
use Rattle.pb_pmem.proofs.laws.fence_changes_no_image.Goals as goal

pub returns : goal.returns
returns c = IsCrashImage-Fence
