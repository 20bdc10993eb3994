use Rattle.pb_pmem.proofs.CrashLaws.{IsCrashImage-Sync}
use Rattle.pb_pmem.proofs.laws.sync_adds_no_image.Goals as goal

pub returns : goal.returns
returns c = IsCrashImage-Sync
