use Rattle.pb_pmem.proofs.CrashLaws.{IsAtRest-Sync}
use Rattle.pb_pmem.proofs.laws.sync_brings_to_rest.Goals as goal

pub returns : goal.returns
returns c = IsAtRest-Sync
