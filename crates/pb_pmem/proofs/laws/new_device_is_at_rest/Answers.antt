use Rattle.pb_pmem.proofs.CrashLaws.{IsAtRest-none}
use Rattle.pb_pmem.proofs.laws.new_device_is_at_rest.Goals as goal

pub returns : goal.returns
returns c = IsAtRest-none
