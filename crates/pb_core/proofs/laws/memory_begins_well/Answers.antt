use Rattle.pb_core.proofs.MemoryRuns.{begun_memory}
use Rattle.pb_core.proofs.laws.memory_begins_well.Goals as goal

pub returns : goal.returns
returns c = begun_memory
