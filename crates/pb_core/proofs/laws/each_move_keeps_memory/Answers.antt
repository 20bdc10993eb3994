use Rattle.pb_core.proofs.MemoryRuns.{run_keeps_memory}
use Rattle.pb_core.proofs.laws.each_move_keeps_memory.Goals as goal

pub returns : goal.returns
returns c = run_keeps_memory
