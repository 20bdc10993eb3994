-- Runs of memory: one move more, and what holds at their end.
use Rattle.std.proofs.Common.{◌≡◌, ℕ, zero, suc, length, subst, refl}
use Rattle.pb_core.specs.Memory.{Memory}
use Rattle.pb_core.specs.MemoryParts.{IsMemory}
use Rattle.pb_core.specs.MemoryRun.{begun, MemoryMove, MemoryRun}
use Rattle.pb_core.proofs.MemoryRuns.{begun_memory, run_keeps_memory}
use Rattle.pb_engine.specs.View.{EngineView}
use Rattle.pb_rule.specs.Rule.{HasCoreRun}

run_more : (count : ℕ) (old middle new : Memory) → MemoryRun count old middle → MemoryMove middle new → MemoryRun (suc count) old new
run_more zero old middle new same move =
    (new, subst (λ (m : Memory). MemoryMove m new) same move, refl)
run_more (suc count) old middle new (next, first, more) move =
    (next, first, run_more count next middle new more move)

-- one move more
pub moved_on : {start : EngineView} {m new : Memory} → HasCoreRun start m → MemoryMove m new → HasCoreRun start new
moved_on {start} {m} {new} run move = record {
  moves = suc run.moves;
  run = run_more run.moves (begun start.standing start.device.faults) m new run.run move;
}

-- what holds of memory at the end of a run
pub memory_of : {start : EngineView} {m : Memory} → length start.standing.kept ≡ start.standing.clients → HasCoreRun start m → IsMemory m
memory_of {start} {m} kept run =
    run_keeps_memory run.moves (begun start.standing start.device.faults) m (begun_memory start.standing start.device.faults kept) run.run
