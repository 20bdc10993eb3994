-- Runs of memory alone.
use Rattle.std.proofs.Common.{◌≡◌, ℕ, zero, suc, [], length, subst, sym, refl, arith}
use Rattle.pb_object.specs.Standing.{Standing}
use Rattle.pb_core.specs.Memory.{Memory}
use Rattle.pb_core.specs.MemoryParts.{IsMemory}
use Rattle.pb_core.specs.MemoryRun.{begun, MemoryMove, asked, stepped, called, MemoryRun}
use Rattle.pb_core.proofs.Asking.{keeps-asking}
use Rattle.pb_core.proofs.Crashes.{opened_memory}
use Rattle.pb_core.proofs.Holding.{keeps-holder}
use Rattle.pb_core.proofs.Words.{keeps-word}
use Rattle.pb_core.proofs.Worlds.{opens_memory}

-- nothing is noted yet and nobody holds the turn, so any count will do
pub begun_memory : (s : Standing) (count : ℕ) → length s.kept ≡ s.clients → IsMemory (begun s count)
begun_memory s count keeps = counted (opens_memory (opened_memory s [] [] keeps tt tt) refl)
  where
    counted : IsMemory (begun s 0) → IsMemory (begun s count)
    counted is = record {
      history = is.history;
      turn = is.turn;
      suits = is.suits;
      low = omega arith;
      cause = is.cause;
      clients = is.clients;
      rows = is.rows;
      filled = is.filled;
      scan = is.scan;
      answers_are = is.answers_are;
    }

pub keeps-memory : {old new : Memory} → IsMemory old → MemoryMove old new → IsMemory new
keeps-memory is (asked ask move) = keeps-asking is move
keeps-memory is (stepped client answer step) = keeps-word is step
keeps-memory is (called client there move) = keeps-holder is there move

pub run_keeps_memory : (count : ℕ) (old new : Memory) → IsMemory old → MemoryRun count old new → IsMemory new
run_keeps_memory zero old new is same = subst IsMemory (sym same) is
run_keeps_memory (suc count) old new is (middle, first, more) =
    run_keeps_memory count middle new (keeps-memory is first) more
