-- Moves of memory one after the other, over a device of which nothing is told: each call of the holder answers somehow.
use Rattle.std.specs.Prelude.{◌≡◌, ℕ, zero, suc, ◌<◌, []}
use Rattle.pb_object.specs.declared.request.Ask.{Ask}
use Rattle.pb_object.specs.Standing.{Standing}
use Rattle.pb_events.specs.declared.event.Stepped.{Stepped}
use Rattle.pb_core.specs.HolderMoves.{HolderMove}
use Rattle.pb_core.specs.Memory.{Free, Resting, Memory, clients_of, memory_at_opening}
use Rattle.pb_core.specs.WordMoves.{Asks, IsWordStep}

-- memory over a device that is known for sure to hold this standing, and whose calls failed so often before: nothing was asked since
abbrev pub begun : Standing → ℕ → Memory
begun s count = record (memory_at_opening s [] []) { owner = Free; engine = Resting; count = count }

-- a client asks, or steps on a word; or a call of the holder answers
pub data MemoryMove (old new : Memory) : Type 0 where
  asked : (ask : Ask) → Asks old ask new → MemoryMove old new
  stepped : (client : ℕ) (answer : Stepped) → IsWordStep old client new answer → MemoryMove old new
  called : (client : ℕ) → client < clients_of old → HolderMove old client new → MemoryMove old new

-- so many of them
abbrev pub MemoryRun : ℕ → Memory → Memory → Type 0
MemoryRun zero old new = new ≡ old
MemoryRun (suc count) old new = (middle : Memory) × MemoryMove old middle × MemoryRun count middle new
