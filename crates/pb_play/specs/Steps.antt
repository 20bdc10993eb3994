-- What a step of a client on a word makes of the code's memory.
use Rattle.std.specs.Prelude.{false, ◌≡◌, ℕ, ◌+◌, ◌<◌, ◌≤◌, length}
use Rattle.pb_object.specs.Standing.{rounds_of, side_count}
use Rattle.pb_pmem.specs.Count.{last_count}
use Rattle.pb_events.specs.declared.event.Stepped.{Stepped}
use Rattle.pb_core.specs.Client.{is_idle, is_holding}
use Rattle.pb_core.specs.Memory.{Memory, clients_of, shown, with_round_ahead}
use Rattle.pb_core.specs.MemoryParts.{IsMemory}
use Rattle.pb_core.specs.WordMoves.{IsNotReopening, IsWordStep}
use Rattle.pb_play.specs.declared.memory.Memory.{Memory as CodeMemory}
use Rattle.pb_play.specs.declared.work.Owner.TheVariants.{Held}
use Rattle.pb_play.specs.Shown.{ShowsMemory}

-- its counts fit their words, with one more round
pub record FitsWords (m : Memory) : Type 0 where
  pub turn : m.turn + 1 ≤ last_count
  pub sides : length (shown m).rounds ≡ side_count (shown m).kind
  pub rounds : (side : ℕ) → rounds_of (with_round_ahead m.ahead (shown m)) side ≤ last_count

-- the code shows what a step on a word makes of what it showed
pub record StepsTo (old : Memory) (client : ℕ) (new : CodeMemory) (answer : Stepped) : Type 0 where
  pub next : Memory
  pub step : IsWordStep old client next answer
  pub shows : ShowsMemory new next

-- a client made a step on a word
abbrev pub MakesWordStep : CodeMemory → ℕ → CodeMemory → Stepped → Type 0
MakesWordStep old client new answer =
    (m : Memory) → ShowsMemory old m → IsMemory m → FitsWords m → IsNotReopening m.owner → client < clients_of m → StepsTo m client new answer

-- so did the holder of the turn, for requests of a side
abbrev pub StepsHeld : CodeMemory → ℕ → CodeMemory → Stepped → Type 0
StepsHeld old side new answer = (client : ℕ) → old.owner ≡ Held client side → MakesWordStep old client new answer

-- so did one that isn't idle and doesn't hold the turn
abbrev pub StepsWaiting : CodeMemory → ℕ → CodeMemory → Stepped → Type 0
StepsWaiting old client new answer =
    (m : Memory) → ShowsMemory old m → IsMemory m → FitsWords m → IsNotReopening m.owner → client < clients_of m
    → is_idle (m.book client).stage ≡ false → is_holding (m.book client).stage ≡ false → StepsTo m client new answer
