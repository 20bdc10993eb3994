-- Why there is no pair.
use Rattle.std.specs.Prelude.{ℕ}
use Rattle.pb_pair.specs.declared.why.Stop.{Stop}
use Rattle.pb_pair.specs.declared.why.Stop.TheVariants.{NoMemory, Fault, WasTaken, WasEmpty, BadLine}
use Rattle.pb_pair.specs.declared.why.Why.{Why}
use Rattle.pb_pair.specs.declared.why.Why.TheVariants.{Memory, Device, Taken, NoRegion, Damaged}

-- where a call stopped, told outside it: with the device's count of faults before and after
abbrev pub why_of : ℕ → ℕ → Stop → Why
why_of from to NoMemory = Memory
why_of from to Fault = Device (record { from = from; to = to })
why_of from to WasTaken = Taken
why_of from to WasEmpty = NoRegion
why_of from to (BadLine line) = Damaged line
