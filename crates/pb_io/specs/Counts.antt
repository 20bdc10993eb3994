-- Counts of faults.
use Rattle.std.specs.Prelude.{ℕ, Result, Ok, Err}
use Rattle.pb_pmem.specs.Count.{raised}

-- the count of faults after a call: an error raises it by one
abbrev pub counted : {T E : Type 0} → ℕ → Result T E → ℕ
counted faults (Ok _) = faults
counted faults (Err _) = raised faults
