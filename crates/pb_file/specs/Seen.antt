-- What contracts see of a device over a file.
use Rattle.std.specs.Prelude.{◌≡◌, ℕ, None, Result, MatchResult}
use Rattle.pb_pmem.specs.Count.{raised}
use Rattle.pb_pmem.specs.Device.{Device}
use Rattle.pb_file.specs.declared.file_dev.FileDev.{FileDev}
use Rattle.pb_file.specs.declared.store.Store.{Store}

-- how often the device failed
abbrev pub file_faults : {R F D : Type 0} → FileDev R F D → ℕ
file_faults device = device.faults

-- the lines of the device that are held back, and its file
abbrev pub file_store : {R F D : Type 0} → FileDev R F D → Store R F D
file_store device = device.store

-- a device that tells its count of faults alone
abbrev pub untold : ℕ → Device
untold faults = record { told = None; now = None; faults = faults }

-- the device as contracts see it
abbrev pub file_seen : {R F D : Type 0} → FileDev R F D → Device
file_seen device = untold (file_faults device)

-- an error counts as one fault more, and Ok as none
abbrev pub CountsOnce : {T E : Type 0} → ℕ → ℕ → Result T E → Type 0
CountsOnce before now result = MatchResult result (λ _. now ≡ before) (λ _. now ≡ raised before)
