-- A call of the program: what it reads, its device, and what it writes.
use Rattle.std.specs.Prelude.{◌≡◌, ◌⊎◌, ℕ, List}
use Rattle.std.specs.Io.KnownBytes.{Appends}
use Rattle.pb_pmem.specs.Count.{Rose}
use Rattle.pb_pmem.specs.Device.{Device}
use Rattle.pb_io.specs.SinkBytes.{AppendsSome}
use Rattle.pb_broker.specs.declared.status.Status.{Status}
use Rattle.pb_broker.specs.declared.status.Status.TheVariants.{WriteFault}
use Rattle.pb_broker.specs.Stream.{Stream, IsSound}

-- its source, and its device before it and after it
pub record Call : Type 0 where
  pub read : Stream
  pub before : Device
  pub after : Device

-- the device is as it was
abbrev pub IsSameDevice : Call → Type 0
IsSameDevice call = call.after ≡ call.before

-- the whole text was written, and the status is the one that goes with it
pub record Says (out : Stream) (text : List ℕ) (wanted status : Status) : Type 0 where
  pub written : Appends out.before out.after text
  pub is : status ≡ wanted
  pub sound : IsSound out

-- a write failed: some of the first bytes of the text left
pub record SaysSome (out : Stream) (text : List ℕ) (status : Status) : Type 0 where
  pub written : AppendsSome out.before out.after text
  pub is : status ≡ WriteFault
  pub rose : Rose out.faults_before out.faults

-- one of these
abbrev pub IsSaid : Stream → List ℕ → Status → Status → Type 0
IsSaid out text wanted status = Says out text wanted status ⊎ SaysSome out text status
