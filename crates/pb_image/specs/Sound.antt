-- The device in memory that never fails, as contracts see it.
use Rattle.std.specs.Prelude.{◌≡◌, List, Some, None, length}
use Rattle.pb_pmem.specs.declared.line.Line.{Line}
use Rattle.pb_pmem.specs.declared.line.TheConstants.{LINES}
use Rattle.pb_pmem.specs.Device.{Device}

-- its lines
pub record SoundView : Type 0 where
  pub lines : List Line
  pub whole : length lines ≡ LINES

-- it tells its lines and no log, and its count of faults is 0
abbrev pub sound_seen : SoundView → Device
sound_seen sound = record { told = None; now = Some sound.lines; faults = 0 }
