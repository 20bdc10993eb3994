-- The device in memory as contracts see it, and what its calls do.
use Rattle.std.specs.Prelude.{◌≡◌, ℕ, Bool, true, ◌&&◌, ◌+◌, nat_lt, nat_le, List, [], ◌++◌, length, Option, Some, option_to_list, if◌then◌else◌, IsTrue, ◌≤◌}
use Rattle.std.specs.List.{list_all}
use Rattle.pb_pmem.specs.declared.line.Line.{Line}
use Rattle.pb_pmem.specs.declared.line.TheConstants.{LINES}
use Rattle.pb_pmem.specs.declared.log.LogOp.{LogOp}
use Rattle.pb_pmem.specs.Contents.{contents}
use Rattle.pb_pmem.specs.Device.{Device}
use Rattle.pb_crash.specs.declared.leaves.Leaves.{Leaves}
use Rattle.pb_crash.specs.declared.leaves.Leaves.TheVariants.{Left}
use Rattle.pb_crash.specs.Leaves.{left_by}
use Rattle.pb_crash.specs.Within.{is_within}
use Rattle.pb_image.specs.declared.calls.Calls.{Calls}
use Rattle.pb_image.specs.declared.calls.TheConstants.{NO_CALLS}
use Rattle.pb_image.specs.declared.fail.Call.{Call}
use Rattle.pb_image.specs.declared.fail.Call.TheVariants.{Read}
use Rattle.pb_image.specs.declared.fail.Fail.{Fail}
use Rattle.pb_image.specs.Fails.{counted, failure, added_by, faults_after}

-- the lines that it began with, the operations since then, how many it has room for,
-- which calls are to fail, how many were made since that was said, and how often it failed
pub record ImageView : Type 0 where
  pub base : List Line
  pub log : List LogOp
  pub room : ℕ
  pub fails : List Fail
  pub calls : Calls
  pub faults : ℕ
  pub whole : length base ≡ LINES

-- a device in memory tells everything
abbrev pub seen_of : ImageView → Device
seen_of image = record {
  told = Some (record { base = image.base; log = image.log });
  now = Some (contents image.base image.log);
  faults = image.faults;
}

-- how the next read fails, where it does
abbrev pub failure_of_read : ImageView → Option Leaves
failure_of_read image = failure Read image.calls image.fails

-- how the next call of this kind fails, where it does, if it is one that adds an operation: a full log comes before the list
abbrev pub failure_of : Call → ImageView → Option Leaves
failure_of call image =
    if nat_le image.room (length image.log) then Some Left else failure call image.calls image.fails

-- the device after a read
abbrev pub after_read : ImageView → ImageView
after_read image = record image {
  calls = counted Read image.calls;
  faults = faults_after (failure_of_read image) image.faults;
}

-- the device after a call of this kind that adds an operation
abbrev pub after_device_call : Call → LogOp → ImageView → ImageView
after_device_call call op image = record image {
  log = image.log ++ option_to_list (added_by op (failure_of call image));
  calls = counted call image.calls;
  faults = faults_after (failure_of call image) image.faults;
}

-- what holds of the parts of a device in memory
pub record AreImageParts (base lines : List Line) (log : List LogOp) (room capacity : ℕ) : Type 0 where
  pub replayed : lines ≡ contents base log
  pub within : IsTrue (list_all is_within log)
  pub fits : length log ≤ room
  pub has_room : room ≤ capacity

-- a device that begins with these lines: the log is empty and nothing is to fail
pub record IsNew (start : List Line) (size : ℕ) (image : ImageView) : Type 0 where
  pub base : image.base ≡ start
  pub log : image.log ≡ []
  pub room : image.room ≡ size
  pub fails : image.fails ≡ []
  pub calls : image.calls ≡ NO_CALLS
  pub faults : image.faults ≡ 0

-- a failing call of the first operation may leave the second
abbrev pub IsLeftBy : LogOp → LogOp → Type 0
IsLeftBy op left = (how : Leaves) × (left_by how op ≡ Some left)
