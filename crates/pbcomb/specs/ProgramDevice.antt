-- What contracts see of the program's device, and a device's laws for it.
use Rattle.std.specs.Prelude.{refl}
use Rattle.std.proofs.Common.{◌∙◌}
use Rattle.pb_pmem.specs.Device.{Device, IsWhole, IsReplay}
use Rattle.pb_pmem.proofs.Lines.{length-contents}
use Rattle.pb_image.specs.State.{seen_of}
use Rattle.pb_file.specs.Seen.{file_seen}
use Rattle.pbcomb.specs.declared.device.ProgramDevice.{ProgramDevice}
use Rattle.pbcomb.specs.declared.device.ProgramDevice.TheVariants.{Trial, File}

-- a trial device tells everything, and a file its count of faults alone
abbrev pub program_seen : {R F D : Type 0} → ProgramDevice R F D → Device
program_seen (Trial image) = seen_of image
program_seen (File file) = file_seen file

-- the lines that it tells are all its lines
pub program_is_whole : {R F D : Type 0} → (device : ProgramDevice R F D) → IsWhole (program_seen device)
program_is_whole (Trial image) = length-contents image.base image.log ∙ image.whole
program_is_whole (File file) = tt

-- where it tells its log, its lines are the base with the log applied
pub program_is_replay : {R F D : Type 0} → (device : ProgramDevice R F D) → IsReplay (program_seen device)
program_is_replay (Trial image) = refl
program_is_replay (File file) = tt
