-- The theorem of the program.
use Rattle.std.specs.Prelude.{ℕ, List}
use Rattle.pb_pmem.specs.Device.{Device}
use Rattle.pb_layout.specs.declared.header.Header.{Header}
use Rattle.pb_script.specs.Command.{command_of}
use Rattle.pb_broker.specs.declared.status.Status.{Status}
use Rattle.pb_broker.specs.Call.{Call, IsSaid}
use Rattle.pb_broker.specs.Comes.{Comes, ComesToReport, ComesToReplay, ComesToDrill}
use Rattle.pb_broker.specs.Ending.{Ending}
use Rattle.pb_broker.specs.Texts.{ending_says}
use Rattle.pb_broker.specs.Stream.{Stream}

-- The report of a device: it comes to one of the endings of a report, whose text is printed
pub record IsReported (before after : Device) (out : Stream) (status : Status) : Type 0 where
  pub ending : Ending
  pub comes : ComesToReport before after ending
  pub said : IsSaid out (ending_says ending).0 (ending_says ending).1 status

-- The replay of a source's schedule: it comes to one of the endings of a replay, whose text is printed
pub record IsPlayed (head : Header) (read out : Stream) (status : Status) : Type 0 where
  pub ending : Ending
  pub comes : ComesToReplay head read ending
  pub said : IsSaid out (ending_says ending).0 (ending_says ending).1 status

-- a drill: it comes to one of the endings of a drill, whose text is printed
pub record IsDrilled (seed clients count : ℕ) (before after : Device) (out : Stream) (status : Status) : Type 0 where
  pub ending : Ending
  pub comes : ComesToDrill seed clients count before after ending
  pub said : IsSaid out (ending_says ending).0 (ending_says ending).1 status

-- THE THEOREM. A call of the program comes to one of its command's endings, each of which has its cause, and says what is
-- left of source and device, and what a crash may leave at each moment of a run; its text is printed, and its status
-- answered, unless a write failed
pub record IsAnswered (words : List (List ℕ)) (call : Call) (out : Stream) (status : Status) : Type 0 where
  pub ending : Ending
  pub comes : Comes (command_of words) call ending
  pub said : IsSaid out (ending_says ending).0 (ending_says ending).1 status
