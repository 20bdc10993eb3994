-- What the program prints, and with which status.
use Rattle.std.specs.Prelude.{ℕ, Bool, true, false, List, [], ◌∷◌, codes, if◌then◌else◌}
use Rattle.std.specs.List.{list_any}
use Rattle.pb_report.specs.declared.outcome.Outcome.{Outcome}
use Rattle.pb_report.specs.declared.outcome.Outcome.TheVariants.{Gap, Changed}
use Rattle.pb_report.specs.OutcomeText.{outcomes_text}
use Rattle.pb_report.specs.Pieces.{numbered}
use Rattle.pb_report.specs.SummaryText.{summary_text}
use Rattle.pb_region_report.specs.ReportText.{report_text}
use Rattle.pb_replay.specs.AnswerText.{replay_text}
use Rattle.pb_run.specs.Run.{is_doubt}
use Rattle.pb_broker.specs.declared.status.Status.{Status}
use Rattle.pb_broker.specs.declared.status.Status.TheVariants.{Done, OutOfMemory, Usage as UsageStatus, Refused, ReadFault as ReadFaultStatus, WriteFault, DeviceFault as DeviceFaultStatus, Unusable, Misnumbered}
use Rattle.pb_broker.specs.declared.stop.Stop.{Stop}
use Rattle.pb_broker.specs.declared.stop.Stop.TheVariants.{Memory, Usage, ReadFault, Long, Many, Line, DeviceFault, Taken, NoRegion, Damaged}
use Rattle.pb_broker.specs.Ending.{Ending, Stopped, Served, Drilled, Reported, Replayed}

-- the number that the process ends with
abbrev pub status_code : Status → ℕ
status_code Done = 0
status_code OutOfMemory = 1
status_code UsageStatus = 2
status_code Refused = 3
status_code ReadFaultStatus = 4
status_code WriteFault = 5
status_code DeviceFaultStatus = 6
status_code Unusable = 7
status_code Misnumbered = 8

-- why a call stopped, as a line, and the status that goes with it
abbrev pub stop_says : Stop → List ℕ × Status
stop_says Memory = ([], OutOfMemory)
stop_says Usage = (codes "usage\n", UsageStatus)
stop_says ReadFault = (codes "read fault\n", ReadFaultStatus)
stop_says Long = (codes "long\n", Refused)
stop_says Many = (codes "many\n", Refused)
stop_says (Line number) = (numbered (codes "line") (number ∷ []), Refused)
stop_says DeviceFault = (codes "device fault\n", DeviceFaultStatus)
stop_says Taken = (codes "taken\n", Unusable)
stop_says NoRegion = (codes "none\n", Unusable)
stop_says (Damaged line) = (numbered (codes "damaged") (line ∷ []), Unusable)

-- a client left out a number, or asked for another operation under a number that is kept
abbrev pub is_misnumbered : Outcome → Bool
is_misnumbered Gap = true
is_misnumbered Changed = true
is_misnumbered _ = false

-- a fault of the device goes before a client's wrong number
abbrev pub run_status : List Outcome → Status
run_status list =
    if list_any is_doubt list then DeviceFaultStatus else (if list_any is_misnumbered list then Misnumbered else Done)

-- what a call comes to, as a text, and the status where all of it was written
abbrev pub ending_says : Ending → List ℕ × Status
ending_says (Stopped stop) = stop_says stop
ending_says (Served asks list) = (outcomes_text asks list, run_status list)
ending_says (Drilled asks list versions) = (summary_text asks list versions, run_status list)
ending_says (Reported s) = (report_text s, Done)
ending_says (Replayed answers s) = (replay_text answers s, Done)

-- the two by themselves
abbrev pub stop_text : Stop → List ℕ
stop_text stop = (stop_says stop).0

abbrev pub stop_status : Stop → Status
stop_status stop = (stop_says stop).1

abbrev pub ending_text : Ending → List ℕ
ending_text ending = (ending_says ending).0

abbrev pub ending_status : Ending → Status
ending_status ending = (ending_says ending).1
