-- What a call of the program comes to.
use Rattle.std.specs.Prelude.{ℕ, List}
use Rattle.pb_events.specs.declared.event.Stepped.{Stepped}
use Rattle.pb_object.specs.declared.request.Ask.{Ask}
use Rattle.pb_object.specs.Standing.{Standing}
use Rattle.pb_report.specs.declared.outcome.Outcome.{Outcome}
use Rattle.pb_broker.specs.declared.stop.Stop.{Stop}

-- it stopped before its work was done; or requests were run, with these outcomes; or a drill's were, and the versions at the end have
-- this sum; or a standing was reported; or a schedule was replayed, with these answers, and this standing was left
pub data Ending : Type 0 where
  Stopped : Stop → Ending
  Served : List Ask → List Outcome → Ending
  Drilled : List Ask → List Outcome → ℕ → Ending
  Reported : Standing → Ending
  Replayed : List Stepped → Standing → Ending
