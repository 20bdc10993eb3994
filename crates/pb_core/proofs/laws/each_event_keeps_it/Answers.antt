use Rattle.pb_core.proofs.Worlds.{keeps-event}
use Rattle.pb_core.proofs.laws.each_event_keeps_it.Goals as goal

pub returns : goal.returns
returns c = keeps-event
