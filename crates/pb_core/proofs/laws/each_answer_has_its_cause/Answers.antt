use Rattle.pb_core.proofs.Causes.{caused-event, to_asker-event, noted-event}
use Rattle.pb_core.proofs.laws.each_answer_has_its_cause.Goals as goal

pub returns-clause-asked : goal.returns-clause-asked
returns-clause-asked c = to_asker-event

pub returns-clause-caused : goal.returns-clause-caused
returns-clause-caused c = caused-event

pub returns-clause-noted : goal.returns-clause-noted
returns-clause-noted c = noted-event
