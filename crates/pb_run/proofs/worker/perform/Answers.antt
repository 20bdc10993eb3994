use Rattle.pb_run.proofs.Judging.{left_in_doubt}
use Rattle.pb_run.proofs.worker.perform.Goals as goal

pub returns-in-Fault-clause-tried : goal.returns-in-Fault-clause-tried
returns-in-Fault-clause-tried g c = left_in_doubt c.args.ask.now c.args.pass.now.view c.perform.new.pass.view _ _ c.requires.asked c.in-Fault.ensures.performed
