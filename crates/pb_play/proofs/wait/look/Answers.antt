use Rattle.pb_play.proofs.Waiting.{looks}
use Rattle.pb_play.proofs.wait.look.Goals as goal

pub returns : goal.returns
returns c = looks c.args.client c.requires.at c.go_to.ensures.after c.go_to.ensures.says
