use Rattle.pb_play.proofs.Waiting.{loads_code}
use Rattle.pb_play.proofs.wait.load_code.Goals as goal

pub returns : goal.returns
returns c = loads_code c.args.client c.args.turn c.row-code.result c.row-code.ensures c.requires.at c.go_to.ensures.after c.go_to.ensures.says
