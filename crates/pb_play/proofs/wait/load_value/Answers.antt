use Rattle.pb_play.proofs.Waiting.{loads_value}
use Rattle.pb_play.proofs.wait.load_value.Goals as goal

pub returns : goal.returns
returns c = loads_value c.args.client c.args.turn c.args.code c.row-value.result c.row-value.ensures c.requires.at c.go_to.ensures.after c.go_to.ensures.says
