use Rattle.pb_play.proofs.Waiting.{loads_extra}
use Rattle.pb_play.proofs.wait.load_extra.Goals as goal

pub returns : goal.returns
returns c = loads_extra c.args.client c.args.turn c.args.code c.args.value c.row-extra.result c.row-extra.ensures c.requires.at c.go_to.ensures.after c.go_to.ensures.says
