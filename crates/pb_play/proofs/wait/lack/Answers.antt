use Rattle.pb_play.proofs.Waiting.{finds_held}
use Rattle.pb_play.proofs.wait.lack.Goals as goal

pub returns : goal.returns
returns c = finds_held c.args.client c.args.turn c.args.found c.requires.at c.try_again.ensures.after c.try_again.ensures.says
