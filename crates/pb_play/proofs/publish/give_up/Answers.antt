use Rattle.std.proofs.Common.{refl}
use Rattle.pb_play.proofs.Publishing.{leaves_turn}
use Rattle.pb_play.proofs.publish.give_up.Goals as goal

pub returns : goal.returns
returns c = leaves_turn c.args.client c.args.side c.args.from c.args.to c.requires.holds c.requires.at c.leave.ensures refl
