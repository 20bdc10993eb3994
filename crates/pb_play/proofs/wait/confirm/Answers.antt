use Rattle.std.proofs.Common.{refl}
use Rattle.pb_play.proofs.Storing.{confirms}
use Rattle.pb_play.proofs.Waiting.{finds_new, same_round}
use Rattle.pb_play.proofs.wait.confirm.Goals as goal

pub returns-then-is_past : goal.returns-then-is_past
returns-then-is_past c = finds_new c.args.client c.args.turn c.args.reply c.requires.at (c.is_past.ensures.0 c.if-is_past.true) c.try_again.ensures.after c.try_again.ensures.says

pub returns : goal.returns
returns c = confirms c.args.client c.args.turn c.args.reply c.requires.at (same_round c.is_past.ensures c.if-is_past.false) c.answer.ensures refl
