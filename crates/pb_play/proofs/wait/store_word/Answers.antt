use Rattle.pb_play.proofs.Storing.{stores_word, announces_number}
use Rattle.pb_play.proofs.wait.store_word.Goals as goal

pub returns-then-count-lt4 : goal.returns-then-count-lt4
returns-then-count-lt4 c = stores_word c.args.client c.args.count c.requires.at c.if-count-lt4.true c.store_operation.ensures.after c.store_operation.ensures.says

pub returns-else-count-lt4 : goal.returns-else-count-lt4
returns-else-count-lt4 c = announces_number c.args.client c.args.count c.requires.at c.if-count-lt4.false c.announce.ensures.after c.announce.ensures.says
