use Rattle.pb_broker.proofs.LastPut.{get_answers}
use Rattle.pb_broker.proofs.laws.get_answers_the_last_put.Goals as goal

pub returns : goal.returns
returns c = get_answers _ _ _ _ c.requires.put c.requires.get c.requires.same c.requires.present c.requires.unworn c.requires.others
