use Rattle.pb_object.proofs.LawLemmas.{PopUndoesPush-from_actions}
use Rattle.pb_object.proofs.laws.pop_undoes_push.Goals as goal

pub returns : goal.returns
returns c = PopUndoesPush-from_actions _ _ _ _ c.requires.push c.requires.pop c.requires.room
