use Rattle.pb_object.proofs.LawLemmas.{RemoveMinsRise-from_action}
use Rattle.pb_object.proofs.laws.removemins_rise.Goals as goal

pub returns : goal.returns
returns c = RemoveMinsRise-from_action _ _ _ c.requires
