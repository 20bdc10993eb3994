use Rattle.pb_object.proofs.KeptLists.{newest_first}
use Rattle.pb_object.proofs.laws.the_newest_is_first.Goals as goal

pub returns : goal.returns
returns c = newest_first
