use Rattle.pb_layout.proofs.KeptLists.{region_keeps_lists}
use Rattle.pb_layout.proofs.laws.regions_keep_lists.Goals as goal

pub returns : goal.returns
returns c = region_keeps_lists
