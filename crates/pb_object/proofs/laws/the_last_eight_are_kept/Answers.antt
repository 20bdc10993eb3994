use Rattle.pb_object.proofs.KeptRequests.{keeps_the_last_eight}
use Rattle.pb_object.proofs.laws.the_last_eight_are_kept.Goals as goal

pub returns : goal.returns
returns c = keeps_the_last_eight
