use Rattle.pb_replay.proofs.Explaining.{explained}
use Rattle.pb_replay.proofs.laws.what_is_printed_is_explained.Goals as goal

pub returns : goal.returns
returns c = explained
