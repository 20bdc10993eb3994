use Rattle.pb_pair.proofs.Reopened.{in_use_of, in_doubt_of}
use Rattle.pb_pair.proofs.laws.records_are_held.Goals as goal

pub returns-clause-in_use : goal.returns-clause-in_use
returns-clause-in_use c = in_use_of

pub returns-clause-in_doubt : goal.returns-clause-in_doubt
returns-clause-in_doubt c = in_doubt_of
