use Rattle.pb_core.proofs.Determined.{play_one}
use Rattle.pb_core.proofs.OneFresh.{fresh_one}
use Rattle.pb_core.proofs.laws.what_is_played_is_determined.Goals as goal

pub returns-clause-first : goal.returns-clause-first
returns-clause-first c = λ head first other. fresh_one

pub returns-clause-played : goal.returns-clause-played
returns-clause-played c = play_one
