use Rattle.pb_core.proofs.Plays.{run_of}
use Rattle.pb_core.proofs.laws.what_is_played_is_a_run.Goals as goal

pub returns : goal.returns
returns c = run_of
