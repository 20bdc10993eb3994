use Rattle.pb_engine.proofs.Joining.{round_kept}
use Rattle.pb_engine.proofs.laws.requests_of_a_round_are_kept.Goals as goal

pub returns : goal.returns
returns c = round_kept
