use Rattle.pb_layout_laws.proofs.Calls.{calls-append_sealed}
use Rattle.pb_layout_laws.proofs.laws.calls.calls_compose_after_sealed_rounds.Goals as goal

pub returns : goal.returns
returns c = λ base log ops more s first second between members. calls-append_sealed
