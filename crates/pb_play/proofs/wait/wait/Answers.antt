use Rattle.std.proofs.Common.{ap, sym, ◌∙◌}
use Rattle.std.proofs.lemmas.Bool.{true≢false}
use Rattle.pb_core.specs.Client.{is_idle, is_holding}
use Rattle.pb_play.proofs.Waiting.{stands_at}
use Rattle.pb_play.proofs.wait.wait.Goals as goal

pub returns-in-Idle : goal.returns-in-Idle
returns-in-Idle c = λ m s sound fits running within busy free. absurd (true≢false (sym (ap is_idle (stands_at c.args.client s within c.in-Idle.is)) ∙ busy))

pub returns-in-Holding : goal.returns-in-Holding
returns-in-Holding c = λ m s sound fits running within busy free. absurd (true≢false (sym (ap is_holding (stands_at c.args.client s within c.in-Holding.is)) ∙ free))
