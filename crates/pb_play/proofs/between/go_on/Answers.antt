use Rattle.pb_core.specs.Memory as core
use Rattle.pb_play.proofs.Scanning.{works_at}
use Rattle.pb_play.proofs.Silently.{goes_nowhere}
use Rattle.pb_play.proofs.between.go_on.Goals as goal

pub returns-in-NoWork-clause-on : goal.returns-in-NoWork-clause-on
returns-in-NoWork-clause-on c = λ w client is s holds there. goes_nowhere core.NoWork s (works_at s.memory c.in-NoWork.is) tt

pub returns-in-Settling-clause-on : goal.returns-in-Settling-clause-on
returns-in-Settling-clause-on c = λ w client is s holds there. c.go_on_settling.ensures.on w client c.args.side is s holds there (works_at s.memory c.in-Settling.is)

pub returns-in-Scanning-clause-on : goal.returns-in-Scanning-clause-on
returns-in-Scanning-clause-on c = c.go_on_scanning.ensures.on

pub returns-in-Calling-clause-on : goal.returns-in-Calling-clause-on
returns-in-Calling-clause-on c = λ w client is s holds there. c.go_on_calling.ensures.on w client c.args.side is s holds there (works_at s.memory c.in-Calling.is)

pub returns-in-Filling-clause-on : goal.returns-in-Filling-clause-on
returns-in-Filling-clause-on c = λ w client is s holds there. goes_nowhere (core.Filling _) s (works_at s.memory c.in-Filling.is) tt

pub returns-in-Noting-clause-on : goal.returns-in-Noting-clause-on
returns-in-Noting-clause-on c = λ w client is s holds there. goes_nowhere (core.Noting _ _) s (works_at s.memory c.in-Noting.is) tt

pub returns-in-GivingUp-clause-on : goal.returns-in-GivingUp-clause-on
returns-in-GivingUp-clause-on c = λ w client is s holds there. goes_nowhere (core.GivingUp _ _) s (works_at s.memory c.in-GivingUp.is) tt
