use Rattle.std.proofs.Common.{subst}
use Rattle.pb_core.specs.Play.{IsCalling}
use Rattle.pb_play.proofs.Scanning.{works_at}
use Rattle.pb_play.proofs.between.fail.Goals as goal

pub returns-in-NoWork-clause-moved : goal.returns-in-NoWork-clause-moved
returns-in-NoWork-clause-moved c = λ w is s there due. absurd (subst IsCalling (works_at s.memory c.in-NoWork.is) due.calling)

pub returns-in-Settling-clause-moved : goal.returns-in-Settling-clause-moved
returns-in-Settling-clause-moved c = λ w is s there due. c.fail_settling.ensures.moved w is s there due.callable

pub returns-in-Scanning-clause-moved : goal.returns-in-Scanning-clause-moved
returns-in-Scanning-clause-moved c = λ w is s there due. absurd (subst IsCalling (works_at s.memory c.in-Scanning.is) due.calling)

pub returns-in-Calling-clause-moved : goal.returns-in-Calling-clause-moved
returns-in-Calling-clause-moved c = λ w is s there due. c.fail_calling.ensures.moved w is s there due.callable

pub returns-in-Filling-clause-moved : goal.returns-in-Filling-clause-moved
returns-in-Filling-clause-moved c = λ w is s there due. absurd (subst IsCalling (works_at s.memory c.in-Filling.is) due.calling)

pub returns-in-Noting-clause-moved : goal.returns-in-Noting-clause-moved
returns-in-Noting-clause-moved c = λ w is s there due. absurd (subst IsCalling (works_at s.memory c.in-Noting.is) due.calling)

pub returns-in-GivingUp-clause-moved : goal.returns-in-GivingUp-clause-moved
returns-in-GivingUp-clause-moved c = λ w is s there due. absurd (subst IsCalling (works_at s.memory c.in-GivingUp.is) due.calling)
