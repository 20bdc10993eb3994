use Rattle.std.proofs.Common.{refl, inl, inr}
use Rattle.pb_play.proofs.Opening.{not_true}
use Rattle.pb_play.proofs.events.step_reopen.Goals as goal

pub returns-then-not-is_reopening-clause-plays : goal.returns-then-not-is_reopening-clause-plays
returns-then-not-is_reopening-clause-plays c = λ w is s. inr (refl, refl, λ may. not_true (c.is_reopening.ensures w s) c.if-not-is_reopening.true may)

pub returns-clause-plays : goal.returns-clause-plays
returns-clause-plays c = λ w is s. inl (c.reopen.ensures.stepped w is s ((c.is_reopening.ensures w s).0 c.if-not-is_reopening.false))
