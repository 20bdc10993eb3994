use Rattle.std.proofs.Common.{refl, inl, inr, ap, sym, ◌∙◌}
use Rattle.pb_core.proofs.Turns.{free≢held, held≢closed}
use Rattle.pb_play.specs.Maps.{owner_of}
use Rattle.pb_play.proofs.Opening.{not_true}
use Rattle.pb_play.proofs.events.step_fail.Goals as goal

pub returns-then-not-may_fail-clause-plays : goal.returns-then-not-may_fail-clause-plays
returns-then-not-may_fail-clause-plays c = λ w is s. inr (refl, refl, λ may. not_true (c.may_fail.ensures w is s) c.if-not-may_fail.true may)

pub returns-in-Free-clause-plays : goal.returns-in-Free-clause-plays
returns-in-Free-clause-plays c = λ w is s.
    let may = (c.may_fail.ensures w is s).0 c.if-not-may_fail.false in
    absurd (free≢held c.args.client may.side (sym (s.memory.owner ∙ ap owner_of c.in-Free.is) ∙ may.holds))

pub returns-in-Held-clause-plays : goal.returns-in-Held-clause-plays
returns-in-Held-clause-plays c = λ w is s. inl (c.fail_next.ensures.stepped w is s ((c.may_fail.ensures w is s).0 c.if-not-may_fail.false))

pub returns-in-Closed-clause-plays : goal.returns-in-Closed-clause-plays
returns-in-Closed-clause-plays c = λ w is s.
    let may = (c.may_fail.ensures w is s).0 c.if-not-may_fail.false in
    absurd (held≢closed c.args.client may.side (sym may.holds ∙ (s.memory.owner ∙ ap owner_of c.in-Closed.is)))
