use Rattle.std.proofs.Common.{refl, inl, inr, ap, arith, sym, ◌∙◌}
use Rattle.pb_core.proofs.Turns.{free≢held, held≢closed}
use Rattle.pb_play.specs.Maps.{owner_of}
use Rattle.pb_play.proofs.Holding.{waits_step}
use Rattle.pb_play.proofs.Opening.{not_true}
use Rattle.pb_play.proofs.events.step_client.Goals as goal

pub returns-then-client-head-clause-plays : goal.returns-then-client-head-clause-plays
returns-then-client-head-clause-plays c = λ w is s.
    inr (refl, refl, λ may. omega (arith, c.if-client-head.true, ap (λ head. head.clients) c.head.view_is, ap (λ head. head.clients) s.memory.head, may.there))

pub returns-then-not-may_step-clause-plays : goal.returns-then-not-may_step-clause-plays
returns-then-not-may_step-clause-plays c = λ w is s. inr (refl, refl, λ may. not_true (c.may_step.ensures w s) c.if-not-may_step.true may)

pub returns-in-Free-clause-plays : goal.returns-in-Free-clause-plays
returns-in-Free-clause-plays c = λ w is s.
    inl (waits_step {old = c.args.world.now} c.args.client is s ((c.may_step.ensures w s).0 c.if-not-may_step.false) (λ side same. free≢held c.args.client side (sym (s.memory.owner ∙ ap owner_of c.in-Free.is) ∙ same)) c.wait.ensures)

pub returns-in-Held-clause-plays : goal.returns-in-Held-clause-plays
returns-in-Held-clause-plays c = λ w is s.
    inl (c.step_beside.ensures.stepped w is s ((c.may_step.ensures w s).0 c.if-not-may_step.false))

pub returns-in-Closed-clause-plays : goal.returns-in-Closed-clause-plays
returns-in-Closed-clause-plays c = λ w is s.
    inl (waits_step {old = c.args.world.now} c.args.client is s ((c.may_step.ensures w s).0 c.if-not-may_step.false) (λ side same. held≢closed c.args.client side (sym same ∙ (s.memory.owner ∙ ap owner_of c.in-Closed.is))) c.wait-in-Closed.ensures)
