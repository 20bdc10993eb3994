use Rattle.std.proofs.Common.{refl, inl, inr, ap, arith}
use Rattle.pb_play.proofs.Opening.{not_true, asks_for}
use Rattle.pb_play.proofs.events.step_ask.Goals as goal

pub returns-then-ask-head-clause-plays : goal.returns-then-ask-head-clause-plays
returns-then-ask-head-clause-plays c = λ w is s.
    inr (refl, refl, λ may. omega (arith, c.if-ask-head.true, ap (λ head. head.clients) c.head.view_is, ap (λ head. head.clients) s.memory.head, may.there))

pub returns-then-not-may_ask-clause-plays : goal.returns-then-not-may_ask-clause-plays
returns-then-not-may_ask-clause-plays c = λ w is s. inr (refl, refl, λ may. not_true (c.may_ask.ensures w s) c.if-not-may_ask.true may)

pub returns-clause-plays : goal.returns-clause-plays
returns-clause-plays c = λ w is s.
    let may = (c.may_ask.ensures w s).0 c.if-not-may_ask.false in
    inl (asks_for {between = c.open.new.world} c.args.ask.now may (c.open.ensures.opened w s may.open_now) c.begin_asking.ensures)
