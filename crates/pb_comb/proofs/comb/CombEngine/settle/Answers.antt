-- The pair is settled, and the copies of the object agree again.
use Rattle.std.proofs.Common.{refl, ap, subst, ◌∙◌}
use Rattle.std.proofs.lemmas.Result.{err_from_is_err_and}
use Rattle.pb_engine.specs.Covers.{SettleCovers, FailedSettleCovers}
use Rattle.pb_engine.specs.Outcomes.{HasSettled, HasFailedToSettle}
use Rattle.pb_engine.specs.View.{EngineView, IsEngine}
use Rattle.pb_comb.specs.View.{comb_view}
use Rattle.pb_comb.proofs.Settling.{IsUnsettled, settled_both, settled_safely, same_size, unsettled_comb, failed_to_settle, unsettled_safely, same_answer}
use Rattle.pb_comb.proofs.Sound.{engine_of}
use Rattle.pb_engine.proofs.SameKind.{of_kind_before}
use Rattle.pb_comb.proofs.comb.CombEngine.settle.Goals as goal
use Rattle.pb_pair.specs.Settle.{was_called}

pub invariant_of-self : goal.invariant_of-self
invariant_of-self g c =
    let i = c.self.inside in
    unsettled_comb g.O.Object.KIND i.pair c.settle.new.self (g.O.Object.state i.object) (g.O.Object.state i.ahead) i.next i.asked.items c.in_err-recorded.field-0.0 c.self.invariant c.in_err-recorded.ensures.err

pub returns-in_err-recorded-clause-err : goal.returns-in_err-recorded-clause-err
returns-in_err-recorded-clause-err g c =
    let i = c.self.inside in
    let p = err_from_is_err_and c.from_residual.result c.from_residual.ensures.1 in
    let new = comb_view c.settle.new.self (g.O.Object.state i.object) i.asked.items in
    let fault = c.in_err-recorded.field-0.0 in
    rw (p.1, p.2) (subst (λ (e : EngineView). HasFailedToSettle fault e new) c.self.view_is
    (failed_to_settle g.O.Object.KIND i.pair c.settle.new.self (g.O.Object.state i.object) (g.O.Object.state i.ahead) i.next i.asked.items fault c.self.invariant c.in_err-recorded.ensures.err))

pub returns-in_err-recorded-clause-fails_safe : goal.returns-in_err-recorded-clause-fails_safe
returns-in_err-recorded-clause-fails_safe g c =
    let i = c.self.inside in
    let p = err_from_is_err_and c.from_residual.result c.from_residual.ensures.1 in
    let new = comb_view c.settle.new.self (g.O.Object.state i.object) i.asked.items in
    rw (p.1) (subst (λ (e : EngineView). FailedSettleCovers e new) c.self.view_is
    (unsettled_safely g.O.Object.KIND i.pair c.settle.new.self (g.O.Object.state i.object) (g.O.Object.state i.ahead) i.next i.asked.items c.self.invariant c.in_err-recorded.ensures.fails_safe))

pub returns-in_err-recorded-clause-sound : goal.returns-in_err-recorded-clause-sound
returns-in_err-recorded-clause-sound g c =
    let i = c.self.inside in
    of_kind_before g.O.Object.KIND c.args.self.now _ (subst (IsEngine g.O.Object.KIND) c.self.view_is (engine_of g.O.Object.KIND i.pair (g.O.Object.state i.object) (g.O.Object.state i.ahead) i.next i.asked.items c.self.invariant))
    (engine_of g.O.Object.KIND c.settle.new.self (g.O.Object.state i.object) (g.O.Object.state i.ahead) i.next i.asked.items
    (unsettled_comb g.O.Object.KIND i.pair c.settle.new.self (g.O.Object.state i.object) (g.O.Object.state i.ahead) i.next i.asked.items c.in_err-recorded.field-0.0 c.self.invariant c.in_err-recorded.ensures.err))

pub agree-requires : goal.agree-requires
agree-requires g c =
    let i = c.self.inside in
    same_size g.O.Object.KIND i.pair (g.O.Object.state i.object) (g.O.Object.state i.ahead) i.next i.asked.items c.self.invariant

pub invariant_of-self-2 : goal.invariant_of-self-2
invariant_of-self-2 g c =
    let i = c.self.inside in
    let unsettled : IsUnsettled g.O.Object.KIND i.pair (g.O.Object.state i.object) (g.O.Object.state i.ahead) i.next i.asked.items = record { is = c.self.invariant; unsure = ap (λ (e : EngineView). e.sure) c.self.view_is ∙ c.requires } in
    (settled_both g.O.Object.KIND i.pair c.settle.new.self (g.O.Object.state i.object) (g.O.Object.state i.ahead) (g.O.Object.state c.agree.new.object) (g.O.Object.state c.agree.new.ahead) i.next i.asked.items c.clear.new.self.items c.follow.new.self c.in_ok-recorded.recorded (same_answer c.in_ok-recorded.recorded (was_called i.pair.doubt) c.in_ok-recorded.ensures.answer) unsettled c.in_ok-recorded.ensures.ok (c.follow.ensures ∙ c.lines_of.ensures) c.agree.ensures.object c.agree.ensures.ahead c.clear.ensures).0

pub returns-clause-ok : goal.returns-clause-ok
returns-clause-ok g c =
    let i = c.self.inside in
    let unsettled : IsUnsettled g.O.Object.KIND i.pair (g.O.Object.state i.object) (g.O.Object.state i.ahead) i.next i.asked.items = record { is = c.self.invariant; unsure = ap (λ (e : EngineView). e.sure) c.self.view_is ∙ c.requires } in
    let new = comb_view c.settle.new.self (g.O.Object.state c.agree.new.object) c.clear.new.self.items in
    subst (λ (e : EngineView). HasSettled e new) c.self.view_is
    (settled_both g.O.Object.KIND i.pair c.settle.new.self (g.O.Object.state i.object) (g.O.Object.state i.ahead) (g.O.Object.state c.agree.new.object) (g.O.Object.state c.agree.new.ahead) i.next i.asked.items c.clear.new.self.items c.follow.new.self c.in_ok-recorded.recorded (same_answer c.in_ok-recorded.recorded (was_called i.pair.doubt) c.in_ok-recorded.ensures.answer) unsettled c.in_ok-recorded.ensures.ok (c.follow.ensures ∙ c.lines_of.ensures) c.agree.ensures.object c.agree.ensures.ahead c.clear.ensures).1

pub returns-clause-safe : goal.returns-clause-safe
returns-clause-safe g c =
    let i = c.self.inside in
    let unsettled : IsUnsettled g.O.Object.KIND i.pair (g.O.Object.state i.object) (g.O.Object.state i.ahead) i.next i.asked.items = record { is = c.self.invariant; unsure = ap (λ (e : EngineView). e.sure) c.self.view_is ∙ c.requires } in
    let new = comb_view c.settle.new.self (g.O.Object.state c.agree.new.object) c.clear.new.self.items in
    subst (λ (e : EngineView). SettleCovers e new) c.self.view_is
    (settled_safely g.O.Object.KIND i.pair c.settle.new.self (g.O.Object.state i.object) (g.O.Object.state i.ahead) i.next i.asked.items new unsettled c.in_ok-recorded.ensures.safe refl)

pub returns-clause-sound : goal.returns-clause-sound
returns-clause-sound g c =
    let i = c.self.inside in
    let unsettled : IsUnsettled g.O.Object.KIND i.pair (g.O.Object.state i.object) (g.O.Object.state i.ahead) i.next i.asked.items = record { is = c.self.invariant; unsure = ap (λ (e : EngineView). e.sure) c.self.view_is ∙ c.requires } in
    of_kind_before g.O.Object.KIND c.args.self.now _ (subst (IsEngine g.O.Object.KIND) c.self.view_is (engine_of g.O.Object.KIND i.pair (g.O.Object.state i.object) (g.O.Object.state i.ahead) i.next i.asked.items c.self.invariant))
    (engine_of g.O.Object.KIND c.settle.new.self (g.O.Object.state c.agree.new.object) (g.O.Object.state c.agree.new.ahead) c.follow.new.self c.clear.new.self.items
    (settled_both g.O.Object.KIND i.pair c.settle.new.self (g.O.Object.state i.object) (g.O.Object.state i.ahead) (g.O.Object.state c.agree.new.object) (g.O.Object.state c.agree.new.ahead) i.next i.asked.items c.clear.new.self.items c.follow.new.self c.in_ok-recorded.recorded (same_answer c.in_ok-recorded.recorded (was_called i.pair.doubt) c.in_ok-recorded.ensures.answer) unsettled c.in_ok-recorded.ensures.ok (c.follow.ensures ∙ c.lines_of.ensures) c.agree.ensures.object c.agree.ensures.ahead c.clear.ensures).0)
