-- The pair is settled, and the items follow it.
use Rattle.std.proofs.Common.{List, [], sym, ap, subst, ◌∙◌}
use Rattle.std.proofs.lemmas.Result.{err_from_is_err_and}
use Rattle.pb_object.specs.declared.kind.Kind.TheVariants.{Queue}
use Rattle.pb_object.specs.declared.request.Ask.{Ask}
use Rattle.pb_pair.specs.Settle.{was_called}
use Rattle.pb_engine.specs.Covers.{SettleCovers, FailedSettleCovers}
use Rattle.pb_engine.specs.Outcomes.{HasSettled, HasFailedToSettle}
use Rattle.pb_engine.specs.View.{EngineView, IsEngine}
use Rattle.pb_queue.specs.View.{twin_view, IsTwin}
use Rattle.pb_queue.proofs.Finished.{HasBeenSettled, settled_both, same_answer}
use Rattle.pb_queue.proofs.Settling.{IsUnsettled, unsettled_twin, failed_to_settle, unsettled_safely}
use Rattle.pb_queue.proofs.Sound.{engine_of}
use Rattle.pb_engine.proofs.SameKind.{of_kind_before}
use Rattle.pb_queue.proofs.twin.TwinQueueEngine.settle.Goals as goal

pub invariant_of-self : goal.invariant_of-self
invariant_of-self g c =
    let i = c.self.inside in
    unsettled_twin i.pair c.settle.new.self i.items i.next i.asked.items c.in_err-recorded.field-0.0 c.self.invariant c.in_err-recorded.ensures.err

pub returns-in_err-recorded-clause-err : goal.returns-in_err-recorded-clause-err
returns-in_err-recorded-clause-err g c =
    let i = c.self.inside in
    let p = err_from_is_err_and c.from_residual.result c.from_residual.ensures.1 in
    let new = twin_view c.settle.new.self i.items i.asked.items in
    let fault = c.in_err-recorded.field-0.0 in
    rw (p.1, p.2) (subst (λ (e : EngineView). HasFailedToSettle fault e new) c.self.view_is (failed_to_settle i.pair c.settle.new.self i.items i.next i.asked.items fault c.self.invariant c.in_err-recorded.ensures.err))

pub returns-in_err-recorded-clause-fails_safe : goal.returns-in_err-recorded-clause-fails_safe
returns-in_err-recorded-clause-fails_safe g c =
    let i = c.self.inside in
    let p = err_from_is_err_and c.from_residual.result c.from_residual.ensures.1 in
    let new = twin_view c.settle.new.self i.items i.asked.items in
    rw (p.1) (subst (λ (e : EngineView). FailedSettleCovers e new) c.self.view_is (unsettled_safely i.pair c.settle.new.self i.items i.next i.asked.items c.self.invariant c.in_err-recorded.ensures.fails_safe))

pub returns-in_err-recorded-clause-sound : goal.returns-in_err-recorded-clause-sound
returns-in_err-recorded-clause-sound g c =
    let i = c.self.inside in
    of_kind_before Queue c.args.self.now _ (subst (IsEngine Queue) c.self.view_is (engine_of i.pair i.items i.next i.asked.items c.self.invariant))
    (engine_of c.settle.new.self i.items i.next i.asked.items (unsettled_twin i.pair c.settle.new.self i.items i.next i.asked.items c.in_err-recorded.field-0.0 c.self.invariant c.in_err-recorded.ensures.err))

pub invariant_of-self-2 : goal.invariant_of-self-2
invariant_of-self-2 g c =
    let i = c.self.inside in
    let unsettled : IsUnsettled i.pair i.items i.next i.asked.items = record { is = c.self.invariant; unsure = ap (λ (e : EngineView). e.sure) c.self.view_is ∙ c.requires } in
    let is : HasBeenSettled i.pair c.settle.new.self i.items c.follow.new.items i.next i.asked.items =
    settled_both i.pair c.settle.new.self i.items c.follow.new.items i.next i.asked.items c.in_ok-recorded.recorded (same_answer c.in_ok-recorded.recorded (was_called i.pair.doubt) c.in_ok-recorded.ensures.answer) unsettled c.in_ok-recorded.ensures.ok c.in_ok-recorded.ensures.safe c.follow.ensures in
    subst (IsTwin c.settle.new.self c.follow.new.items i.next) (sym c.clear.ensures) is.twin

pub returns-clause-ok : goal.returns-clause-ok
returns-clause-ok g c =
    let i = c.self.inside in
    let unsettled : IsUnsettled i.pair i.items i.next i.asked.items = record { is = c.self.invariant; unsure = ap (λ (e : EngineView). e.sure) c.self.view_is ∙ c.requires } in
    let is : HasBeenSettled i.pair c.settle.new.self i.items c.follow.new.items i.next i.asked.items =
    settled_both i.pair c.settle.new.self i.items c.follow.new.items i.next i.asked.items c.in_ok-recorded.recorded (same_answer c.in_ok-recorded.recorded (was_called i.pair.doubt) c.in_ok-recorded.ensures.answer) unsettled c.in_ok-recorded.ensures.ok c.in_ok-recorded.ensures.safe c.follow.ensures in
    subst (λ (a : List Ask). HasSettled c.args.self.now (twin_view c.settle.new.self c.follow.new.items a)) (sym c.clear.ensures) (subst (λ (e : EngineView). HasSettled e (twin_view c.settle.new.self c.follow.new.items [])) c.self.view_is is.settled)

pub returns-clause-safe : goal.returns-clause-safe
returns-clause-safe g c =
    let i = c.self.inside in
    let unsettled : IsUnsettled i.pair i.items i.next i.asked.items = record { is = c.self.invariant; unsure = ap (λ (e : EngineView). e.sure) c.self.view_is ∙ c.requires } in
    let is : HasBeenSettled i.pair c.settle.new.self i.items c.follow.new.items i.next i.asked.items =
    settled_both i.pair c.settle.new.self i.items c.follow.new.items i.next i.asked.items c.in_ok-recorded.recorded (same_answer c.in_ok-recorded.recorded (was_called i.pair.doubt) c.in_ok-recorded.ensures.answer) unsettled c.in_ok-recorded.ensures.ok c.in_ok-recorded.ensures.safe c.follow.ensures in
    subst (λ (a : List Ask). SettleCovers c.args.self.now (twin_view c.settle.new.self c.follow.new.items a)) (sym c.clear.ensures) (subst (λ (e : EngineView). SettleCovers e (twin_view c.settle.new.self c.follow.new.items [])) c.self.view_is is.safe)

pub returns-clause-sound : goal.returns-clause-sound
returns-clause-sound g c =
    let i = c.self.inside in
    let unsettled : IsUnsettled i.pair i.items i.next i.asked.items = record { is = c.self.invariant; unsure = ap (λ (e : EngineView). e.sure) c.self.view_is ∙ c.requires } in
    let is : HasBeenSettled i.pair c.settle.new.self i.items c.follow.new.items i.next i.asked.items =
    settled_both i.pair c.settle.new.self i.items c.follow.new.items i.next i.asked.items c.in_ok-recorded.recorded (same_answer c.in_ok-recorded.recorded (was_called i.pair.doubt) c.in_ok-recorded.ensures.answer) unsettled c.in_ok-recorded.ensures.ok c.in_ok-recorded.ensures.safe c.follow.ensures in
    of_kind_before Queue c.args.self.now _ (subst (IsEngine Queue) c.self.view_is (engine_of i.pair i.items i.next i.asked.items c.self.invariant))
    (subst (λ (a : List Ask). IsEngine Queue (twin_view c.settle.new.self c.follow.new.items a)) (sym c.clear.ensures) (engine_of c.settle.new.self c.follow.new.items i.next [] is.twin))
