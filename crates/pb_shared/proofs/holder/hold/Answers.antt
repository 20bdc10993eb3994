use Rattle.std.proofs.Common.{◌≡◌, Bool, true, false, Result, Ok, sym, ap, ◌∙◌, subst}
use Rattle.pb_pmem.specs.declared.device.DeviceFault.{DeviceFault}
use Rattle.pb_engine.specs.View.{IsEngine, was_called}
use Rattle.pb_rule.specs.Plays.{Seated, engine_now}
use Rattle.pb_rule.specs.Ready.{Settled, FailedSettling}
use Rattle.pb_shared.proofs.Held.{round_filling, settling_failed, ok_same}
use Rattle.pb_shared.proofs.holder.hold.Goals as goal

pub publish_settled-requires-clause-filling : goal.publish_settled-requires-clause-filling
publish_settled-requires-clause-filling g c =
    let same = c.is_sure.ensures.same.1 in
    let unsure : (engine_now g.E.Engine.seen c.args.seat.now.me).sure ≡ false = sym c.is_sure.ensures.sure ∙ c.if-is_sure.false in
    let settled = subst (λ (m : Seated g.row.E.Denot). Settled (engine_now g.E.Engine.seen m) (engine_now g.E.Engine.seen c.settle.new.seat.me)) same c.in-Ok-true.ensures.ok in
    let answer : c.settle.result ≡ Ok (was_called (engine_now g.E.Engine.seen c.is_sure.new.seat.me).doubt) = subst (λ (r : Result Bool DeviceFault). r ≡ Ok (was_called (engine_now g.E.Engine.seen c.is_sure.new.seat.me).doubt)) (sym c.in-Ok-true.is) c.in-Ok-true.ensures.answer in
    let called : was_called (engine_now g.E.Engine.seen c.args.seat.now.me).doubt ≡ true = ap (λ (m : Seated g.row.E.Denot). was_called (engine_now g.E.Engine.seen m).doubt) (sym same) ∙ (ok_same c.settle.result _ _ answer c.in-Ok-true.is ∙ c.in-Ok-true.field-0-test) in
    round_filling g.E.Engine.seen (g.E.Engine.seen c.args.board.now.key.value).standing.kind c.requires.holding unsure c.settle.new.seat.me (c.settle.ensures.views ∙ ap (λ (m : Seated g.row.E.Denot). m.0) same) c.settle.ensures.holds (subst (λ (m : Seated g.row.E.Denot). IsEngine (engine_now g.E.Engine.seen m).standing.kind (engine_now g.E.Engine.seen c.settle.new.seat.me)) same c.settle.ensures.sound) settled called

pub abandon-requires-clause-failed : goal.abandon-requires-clause-failed
abandon-requires-clause-failed g c =
    let same = c.is_sure.ensures.same.1 in
    let unsure : (engine_now g.E.Engine.seen c.args.seat.now.me).sure ≡ false = sym c.is_sure.ensures.sure ∙ c.if-is_sure.false in
    let failed = subst (λ (m : Seated g.row.E.Denot). FailedSettling c.in-Err.fault (engine_now g.E.Engine.seen m) (engine_now g.E.Engine.seen c.settle.new.seat.me)) same c.in-Err.ensures.err in
    settling_failed g.E.Engine.seen (g.E.Engine.seen c.args.board.now.key.value).standing.kind c.requires.holding unsure c.settle.new.seat.me (c.settle.ensures.views ∙ ap (λ (m : Seated g.row.E.Denot). m.0) same) c.settle.ensures.holds (subst (λ (m : Seated g.row.E.Denot). IsEngine (engine_now g.E.Engine.seen m).standing.kind (engine_now g.E.Engine.seen c.settle.new.seat.me)) same c.settle.ensures.sound) c.in-Err.fault failed
