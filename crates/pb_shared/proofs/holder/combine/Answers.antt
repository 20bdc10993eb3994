use Rattle.std.proofs.Common.{◌≡◌, ℕ, suc, ◌%◌, sym, ap, ◌∙◌, subst, arith}
use Rattle.pb_object.specs.declared.request.Kept.{Kept}
use Rattle.pb_object.specs.Standing.{newest_of}
use Rattle.pb_core.specs.Memory.{AtNumber, Scanning}
use Rattle.pb_engine.specs.Asks.{MayBeServed}
use Rattle.pb_engine.specs.View.{EngineView}
use Rattle.pb_rule.specs.Plays.{Seated, the_view, engine_now}
use Rattle.pb_rule.specs.Seats.{IsAt}
use Rattle.pb_rule.specs.View.{PassView}
use Rattle.pb_shared.specs.Tries.{HasHeld}
use Rattle.pb_shared.proofs.Held.{plain_of, same_published, same_fault, same_then, same_blank, published_ask, published_front, halves, done_by, fault_held, HasCalled, rest_is, made_filling, made_failed, made_number, made_serves}
use Rattle.pb_shared.proofs.holder.combine.Goals as goal

pub make_round-requires-clause-holds : goal.make_round-requires-clause-holds
make_round-requires-clause-holds g c =
    let s = c.scan-asks.ensures.scanned (the_view c.args.seat.now.me) (engine_now g.E.Engine.seen c.args.seat.now.me) c.requires.scan in
    let after = s.later (omega (arith, c.requires.client.1)) in
    after.ready.holds

pub make_round-requires-clause-sure : goal.make_round-requires-clause-sure
make_round-requires-clause-sure g c =
    let s = c.scan-asks.ensures.scanned (the_view c.args.seat.now.me) (engine_now g.E.Engine.seen c.args.seat.now.me) c.requires.scan in
    let after = s.later (omega (arith, c.requires.client.1)) in
    ap (λ (e : EngineView). e.sure) after.now ∙ c.requires.sure

pub make_round-requires-clause-asks : goal.make_round-requires-clause-asks
make_round-requires-clause-asks g c =
    let s = c.scan-asks.ensures.scanned (the_view c.args.seat.now.me) (engine_now g.E.Engine.seen c.args.seat.now.me) c.requires.scan in
    let after = s.later (omega (arith, c.requires.client.1)) in
    let clients : c.args.clients ≡ (engine_now g.E.Engine.seen c.args.seat.now.me).standing.clients = c.requires.clients.0 ∙ sym after.clients in
    subst (λ (e : EngineView). MayBeServed e.standing c.scan-asks.result.items) (sym after.now) (after.over.may c.scan-asks.result.items (after.work_is ∙ ap (λ (n : ℕ). Scanning n AtNumber c.scan-asks.result.items) clients))

pub finish-kept-requires-clause-clients : goal.finish-kept-requires-clause-clients
finish-kept-requires-clause-clients g c =
    let s = c.scan-asks.ensures.scanned (the_view c.args.seat.now.me) (engine_now g.E.Engine.seen c.args.seat.now.me) c.requires.scan in
    let after = s.later (omega (arith, c.requires.client.1)) in
    let h : HasCalled g.E.Engine.seen (g.E.Engine.seen c.args.board.now.key.value).standing.kind (the_view c.args.seat.now.me) (engine_now g.E.Engine.seen c.args.seat.now.me) c.args.clients c.scan-asks.result.items s.looked c.scan-asks.new.seat.me c.make_round.new.seat.me = record { after = after; all = c.requires.clients.0; views = c.make_round.ensures.views; holds = c.make_round.ensures.holds; sound = c.make_round.ensures.sound } in
    let rest = rest_is g.E.Engine.seen (g.E.Engine.seen c.args.board.now.key.value).standing.kind h in
    (c.requires.clients.0 ∙ sym (ap (λ (u : PassView). u.clients) rest), c.requires.clients.1)

pub finish-kept-requires-clause-client : goal.finish-kept-requires-clause-client
finish-kept-requires-clause-client g c =
    let s = c.scan-asks.ensures.scanned (the_view c.args.seat.now.me) (engine_now g.E.Engine.seen c.args.seat.now.me) c.requires.scan in
    let after = s.later (omega (arith, c.requires.client.1)) in
    let h : HasCalled g.E.Engine.seen (g.E.Engine.seen c.args.board.now.key.value).standing.kind (the_view c.args.seat.now.me) (engine_now g.E.Engine.seen c.args.seat.now.me) c.args.clients c.scan-asks.result.items s.looked c.scan-asks.new.seat.me c.make_round.new.seat.me = record { after = after; all = c.requires.clients.0; views = c.make_round.ensures.views; holds = c.make_round.ensures.holds; sound = c.make_round.ensures.sound } in
    let rest = rest_is g.E.Engine.seen (g.E.Engine.seen c.args.board.now.key.value).standing.kind h in
    (c.requires.client.0 ∙ sym (ap (λ (u : PassView). u.client) rest), c.requires.client.1)

pub finish-kept-requires-clause-row : goal.finish-kept-requires-clause-row
finish-kept-requires-clause-row g c =
    let s = c.scan-asks.ensures.scanned (the_view c.args.seat.now.me) (engine_now g.E.Engine.seen c.args.seat.now.me) c.requires.scan in
    let after = s.later (omega (arith, c.requires.client.1)) in
    let h : HasCalled g.E.Engine.seen (g.E.Engine.seen c.args.board.now.key.value).standing.kind (the_view c.args.seat.now.me) (engine_now g.E.Engine.seen c.args.seat.now.me) c.args.clients c.scan-asks.result.items s.looked c.scan-asks.new.seat.me c.make_round.new.seat.me = record { after = after; all = c.requires.clients.0; views = c.make_round.ensures.views; holds = c.make_round.ensures.holds; sound = c.make_round.ensures.sound } in
    let rest = rest_is g.E.Engine.seen (g.E.Engine.seen c.args.board.now.key.value).standing.kind h in
    let front : (the_view c.args.seat.now.me).body.front ≡ (the_view c.make_round.new.seat.me).body.front = sym (ap (λ (u : PassView). u.body.front) rest) in
    c.next_row.ensures ∙ ap (λ (n : ℕ). suc n % 2) (halves c.args.turn (the_view c.args.seat.now.me).body.front c.requires.turn ∙ front)

pub finish-kept-requires-clause-turn : goal.finish-kept-requires-clause-turn
finish-kept-requires-clause-turn g c =
    let s = c.scan-asks.ensures.scanned (the_view c.args.seat.now.me) (engine_now g.E.Engine.seen c.args.seat.now.me) c.requires.scan in
    let after = s.later (omega (arith, c.requires.client.1)) in
    let h : HasCalled g.E.Engine.seen (g.E.Engine.seen c.args.board.now.key.value).standing.kind (the_view c.args.seat.now.me) (engine_now g.E.Engine.seen c.args.seat.now.me) c.args.clients c.scan-asks.result.items s.looked c.scan-asks.new.seat.me c.make_round.new.seat.me = record { after = after; all = c.requires.clients.0; views = c.make_round.ensures.views; holds = c.make_round.ensures.holds; sound = c.make_round.ensures.sound } in
    let rest = rest_is g.E.Engine.seen (g.E.Engine.seen c.args.board.now.key.value).standing.kind h in
    omega (arith, c.requires.turn, ap (λ (u : PassView). u.body.front) rest)

pub finish-kept-requires-clause-filling : goal.finish-kept-requires-clause-filling
finish-kept-requires-clause-filling g c =
    let s = c.scan-asks.ensures.scanned (the_view c.args.seat.now.me) (engine_now g.E.Engine.seen c.args.seat.now.me) c.requires.scan in
    let after = s.later (omega (arith, c.requires.client.1)) in
    let h : HasCalled g.E.Engine.seen (g.E.Engine.seen c.args.board.now.key.value).standing.kind (the_view c.args.seat.now.me) (engine_now g.E.Engine.seen c.args.seat.now.me) c.args.clients c.scan-asks.result.items s.looked c.scan-asks.new.seat.me c.make_round.new.seat.me = record { after = after; all = c.requires.clients.0; views = c.make_round.ensures.views; holds = c.make_round.ensures.holds; sound = c.make_round.ensures.sound } in
    record { start = the_view c.make_round.new.seat.me; engine = engine_now g.E.Engine.seen c.make_round.new.seat.me; own = _; is = made_filling g.E.Engine.seen (g.E.Engine.seen c.args.board.now.key.value).standing.kind h c.in-Ok.ensures.ok }

pub abandon-requires-clause-at : goal.abandon-requires-clause-at
abandon-requires-clause-at g c =
    let s = c.scan-asks.ensures.scanned (the_view c.args.seat.now.me) (engine_now g.E.Engine.seen c.args.seat.now.me) c.requires.scan in
    let after = s.later (omega (arith, c.requires.client.1)) in
    let h : HasCalled g.E.Engine.seen (g.E.Engine.seen c.args.board.now.key.value).standing.kind (the_view c.args.seat.now.me) (engine_now g.E.Engine.seen c.args.seat.now.me) c.args.clients c.scan-asks.result.items s.looked c.scan-asks.new.seat.me c.make_round.new.seat.me = record { after = after; all = c.requires.clients.0; views = c.make_round.ensures.views; holds = c.make_round.ensures.holds; sound = c.make_round.ensures.sound } in
    let rest = rest_is g.E.Engine.seen (g.E.Engine.seen c.args.board.now.key.value).standing.kind h in
    subst (IsAt c.args.board.now.table_id c.make_round.new.seat.table_id) (c.requires.clients.0 ∙ sym (ap (λ (u : PassView). u.clients) rest)) (record { same = c.make_round.ensures.table ∙ (c.scan-asks.ensures.table ∙ c.requires.at.same); words = c.requires.at.words })

pub abandon-requires-clause-failed : goal.abandon-requires-clause-failed
abandon-requires-clause-failed g c =
    let s = c.scan-asks.ensures.scanned (the_view c.args.seat.now.me) (engine_now g.E.Engine.seen c.args.seat.now.me) c.requires.scan in
    let after = s.later (omega (arith, c.requires.client.1)) in
    let h : HasCalled g.E.Engine.seen (g.E.Engine.seen c.args.board.now.key.value).standing.kind (the_view c.args.seat.now.me) (engine_now g.E.Engine.seen c.args.seat.now.me) c.args.clients c.scan-asks.result.items s.looked c.scan-asks.new.seat.me c.make_round.new.seat.me = record { after = after; all = c.requires.clients.0; views = c.make_round.ensures.views; holds = c.make_round.ensures.holds; sound = c.make_round.ensures.sound } in
    made_failed g.E.Engine.seen (g.E.Engine.seen c.args.board.now.key.value).standing.kind h c.in-Err.fault c.in-Err.ensures.err

pub abandon-requires-clause-turn : goal.abandon-requires-clause-turn
abandon-requires-clause-turn g c =
    let s = c.scan-asks.ensures.scanned (the_view c.args.seat.now.me) (engine_now g.E.Engine.seen c.args.seat.now.me) c.requires.scan in
    let after = s.later (omega (arith, c.requires.client.1)) in
    let h : HasCalled g.E.Engine.seen (g.E.Engine.seen c.args.board.now.key.value).standing.kind (the_view c.args.seat.now.me) (engine_now g.E.Engine.seen c.args.seat.now.me) c.args.clients c.scan-asks.result.items s.looked c.scan-asks.new.seat.me c.make_round.new.seat.me = record { after = after; all = c.requires.clients.0; views = c.make_round.ensures.views; holds = c.make_round.ensures.holds; sound = c.make_round.ensures.sound } in
    let rest = rest_is g.E.Engine.seen (g.E.Engine.seen c.args.board.now.key.value).standing.kind h in
    omega (arith, c.requires.turn, ap (λ (u : PassView). u.body.front) rest)

pub returns-in-Ok-clause-plain : goal.returns-in-Ok-clause-plain
returns-in-Ok-clause-plain g c =
    let s = c.scan-asks.ensures.scanned (the_view c.args.seat.now.me) (engine_now g.E.Engine.seen c.args.seat.now.me) c.requires.scan in
    let after = s.later (omega (arith, c.requires.client.1)) in
    let h : HasCalled g.E.Engine.seen (g.E.Engine.seen c.args.board.now.key.value).standing.kind (the_view c.args.seat.now.me) (engine_now g.E.Engine.seen c.args.seat.now.me) c.args.clients c.scan-asks.result.items s.looked c.scan-asks.new.seat.me c.make_round.new.seat.me = record { after = after; all = c.requires.clients.0; views = c.make_round.ensures.views; holds = c.make_round.ensures.holds; sound = c.make_round.ensures.sound } in
    plain_of _ _ (c.finish-kept.ensures.published (the_view c.make_round.new.seat.me) (engine_now g.E.Engine.seen c.make_round.new.seat.me) _ (made_filling g.E.Engine.seen (g.E.Engine.seen c.args.board.now.key.value).standing.kind h c.in-Ok.ensures.ok)).0

pub returns-in-Ok-clause-held : goal.returns-in-Ok-clause-held
returns-in-Ok-clause-held g c =
    let s = c.scan-asks.ensures.scanned (the_view c.args.seat.now.me) (engine_now g.E.Engine.seen c.args.seat.now.me) c.requires.scan in
    let after = s.later (omega (arith, c.requires.client.1)) in
    let h : HasCalled g.E.Engine.seen (g.E.Engine.seen c.args.board.now.key.value).standing.kind (the_view c.args.seat.now.me) (engine_now g.E.Engine.seen c.args.seat.now.me) c.args.clients c.scan-asks.result.items s.looked c.scan-asks.new.seat.me c.make_round.new.seat.me = record { after = after; all = c.requires.clients.0; views = c.make_round.ensures.views; holds = c.make_round.ensures.holds; sound = c.make_round.ensures.sound } in
    let rest = rest_is g.E.Engine.seen (g.E.Engine.seen c.args.board.now.key.value).standing.kind h in
    let p = c.finish-kept.ensures.published (the_view c.make_round.new.seat.me) (engine_now g.E.Engine.seen c.make_round.new.seat.me) _ (made_filling g.E.Engine.seen (g.E.Engine.seen c.args.board.now.key.value).standing.kind h c.in-Ok.ensures.ok) in
    let view = ap (λ (m : Seated g.row.E.Denot). the_view m) p.0 in
    let kept = p.1 ∙ ap (newest_of (engine_now g.E.Engine.seen c.make_round.new.seat.me).standing) (c.requires.client.0 ∙ sym (ap (λ (u : PassView). u.client) rest)) in
    let number = made_number g.E.Engine.seen (g.E.Engine.seen c.args.board.now.key.value).standing.kind h (omega (arith, c.requires.client.1)) c.in-Ok.ensures.ok in
    done_by (the_view c.make_round.new.seat.me) (the_view c.args.seat.now.me) (the_view c.finish-kept.new.seat.me) (engine_now g.E.Engine.seen c.make_round.new.seat.me) _ c.finish-kept.result (ap (λ (u : PassView). u.body) rest) (ap (λ (u : PassView). u.met) rest) (ap (λ (u : PassView). u.notes) rest) view kept (ap (λ (k : Kept). k.number) kept ∙ number)
    (made_serves g.E.Engine.seen (g.E.Engine.seen c.args.board.now.key.value).standing.kind h s.has_looked (the_view c.finish-kept.new.seat.me) view (published_ask (the_view c.make_round.new.seat.me) (the_view c.finish-kept.new.seat.me) (engine_now g.E.Engine.seen c.make_round.new.seat.me) _ view ∙ ap (λ (u : PassView). u.body.ask) rest) (published_front (the_view c.make_round.new.seat.me) (the_view c.finish-kept.new.seat.me) (engine_now g.E.Engine.seen c.make_round.new.seat.me) _ view))

pub returns-in-Ok-clause-same : goal.returns-in-Ok-clause-same
returns-in-Ok-clause-same g c =
    let s = c.scan-asks.ensures.scanned (the_view c.args.seat.now.me) (engine_now g.E.Engine.seen c.args.seat.now.me) c.requires.scan in
    let after = s.later (omega (arith, c.requires.client.1)) in
    let h : HasCalled g.E.Engine.seen (g.E.Engine.seen c.args.board.now.key.value).standing.kind (the_view c.args.seat.now.me) (engine_now g.E.Engine.seen c.args.seat.now.me) c.args.clients c.scan-asks.result.items s.looked c.scan-asks.new.seat.me c.make_round.new.seat.me = record { after = after; all = c.requires.clients.0; views = c.make_round.ensures.views; holds = c.make_round.ensures.holds; sound = c.make_round.ensures.sound } in
    let rest = rest_is g.E.Engine.seen (g.E.Engine.seen c.args.board.now.key.value).standing.kind h in
    let p = c.finish-kept.ensures.published (the_view c.make_round.new.seat.me) (engine_now g.E.Engine.seen c.make_round.new.seat.me) _ (made_filling g.E.Engine.seen (g.E.Engine.seen c.args.board.now.key.value).standing.kind h c.in-Ok.ensures.ok) in
    same_then (same_blank (the_view c.args.seat.now.me) (the_view c.make_round.new.seat.me) rest) (same_published (the_view c.make_round.new.seat.me) (the_view c.finish-kept.new.seat.me) (engine_now g.E.Engine.seen c.make_round.new.seat.me) _ (ap (λ (m : Seated g.row.E.Denot). the_view m) p.0))

pub returns-in-Err-clause-held : goal.returns-in-Err-clause-held
returns-in-Err-clause-held g c =
    let s = c.scan-asks.ensures.scanned (the_view c.args.seat.now.me) (engine_now g.E.Engine.seen c.args.seat.now.me) c.requires.scan in
    let after = s.later (omega (arith, c.requires.client.1)) in
    let h : HasCalled g.E.Engine.seen (g.E.Engine.seen c.args.board.now.key.value).standing.kind (the_view c.args.seat.now.me) (engine_now g.E.Engine.seen c.args.seat.now.me) c.args.clients c.scan-asks.result.items s.looked c.scan-asks.new.seat.me c.make_round.new.seat.me = record { after = after; all = c.requires.clients.0; views = c.make_round.ensures.views; holds = c.make_round.ensures.holds; sound = c.make_round.ensures.sound } in
    let rest = rest_is g.E.Engine.seen (g.E.Engine.seen c.args.board.now.key.value).standing.kind h in
    let failed = made_failed g.E.Engine.seen (g.E.Engine.seen c.args.board.now.key.value).standing.kind h c.in-Err.fault c.in-Err.ensures.err in
    subst (HasHeld (the_view c.args.seat.now.me) (the_view c.abandon.new.seat.me)) (sym c.abandon.ensures.answer) (fault_held (the_view c.make_round.new.seat.me) (the_view c.args.seat.now.me) (the_view c.abandon.new.seat.me) c.in-Err.fault (ap (λ (u : PassView). u.body) rest) (ap (λ (u : PassView). u.met) rest) (ap (λ (u : PassView). u.notes) rest) (ap (λ (u : PassView). u.served) rest) failed.rose (ap (λ (m : Seated g.row.E.Denot). the_view m) c.abandon.ensures.given))

pub returns-in-Err-clause-same : goal.returns-in-Err-clause-same
returns-in-Err-clause-same g c =
    let s = c.scan-asks.ensures.scanned (the_view c.args.seat.now.me) (engine_now g.E.Engine.seen c.args.seat.now.me) c.requires.scan in
    let after = s.later (omega (arith, c.requires.client.1)) in
    let h : HasCalled g.E.Engine.seen (g.E.Engine.seen c.args.board.now.key.value).standing.kind (the_view c.args.seat.now.me) (engine_now g.E.Engine.seen c.args.seat.now.me) c.args.clients c.scan-asks.result.items s.looked c.scan-asks.new.seat.me c.make_round.new.seat.me = record { after = after; all = c.requires.clients.0; views = c.make_round.ensures.views; holds = c.make_round.ensures.holds; sound = c.make_round.ensures.sound } in
    let rest = rest_is g.E.Engine.seen (g.E.Engine.seen c.args.board.now.key.value).standing.kind h in
    same_then (same_blank (the_view c.args.seat.now.me) (the_view c.make_round.new.seat.me) rest) (same_fault (the_view c.make_round.new.seat.me) (the_view c.abandon.new.seat.me) c.in-Err.fault (ap (λ (m : Seated g.row.E.Denot). the_view m) c.abandon.ensures.given))
