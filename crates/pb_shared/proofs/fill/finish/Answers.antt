use Rattle.std.proofs.Common.{◌≡◌, ℕ, suc, ◌*◌, arith, sym, ap, ◌∙◌, subst}
use Rattle.pb_object.specs.Standing.{newest_of}
use Rattle.pb_core.specs.Memory.{Filling}
use Rattle.pb_engine.specs.View.{EngineView}
use Rattle.pb_rule.specs.Plays.{Seated, the_view}
use Rattle.pb_rule.specs.Seats.{IsAt}
use Rattle.pb_rule.specs.View.{PassView}
use Rattle.pb_shared.proofs.Fills.{at_seat, bare_clients, bare_front, publish_ready, engine_same, after_publish}
use Rattle.pb_shared.proofs.fill.finish.Goals as goal

pub kept_of-kept-requires-clause-holds : goal.kept_of-kept-requires-clause-holds
kept_of-kept-requires-clause-holds g c =
    let h = c.requires.filling in
    (c.fill.ensures.filled h.start h.engine h.own h.is).ready.holds

pub kept_of-kept-requires-clause-client : goal.kept_of-kept-requires-clause-client
kept_of-kept-requires-clause-client g c =
    let h = c.requires.filling in
    let f = c.fill.ensures.filled h.start h.engine h.own h.is in
    omega (arith, c.requires.client.1, c.requires.clients.0, ap (λ (e : EngineView). e.standing.clients) f.now, f.clients, ap (λ (v : PassView). v.clients) h.is.rest)

pub publish-requires-clause-at : goal.publish-requires-clause-at
publish-requires-clause-at g c =
    let h = c.requires.filling in
    let f = c.fill.ensures.filled h.start h.engine h.own h.is in
    let same : c.args.clients ≡ (the_view c.kept_of-kept.new.seat.me).clients = c.requires.clients.0 ∙ (bare_clients g.E.Engine.seen (g.E.Engine.seen c.args.board.now.key.value).standing.kind (the_view c.args.seat.now.me) h.start h.is.rest ∙ (sym (bare_clients g.E.Engine.seen (g.E.Engine.seen c.args.board.now.key.value).standing.kind (the_view c.fill.new.seat.me) h.start f.rest) ∙ ap (λ (m : Seated g.row.E.Denot). (the_view m).clients) (sym c.kept_of-kept.ensures.same.1))) in
    subst (IsAt c.args.board.now.table_id c.kept_of-kept.new.seat.table_id) same (record { same = c.kept_of-kept.ensures.same.0 ∙ (c.fill.ensures.table ∙ c.requires.at.same); words = c.requires.at.words })

pub publish-requires-clause-ready : goal.publish-requires-clause-ready
publish-requires-clause-ready g c =
    let h = c.requires.filling in
    let f = at_seat g.E.Engine.seen (g.E.Engine.seen c.args.board.now.key.value).standing.kind (4 * c.args.clients) c.fill.new.seat.me c.kept_of-kept.new.seat.me c.kept_of-kept.ensures.same.1 (c.fill.ensures.filled h.start h.engine h.own h.is) in
    publish_ready g.E.Engine.seen (g.E.Engine.seen c.args.board.now.key.value).standing.kind (4 * c.args.clients) (omega (arith, c.requires.client.1)) f

pub publish-requires-clause-filled : goal.publish-requires-clause-filled
publish-requires-clause-filled g c =
    let h = c.requires.filling in
    let f = at_seat g.E.Engine.seen (g.E.Engine.seen c.args.board.now.key.value).standing.kind (4 * c.args.clients) c.fill.new.seat.me c.kept_of-kept.new.seat.me c.kept_of-kept.ensures.same.1 (c.fill.ensures.filled h.start h.engine h.own h.is) in
    (f.later (omega (arith, c.requires.client.1))).0 ∙ ap (λ (n : ℕ). Filling (4 * n)) (c.requires.clients.0 ∙ (bare_clients g.E.Engine.seen (g.E.Engine.seen c.args.board.now.key.value).standing.kind (the_view c.args.seat.now.me) h.start h.is.rest ∙ sym (bare_clients g.E.Engine.seen (g.E.Engine.seen c.args.board.now.key.value).standing.kind (the_view c.kept_of-kept.new.seat.me) h.start f.rest)))

pub publish-requires-clause-same : goal.publish-requires-clause-same
publish-requires-clause-same g c =
    let h = c.requires.filling in
    let f = at_seat g.E.Engine.seen (g.E.Engine.seen c.args.board.now.key.value).standing.kind (4 * c.args.clients) c.fill.new.seat.me c.kept_of-kept.new.seat.me c.kept_of-kept.ensures.same.1 (c.fill.ensures.filled h.start h.engine h.own h.is) in
    f.now ∙ sym (engine_same g.E.Engine.seen (g.E.Engine.seen c.args.board.now.key.value).standing.kind (4 * c.args.clients) (omega (arith, c.requires.client.1)) f)

pub publish-requires-clause-turn : goal.publish-requires-clause-turn
publish-requires-clause-turn g c =
    let h = c.requires.filling in
    let f = at_seat g.E.Engine.seen (g.E.Engine.seen c.args.board.now.key.value).standing.kind (4 * c.args.clients) c.fill.new.seat.me c.kept_of-kept.new.seat.me c.kept_of-kept.ensures.same.1 (c.fill.ensures.filled h.start h.engine h.own h.is) in
    c.requires.turn ∙ ap (λ (n : ℕ). 2 * suc n) (bare_front g.E.Engine.seen (g.E.Engine.seen c.args.board.now.key.value).standing.kind (the_view c.args.seat.now.me) h.start h.is.rest ∙ sym (bare_front g.E.Engine.seen (g.E.Engine.seen c.args.board.now.key.value).standing.kind (the_view c.kept_of-kept.new.seat.me) h.start f.rest))

pub returns-clause-published : goal.returns-clause-published
returns-clause-published g c = λ start engine own at.
    let before = c.fill.ensures.filled start engine own at in
    let f = at_seat g.E.Engine.seen (g.E.Engine.seen c.args.board.now.key.value).standing.kind (4 * c.args.clients) c.fill.new.seat.me c.kept_of-kept.new.seat.me c.kept_of-kept.ensures.same.1 before in
    (after_publish g.E.Engine.seen (g.E.Engine.seen c.args.board.now.key.value).standing.kind (4 * c.args.clients) _ (omega (arith, c.requires.client.1)) f c.publish.ensures.seen, c.kept_of-kept.ensures.kept ∙ ap (λ (e : EngineView). newest_of e.standing c.args.client) before.now)
