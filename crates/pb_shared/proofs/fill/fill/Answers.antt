use Rattle.std.proofs.Common.{◌≡◌, ℕ, suc, ◌+◌, ◌*◌, ◌%◌, arith, sym, ap, ◌∙◌, subst, rules}
use Rattle.pb_rule.specs.Plays.{the_view}
use Rattle.pb_rule.specs.Seats.{IsAt}
use Rattle.pb_shared.proofs.Fills.{at_count, has_filling, bare_clients, bare_front}
use Rattle.pb_shared.proofs.fill.fill.Goals as goal

pub loop-client-init : goal.loop-client-init
loop-client-init g c = (search rules, λ start engine own at. at_count g.E.Engine.seen (g.E.Engine.seen c.args.board.now.key.value).standing.kind 0 (4 * 0) (omega arith) at)

pub loop-client-preserved : goal.loop-client-preserved
loop-client-preserved g c =
    let i = c.loop-client.invariant in
    (c.fill_client.ensures.table ∙ i.0, λ start engine own at. at_count g.E.Engine.seen (g.E.Engine.seen c.args.board.now.key.value).standing.kind (4 * c.loop-client.client + 4) (4 * (c.loop-client.client + 1)) (omega arith) (c.fill_client.ensures.filled start engine own (i.1 start engine own at)))

pub fill_client-requires-clause-at : goal.fill_client-requires-clause-at
fill_client-requires-clause-at g c =
    let h = c.requires.filling in
    let i = c.loop-client.invariant in
    let same : c.args.clients ≡ (the_view c.loop-client.seat.me).clients = c.requires.clients.0 ∙ (bare_clients g.E.Engine.seen (g.E.Engine.seen c.args.board.now.key.value).standing.kind (the_view c.args.seat.now.me) h.start h.is.rest ∙ sym (bare_clients g.E.Engine.seen (g.E.Engine.seen c.args.board.now.key.value).standing.kind (the_view c.loop-client.seat.me) h.start (i.1 h.start h.engine h.own h.is).rest)) in
    subst (IsAt c.args.board.now.table_id c.loop-client.seat.table_id) same (record { same = i.0 ∙ c.requires.at.same; words = c.requires.at.words })

pub fill_client-requires-clause-client : goal.fill_client-requires-clause-client
fill_client-requires-clause-client g c =
    let h = c.requires.filling in
    let i = c.loop-client.invariant in
    let same : c.args.clients ≡ (the_view c.loop-client.seat.me).clients = c.requires.clients.0 ∙ (bare_clients g.E.Engine.seen (g.E.Engine.seen c.args.board.now.key.value).standing.kind (the_view c.args.seat.now.me) h.start h.is.rest ∙ sym (bare_clients g.E.Engine.seen (g.E.Engine.seen c.args.board.now.key.value).standing.kind (the_view c.loop-client.seat.me) h.start (i.1 h.start h.engine h.own h.is).rest)) in
    (omega (arith, same, c.loop-client-test.true), omega (arith, c.requires.clients.1, c.loop-client-test.true))

pub fill_client-requires-clause-row : goal.fill_client-requires-clause-row
fill_client-requires-clause-row g c =
    let h = c.requires.filling in
    let i = c.loop-client.invariant in
    c.requires.row ∙ ap (λ (n : ℕ). suc n % 2) (bare_front g.E.Engine.seen (g.E.Engine.seen c.args.board.now.key.value).standing.kind (the_view c.args.seat.now.me) h.start h.is.rest ∙ sym (bare_front g.E.Engine.seen (g.E.Engine.seen c.args.board.now.key.value).standing.kind (the_view c.loop-client.seat.me) h.start (i.1 h.start h.engine h.own h.is).rest))

pub fill_client-requires-clause-filling : goal.fill_client-requires-clause-filling
fill_client-requires-clause-filling g c =
    let h = c.requires.filling in
    has_filling g.E.Engine.seen (g.E.Engine.seen c.args.board.now.key.value).standing.kind (c.loop-client.invariant.1 h.start h.engine h.own h.is)

pub returns-clause-filled : goal.returns-clause-filled
returns-clause-filled g c = λ start engine own at.
    at_count g.E.Engine.seen (g.E.Engine.seen c.args.board.now.key.value).standing.kind (4 * c.loop-client.client) (4 * c.args.clients) (omega (arith, c.loop-client-test.false, c.loop-client.auto.client-end)) (c.loop-client.invariant.1 start engine own at)
