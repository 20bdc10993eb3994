use Rattle.std.proofs.Common.{◌≡◌, arith, sym, ◌∙◌, subst}
use Rattle.pb_rule.specs.Plays.{the_view}
use Rattle.pb_rule.specs.Seats.{IsAt}
use Rattle.pb_shared.proofs.Parts.{same_side, same_clients}
use Rattle.pb_shared.proofs.scan.scan.Goals as goal

pub scan_client-requires-clause-at : goal.scan_client-requires-clause-at
scan_client-requires-clause-at g c =
    let h = c.requires.scan in
    let i = c.loop-client.invariant in
    let same : c.args.clients ≡ (the_view c.loop-client.seat.me).clients = c.requires.clients.0 ∙ (same_clients g.E.Engine.seen (g.E.Engine.seen c.args.board.now.key.value).standing.kind (the_view c.args.seat.now.me) h.start h.is.part.rest ∙ sym (same_clients g.E.Engine.seen (g.E.Engine.seen c.args.board.now.key.value).standing.kind (the_view c.loop-client.seat.me) h.start (i.2 h.start h.engine h.is).part.rest)) in
    subst (IsAt c.args.board.now.table_id c.loop-client.seat.table_id) same (record { same = i.0 ∙ c.requires.at.same; words = c.requires.at.words })

pub scan_client-requires-clause-client : goal.scan_client-requires-clause-client
scan_client-requires-clause-client g c =
    let h = c.requires.scan in
    let i = c.loop-client.invariant in
    let same : c.args.clients ≡ (the_view c.loop-client.seat.me).clients = c.requires.clients.0 ∙ (same_clients g.E.Engine.seen (g.E.Engine.seen c.args.board.now.key.value).standing.kind (the_view c.args.seat.now.me) h.start h.is.part.rest ∙ sym (same_clients g.E.Engine.seen (g.E.Engine.seen c.args.board.now.key.value).standing.kind (the_view c.loop-client.seat.me) h.start (i.2 h.start h.engine h.is).part.rest)) in
    (omega (arith, same, c.loop-client-test.true), omega (arith, c.requires.clients.1, c.loop-client-test.true))

pub scan_client-requires-clause-side : goal.scan_client-requires-clause-side
scan_client-requires-clause-side g c =
    let h = c.requires.scan in
    let i = c.loop-client.invariant in
    c.requires.side ∙ (same_side g.E.Engine.seen (g.E.Engine.seen c.args.board.now.key.value).standing.kind (the_view c.args.seat.now.me) h.start h.is.part.rest ∙ sym (same_side g.E.Engine.seen (g.E.Engine.seen c.args.board.now.key.value).standing.kind (the_view c.loop-client.seat.me) h.start (i.2 h.start h.engine h.is).part.rest))
