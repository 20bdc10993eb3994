use Rattle.std.proofs.Common.{◌+◌, ◌*◌, arith, ap}
use Rattle.pb_engine.specs.View.{EngineView}
use Rattle.pb_rule.specs.View.{PassView}
use Rattle.pb_shared.proofs.Fills.{at_count, at_seat, has_filling}
use Rattle.pb_shared.proofs.fill.fill_client.Goals as goal

pub kept_of-kept-requires-clause-client : goal.kept_of-kept-requires-clause-client
kept_of-kept-requires-clause-client g c =
    let h = c.requires.filling in
    omega (arith, c.requires.client.0, ap (λ (e : EngineView). e.standing.clients) h.is.now, h.is.clients, ap (λ (v : PassView). v.clients) h.is.rest)

pub fill_word-requires-2-clause-filling : goal.fill_word-requires-2-clause-filling
fill_word-requires-2-clause-filling g c =
    let h = c.requires.filling in
    let f0 = at_count g.E.Engine.seen (g.E.Engine.seen c.args.board.now.key.value).standing.kind (4 * c.args.client) (4 * c.args.client + 0) (omega arith) (at_seat g.E.Engine.seen (g.E.Engine.seen c.args.board.now.key.value).standing.kind (4 * c.args.client) c.args.seat.now.me c.kept_of-kept.new.seat.me c.kept_of-kept.ensures.same.1 h.is) in
    let f1 = at_count g.E.Engine.seen (g.E.Engine.seen c.args.board.now.key.value).standing.kind (4 * c.args.client + 0 + 1) (4 * c.args.client + 1) (omega arith) (c.fill_word.ensures.filled h.start h.engine h.own f0) in
    has_filling g.E.Engine.seen (g.E.Engine.seen c.args.board.now.key.value).standing.kind f1

pub fill_word-requires-3-clause-filling : goal.fill_word-requires-3-clause-filling
fill_word-requires-3-clause-filling g c =
    let h = c.requires.filling in
    let f0 = at_count g.E.Engine.seen (g.E.Engine.seen c.args.board.now.key.value).standing.kind (4 * c.args.client) (4 * c.args.client + 0) (omega arith) (at_seat g.E.Engine.seen (g.E.Engine.seen c.args.board.now.key.value).standing.kind (4 * c.args.client) c.args.seat.now.me c.kept_of-kept.new.seat.me c.kept_of-kept.ensures.same.1 h.is) in
    let f1 = at_count g.E.Engine.seen (g.E.Engine.seen c.args.board.now.key.value).standing.kind (4 * c.args.client + 0 + 1) (4 * c.args.client + 1) (omega arith) (c.fill_word.ensures.filled h.start h.engine h.own f0) in
    let f2 = at_count g.E.Engine.seen (g.E.Engine.seen c.args.board.now.key.value).standing.kind (4 * c.args.client + 1 + 1) (4 * c.args.client + 2) (omega arith) (c.fill_word-2.ensures.filled h.start h.engine h.own f1) in
    has_filling g.E.Engine.seen (g.E.Engine.seen c.args.board.now.key.value).standing.kind f2

pub fill_word-requires-4-clause-filling : goal.fill_word-requires-4-clause-filling
fill_word-requires-4-clause-filling g c =
    let h = c.requires.filling in
    let f0 = at_count g.E.Engine.seen (g.E.Engine.seen c.args.board.now.key.value).standing.kind (4 * c.args.client) (4 * c.args.client + 0) (omega arith) (at_seat g.E.Engine.seen (g.E.Engine.seen c.args.board.now.key.value).standing.kind (4 * c.args.client) c.args.seat.now.me c.kept_of-kept.new.seat.me c.kept_of-kept.ensures.same.1 h.is) in
    let f1 = at_count g.E.Engine.seen (g.E.Engine.seen c.args.board.now.key.value).standing.kind (4 * c.args.client + 0 + 1) (4 * c.args.client + 1) (omega arith) (c.fill_word.ensures.filled h.start h.engine h.own f0) in
    let f2 = at_count g.E.Engine.seen (g.E.Engine.seen c.args.board.now.key.value).standing.kind (4 * c.args.client + 1 + 1) (4 * c.args.client + 2) (omega arith) (c.fill_word-2.ensures.filled h.start h.engine h.own f1) in
    let f3 = at_count g.E.Engine.seen (g.E.Engine.seen c.args.board.now.key.value).standing.kind (4 * c.args.client + 2 + 1) (4 * c.args.client + 3) (omega arith) (c.fill_word-3.ensures.filled h.start h.engine h.own f2) in
    has_filling g.E.Engine.seen (g.E.Engine.seen c.args.board.now.key.value).standing.kind f3

pub returns-clause-filled : goal.returns-clause-filled
returns-clause-filled g c = λ start engine own at.
    let f0 = at_count g.E.Engine.seen (g.E.Engine.seen c.args.board.now.key.value).standing.kind (4 * c.args.client) (4 * c.args.client + 0) (omega arith) (at_seat g.E.Engine.seen (g.E.Engine.seen c.args.board.now.key.value).standing.kind (4 * c.args.client) c.args.seat.now.me c.kept_of-kept.new.seat.me c.kept_of-kept.ensures.same.1 at) in
    let f1 = at_count g.E.Engine.seen (g.E.Engine.seen c.args.board.now.key.value).standing.kind (4 * c.args.client + 0 + 1) (4 * c.args.client + 1) (omega arith) (c.fill_word.ensures.filled start engine own f0) in
    let f2 = at_count g.E.Engine.seen (g.E.Engine.seen c.args.board.now.key.value).standing.kind (4 * c.args.client + 1 + 1) (4 * c.args.client + 2) (omega arith) (c.fill_word-2.ensures.filled start engine own f1) in
    let f3 = at_count g.E.Engine.seen (g.E.Engine.seen c.args.board.now.key.value).standing.kind (4 * c.args.client + 2 + 1) (4 * c.args.client + 3) (omega arith) (c.fill_word-3.ensures.filled start engine own f2) in
    let f4 = at_count g.E.Engine.seen (g.E.Engine.seen c.args.board.now.key.value).standing.kind (4 * c.args.client + 3 + 1) (4 * c.args.client + 4) (omega arith) (c.fill_word-4.ensures.filled start engine own f3) in
    f4
