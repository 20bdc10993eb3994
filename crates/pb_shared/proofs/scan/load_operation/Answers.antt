use Rattle.std.proofs.Common.{refl}
use Rattle.pb_core.specs.Memory.{AtCode, AtFirst, AtSecond, AtThird}
use Rattle.pb_shared.proofs.Steps.{to_part, has_part}
use Rattle.pb_shared.proofs.scan.load_operation.Goals as goal

pub load_part-code-requires-clause-part : goal.load_part-code-requires-clause-part
load_part-code-requires-clause-part g c =
    let h = c.requires.operation in
    has_part g.E.Engine.seen (g.E.Engine.seen c.args.board.now.key.value).standing.kind h.start h.engine c.args.client h.asks (AtCode h.number) h.looked _ 1 refl h.is

pub load_part-a-requires-clause-part : goal.load_part-a-requires-clause-part
load_part-a-requires-clause-part g c =
    let h = c.requires.operation in
    let p1 = to_part g.E.Engine.seen (g.E.Engine.seen c.args.board.now.key.value).standing.kind h.start h.engine c.args.client h.asks (AtCode h.number) (AtFirst h.number c.load_part-code.result) h.looked c.load_part-code.result _ refl refl (c.load_part-code.ensures.next h.start h.engine (AtCode h.number) h.asks h.looked h.is) in
    has_part g.E.Engine.seen (g.E.Engine.seen c.args.board.now.key.value).standing.kind h.start h.engine c.args.client h.asks (AtFirst h.number c.load_part-code.result) h.looked _ 2 refl p1

pub load_part-b-requires-clause-part : goal.load_part-b-requires-clause-part
load_part-b-requires-clause-part g c =
    let h = c.requires.operation in
    let p1 = to_part g.E.Engine.seen (g.E.Engine.seen c.args.board.now.key.value).standing.kind h.start h.engine c.args.client h.asks (AtCode h.number) (AtFirst h.number c.load_part-code.result) h.looked c.load_part-code.result _ refl refl (c.load_part-code.ensures.next h.start h.engine (AtCode h.number) h.asks h.looked h.is) in
    let p2 = to_part g.E.Engine.seen (g.E.Engine.seen c.args.board.now.key.value).standing.kind h.start h.engine c.args.client h.asks (AtFirst h.number c.load_part-code.result) (AtSecond h.number c.load_part-code.result c.load_part-a.result) h.looked c.load_part-a.result _ refl refl (c.load_part-a.ensures.next h.start h.engine (AtFirst h.number c.load_part-code.result) h.asks h.looked p1) in
    has_part g.E.Engine.seen (g.E.Engine.seen c.args.board.now.key.value).standing.kind h.start h.engine c.args.client h.asks (AtSecond h.number c.load_part-code.result c.load_part-a.result) h.looked _ 3 refl p2

pub load_part-c-requires-clause-part : goal.load_part-c-requires-clause-part
load_part-c-requires-clause-part g c =
    let h = c.requires.operation in
    let p1 = to_part g.E.Engine.seen (g.E.Engine.seen c.args.board.now.key.value).standing.kind h.start h.engine c.args.client h.asks (AtCode h.number) (AtFirst h.number c.load_part-code.result) h.looked c.load_part-code.result _ refl refl (c.load_part-code.ensures.next h.start h.engine (AtCode h.number) h.asks h.looked h.is) in
    let p2 = to_part g.E.Engine.seen (g.E.Engine.seen c.args.board.now.key.value).standing.kind h.start h.engine c.args.client h.asks (AtFirst h.number c.load_part-code.result) (AtSecond h.number c.load_part-code.result c.load_part-a.result) h.looked c.load_part-a.result _ refl refl (c.load_part-a.ensures.next h.start h.engine (AtFirst h.number c.load_part-code.result) h.asks h.looked p1) in
    let p3 = to_part g.E.Engine.seen (g.E.Engine.seen c.args.board.now.key.value).standing.kind h.start h.engine c.args.client h.asks (AtSecond h.number c.load_part-code.result c.load_part-a.result) (AtThird h.number c.load_part-code.result c.load_part-a.result c.load_part-b.result) h.looked c.load_part-b.result _ refl refl (c.load_part-b.ensures.next h.start h.engine (AtSecond h.number c.load_part-code.result c.load_part-a.result) h.asks h.looked p2) in
    has_part g.E.Engine.seen (g.E.Engine.seen c.args.board.now.key.value).standing.kind h.start h.engine c.args.client h.asks (AtThird h.number c.load_part-code.result c.load_part-a.result c.load_part-b.result) h.looked _ 4 refl p3

pub returns-clause-loaded : goal.returns-clause-loaded
returns-clause-loaded g c = λ start engine number asks looked at.
    let p1 = to_part g.E.Engine.seen (g.E.Engine.seen c.args.board.now.key.value).standing.kind start engine c.args.client asks (AtCode number) (AtFirst number c.load_part-code.result) looked c.load_part-code.result _ refl refl (c.load_part-code.ensures.next start engine (AtCode number) asks looked at) in
    let p2 = to_part g.E.Engine.seen (g.E.Engine.seen c.args.board.now.key.value).standing.kind start engine c.args.client asks (AtFirst number c.load_part-code.result) (AtSecond number c.load_part-code.result c.load_part-a.result) looked c.load_part-a.result _ refl refl (c.load_part-a.ensures.next start engine (AtFirst number c.load_part-code.result) asks looked p1) in
    let p3 = to_part g.E.Engine.seen (g.E.Engine.seen c.args.board.now.key.value).standing.kind start engine c.args.client asks (AtSecond number c.load_part-code.result c.load_part-a.result) (AtThird number c.load_part-code.result c.load_part-a.result c.load_part-b.result) looked c.load_part-b.result _ refl refl (c.load_part-b.ensures.next start engine (AtSecond number c.load_part-code.result c.load_part-a.result) asks looked p2) in
    c.load_part-c.ensures.next start engine (AtThird number c.load_part-code.result c.load_part-a.result c.load_part-b.result) asks looked p3
