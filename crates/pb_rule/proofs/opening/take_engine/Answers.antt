use Rattle.std.proofs.Common.{Option, IfSome, sym, ◌∙◌, subst}
use Rattle.pb_rule.specs.Opening.{HasEnded}
use Rattle.pb_rule.proofs.Ends.{ends}
use Rattle.pb_rule.proofs.opening.take_engine.Goals as goal

pub returns : goal.returns
returns g c =
    let seen = g.E.Engine.seen in
    let start = seen c.args.table.shared.key.value in
    let e = ends seen start.standing.kind start c.args.seat.id 0 c.args.seat.me.0 _ _ c.take-slot.result c.requires.all c.requires.free c.close_with-closed.ensures.values.2 c.take-slot.ensures.value in
    subst (λ (o : Option g.row.E.Denot). IfSome o (λ x. HasEnded start.standing.kind start (seen x) c.args.seat.me.0)) (sym e.1 ∙ c.in-Some.is) e.2

pub unreachable-requires : goal.unreachable-requires
unreachable-requires g c =
    let seen = g.E.Engine.seen in
    let start = seen c.args.table.shared.key.value in
    let e = ends seen start.standing.kind start c.args.seat.id 0 c.args.seat.me.0 _ _ c.take-slot.result c.requires.all c.requires.free c.close_with-closed.ensures.values.2 c.take-slot.ensures.value in
    let there = e.1 in cc
