use Rattle.std.proofs.Common.{ℕ, sym, ap, ◌∙◌}
use Rattle.pb_object.specs.declared.request.Ask.{Ask}
use Rattle.pb_rule.specs.Plays.{the_view, last_look, first_turn, taken}
use Rattle.pb_shared.proofs.TryLemmas.{with_same, missed_tried, held_tried, view_taken}
use Rattle.pb_shared.proofs.tries.take_and_hold.Goals as goal

pub returns-then-met-turn-clause-tried : goal.returns-then-met-turn-clause-tried
returns-then-met-turn-clause-tried g c =
    let v = the_view c.args.seat.now.me in
    let number = ap (λ (a : Ask). a.number) c.requires.ask in
    let first = ap first_turn c.requires.stage in
    let missed = c.take_turn-met.ensures.taken.miss (λ e. c.if-met-turn.true (e ∙ first)) in
    missed_tried v (the_view c.take_turn-met.new.seat.me) c.args.turn c.args.found c.take_turn-met.result c.requires.notes (λ e. c.requires.found (e ∙ sym number)) c.requires.free c.if-met-turn.true c.take_turn-met.ensures.taken.later (with_same c.args.seat.now.me c.take_turn-met.new.seat.me (last_look c.take_turn-met.result) missed)

pub returns-clause-tried : goal.returns-clause-tried
returns-clause-tried g c =
    let v = the_view c.args.seat.now.me in
    let number = ap (λ (a : Ask). a.number) c.requires.ask in
    let first = ap first_turn c.requires.stage in
    let hit = c.take_turn-met.ensures.taken.hit (c.if-met-turn.false ∙ sym first) in
    held_tried v (the_view c.take_turn-met.new.seat.me) (the_view c.hold.new.seat.me) c.args.turn c.args.found (g.E.Engine.seen hit.value) (view_taken g.E.Engine.seen (g.E.Engine.seen c.args.board.now.key.value).standing.kind hit ∙ ap (λ (n : ℕ). taken n (g.E.Engine.seen hit.value) v) c.if-met-turn.false) c.requires.notes (λ e. c.requires.found (e ∙ sym number)) c.requires.free c.requires.front c.hold.result c.hold.ensures.held
