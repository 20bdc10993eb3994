use Rattle.std.proofs.Common.{◌/◌, ◌≤◌, ap, arith, inl, inr}
use Rattle.std.proofs.lemmas.Bool.{cases_eq}
use Rattle.pb_play.specs.Seats.{seat_of}
use Rattle.pb_play.proofs.Publishing.{stores_rows, publishes_own, publishes_others}
use Rattle.pb_play.proofs.publish.fill.Goals as goal

pub returns-then-count-head : goal.returns-then-count-head
returns-then-count-head c = stores_rows c.args.client c.args.side c.args.count c.requires.holds c.requires.at (omega (arith, c.if-count-head.true, ap (λ head. head.clients) c.head.view_is)) c.store_row_word.ensures.after c.store_row_word.ensures.says

pub returns-else-count-head : goal.returns-else-count-head
returns-else-count-head c =
    let full : c.args.memory.now.head.clients ≤ c.args.count / 4 = omega (arith, c.if-count-head.false, ap (λ head. head.clients) c.head.view_is) in
    elim (cases_eq (seat_of c.args.memory.now c.args.client).ahead.number (seat_of c.args.memory.now c.args.client).ask.number) [
      | inl same ↦ publishes_own c.args.client c.args.side c.args.count c.requires.holds c.requires.at full same (c.publish.ensures.own same).0 (c.publish.ensures.own same).1
      | inr other ↦ publishes_others c.args.client c.args.side c.args.count c.requires.holds c.requires.at full other (c.publish.ensures.others other).0 (c.publish.ensures.others other).1
    ]
