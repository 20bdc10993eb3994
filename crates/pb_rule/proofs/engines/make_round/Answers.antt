use Rattle.pb_rule.proofs.Slots.{lent, made_on, slot_is}
use Rattle.pb_rule.proofs.engines.make_round.Goals as goal

pub slot_mut-requires : goal.slot_mut-requires
slot_mut-requires g c = (c.requires.table, lent c.requires.holds)

pub returns-in-Some-clause-ok : goal.returns-in-Some-clause-ok
returns-in-Some-clause-ok g c =
    made_on c.round.result c.args.asks.now.items _ _ _ (slot_is g.E.Engine.seen c.args.seat.now.me.1 _ _ c.slot_mut.ensures.value c.in-Some.is) c.round.ensures.ok c.round.ensures.safe
