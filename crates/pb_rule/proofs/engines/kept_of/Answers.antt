use Rattle.pb_rule.proofs.Slots.{lent}
use Rattle.pb_rule.proofs.engines.kept_of.Goals as goal

pub slot_mut-requires : goal.slot_mut-requires
slot_mut-requires g c = (c.requires.table, lent c.requires.holds)
