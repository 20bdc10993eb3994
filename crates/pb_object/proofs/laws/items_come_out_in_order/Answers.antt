use Rattle.pb_object.proofs.LawLemmas.{ItemsComeOutInOrder-from_actions}
use Rattle.pb_object.proofs.laws.items_come_out_in_order.Goals as goal

pub returns : goal.returns
returns c = ItemsComeOutInOrder-from_actions _ _ _ _ c.requires.puts c.requires.take c.requires.room c.requires.positions
