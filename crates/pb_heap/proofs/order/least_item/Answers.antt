use Rattle.pb_heap.proofs.OrderLemmas.{first-rising_of}
use Rattle.pb_heap.proofs.order.least_item.Goals as goal

pub returns : goal.returns
returns c = first-rising_of _ c.requires.ordered c.requires.some
