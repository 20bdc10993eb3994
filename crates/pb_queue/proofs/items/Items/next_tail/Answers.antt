use Rattle.pb_queue.proofs.RingViews.{next_tail_shown, next_bounded}
use Rattle.pb_queue.proofs.items.Items.next_tail.Goals as goal

pub returns-clause-tail : goal.returns-clause-tail
returns-clause-tail c =
    let at = c.self.inside in
    next_tail_shown at.places.items at.head at.tail at.next_head at.next_tail c.args.self.now (record { positions = c.self.invariant; shows = c.self.view_is })

pub returns-clause-bounded : goal.returns-clause-bounded
returns-clause-bounded c =
    let at = c.self.inside in
    next_bounded at.places.items at.head at.tail at.next_head at.next_tail c.args.self.now (record { positions = c.self.invariant; shows = c.self.view_is })
