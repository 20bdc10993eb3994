use Rattle.pb_queue.proofs.RingViews.{tail_shown}
use Rattle.pb_queue.proofs.items.Items.tail.Goals as goal

pub returns : goal.returns
returns c =
    let at = c.self.inside in
    tail_shown at.places.items at.head at.tail at.next_head at.next_tail c.args.self.now (record { positions = c.self.invariant; shows = c.self.view_is })
