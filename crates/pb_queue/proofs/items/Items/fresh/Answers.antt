use Rattle.pb_queue.proofs.RingViews.{empty_shown}
use Rattle.pb_queue.proofs.items.Items.fresh.Goals as goal

pub returns : goal.returns
returns c = empty_shown c.args.size c.args.taken c.in_ok-places.places.items (c.in_ok-places.ensures.items_if_clones_equal (λ y h. h))
