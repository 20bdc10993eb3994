use Rattle.std.proofs.Common.{ap, ◌∙◌}
use Rattle.pb_queue.specs.Items.{item_at}
use Rattle.pb_queue.proofs.RingViews.{item_shown}
use Rattle.pb_queue.proofs.items.Items.item.Goals as goal

pub returns : goal.returns
returns c =
    let at = c.self.inside in
    c.item_at.ensures
    ∙ (ap (λ ls. item_at ls c.args.position) c.deref.ensures.value
    ∙ item_shown at.places.items at.head at.tail at.next_head at.next_tail c.args.self.now c.args.position (record { positions = c.self.invariant; shows = c.self.view_is }) c.requires.after c.requires.before)
