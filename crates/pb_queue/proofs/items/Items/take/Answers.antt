use Rattle.std.proofs.Common.{ap, ◌∙◌, ℕ, arith}
use Rattle.pb_object.specs.declared.codes.Answer.TheVariants.{Item}
use Rattle.pb_object.specs.Request.{reply}
use Rattle.pb_queue.specs.Items.{item_at}
use Rattle.pb_queue.proofs.RingViews.{take_shown, take_none_shown}
use Rattle.pb_queue.proofs.items.Items.take.Goals as goal

pub returns-then-self-clause-after : goal.returns-then-self-clause-after
returns-then-self-clause-after c =
    let at = c.self.inside in
    (take_none_shown at.places.items at.head at.tail at.next_head at.next_tail c.args.self.now (record { positions = c.self.invariant; shows = c.self.view_is }) c.if-self.true).0

pub returns-then-self-clause-reply : goal.returns-then-self-clause-reply
returns-then-self-clause-reply c =
    let at = c.self.inside in
    c.new.ensures ∙ (take_none_shown at.places.items at.head at.tail at.next_head at.next_tail c.args.self.now (record { positions = c.self.invariant; shows = c.self.view_is }) c.if-self.true).1

pub returns-clause-after : goal.returns-clause-after
returns-clause-after c =
    let at = c.self.inside in
    (take_shown at.places.items at.head at.tail at.next_head at.next_tail c.args.self.now (record { positions = c.self.invariant; shows = c.self.view_is }) (omega (arith, c.self.invariant.next, c.if-self.false))).0

pub returns-clause-reply : goal.returns-clause-reply
returns-clause-reply c =
    let at = c.self.inside in
    let item = c.item_at.ensures ∙ ap (λ ls. item_at ls at.next_head) c.deref.ensures.value in
    c.new-2.ensures ∙ (ap (λ (n : ℕ). reply Item n at.next_head) item
    ∙ (take_shown at.places.items at.head at.tail at.next_head at.next_tail c.args.self.now (record { positions = c.self.invariant; shows = c.self.view_is }) (omega (arith, c.self.invariant.next, c.if-self.false))).1)
