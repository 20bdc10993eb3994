use Rattle.std.proofs.Common.{◌∙◌, arith}
use Rattle.pb_queue.proofs.RingViews.{IsRing, next_tail_shown, has_room, put_full_shown, put_worn_shown, put_at_shown}
use Rattle.pb_queue.proofs.items.Items.put.Goals as goal

pub returns-then-self-len-clause-after : goal.returns-then-self-len-clause-after
returns-then-self-len-clause-after c =
    let at = c.self.inside in
    let is : IsRing at.places.items at.head at.tail at.next_head at.next_tail c.args.self.now = record { positions = c.self.invariant; shows = c.self.view_is } in
    (put_full_shown at.places.items at.head at.tail at.next_head at.next_tail c.len.result c.args.item c.args.self.now is (c.len.ensures ∙ at.places.ok.0) c.if-self-len.true).0

pub returns-then-self-len-clause-reply : goal.returns-then-self-len-clause-reply
returns-then-self-len-clause-reply c =
    let at = c.self.inside in
    let is : IsRing at.places.items at.head at.tail at.next_head at.next_tail c.args.self.now = record { positions = c.self.invariant; shows = c.self.view_is } in
    c.new.ensures ∙ (put_full_shown at.places.items at.head at.tail at.next_head at.next_tail c.len.result c.args.item c.args.self.now is (c.len.ensures ∙ at.places.ok.0) c.if-self-len.true).1

pub returns-then-self-ge-LAST_POSITION-clause-after : goal.returns-then-self-ge-LAST_POSITION-clause-after
returns-then-self-ge-LAST_POSITION-clause-after c =
    let at = c.self.inside in
    let is : IsRing at.places.items at.head at.tail at.next_head at.next_tail c.args.self.now = record { positions = c.self.invariant; shows = c.self.view_is } in
    (put_worn_shown at.places.items at.head at.tail at.next_head at.next_tail c.args.item c.args.self.now is (has_room at.places.items at.head at.tail at.next_head at.next_tail c.len.result c.args.self.now is (c.len.ensures ∙ at.places.ok.0) c.if-self-len.false) c.if-self-ge-LAST_POSITION.true).0

pub returns-then-self-ge-LAST_POSITION-clause-reply : goal.returns-then-self-ge-LAST_POSITION-clause-reply
returns-then-self-ge-LAST_POSITION-clause-reply c =
    let at = c.self.inside in
    let is : IsRing at.places.items at.head at.tail at.next_head at.next_tail c.args.self.now = record { positions = c.self.invariant; shows = c.self.view_is } in
    c.new-then-self-ge-LAST_POSITION.ensures ∙ (put_worn_shown at.places.items at.head at.tail at.next_head at.next_tail c.args.item c.args.self.now is (has_room at.places.items at.head at.tail at.next_head at.next_tail c.len.result c.args.self.now is (c.len.ensures ∙ at.places.ok.0) c.if-self-len.false) c.if-self-ge-LAST_POSITION.true).1

pub append-requires-clause-room : goal.append-requires-clause-room
append-requires-clause-room c =
    let at = c.self.inside in
    let is : IsRing at.places.items at.head at.tail at.next_head at.next_tail c.args.self.now = record { positions = c.self.invariant; shows = c.self.view_is } in
    has_room at.places.items at.head at.tail at.next_head at.next_tail c.len.result c.args.self.now is (c.len.ensures ∙ at.places.ok.0) c.if-self-len.false

pub append-requires-clause-last : goal.append-requires-clause-last
append-requires-clause-last c =
    let at = c.self.inside in
    let is : IsRing at.places.items at.head at.tail at.next_head at.next_tail c.args.self.now = record { positions = c.self.invariant; shows = c.self.view_is } in
    omega (arith, c.if-self-ge-LAST_POSITION.false, next_tail_shown at.places.items at.head at.tail at.next_head at.next_tail c.args.self.now is)

pub returns-clause-after : goal.returns-clause-after
returns-clause-after c =
    let at = c.self.inside in
    let is : IsRing at.places.items at.head at.tail at.next_head at.next_tail c.args.self.now = record { positions = c.self.invariant; shows = c.self.view_is } in
    c.append.ensures ∙ (put_at_shown at.places.items at.head at.tail at.next_head at.next_tail c.args.item c.args.self.now is (has_room at.places.items at.head at.tail at.next_head at.next_tail c.len.result c.args.self.now is (c.len.ensures ∙ at.places.ok.0) c.if-self-len.false) c.if-self-ge-LAST_POSITION.false).0

pub returns-clause-reply : goal.returns-clause-reply
returns-clause-reply c =
    let at = c.self.inside in
    let is : IsRing at.places.items at.head at.tail at.next_head at.next_tail c.args.self.now = record { positions = c.self.invariant; shows = c.self.view_is } in
    c.new-2.ensures ∙ (put_at_shown at.places.items at.head at.tail at.next_head at.next_tail c.args.item c.args.self.now is (has_room at.places.items at.head at.tail at.next_head at.next_tail c.len.result c.args.self.now is (c.len.ensures ∙ at.places.ok.0) c.if-self-len.false) c.if-self-ge-LAST_POSITION.false).1
