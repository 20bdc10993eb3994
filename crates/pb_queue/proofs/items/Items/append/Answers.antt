use Rattle.std.proofs.Common.{◌≡◌, ℕ, ◌+◌, ◌%◌, length, set, sym, ap, subst, ◌∙◌}
use Rattle.pb_queue.specs.Items.{ItemsView, with_item, ring_view, ArePositions}
use Rattle.pb_queue.proofs.RingViews.{append_shown, append_positions}
use Rattle.pb_queue.proofs.items.Items.append.Goals as goal

pub invariant_of-self : goal.invariant_of-self
invariant_of-self c =
    let at = c.self.inside in
    let place : c.place_of-place.result ≡ at.next_tail % length at.places.items = c.place_of-place.ensures ∙ ap (λ (n : ℕ). at.next_tail % n) (c.len.ensures ∙ at.places.ok.0) in
    subst (λ (p : ℕ). ArePositions (length (set at.places.items p c.args.item)) at.head at.tail at.next_head (at.next_tail + 1)) (sym place)
    (append_positions at.places.items at.head at.tail at.next_head at.next_tail c.args.item c.args.self.now (record { positions = c.self.invariant; shows = c.self.view_is }) c.requires.kept c.requires.room c.requires.last)

pub returns : goal.returns
returns c =
    let at = c.self.inside in
    let place : c.place_of-place.result ≡ at.next_tail % length at.places.items = c.place_of-place.ensures ∙ ap (λ (n : ℕ). at.next_tail % n) (c.len.ensures ∙ at.places.ok.0) in
    let more : ItemsView = record c.args.self.now { next = with_item c.args.self.now.next c.args.item } in
    subst (λ (p : ℕ). ring_view (set at.places.items p c.args.item) at.head at.tail at.next_head (at.next_tail + 1) ≡ more) (sym place)
    (append_shown at.places.items at.head at.tail at.next_head at.next_tail c.args.item c.args.self.now (record { positions = c.self.invariant; shows = c.self.view_is }) c.requires.kept c.requires.room)
