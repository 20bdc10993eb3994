use Rattle.std.proofs.Common.{◌≡◌, ◌+◌, ◌<◌, ℕ, List, length, take, arith, ap, sym, ◌∙◌}
use Rattle.std.proofs.lemmas.List.{with_items_is}
use Rattle.pb_object.specs.Heap.{rising_of, insert_rising, after_insert}
use Rattle.pb_object.specs.Stack.{Bounded}
use Rattle.pb_heap.proofs.OrderLemmas.{insert_with_room}
use Rattle.pb_heap.proofs.min_heap.MinHeap.insert.Goals as goal

pub returns-clause-after : goal.returns-clause-after
returns-clause-after c =
    let old : List ℕ = c.self.inside.places.items in
    let new : List ℕ = c.add_item.new.places in
    let len : ℕ = c.self.inside.len in
    let room : len < length old = omega arith in
    let same : length new ≡ length old = omega arith in
    let heap : ℕ → List ℕ → Bounded = λ size items. record { size = size; items = items } in
    let passed : c.deref_mut.result.now ≡ old = c.deref_mut.ensures.value in
    let rising : rising_of (take (len + 1) new) ≡ insert_rising c.args.item (rising_of (take len old)) =
    c.add_item.ensures.rising ∙ ap (λ places. insert_rising c.args.item (rising_of (take len places))) passed in
    ap (λ (places : List ℕ). heap (length places) (rising_of (take (len + 1) places))) (with_items_is c.self.inside.places new (omega arith))
    ∙ ap (λ size. heap size (rising_of (take (len + 1) new))) same
    ∙ ap (heap (length old)) (rising ∙ sym (insert_with_room old len c.args.item room))
    ∙ ap (λ (before : Bounded). heap before.size (after_insert before.size before.items c.args.item)) c.self.view_is
