use Rattle.std.proofs.Common.{◌≡◌, take, ap, ◌∙◌}
use Rattle.std.proofs.lemmas.List.Sorted.{IsNonDecreasingBy-from_sort}
use Rattle.std.specs.List.Sorted.{IsNonDecreasing}
use Rattle.pb_object.specs.Heap.{rising_of}
use Rattle.pb_heap.proofs.OrderLemmas.{sorted_is_rising}
use Rattle.pb_heap.proofs.min_heap.MinHeap.rising.Goals as goal

pub returns : goal.returns
returns c =
    let up : IsNonDecreasing c.sort_unstable.new.self.items = IsNonDecreasingBy-from_sort (λ x. x) c.sort_unstable.new.self.items c.sort_unstable.ensures.sorted in
    let copied : c.in_ok-items.items.items ≡ take c.self.inside.len c.self.inside.places.items = c.in_ok-items.ensures.items ∙ ap (take c.self.inside.len) c.deref.ensures.value in
    sorted_is_rising _ c.sort_unstable.new.self.items c.sort_unstable.ensures.permutation up
    ∙ ap rising_of copied
    ∙ ap (λ heap. heap.items) c.self.view_is
