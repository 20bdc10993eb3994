use Rattle.std.proofs.Common.{◌≡◌, ◌-◌, length, arith, ap, ◌∙◌}
use Rattle.std.proofs.lemmas.List.{length-take-le, take_at}
use Rattle.std.proofs.lemmas.List.Sorted.{length_permutation}
use Rattle.pb_object.specs.Heap.{rising_of}
use Rattle.pb_heap.proofs.OrderLemmas.{rising_of-removed}
use Rattle.pb_heap.proofs.order.remove_first.Goals as goal

pub returns-clause-rising : goal.returns-clause-rising
returns-clause-rising c =
    let last = length c.args.items.now - 1 in
    let len : length c.sift_down.new.items ≡ last =
    length_permutation _ _ c.sift_down.ensures.same ∙ length-take-le last c.swap.new.self (omega arith) in
    ap rising_of (take_at c.sift_down.new.items _ last len)
    ∙ rising_of-removed _ c.swap.new.self _ c.requires.ordered c.requires.some c.swap.ensures.permutation c.swap.ensures.len (c.swap.ensures.by_index.1 0) c.sift_down.ensures.same
