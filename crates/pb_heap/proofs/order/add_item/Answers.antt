use Rattle.std.proofs.Common.{◌≡◌, ◌+◌, length, arith, ap, ◌∙◌, slice_set}
use Rattle.std.proofs.lemmas.List.{length-set, length-take-le, take_at}
use Rattle.std.proofs.lemmas.List.Sorted.{length_permutation}
use Rattle.pb_object.specs.Heap.{rising_of}
use Rattle.pb_heap.proofs.OrderLemmas.{rising_of-added}
use Rattle.pb_heap.proofs.order.add_item.Goals as goal

pub returns-clause-rising : goal.returns-clause-rising
returns-clause-rising c =
    let written = slice_set c.args.places.now c.args.len c.args.item in
    let longer = length-set c.args.places.now c.args.len c.args.item in
    let len : length c.sift_up.new.items ≡ c.args.len + 1 =
    length_permutation _ _ c.sift_up.ensures.same ∙ length-take-le (c.args.len + 1) written (omega arith) in
    ap rising_of (take_at c.sift_up.new.items _ (c.args.len + 1) len)
    ∙ rising_of-added _ _ _ _ c.requires.room c.sift_up.ensures.same
