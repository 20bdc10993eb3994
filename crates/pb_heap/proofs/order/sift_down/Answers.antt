use Rattle.std.proofs.Common.{arith}
use Rattle.std.proofs.lemmas.List.Sorted.{IsPermutation-trans}
use Rattle.pb_heap.proofs.OrderLemmas.{down-step}
use Rattle.pb_heap.proofs.order.sift_down.Goals as goal

pub loop-place-preserved : goal.loop-place-preserved
loop-place-preserved c =
    let swapped = c.swap.ensures.by_index in
    record {
      within = omega arith;
      ordered = down-step _ _ c.loop-place.place _ c.least_child-child.ensures (omega arith) (omega arith) (swapped.0 0) (swapped.1 0) (λ k. swapped.2 k 0) c.loop-place.invariant.ordered;
      same = IsPermutation-trans _ _ _ c.loop-place.invariant.same c.swap.ensures.permutation;
    }
