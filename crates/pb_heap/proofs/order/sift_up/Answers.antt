use Rattle.std.proofs.Common.{arith}
use Rattle.std.proofs.lemmas.List.Sorted.{IsPermutation-trans}
use Rattle.pb_heap.proofs.OrderLemmas.{up-step}
use Rattle.pb_heap.proofs.order.sift_up.Goals as goal

pub loop-place-preserved : goal.loop-place-preserved
loop-place-preserved c =
    let swapped = c.swap.ensures.by_index in
    record {
      within = omega arith;
      ordered = up-step _ _ c.loop-place.place (omega arith) (omega arith) (omega arith) (omega arith) (swapped.0 0) (swapped.1 0) (λ k. swapped.2 k 0) c.loop-place.invariant.ordered;
      same = IsPermutation-trans _ _ _ c.loop-place.invariant.same c.swap.ensures.permutation;
    }
