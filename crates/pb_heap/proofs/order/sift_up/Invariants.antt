use Rattle.std.proofs.Common.{◌<◌, length}
use Rattle.std.specs.List.Sorted.{IsPermutation}
use Rattle.pb_heap.specs.Order.{IsOrderedButAt}
use Rattle.pb_heap.proofs.order.sift_up.Given as goal

abbrev pub invariant-loop-place : goal.invariant-loop-place
invariant-loop-place l = record {
  within : l.place < length l.items;
  ordered : IsOrderedButAt l.items l.place;
  same : IsPermutation l.initial.items l.items;
}

abbrev pub decreases-loop-place : goal.decreases-loop-place
decreases-loop-place l = l.place
