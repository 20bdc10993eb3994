use Rattle.std.proofs.Common.{◌≡◌, ◌++◌, take, drop}
use Rattle.pb_object.specs.Heap.{insert_rising}
use Rattle.pb_object.proofs.heap.place_for.Given as goal

abbrev pub invariant-loop-place : goal.invariant-loop-place
invariant-loop-place l = insert_rising l.item l.rising ≡ take l.place l.rising ++ insert_rising l.item (drop l.place l.rising)
