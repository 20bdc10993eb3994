use Rattle.std.proofs.Common.{◌-◌, take}
use Rattle.pb_object.specs.Queue.{tail_of}
use Rattle.pb_queue.specs.Rounds.{added, HavePut}
use Rattle.pb_queue.proofs.store.put_cells.Given as goal

abbrev pub invariant-loop-position : goal.invariant-loop-position
invariant-loop-position g l =
    HavePut (tail_of l.items.sure) (take (l.position - tail_of l.items.sure) (added l.items)) l.initial.pair l.pair
