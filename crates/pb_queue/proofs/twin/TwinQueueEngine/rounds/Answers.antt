use Rattle.std.proofs.Common.{arith}
use Rattle.pb_layout_laws.proofs.FewRounds.{records_few}
use Rattle.pb_pair.specs.View.{lines_of}
use Rattle.pb_queue.specs.Standing.{standing_of}
use Rattle.pb_queue.proofs.twin.TwinQueueEngine.rounds.Goals as goal

pub overflow_add-result : goal.overflow_add-result
overflow_add-result g c =
    let i = c.self.inside in
    let few = records_few (lines_of i.pair) (standing_of i.pair i.items.sure) c.self.invariant.records in
    omega (arith, c.round.ensures, c.round-2.ensures, few 0, few 1)
