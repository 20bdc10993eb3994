use Rattle.std.proofs.Common.{sym, ap, ◌∙◌, Some}
use Rattle.pb_round_play.proofs.Queues.{put_applied, take_applied}
use Rattle.pb_round_play.proofs.queue.apply.Goals as goal

pub returns-in-Some-QueuePut-clause-applied : goal.returns-in-Some-QueuePut-clause-applied
returns-in-Some-QueuePut-clause-applied c = λ side start queue first of_side s.
    put_applied side c.args.op.now (sym c.from_code.ensures ∙ c.in-Some-QueuePut.is ∙ ap Some c.in-Some-QueuePut.field-0-is) of_side s (c.put_item.ensures.put c.args.lines.now start queue first)

pub returns-in-Some-QueueTake-clause-applied : goal.returns-in-Some-QueueTake-clause-applied
returns-in-Some-QueueTake-clause-applied c = λ side start queue first of_side s.
    take_applied side c.args.op.now (sym c.from_code.ensures ∙ c.in-Some-QueueTake.is ∙ ap Some c.in-Some-QueueTake.field-0-is) of_side s (c.take_item.ensures.taken start queue first c.args.plan.now.items)
