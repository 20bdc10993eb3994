use Rattle.pb_shared.proofs.Retries.{performs}
use Rattle.pb_shared.proofs.shared.Shared.perform.Goals as goal

pub returns-in-Done-clause-performed : goal.returns-in-Done-clause-performed
returns-in-Done-clause-performed g c =
    performs c.args.pass.now.view c.loop.pass.view c.attempt.new.pass.view c.attempt.result c.in-Done.reply c.loop.invariant.1 c.attempt.ensures.tried c.in-Done.is
