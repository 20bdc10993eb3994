use Rattle.std.proofs.Common.{ap, subst}
use Rattle.pb_play.specs.declared.calls.Calls.{Calls}
use Rattle.pb_play.proofs.Crashing.{IsFound, crashes_to}
use Rattle.pb_play.proofs.crash.crash.Goals as goal

pub returns-clause-stepped : goal.returns-clause-stepped
returns-clause-stepped c = λ w is s may.
    crashes_to {old = c.args.world.now} c.args.cut c.args.pick is s may (ap (λ (q : Calls). q.going) c.end.ensures) c.leave.ensures.base c.leave.ensures.lines c.leave.ensures.log (subst (λ lines. IsFound lines c.args.world.now.head c.found-world.result) c.deref.ensures.value c.found-world.ensures)
