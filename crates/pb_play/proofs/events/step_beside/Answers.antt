use Rattle.std.proofs.Common.{ap, sym, ◌∙◌}
use Rattle.pb_core.proofs.Turns.{held-client}
use Rattle.pb_play.specs.Maps.{owner_of}
use Rattle.pb_play.proofs.Holding.{waits_step}
use Rattle.pb_play.proofs.events.step_beside.Goals as goal

pub returns-then-holder-client-clause-stepped : goal.returns-then-holder-client-clause-stepped
returns-then-holder-client-clause-stepped c = λ w is s may. c.hold.ensures.stepped w is s may.there

pub returns-else-holder-client-clause-stepped : goal.returns-else-holder-client-clause-stepped
returns-else-holder-client-clause-stepped c = λ w is s may.
    waits_step {old = c.args.world.now} c.args.client is s may (λ side same. c.if-holder-client.false (held-client c.args.holder c.args.client c.args.side side (sym (s.memory.owner ∙ ap owner_of c.requires.holds) ∙ same))) c.wait.ensures
