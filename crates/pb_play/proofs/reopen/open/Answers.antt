use Rattle.std.proofs.Common.{ap, ◌∙◌, sym, subst}
use Rattle.pb_core.specs.WordMoves.{IsNotReopening}
use Rattle.pb_play.specs.Maps.{owner_of}
use Rattle.pb_play.proofs.Opening.{opens_closed, stays_open}
use Rattle.pb_play.proofs.reopen.open.Goals as goal

pub returns-in-Free-clause-opened : goal.returns-in-Free-clause-opened
returns-in-Free-clause-opened c = λ w s done. stays_open s (subst IsNotReopening (sym (s.memory.owner ∙ ap owner_of c.in-Free.is)) tt)

pub returns-in-Held-clause-opened : goal.returns-in-Held-clause-opened
returns-in-Held-clause-opened c = λ w s done. stays_open s (subst IsNotReopening (sym (s.memory.owner ∙ ap owner_of c.in-Held.is)) tt)

pub returns-in-Closed-clause-opened : goal.returns-in-Closed-clause-opened
returns-in-Closed-clause-opened c = λ w s done. opens_closed {old = c.args.world.now} s done (s.memory.owner ∙ ap owner_of c.in-Closed.is) c.open_memory.ensures c.end.ensures
