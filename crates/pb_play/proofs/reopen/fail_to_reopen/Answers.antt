use Rattle.std.proofs.Common.{refl, inl}
use Rattle.pb_play.proofs.Opening.{is_closed, moves_at_once, fails_reopening, reopening_callable}
use Rattle.pb_play.proofs.Silently.{no_call}
use Rattle.pb_play.proofs.reopen.fail_to_reopen.Goals as goal

pub returns-then-world-clause-stepped : goal.returns-then-world-clause-stepped
returns-then-world-clause-stepped c = λ w is s opening. fails_reopening {old = c.args.world.now} c.args.how s opening (c.fail.ensures.failed w.tale w.progress s.device (reopening_callable s opening c.if-world.true)).1

pub returns-else-world-clause-stepped : goal.returns-else-world-clause-stepped
returns-else-world-clause-stepped c = λ w is s opening.
    moves_at_once w tt (inl (record { closed = is_closed w opening; idle = no_call s.device c.if-world.false; is = refl; says = refl })) s
