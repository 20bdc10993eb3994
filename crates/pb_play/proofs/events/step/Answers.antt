use Rattle.std.proofs.Common.{sym, subst}
use Rattle.pb_play.specs.Worlds.{PlaysEvent, HappensWhereItMay}
use Rattle.pb_play.proofs.Playing.{plays, happens, stays_shown}
use Rattle.pb_play.proofs.events.step.Goals as goal

pub returns-in-Ask-clause-plays : goal.returns-in-Ask-clause-plays
returns-in-Ask-clause-plays c = subst (λ event. PlaysEvent c.args.world.now event c.step_ask.new.world c.step_ask.result) (sym c.in-Ask.is) (plays c.step_ask.ensures.plays)

pub returns-in-Ask-clause-happens : goal.returns-in-Ask-clause-happens
returns-in-Ask-clause-happens c = subst (λ event. HappensWhereItMay c.args.world.now event c.step_ask.new.world c.step_ask.result) (sym c.in-Ask.is) (happens c.step_ask.ensures.plays)

pub returns-in-Ask-clause-shaped : goal.returns-in-Ask-clause-shaped
returns-in-Ask-clause-shaped c = record { built = c.step_ask.ensures.shaped; shown = stays_shown c.requires.shaped.shown c.step_ask.ensures.plays }

pub returns-in-Step-clause-plays : goal.returns-in-Step-clause-plays
returns-in-Step-clause-plays c = subst (λ event. PlaysEvent c.args.world.now event c.step_client.new.world c.step_client.result) (sym c.in-Step.is) (plays c.step_client.ensures.plays)

pub returns-in-Step-clause-happens : goal.returns-in-Step-clause-happens
returns-in-Step-clause-happens c = subst (λ event. HappensWhereItMay c.args.world.now event c.step_client.new.world c.step_client.result) (sym c.in-Step.is) (happens c.step_client.ensures.plays)

pub returns-in-Step-clause-shaped : goal.returns-in-Step-clause-shaped
returns-in-Step-clause-shaped c = record { built = c.step_client.ensures.shaped; shown = stays_shown c.requires.shaped.shown c.step_client.ensures.plays }

pub returns-in-Fail-clause-plays : goal.returns-in-Fail-clause-plays
returns-in-Fail-clause-plays c = subst (λ event. PlaysEvent c.args.world.now event c.step_fail.new.world c.step_fail.result) (sym c.in-Fail.is) (plays c.step_fail.ensures.plays)

pub returns-in-Fail-clause-happens : goal.returns-in-Fail-clause-happens
returns-in-Fail-clause-happens c = subst (λ event. HappensWhereItMay c.args.world.now event c.step_fail.new.world c.step_fail.result) (sym c.in-Fail.is) (happens c.step_fail.ensures.plays)

pub returns-in-Fail-clause-shaped : goal.returns-in-Fail-clause-shaped
returns-in-Fail-clause-shaped c = record { built = c.step_fail.ensures.shaped; shown = stays_shown c.requires.shaped.shown c.step_fail.ensures.plays }

pub returns-in-Crash-clause-plays : goal.returns-in-Crash-clause-plays
returns-in-Crash-clause-plays c = subst (λ event. PlaysEvent c.args.world.now event c.step_crash.new.world c.step_crash.result) (sym c.in-Crash.is) (plays c.step_crash.ensures.plays)

pub returns-in-Crash-clause-happens : goal.returns-in-Crash-clause-happens
returns-in-Crash-clause-happens c = subst (λ event. HappensWhereItMay c.args.world.now event c.step_crash.new.world c.step_crash.result) (sym c.in-Crash.is) (happens c.step_crash.ensures.plays)

pub returns-in-Crash-clause-shaped : goal.returns-in-Crash-clause-shaped
returns-in-Crash-clause-shaped c = record { built = c.step_crash.ensures.shaped; shown = stays_shown c.requires.shaped.shown c.step_crash.ensures.plays }

pub returns-in-Reopen-clause-plays : goal.returns-in-Reopen-clause-plays
returns-in-Reopen-clause-plays c = subst (λ event. PlaysEvent c.args.world.now event c.step_reopen.new.world c.step_reopen.result) (sym c.in-Reopen.is) (plays c.step_reopen.ensures.plays)

pub returns-in-Reopen-clause-happens : goal.returns-in-Reopen-clause-happens
returns-in-Reopen-clause-happens c = subst (λ event. HappensWhereItMay c.args.world.now event c.step_reopen.new.world c.step_reopen.result) (sym c.in-Reopen.is) (happens c.step_reopen.ensures.plays)

pub returns-in-Reopen-clause-shaped : goal.returns-in-Reopen-clause-shaped
returns-in-Reopen-clause-shaped c = record { built = c.step_reopen.ensures.shaped; shown = stays_shown c.requires.shaped.shown c.step_reopen.ensures.plays }

pub returns-in-ReopenFail-clause-plays : goal.returns-in-ReopenFail-clause-plays
returns-in-ReopenFail-clause-plays c = subst (λ event. PlaysEvent c.args.world.now event c.step_reopen_fail.new.world c.step_reopen_fail.result) (sym c.in-ReopenFail.is) (plays c.step_reopen_fail.ensures.plays)

pub returns-in-ReopenFail-clause-happens : goal.returns-in-ReopenFail-clause-happens
returns-in-ReopenFail-clause-happens c = subst (λ event. HappensWhereItMay c.args.world.now event c.step_reopen_fail.new.world c.step_reopen_fail.result) (sym c.in-ReopenFail.is) (happens c.step_reopen_fail.ensures.plays)

pub returns-in-ReopenFail-clause-shaped : goal.returns-in-ReopenFail-clause-shaped
returns-in-ReopenFail-clause-shaped c = record { built = c.step_reopen_fail.ensures.shaped; shown = stays_shown c.requires.shaped.shown c.step_reopen_fail.ensures.plays }
