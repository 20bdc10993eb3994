use Rattle.std.proofs.lemmas.Bool.{false≢true}
use Rattle.pb_play.proofs.Failing.{fails_to_settle}
use Rattle.pb_play.proofs.Scanning.{holds_turn, works_at}
use Rattle.pb_play.proofs.between.fail_settling.Goals as goal

pub returns-then-not-fail-clause-moved : goal.returns-then-not-fail-clause-moved
returns-then-not-fail-clause-moved c = λ w is s there due. absurd (false≢true (c.if-not-fail.ensures.failed w.tale w.progress s.device due).0)

pub returns-clause-moved : goal.returns-clause-moved
returns-clause-moved c = λ w is s there due.
    fails_to_settle {old = c.args.world.now} c.args.client c.args.side c.args.how is s (holds_turn c.args.client c.args.side s.memory c.requires.holds) there (works_at s.memory c.requires.at) c.note_failure.ensures.rose c.note_failure.ensures.after (c.fail.ensures.failed w.tale w.progress s.device due).1
