use Rattle.std.proofs.Common.{arith}
use Rattle.std.proofs.lemmas.Bool.{false≢true}
use Rattle.pb_play.proofs.Failing.{fails_to_write, how_many}
use Rattle.pb_play.proofs.Scanning.{holds_turn, works_at}
use Rattle.pb_play.proofs.between.fail_calling.Goals as goal

pub returns-then-not-fail-clause-moved : goal.returns-then-not-fail-clause-moved
returns-then-not-fail-clause-moved c = λ w is s there due. absurd (false≢true (c.if-not-fail.ensures.failed w.tale w.progress s.device due).0)

pub returns-then-left-gt-LAST_CALLS-clause-moved : goal.returns-then-left-gt-LAST_CALLS-clause-moved
returns-then-left-gt-LAST_CALLS-clause-moved c = λ w is s there due.
    let fails = (c.fail.ensures.failed w.tale w.progress s.device due).1 in
    fails_to_write {old = c.args.world.now} c.args.client c.args.side c.args.how is s (holds_turn c.args.client c.args.side s.memory c.requires.holds) there (works_at s.memory c.requires.at) c.drop_round.ensures.rose fails
    (λ _. c.drop_round.ensures.after)
    (λ few. absurd (omega (arith, few, c.if-left-gt-LAST_CALLS.true, c.left-left.ensures, how_many s.device fails.at due)))

pub returns-clause-moved : goal.returns-clause-moved
returns-clause-moved c = λ w is s there due.
    let fails = (c.fail.ensures.failed w.tale w.progress s.device due).1 in
    fails_to_write {old = c.args.world.now} c.args.client c.args.side c.args.how is s (holds_turn c.args.client c.args.side s.memory c.requires.holds) there (works_at s.memory c.requires.at) c.note_failure.ensures.rose fails
    (λ many. absurd (omega (arith, many, c.if-left-gt-LAST_CALLS.false, c.left-left.ensures, how_many s.device fails.at due)))
    (λ _. c.note_failure.ensures.after)
