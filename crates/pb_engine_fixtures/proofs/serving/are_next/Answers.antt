-- One request after the other.
use Rattle.std.proofs.Common.{subst, rules}
use Rattle.std.proofs.lemmas.List.{take_all}
use Rattle.pb_engine_fixtures.proofs.Askers.{AreNext, more_next, rises}
use Rattle.pb_engine_fixtures.proofs.serving.are_next.Goals as goal

pub loop-ask-preserved : goal.loop-ask-preserved
loop-ask-preserved g c =
    more_next (g.E.Engine.seen c.args.engine.now).standing c.args.side c.loop-ask.floor c.args.asks.now c.loop-ask.ask-index _ c.loop-ask-test.true c.loop-ask.invariant (search rules) (search rules)

pub returns-clause-rising : goal.returns-clause-rising
returns-clause-rising g c is =
    rises c.loop-ask.floor c.args.asks.now
    (subst (AreNext (g.E.Engine.seen c.args.engine.now).standing c.args.side c.loop-ask.floor) (take_all c.loop-ask.ask-index c.args.asks.now c.loop-ask-test.false) c.loop-ask.invariant).rising

pub returns-clause-next : goal.returns-clause-next
returns-clause-next g c is =
    (subst (AreNext (g.E.Engine.seen c.args.engine.now).standing c.args.side c.loop-ask.floor) (take_all c.loop-ask.ask-index c.args.asks.now c.loop-ask-test.false) c.loop-ask.invariant).next
