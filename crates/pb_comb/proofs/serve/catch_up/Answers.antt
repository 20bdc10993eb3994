-- One request after the other.
use Rattle.std.proofs.lemmas.List.{take_all}
use Rattle.std.proofs.Common.{ap, ◌∙◌}
use Rattle.pb_engine.specs.Asks.{state_from}
use Rattle.pb_comb.proofs.Serving.{follows_none, follows_more}
use Rattle.pb_comb.proofs.serve.catch_up.Goals as goal

pub loop-ask-init : goal.loop-ask-init
loop-ask-init g c = follows_none c.args.asks.now (g.O.Object.state c.args.object.now)

pub loop-ask-preserved : goal.loop-ask-preserved
loop-ask-preserved g c =
    follows_more c.args.asks.now c.loop-ask.ask-index _ (g.O.Object.state c.args.object.now) (g.O.Object.state c.loop-ask.object) (g.O.Object.state c.apply.new.self) c.loop-ask-test.true c.loop-ask.invariant c.apply.ensures.after

pub returns : goal.returns
returns g c =
    c.loop-ask.invariant ∙ ap (state_from (g.O.Object.state c.args.object.now)) (take_all c.loop-ask.ask-index c.args.asks.now c.loop-ask-test.false)
