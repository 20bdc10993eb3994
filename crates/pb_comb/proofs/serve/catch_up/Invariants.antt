use Rattle.std.proofs.Common.{◌≡◌, take}
use Rattle.pb_engine.specs.Asks.{state_from}
use Rattle.pb_comb.proofs.serve.catch_up.Given as goal

abbrev pub invariant-loop-ask : goal.invariant-loop-ask
invariant-loop-ask g l = g.O.Object.state l.object ≡ state_from (g.O.Object.state l.initial.object) (take l.ask-index l.asks)
