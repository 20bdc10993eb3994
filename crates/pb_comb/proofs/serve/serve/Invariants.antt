use Rattle.std.proofs.Common.{take}
use Rattle.pb_comb.specs.Serving.{IsServing}
use Rattle.pb_comb.proofs.serve.serve.Given as goal

abbrev pub invariant-loop-ask : goal.invariant-loop-ask
invariant-loop-ask g l =
    IsServing (take l.ask-index l.asks) l.before (g.O.Object.state l.initial.object) (g.O.Object.state l.object) l.initial.next l.next
