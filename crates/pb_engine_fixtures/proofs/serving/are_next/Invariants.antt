use Rattle.std.proofs.Common.{take}
use Rattle.pb_engine_fixtures.proofs.Askers.{AreNext}
use Rattle.pb_engine_fixtures.proofs.serving.are_next.Given as goal

abbrev pub invariant-loop-ask : goal.invariant-loop-ask
invariant-loop-ask g l = AreNext (g.E.Engine.seen l.engine).standing l.side l.floor (take l.ask-index l.asks)
