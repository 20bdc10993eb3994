use Rattle.std.proofs.Common.{◌≡◌, List, OnOk, Result, sym, subst}
use Rattle.std.specs.Bool.{⊤}
use Rattle.pb_pmem.specs.declared.device.DeviceFault.{DeviceFault}
use Rattle.pb_object.specs.declared.request.Ask.{Ask}
use Rattle.pb_engine.specs.Asks.{asked_round}
use Rattle.pb_engine.specs.Covers.{RoundCovers}
use Rattle.pb_engine.specs.View.{EngineView}
use Rattle.pb_engines.specs.declared.any.AnyEngine.{AnyEngine}
use Rattle.pb_engines.specs.AnyEngine.{view_of}
use Rattle.pb_engines.proofs.any.AnyEngineEngine.round.Goals as goal

-- the engine of its kind, from which the round went, is this one
covers_from : {P : Type 0} (old one : AnyEngine P) (asks : List Ask) (new : EngineView) (result : Result ⊤ DeviceFault) → old ≡ one
    → OnOk result (RoundCovers (asked_round (view_of one).standing asks) (view_of one) new)
    → OnOk result (RoundCovers (asked_round (view_of old).standing asks) (view_of old) new)
covers_from {P} old one asks new result is =
    subst (λ (e : AnyEngine P). OnOk result (RoundCovers (asked_round (view_of e).standing asks) (view_of e) new)) (sym is)

pub returns-in-Map-clause-safe : goal.returns-in-Map-clause-safe
returns-in-Map-clause-safe g c = covers_from c.args.self.now _ c.args.asks.now.items c.round.new.self c.round.result c.in-Map.is c.round.ensures.safe

pub returns-in-Stack-clause-safe : goal.returns-in-Stack-clause-safe
returns-in-Stack-clause-safe g c =
    covers_from c.args.self.now _ c.args.asks.now.items c.round-in-Stack.new.self c.round-in-Stack.result c.in-Stack.is c.round-in-Stack.ensures.safe

pub returns-in-Heap-clause-safe : goal.returns-in-Heap-clause-safe
returns-in-Heap-clause-safe g c =
    covers_from c.args.self.now _ c.args.asks.now.items c.round-in-Heap.new.self c.round-in-Heap.result c.in-Heap.is c.round-in-Heap.ensures.safe

pub returns-in-Queue-clause-safe : goal.returns-in-Queue-clause-safe
returns-in-Queue-clause-safe g c =
    covers_from c.args.self.now _ c.args.asks.now.items c.round-in-Queue.new.self c.round-in-Queue.result c.in-Queue.is c.round-in-Queue.ensures.safe
