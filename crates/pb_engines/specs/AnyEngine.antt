-- An engine of any kind as contracts see it.
use Rattle.pb_engine.specs.View.{EngineView}
use Rattle.pb_engines.specs.declared.any.AnyEngine.{AnyEngine}
use Rattle.pb_engines.specs.declared.any.AnyEngine.TheVariants.{Map, Stack, Heap, Queue}

-- the engine, whichever kind it is of
abbrev pub view_of : {P : Type 0} → AnyEngine P → EngineView
view_of (Map comb) = comb
view_of (Stack comb) = comb
view_of (Heap comb) = comb
view_of (Queue queue) = queue
