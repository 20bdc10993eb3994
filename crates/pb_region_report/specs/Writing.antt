-- Writing the report of an engine of any kind: what memory is taken for, and why it wasn't written.
use Rattle.std.specs.Prelude.{◌≡◌, ℕ, List, Option, Result, Ok, Err}
use Rattle.std.specs.Io.KnownBytes.{Keeps}
use Rattle.pb_pmem.specs.Count.{Rose}
use Rattle.pb_io.specs.declared.sink.SinkFault.{SinkFault}
use Rattle.pb_io.specs.SinkBytes.{AppendsSome}
use Rattle.pb_object.specs.Object.{Rising}
use Rattle.pb_object.specs.ObjectLines.{size_of}
use Rattle.pb_engines.specs.declared.any.AnyEngine.{AnyEngine}
use Rattle.pb_engines.specs.declared.any.AnyEngine.TheVariants.{Map, Stack, Heap, Queue}
use Rattle.pb_region_report.specs.declared.unwritten.Unwritten.{Unwritten}
use Rattle.pb_region_report.specs.declared.unwritten.Unwritten.TheVariants.{Memory, Sink}

-- these are a heap's items in rising order; of other kinds nothing is said
abbrev pub ListsHeap : {P : Type 0} → AnyEngine P → List ℕ → Type 0
ListsHeap (Map comb) rising = Unit {0}
ListsHeap (Stack comb) rising = Unit {0}
ListsHeap (Heap comb) rising = comb.standing.state ≡ Rising (size_of comb.standing.state) rising
ListsHeap (Queue queue) rising = Unit {0}

-- what became of the sink's bytes and its count of faults: as before where memory ran out, and else the count rose and some of the
-- first bytes of the text are written
abbrev pub IsUnwritten : Option (List ℕ) → Option (List ℕ) → ℕ → ℕ → List ℕ → Unwritten → Type 0
IsUnwritten old new before now text Memory = Keeps old new × (now ≡ before)
IsUnwritten old new before now text Sink = AppendsSome old new text × Rose before now

-- a sink's fault is why
abbrev pub told : {T : Type 0} → Result T SinkFault → Result T Unwritten
told (Ok done) = Ok done
told (Err fault) = Err Sink
