-- What contracts read of the adapters over the standard reader and writer.
use Rattle.std.specs.Prelude.{ℕ}
use Rattle.pb_io.specs.declared.standard.StdSource.{StdSource}
use Rattle.pb_io.specs.declared.standard.StdSink.{StdSink}

-- the reader that a source reads from
abbrev pub source_reader : {R : Type 0} → StdSource R → R
source_reader source = source.inner

-- how often the source failed
abbrev pub source_faults : {R : Type 0} → StdSource R → ℕ
source_faults source = source.faults

-- the writer that a sink writes to
abbrev pub sink_writer : {W : Type 0} → StdSink W → W
sink_writer sink = sink.inner

-- how often the sink failed
abbrev pub sink_faults : {W : Type 0} → StdSink W → ℕ
sink_faults sink = sink.faults
