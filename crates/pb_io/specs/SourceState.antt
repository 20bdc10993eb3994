-- What contracts see of a source in memory, and what a read does to it.
use Rattle.std.specs.Prelude.{ℕ, List, Result, Ok, Err, drop, length, min}
use Rattle.std.specs.List.{Contains}
use Rattle.pb_pmem.specs.Count.{raised}

-- a source in memory: the bytes that are left, the most bytes of one read, the numbers of the reads that fail,
-- how many reads there were, and how many of them failed
pub record SourceState : Type 0 where
  pub rest : List ℕ
  pub piece : ℕ
  pub fails : List ℕ
  pub calls : ℕ
  pub faults : ℕ

-- the next read is one of those that fail
abbrev pub IsReadFault : SourceState → Type 0
IsReadFault source = Contains source.fails (raised source.calls)

-- how many bytes the next read gives, where it doesn't fail
abbrev pub read_count : SourceState → ℕ → ℕ
read_count source room = min (min source.piece room) (length source.rest)

-- the source after a read
abbrev pub after_read : {E : Type 0} → SourceState → Result ℕ E → SourceState
after_read source (Ok count) =
    record source { rest = drop count source.rest; calls = raised source.calls }
after_read source (Err _) =
    record source { calls = raised source.calls; faults = raised source.faults }
