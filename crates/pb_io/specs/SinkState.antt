-- What contracts see of a sink in memory, and what a write does to it.
use Rattle.std.specs.Prelude.{◌≡◌, ◌⊎◌, ◌<◌, ◌≤◌, ◌-◌, ◌++◌, ℕ, List, Result, Ok, Err, take, length, min}
use Rattle.std.specs.List.{Contains}
use Rattle.pb_pmem.specs.Count.{raised}

-- a sink in memory: the bytes written, how many have room, the most bytes of one write, the numbers of the writes that fail,
-- how many writes there were, and how many of them failed
pub record SinkState : Type 0 where
  pub bytes : List ℕ
  pub room : ℕ
  pub piece : ℕ
  pub fails : List ℕ
  pub calls : ℕ
  pub faults : ℕ

-- the sink takes no byte more
abbrev pub IsStuck : SinkState → Type 0
IsStuck sink = (sink.room ≤ length sink.bytes) ⊎ (sink.piece ≡ 0)

-- the next write, of so many bytes, fails: it is one of those that do, or it has bytes and the sink takes none
abbrev pub IsWriteFault : SinkState → ℕ → Type 0
IsWriteFault sink wanted = Contains sink.fails (raised sink.calls) ⊎ ((0 < wanted) × IsStuck sink)

-- how many of so many bytes the next write takes, where it doesn't fail
abbrev pub write_count : SinkState → ℕ → ℕ
write_count sink wanted = min (min sink.piece wanted) (sink.room - length sink.bytes)

-- the sink after a write
abbrev pub after_write : {E : Type 0} → SinkState → List ℕ → Result ℕ E → SinkState
after_write sink from (Ok count) =
    record sink { bytes = sink.bytes ++ take count from; calls = raised sink.calls }
after_write sink from (Err _) =
    record sink { calls = raised sink.calls; faults = raised sink.faults }
