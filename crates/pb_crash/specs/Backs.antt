-- Where the last `Back` of each line stands in a log.
use Rattle.std.specs.Prelude.{◌≡◌, ℕ, ◌+◌, ◌<◌, ◌&&◌, nat_lt, nat_le, List, drop, slice_index, if◌then◌else◌}
use Rattle.std.specs.List.{list_any}
use Rattle.pb_pmem.specs.declared.line.TheConstants.{LINES}
use Rattle.pb_pmem.specs.declared.log.LogOp.{LogOp}
use Rattle.pb_pmem.specs.Crash.{is_back_of}

-- an operation before that place has a `Back` of the line after it, and the others have none
abbrev pub HasLastBacks : List LogOp → List ℕ → Type 0
HasLastBacks log backs = (line place : ℕ) → line < LINES → nat_lt place (slice_index backs line) ≡ list_any (is_back_of line) (drop (place + 1) log)

-- the places after one more `Back`
abbrev pub last_back : ℕ → ℕ → ℕ → List ℕ → ℕ → ℕ
last_back place first count backs line = if nat_le first line && nat_lt line (first + count) then place else slice_index backs line
