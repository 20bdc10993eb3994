-- Which calls of the device in memory fail.
use Rattle.std.specs.Prelude.{ℕ, ◌+◌, Bool, true, false, ◌&&◌, ◌==◌, List, Option, Some, None, option_map, find}
use Rattle.pb_pmem.specs.declared.log.LogOp.{LogOp}
use Rattle.pb_pmem.specs.Count.{raised}
use Rattle.pb_crash.specs.declared.leaves.Leaves.{Leaves}
use Rattle.pb_crash.specs.Leaves.{left_by}
use Rattle.pb_image.specs.declared.calls.Calls.{Calls}
use Rattle.pb_image.specs.declared.fail.Call.{Call}
use Rattle.pb_image.specs.declared.fail.Call.TheVariants.{Read, Write, SetWord, WriteBack, Any}
use Rattle.pb_image.specs.declared.fail.Call.TheVariants.{Fence as FenceCall, Sync as SyncCall}
use Rattle.pb_image.specs.declared.fail.Fail.{Fail}

-- how many calls of a kind there were
abbrev pub count_of : Call → Calls → ℕ
count_of Read calls = calls.read
count_of Write calls = calls.write
count_of SetWord calls = calls.set_word
count_of WriteBack calls = calls.write_back
count_of FenceCall calls = calls.fence
count_of SyncCall calls = calls.sync
count_of Any calls = calls.any

-- the counts after one more call of a kind
abbrev pub counted : Call → Calls → Calls
counted Read calls = record calls { read = raised calls.read; any = raised calls.any }
counted Write calls = record calls { write = raised calls.write; any = raised calls.any }
counted SetWord calls = record calls { set_word = raised calls.set_word; any = raised calls.any }
counted WriteBack calls = record calls { write_back = raised calls.write_back; any = raised calls.any }
counted FenceCall calls = record calls { fence = raised calls.fence; any = raised calls.any }
counted SyncCall calls = record calls { sync = raised calls.sync; any = raised calls.any }
counted Any calls = record calls { any = raised calls.any }

-- an entry of the first kind is meant for calls of the second
abbrev pub is_for : Call → Call → Bool
is_for Any call = true
is_for Read Read = true
is_for Write Write = true
is_for SetWord SetWord = true
is_for WriteBack WriteBack = true
is_for FenceCall FenceCall = true
is_for SyncCall SyncCall = true
is_for _ _ = false

-- the next call of this kind is the one that the entry names
abbrev pub is_due : Call → Calls → Fail → Bool
is_due call calls fail = is_for fail.call call && (count_of fail.call calls + 1 == fail.nth)

-- how the next call of this kind fails by the list, where it does: the first entry that names it decides
abbrev pub failure : Call → Calls → List Fail → Option Leaves
failure call calls fails = option_map (λ fail. fail.how) (find (is_due call calls) fails)

-- the operation that a call adds to the log, where it adds one
abbrev pub added_by : LogOp → Option Leaves → Option LogOp
added_by op None = Some op
added_by op (Some how) = left_by how op

-- the count of faults after a call
abbrev pub faults_after : Option Leaves → ℕ → ℕ
faults_after None faults = faults
faults_after (Some how) faults = raised faults
