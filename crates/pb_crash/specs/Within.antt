-- Which operations lie within the device.
use Rattle.std.specs.Prelude.{Bool, true, ◌&&◌, ◌+◌, nat_lt, nat_le}
use Rattle.pb_pmem.specs.declared.line.TheConstants.{LINES}
use Rattle.pb_pmem.specs.declared.log.LogOp.{LogOp}
use Rattle.pb_pmem.specs.declared.log.LogOp.TheVariants.{Whole, Word, Back, Fence, Sync}

-- the operation lies within the device
abbrev pub is_within : LogOp → Bool
is_within (Whole line to) = nat_lt line LINES
is_within (Word line word to) = nat_lt line LINES && nat_lt word 8
is_within (Back first count) = nat_le (first + count) LINES
is_within Fence = true
is_within Sync = true
