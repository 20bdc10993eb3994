-- What a failing call leaves of its operation.
use Rattle.std.specs.Prelude.{ℕ, Option, Some, None}
use Rattle.pb_pmem.specs.declared.line.Line.{Line}
use Rattle.pb_pmem.specs.declared.log.LogOp.{LogOp}
use Rattle.pb_pmem.specs.declared.log.LogOp.TheVariants.{Whole, Fence, Sync}
use Rattle.pb_pmem.specs.Lines.{line_of}
use Rattle.pb_crash.specs.declared.leaves.Leaves.{Leaves}
use Rattle.pb_crash.specs.declared.leaves.Leaves.TheVariants.{Left, Done, Torn, Fenced}

-- the line with a number in each word
abbrev pub filled : ℕ → Line
filled value = line_of value value value value value value value value

-- what a failing call of this operation leaves in the log
abbrev pub left_by : Leaves → LogOp → Option LogOp
left_by Left op = None
left_by Done op = Some op
left_by (Torn value) (Whole line to) = Some (Whole line (filled value))
left_by (Torn value) _ = None
left_by Fenced Sync = Some Fence
left_by Fenced _ = None
