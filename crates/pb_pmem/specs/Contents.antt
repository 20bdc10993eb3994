-- What a device holds after a log of operations.
use Rattle.std.specs.Prelude.{List, [], ◌∷◌, slice_set}
use Rattle.pb_pmem.specs.declared.line.Line.{Line}
use Rattle.pb_pmem.specs.declared.log.LogOp.{LogOp}
use Rattle.pb_pmem.specs.declared.log.LogOp.TheVariants.{Whole, Word}
use Rattle.pb_pmem.specs.Lines.{with_word, line_at}

-- the lines after one operation: only the two kinds of writes change them
abbrev pub applied : LogOp → List Line → List Line
applied (Whole line to) lines = slice_set lines line to
applied (Word line word to) lines = slice_set lines line (with_word (line_at lines line) word to)
applied _ lines = lines

-- the base with the log's operations applied in order
unfoldable pub contents : List Line → List LogOp → List Line
contents base [] = base
contents base (op ∷ log) = contents (applied op base) log
