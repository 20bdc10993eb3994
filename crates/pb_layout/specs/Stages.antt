-- Operations that put a record in its place, before its index word.
use Rattle.std.specs.Prelude.{◌≡◌, ℕ, ◌+◌, ◌<◌, ◌≤◌, List, length, All}
use Rattle.pb_pmem.specs.declared.line.Line.{Line}
use Rattle.pb_pmem.specs.declared.log.LogOp.{LogOp}
use Rattle.pb_pmem.specs.declared.log.LogOp.TheVariants.{Whole, Word, Back, Fence, Sync}
use Rattle.pb_pmem.specs.Contents.{contents}
use Rattle.pb_pmem.specs.Lines.{line_at}

-- one of so many lines from the first on
abbrev pub IsLineFrom : ℕ → ℕ → ℕ → Type 0
IsLineFrom first count line = (first ≤ line) × (line < first + count)

-- a write of one of these whole lines, a `Back` or a `Fence`
abbrev pub IsStagingOp : ℕ → ℕ → LogOp → Type 0
IsStagingOp first count (Whole line to) = IsLineFrom first count line
IsStagingOp first count (Word line word to) = ⊥
IsStagingOp first count (Back at many) = Unit {0}
IsStagingOp first count Fence = Unit {0}
IsStagingOp first count Sync = ⊥

-- such operations, after which these lines stand from the first place on: they may write each line, or those that differ
pub record StagesRecord (first : ℕ) (lines before : List Line) (ops : List LogOp) : Type 0 where
  pub all : All (IsStagingOp first (length lines)) ops
  pub there : (place : ℕ) → place < length lines → line_at (contents before ops) (first + place) ≡ line_at lines place
