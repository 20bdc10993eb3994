-- A device as contracts see it, and what its calls do to it.
use Rattle.std.specs.Prelude.{◌≡◌, ◌⊎◌, ℕ, List, [], ◌∷◌, ◌++◌, Option, Some, option_map, IfSome, length}
use Rattle.pb_pmem.specs.declared.line.Line.{Line}
use Rattle.pb_pmem.specs.declared.line.TheConstants.{LINES}
use Rattle.pb_pmem.specs.declared.log.LogOp.{LogOp}
use Rattle.pb_pmem.specs.declared.log.LogOp.TheVariants.{Whole, Word, Back, Fence, Sync}
use Rattle.pb_pmem.specs.Contents.{applied, contents}
use Rattle.pb_pmem.specs.Count.{Rose}
use Rattle.pb_pmem.specs.Lines.{line_at}

-- what a device tells of its past: the lines that it began with, and the operations since then in their order
pub record Tale : Type 0 where
  pub base : List Line
  pub log : List LogOp

-- a device: its past, where that is told; its lines now, where they are told; and how often it failed
pub record Device : Type 0 where
  pub told : Option Tale
  pub now : Option (List Line)
  pub faults : ℕ

-- one more operation
abbrev pub with_op : LogOp → Tale → Tale
with_op op tale = record tale { log = tale.log ++ op ∷ [] }

-- a call that answered Ok: the log is longer by this operation, the lines are changed by it alone, and the count stays
pub record Adds (op : LogOp) (old new : Device) : Type 0 where
  pub told : new.told ≡ option_map (with_op op) old.told
  pub now : new.now ≡ option_map (applied op) old.now
  pub faults : new.faults ≡ old.faults

-- a call that failed: the count rose, the base stays, and the log stays or has one more of the operations that may be added
pub record Fails (may_add : LogOp → Type 0) (old new : Device) : Type 0 where
  pub rose : Rose old.faults new.faults
  pub told : (new.told ≡ old.told) ⊎ ((op : LogOp) × may_add op × (new.told ≡ option_map (with_op op) old.told))

-- a read that answered Ok: nothing changed, and what was read is the device's line, where that is told
pub record Reads (line : ℕ) (into : Line) (old new : Device) : Type 0 where
  pub same : new ≡ old
  pub content : IfSome old.now (λ lines. into ≡ line_at lines line)

-- no operation: what a failed read may have added
abbrev pub IsNoOp : LogOp → Type 0
IsNoOp _ = ⊥

-- a write of the whole line, with any words
abbrev pub IsWholeOf : ℕ → LogOp → Type 0
IsWholeOf line (Whole at to) = at ≡ line
IsWholeOf line _ = ⊥

-- this operation and no other
abbrev pub Is : LogOp → LogOp → Type 0
Is op other = other ≡ op

-- a fence or a sync
abbrev pub IsMark : LogOp → Type 0
IsMark Fence = Unit {0}
IsMark Sync = Unit {0}
IsMark _ = ⊥

-- what a call of the device that fails may have added in place of its operation
abbrev pub MayAdd : LogOp → LogOp → Type 0
MayAdd (Whole line to) added = IsWholeOf line added
MayAdd (Word line word to) added = added ≡ Word line word to
MayAdd (Back first count) added = added ≡ Back first count
MayAdd Fence added = added ≡ Fence
MayAdd Sync added = IsMark added

-- the lines that a device tells are all its lines
abbrev pub IsWhole : Device → Type 0
IsWhole device = IfSome device.now (λ lines. length lines ≡ LINES)

-- a device that tells its log tells its lines, which are the base with the log applied
abbrev pub IsReplay : Device → Type 0
IsReplay device = IfSome device.told (λ tale. device.now ≡ Some (contents tale.base tale.log))
