-- Reading and putting the cells of a queue.
use Rattle.std.specs.Prelude.{◌≡◌, ℕ, ◌+◌, ◌<◌, ◌≤◌, List, [], None}
use Rattle.pb_pmem.specs.declared.log.LogOp.{LogOp}
use Rattle.pb_pmem.specs.Lines.{word_of}
use Rattle.pb_pmem.specs.Operations.{Does}
use Rattle.pb_object.specs.declared.kind.Kind.TheVariants.{Queue}
use Rattle.pb_layout.specs.PutCell.{put_ops}
use Rattle.pb_layout.specs.Represents.{object_parts}
use Rattle.pb_pair.specs.declared.known.Known.TheVariants.{Sure}
use Rattle.pb_pair.specs.View.{PairView, IsPair, lines_of}

-- the position of the next item that is put, by the records in use
abbrev pub tail_in : PairView → ℕ
tail_in pair = word_of (object_parts pair.head (lines_of pair)) 0 0

-- the position of the first item that waits, by the records in use
abbrev pub taken_by_records : PairView → ℕ
taken_by_records pair = word_of (object_parts pair.head (lines_of pair)) 1 0

-- a position whose cell may be put: that of no waiting item
pub record IsFree (pair : PairView) (position : ℕ) : Type 0 where
  pub queue : pair.head.kind ≡ Queue
  pub known : pair.known ≡ Sure
  pub after : tail_in pair ≤ position
  pub room : position < taken_by_records pair + pair.head.size

-- the cell is put: else the pair is as before
pub record HasPut (position value : ℕ) (old new : PairView) : Type 0 where
  pub sound : IsPair new
  pub device : Does (put_ops old.head position value) old.device new.device
  pub head : new.head ≡ old.head
  pub first : new.first ≡ old.first
  pub second : new.second ≡ old.second
  pub known : new.known ≡ Sure
  pub doubt : new.doubt ≡ None

-- a read adds nothing
abbrev pub IsNothing : List LogOp → Type 0
IsNothing ops = ops ≡ []
