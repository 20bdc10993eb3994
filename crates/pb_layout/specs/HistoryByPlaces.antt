-- The history of a log, said once more by the places of its operations.
use Rattle.std.specs.Prelude.{◌≡◌, ℕ, ◌+◌, ◌<◌, ◌≤◌, ◌↔◌, true, List, length, take, Some, slice_get, Contains}
use Rattle.pb_pmem.specs.declared.line.Line.{Line}
use Rattle.pb_pmem.specs.declared.log.LogOp.{LogOp}
use Rattle.pb_pmem.specs.declared.log.LogOp.TheVariants.{Word, Sync}
use Rattle.pb_pmem.specs.Contents.{contents}
use Rattle.pb_pmem.specs.Crash.{is_back_of}
use Rattle.pb_pmem.specs.Lines.{word_of}
use Rattle.pb_layout.specs.LogHistory.{LoggedRound, sides_in, round_at}

-- the operation at this place is an index word of a side that there is, and raises the round number by one over the contents before it
pub record IsIndexWord (base : List Line) (log : List LogOp) (place side index : ℕ) : Type 0 where
  pub here : side < sides_in (contents base (take place log))
  pub word : slice_get log place ≡ Some (Word (1 + side) 0 index)
  pub raises : index ≡ word_of (contents base (take place log)) (1 + side) 0 + 1

-- a `Back` of a line stands after this place
pub record HasBackAfter (log : List LogOp) (line place : ℕ) : Type 0 where
  pub back : ℕ
  pub op : LogOp
  pub after : place < back
  pub at : slice_get log back ≡ Some op
  pub covers : is_back_of line op ≡ true

-- and a `Sync` after that
pub record HasSyncAfter (log : List LogOp) (line place : ℕ) : Type 0 where
  pub given : HasBackAfter log line place
  pub sync : ℕ
  pub later : given.back < sync
  pub waits : slice_get log sync ≡ Some Sync

-- the round of the index word at this place: its entries are told by the contents before the word
pub record IsRoundAt (base : List Line) (log : List LogOp) (place : ℕ) (logged : LoggedRound) : Type 0 where
  pub side : ℕ
  pub index : ℕ
  pub word : IsIndexWord base log place side index
  pub round : logged.round ≡ round_at (contents base (take place log)) side index
  pub backed : (logged.backed ≡ true) ↔ HasBackAfter log (1 + side) place
  pub sealed : (logged.sealed ≡ true) ↔ HasSyncAfter log (1 + side) place

-- a history has a round for each index word from a moment on, and no other
pub record TellsByPlaces (base : List Line) (log : List LogOp) (from : ℕ) (history : List LoggedRound) : Type 0 where
  pub places : List ℕ
  pub as_many : length places ≡ length history
  pub rising : (a b first second : ℕ) → a < b → slice_get places a ≡ Some first → slice_get places b ≡ Some second → first < second
  pub rounds : (k place : ℕ) (logged : LoggedRound) → slice_get places k ≡ Some place → slice_get history k ≡ Some logged → (from ≤ place) × IsRoundAt base log place logged
  pub all : (place side index : ℕ) → from ≤ place → IsIndexWord base log place side index → Contains places place
