-- What holds where a call on a region is left.
use Rattle.std.specs.Prelude.{◌≡◌, ℕ, ◌<◌, ◌≤◌, true, List, [], ◌∷◌, ◌++◌, length, take, Option, Some, None, ◌==◌, if◌then◌else◌}
use Rattle.pb_pmem.specs.declared.line.Line.{Line}
use Rattle.pb_pmem.specs.declared.log.LogOp.{LogOp}
use Rattle.pb_pmem.specs.Contents.{contents}
use Rattle.pb_pmem.specs.Crash.{IsCrashImage, IsCrashImageAt}
use Rattle.pb_pmem.specs.Lines.{line_at, zero_line}
use Rattle.pb_object.specs.History.{Round}
use Rattle.pb_object.specs.Object.{start_state}
use Rattle.pb_object.specs.ObjectLines.{LinesRepresent}
use Rattle.pb_object.specs.Standing.{Standing, side_count, empty_standing}
use Rattle.pb_layout.specs.Covers.{Covers}
use Rattle.pb_layout.specs.Header.{record_length, slot_count}
use Rattle.pb_layout.specs.LogHistory.{LoggedRound, AreSealed, history_of}
use Rattle.pb_layout.specs.Ready.{IsReady}
use Rattle.pb_layout.specs.Record.{slot_at}
use Rattle.pb_layout.specs.Recovered.{Represents}
use Rattle.pb_layout.specs.Represents.{object_parts}
use Rattle.pb_layout.specs.declared.header.Header.{Header}

-- each image that a crash may leave after the whole log represents s
abbrev pub AllImagesRepresent : List Line → List LogOp → Standing → Type 0
AllImagesRepresent base log s = (image : List Line) → IsCrashImage base log image → Represents image s

-- each image that a crash may leave at any moment of these operations represents s
abbrev pub ImagesAlwaysRepresent : List Line → List LogOp → List LogOp → Standing → Type 0
ImagesAlwaysRepresent base log ops s =
    (moment : ℕ) → length log ≤ moment → (image : List Line) → IsCrashImageAt base (log ++ ops) moment image → Represents image s

-- all of these rounds are sealed, but perhaps the last one
pub record HasOneUnsealedAtMost (rounds : List LoggedRound) : Type 0 where
  pub prefix : List LoggedRound
  pub last : List LoggedRound
  pub whole : rounds ≡ prefix ++ last
  pub sealed : AreSealed prefix
  pub few : length last ≤ 1

-- so it is of the rounds so far at each moment after the first `from` operations: a round is sealed before the index word of the next
-- one is written
abbrev pub HasOneUnsealedAtMostAlways : List Line → List LogOp → ℕ → Type 0
HasOneUnsealedAtMostAlways base log from = (moment : ℕ) → from ≤ moment → moment ≤ length log → HasOneUnsealedAtMost (history_of base (take moment log) from)

-- a call that made these operations after a log is covered from s on by this history, does one round after the other, and leaves the
-- device ready with these members
pub record IsExit (base : List Line) (log ops : List LogOp) (s : Standing) (history : List LoggedRound) (members : List (Option Standing)) : Type 0 where
  pub covers : Covers base (log ++ ops) (length log) s history
  pub one_unsealed : HasOneUnsealedAtMostAlways base (log ++ ops) (length log)
  pub ready : IsReady base (log ++ ops) members

-- a round that is sealed
abbrev pub sealed_round : Round → LoggedRound
sealed_round round = record { round = round; backed = true; sealed = true }

-- the first record of a side in which nothing was asked yet: round 0 and no requests
pub record IsEmptyRecord (head : Header) (lines : List Line) : Type 0 where
  pub long : length lines ≡ record_length head
  pub round : line_at lines 0 ≡ zero_line
  pub slots : (place : ℕ) → place < slot_count head → slot_at lines place ≡ zero_line

-- two records by the numbers of their sides
abbrev pub records_of : List Line → List Line → ℕ → List Line
records_of first second side = if side == 0 then first else second

-- the first records of a region in which nothing was asked yet: no requests, and the lines of the fresh object
pub record AreEmptyRecords (head : Header) (first second : List Line) : Type 0 where
  pub first_record : IsEmptyRecord head first
  pub second_record : 1 < side_count head.kind → IsEmptyRecord head second
  pub no_second : side_count head.kind ≡ 1 → second ≡ []
  pub state : LinesRepresent (object_parts head (records_of first second)) (start_state head.kind head.size)

-- the standing of a region that was just formatted
abbrev pub empty_for : Header → Standing
empty_for head = empty_standing head.kind head.clients head.size

-- formatting that was left between its fence and its end: there is no region yet, or the new one, which a crash may still take back
pub record IsExitPublishing (base : List Line) (log ops tail : List LogOp) (head : Header) : Type 0 where
  pub none : tail ≡ [] → IsExit base log ops (empty_for head) [] (None ∷ [])
  pub some : ¬ (tail ≡ []) → IsExit base log ops (empty_for head) [] (None ∷ Some (empty_for head) ∷ [])
  pub holds : ¬ (tail ≡ []) → Represents (contents base (log ++ ops)) (empty_for head)
