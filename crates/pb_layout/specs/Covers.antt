-- Covering: at each moment of a call, a crash leaves the state after a prefix of the rounds so far that holds each sealed one.
use Rattle.std.specs.Prelude.{◌≡◌, ◌⊎◌, ℕ, ◌≤◌, false, List, ◌++◌, length, take, drop, Option}
use Rattle.std.specs.List.{list_any}
use Rattle.pb_pmem.specs.declared.line.Line.{Line}
use Rattle.pb_pmem.specs.declared.log.LogOp.{LogOp}
use Rattle.pb_pmem.specs.Contents.{contents}
use Rattle.pb_pmem.specs.Crash.{is_sync, IsCrashImageAt}
use Rattle.pb_object.specs.History.{state_after}
use Rattle.pb_object.specs.Standing.{Standing}
use Rattle.pb_layout.specs.Damage.{HasRegion}
use Rattle.pb_layout.specs.LogHistory.{LoggedRound, rounds_in, AreUnsealed, history_of}
use Rattle.pb_layout.specs.Ready.{ImageRepresents}
use Rattle.pb_layout.specs.Recovered.{Represents}

-- lines that represent the state after the first of these rounds; no round after those is sealed
pub record IsCoveredBy (s : Standing) (rounds : List LoggedRound) (image : List Line) : Type 0 where
  pub kept : List LoggedRound
  pub lost : List LoggedRound
  pub whole : rounds ≡ kept ++ lost
  pub unsealed : AreUnsealed lost
  pub stands : Represents image (state_after s (rounds_in kept))

-- no sync stands between two moments
abbrev pub HasNoSync : ℕ → ℕ → List LogOp → Type 0
HasNoSync from moment log = list_any is_sync (drop from (take moment log)) ≡ false

-- lines that represent what some image represented that a crash might leave at an earlier moment
pub record IsAsBefore (base : List Line) (log : List LogOp) (from : ℕ) (image : List Line) : Type 0 where
  pub earlier : List Line
  pub left : IsCrashImageAt base log from earlier
  pub member : Option Standing
  pub stood : ImageRepresents earlier member
  pub stands : ImageRepresents image member

-- there was no region at a moment, no sync stands since, and there is none
pub record IsStillNothing (base : List Line) (log : List LogOp) (from : ℕ) : Type 0 where
  pub before : ¬ HasRegion (contents base (take from log))
  pub no_sync : HasNoSync from (length log) log
  pub now : ¬ HasRegion (contents base log)

-- the log, from a moment on, covers its history from the standing s:
-- at each moment since, each image that a crash may leave represents the state after a prefix of the rounds so far that holds each
-- sealed one; or, while there is no sync, what an image at the first moment represented.
-- At the end the device holds the state after the history, or there is no region yet.
pub record Covers (base : List Line) (log : List LogOp) (from : ℕ) (s : Standing) (history : List LoggedRound) : Type 0 where
  pub within : from ≤ length log
  pub told : history ≡ history_of base log from
  pub images : (moment : ℕ) → from ≤ moment → moment ≤ length log → (image : List Line) → IsCrashImageAt base log moment image
      → IsCoveredBy s (history_of base (take moment log) from) image ⊎ (HasNoSync from moment log × IsAsBefore base log from image)
  pub end : Represents (contents base log) (state_after s (rounds_in history)) ⊎ IsStillNothing base log from
