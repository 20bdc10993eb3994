-- The lines of the record that a round is about to store, while they are written.
use Rattle.std.specs.Prelude.{◌≡◌, ℕ, ◌<◌, List, length, All}
use Rattle.pb_pmem.specs.declared.line.Line.{Line}
use Rattle.pb_pmem.specs.Lines.{line_at}
use Rattle.pb_object.specs.declared.request.TheConstants.{KEPT_REQUESTS}
use Rattle.pb_object.specs.History.{Entry}
use Rattle.pb_layout.specs.NextRecord.{HasEntryInFront, IsOfOther}
use Rattle.pb_layout.specs.Record.{count_line_of, slot_line_at}

-- they are those of the record in use, but for the round number
pub record IsBegun (before : List Line) (round : ℕ) (lines : List Line) : Type 0 where
  pub long : length lines ≡ length before
  pub carries : line_at lines 0 ≡ count_line_of round
  pub others : (line : ℕ) → 0 < line → line_at lines line ≡ line_at before line

-- these entries were put in front of their clients' slots of the record in use, and all other lines stay
pub record PutsEntries (before : List Line) (entries : List Entry) (old new : List Line) : Type 0 where
  pub long : length new ≡ length old
  pub each : All (HasEntryInFront before new) entries
  pub first : line_at new 0 ≡ line_at old 0
  pub others : (client slot : ℕ) → slot < KEPT_REQUESTS → All (IsOfOther client) entries → slot_line_at new client slot ≡ slot_line_at old client slot

-- the lines before this one stay
pub record KeepsBefore (first : ℕ) (old new : List Line) : Type 0 where
  pub long : length new ≡ length old
  pub same : (line : ℕ) → line < first → line_at new line ≡ line_at old line
