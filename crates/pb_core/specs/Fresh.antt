-- The world over a region that was just formatted.
use Rattle.std.specs.Prelude.{◌≡◌, ℕ, List, [], length}
use Rattle.pb_pmem.specs.declared.line.Line.{Line}
use Rattle.pb_pmem.specs.declared.line.TheConstants.{LINES}
use Rattle.pb_pmem.specs.Contents.{contents}
use Rattle.pb_pmem.specs.Lines.{line_at, zero_line}
use Rattle.pb_layout.specs.declared.header.Header.{Header}
use Rattle.pb_layout.specs.Exits.{AreEmptyRecords, empty_for}
use Rattle.pb_layout.specs.RegionOps.{format_ops}
use Rattle.pb_layout.specs.Shape.{IsHeader}
use Rattle.pb_core.specs.Memory.{Free, Resting, Memory, memory_at_opening}
use Rattle.pb_core.specs.World.{NoCall, World}

-- memory over a region in which nothing was asked yet
abbrev pub fresh_memory : Header → Memory
fresh_memory head = record (memory_at_opening (empty_for head) [] []) { owner = Free; engine = Resting }

-- nothing happened since a device of zeros was formatted with this header
pub record IsFreshWorld (head : Header) (w : World) : Type 0 where
  pub valid : IsHeader head
  pub zeros : List Line
  pub long : length zeros ≡ LINES
  pub all_zero : (line : ℕ) → line_at zeros line ≡ zero_line
  pub first : List Line
  pub second : List Line
  pub records : AreEmptyRecords head first second
  pub is : w ≡ record {
    memory = fresh_memory head;
    tale = record { base = contents zeros (format_ops head first second); log = [] };
    progress = NoCall;
  }
