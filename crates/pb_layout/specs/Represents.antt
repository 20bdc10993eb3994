-- The parts of a region: its records in use, the object's lines and the kept requests that these hold, and a queue's cells.
use Rattle.std.specs.Prelude.{◌≡◌, ◌≢◌, ℕ, zero, suc, ◌+◌, ◌*◌, ◌/◌, ◌%◌, ◌<◌, ◌==◌, List, [], ◌∷◌, ◌++◌, length, take, drop, slice_index, nat_lt, if◌then◌else◌}
use Rattle.pb_pmem.specs.declared.line.Line.{Line}
use Rattle.pb_pmem.specs.Lines.{line_at}
use Rattle.pb_object.specs.declared.kind.Kind.{Kind}
use Rattle.pb_object.specs.declared.kind.Kind.TheVariants.{Map, Stack, Heap, Queue}
use Rattle.pb_object.specs.declared.request.Kept.{Kept}
use Rattle.pb_object.specs.declared.request.TheConstants.{KEPT_REQUESTS}
use Rattle.pb_object.specs.Object.{State, Registers, Items, Rising, Waits}
use Rattle.pb_object.specs.ObjectLines.{kind_of, size_of, LinesRepresent}
use Rattle.pb_object.specs.Standing.{Standing, side_count, rounds_of, kept_list_of}
use Rattle.pb_layout.specs.Cell.{cell_line_of}
use Rattle.pb_layout.specs.Shape.{IsHeader}
use Rattle.pb_layout.specs.Header.{record_length, slot_count, header_line_of, word}
use Rattle.pb_layout.specs.Record.{count_line_of, slot_at, kept_in_slots, IsRecord}
use Rattle.pb_layout.specs.Region.{record_place, cell_place}
use Rattle.pb_layout.specs.declared.header.Header.{Header}

-- the header of a region that represents s
abbrev pub header_for : Standing → Header
header_for s = record { kind = s.kind; clients = s.clients; size = s.size }

-- the lines of a side's record
abbrev pub record_at : List Line → Header → ℕ → ℕ → List Line
record_at image head side which = take (record_length head) (drop (record_place head side which) image)

-- the record of a side that is in use after so many rounds; the other one is spare
abbrev pub record_in_use : List Line → Header → ℕ → ℕ → List Line
record_in_use image head side round = record_at image head side (round % 2)

-- the object's lines of a record
abbrev pub object_part : Header → List Line → List Line
object_part head lines = drop (1 + slot_count head) lines

-- the object's lines of all sides, where a side's record is this
abbrev pub object_parts_by : Kind → Header → (ℕ → List Line) → List Line
object_parts_by Map head records = object_part head (records 0)
object_parts_by Stack head records = object_part head (records 0)
object_parts_by Heap head records = object_part head (records 0)
object_parts_by Queue head records = object_part head (records 0) ++ object_part head (records 1)

-- the object lines of all sides, by the record of each side
abbrev pub object_parts : Header → (ℕ → List Line) → List Line
object_parts head records = object_parts_by head.kind head records

-- so many of the newest requests of two lists, whose numbers fall
unfoldable pub newest_of_two : ℕ → List Kept → List Kept → List Kept
newest_of_two zero first second = []
newest_of_two (suc count) [] second = take (suc count) second
newest_of_two (suc count) (kept ∷ first) [] = take (suc count) (kept ∷ first)
newest_of_two (suc count) (kept ∷ first) (other ∷ second) =
    if nat_lt kept.number other.number then other ∷ newest_of_two count (kept ∷ first) second else kept ∷ newest_of_two count first (other ∷ second)

-- the kept requests of a client, the newest first: those in its slots. A queue has slots for its puts and for its takes, and the last ones
-- of both count
abbrev pub kept_list_by : Kind → (ℕ → List Line) → ℕ → List Kept
kept_list_by Map records client = kept_in_slots (records 0) client
kept_list_by Stack records client = kept_in_slots (records 0) client
kept_list_by Heap records client = kept_in_slots (records 0) client
kept_list_by Queue records client = newest_of_two KEPT_REQUESTS (kept_in_slots (records 0) client) (kept_in_slots (records 1) client)

-- the kept requests of a client of a region, the newest first
abbrev pub kept_list : Header → (ℕ → List Line) → ℕ → List Kept
kept_list head records client = kept_list_by head.kind records client

-- the number in a slot of a side's record
abbrev pub number_at : (ℕ → List Line) → ℕ → ℕ → ℕ
number_at records side place = word (slot_at (records side) place) 0

-- a take of a queue's client has another number than each of the client's puts
abbrev pub IsApart : (ℕ → List Line) → ℕ → Type 0
IsApart records place =
    number_at records 1 place ≢ 0 → (slot : ℕ) → slot < KEPT_REQUESTS → number_at records 1 place ≢ number_at records 0 (KEPT_REQUESTS * (place / KEPT_REQUESTS) + slot)

-- no request of a client stands on both sides
abbrev pub AreApart : Header → (ℕ → List Line) → Type 0
AreApart head records = head.kind ≡ Queue → (place : ℕ) → place < slot_count head → IsApart records place

-- a queue's items lie in the cells of their positions
abbrev pub CellsRepresent : List Line → Header → State → Type 0
CellsRepresent image head (Registers registers) = Unit {0}
CellsRepresent image head (Items size items) = Unit {0}
CellsRepresent image head (Rising size items) = Unit {0}
CellsRepresent image head (Waits size queue) =
    (place : ℕ) → place < length queue.items → line_at image (cell_place head (queue.taken + place)) ≡ cell_line_of (queue.taken + place) (slice_index queue.items place)

-- a side's record in use, in a region that represents s
abbrev pub record_of_side : List Line → Standing → ℕ → List Line
record_of_side image s side = record_in_use image (header_for s) side (rounds_of s side)

-- records, where a side's has been exchanged for these lines
abbrev pub with_record : (ℕ → List Line) → ℕ → List Line → ℕ → List Line
with_record records side lines other = if other == side then lines else records other

-- the records in use of a region that represents s, where a side's has been exchanged
abbrev pub records_with : List Line → Standing → ℕ → List Line → ℕ → List Line
records_with image s side lines = with_record (record_of_side image s) side lines

-- the records in use say s, but for a queue's items, which lie in its cells
pub record AreRecords (records : ℕ → List Line) (s : Standing) : Type 0 where
  pub valid : IsHeader (header_for s)
  pub sides : length s.rounds ≡ side_count s.kind
  pub own : (side : ℕ) → side < side_count s.kind → IsRecord (header_for s) side (rounds_of s side) (records side)
  pub kind : kind_of s.state ≡ s.kind
  pub size : size_of s.state ≡ s.size
  pub state : LinesRepresent (object_parts (header_for s) records) s.state
  pub clients : length s.kept ≡ s.clients
  pub apart : AreApart (header_for s) records
  pub kept : (client : ℕ) → client < s.clients → kept_list_of s client ≡ kept_list (header_for s) records client

-- the lines are a region whose parts say s
pub record RegionParts (image : List Line) (s : Standing) : Type 0 where
  pub valid : IsHeader (header_for s)
  pub header : line_at image 0 ≡ header_line_of (header_for s)
  -- lines 1 and 2 count the rounds of the two sides; a side that isn't there has none
  pub sides : length s.rounds ≡ side_count s.kind
  pub rounds : (side : ℕ) → side < 2 → line_at image (1 + side) ≡ count_line_of (rounds_of s side)
  pub records : (side : ℕ) → side < side_count s.kind → IsRecord (header_for s) side (rounds_of s side) (record_of_side image s side)
  -- the state is what the records' object lines, and a queue's cells, represent
  pub kind : kind_of s.state ≡ s.kind
  pub size : size_of s.state ≡ s.size
  pub state : LinesRepresent (object_parts (header_for s) (record_of_side image s)) s.state
  pub cells : CellsRepresent image (header_for s) s.state
  -- a client's kept requests are those of its slots
  pub clients : length s.kept ≡ s.clients
  pub apart : AreApart (header_for s) (record_of_side image s)
  pub kept : (client : ℕ) → client < s.clients → kept_list_of s client ≡ kept_list (header_for s) (record_of_side image s) client
