-- What a queue's region holds beyond what opening judged: its counts, the requests of its two sides, and its cells.
use Rattle.std.specs.Prelude.{◌≡◌, ◌≢◌, ◌⊎◌, ℕ, ◌+◌, ◌-◌, ◌%◌, ◌<◌, List, IfSome, length}
use Rattle.pb_pmem.specs.declared.line.Line.{Line}
use Rattle.pb_pmem.specs.Lines.{line_at}
use Rattle.pb_object.specs.declared.kind.Kind.TheVariants.{Queue}
use Rattle.pb_object.specs.declared.request.TheConstants.{KEPT_REQUESTS}
use Rattle.pb_object.specs.Object.{Waits}
use Rattle.pb_object.specs.ObjectLines.{IsAllowedLine, IsFirstRefused}
use Rattle.pb_object.specs.Queue.{Waiting, tail_of}
use Rattle.pb_object.specs.Standing.{Standing}
use Rattle.pb_layout.specs.Cell.{IsCell}
use Rattle.pb_layout.specs.Damage.{AllPass, region_checks, IsDamagedAt}
use Rattle.pb_layout.specs.Header.{slot_count, word}
use Rattle.pb_layout.specs.Record.{IsFirstWithout, slot_line_at}
use Rattle.pb_layout.specs.Recovered.{standing_in}
use Rattle.pb_layout.specs.Region.{record_place, cell_place}
use Rattle.pb_layout.specs.Represents.{object_parts, IsApart, AreApart, AreRecords, CellsRepresent}
use Rattle.pb_layout.specs.declared.header.Header.{Header}
use Rattle.pb_pair.specs.declared.why.Why.{Why}
use Rattle.pb_pair.specs.declared.why.Why.TheVariants.{Memory, Device as DeviceWhy, Taken, NoRegion, Damaged}
use Rattle.pb_pair.specs.Cells.{IsNothing}
use Rattle.pb_pair.specs.View.{PairView, HasFailed, round_of_side, lines_of}
use Rattle.pb_queue.specs.Items.{ItemsView}
use Rattle.pb_queue.specs.Standing.{standing_of}

-- the object lines of the pair's records in use: the line of the tail, and that of the head
abbrev pub count_lines : PairView → List Line
count_lines pair = object_parts pair.head (lines_of pair)

-- the format allows both
abbrev pub AreCounts : PairView → Type 0
AreCounts pair = (line : ℕ) → line < length (count_lines pair) → IsAllowedLine Queue pair.head.size (count_lines pair) line

-- the records in use are those of a queue
pub record AreQueueRecords (pair : PairView) : Type 0 where
  pub counts : AreCounts pair
  pub apart : AreApart pair.head (lines_of pair)

-- the line of the device at which a side's record in use begins
abbrev pub place_of_record : PairView → ℕ → ℕ
place_of_record pair side = record_place pair.head side (round_of_side pair side % 2)

-- the line of a side's count is the first one that the format refuses of the two
pub record HasBadCount (pair : PairView) (line : ℕ) : Type 0 where
  pub side : ℕ
  pub at : line ≡ place_of_record pair side + 1 + slot_count pair.head
  pub first : IsFirstRefused Queue pair.head.size (count_lines pair) side

-- the counts are allowed, and this is the first slot of side 1 whose number stands on side 0 too
pub record HasSharedNumber (pair : PairView) (line : ℕ) : Type 0 where
  pub counts : AreCounts pair
  pub slot : ℕ
  pub at : line ≡ place_of_record pair 1 + 1 + slot
  pub first : IsFirstWithout (IsApart (lines_of pair)) (slot_count pair.head) slot

-- the first line of the records in use that is refused
abbrev pub IsBadRecordLine : PairView → ℕ → Type 0
IsBadRecordLine pair line = HasBadCount pair line ⊎ HasSharedNumber pair line

-- none of a client's slots has this number
abbrev pub LacksNumber : List Line → ℕ → ℕ → Type 0
LacksNumber lines client number = (slot : ℕ) → slot < KEPT_REQUESTS → number ≢ word (slot_line_at lines client slot) 0

-- where the device tells its lines, these items lie in the cells of their positions
abbrev pub HasCellsOf : PairView → Waiting → Type 0
HasCellsOf pair queue = IfSome pair.device.now (λ image. CellsRepresent image pair.head (Waits pair.head.size queue))

-- the items that wait from one count to another were read
pub record HasReadCells (pair : PairView) (tail : ℕ) (old new : ItemsView) : Type 0 where
  pub size : new.size ≡ old.size
  pub sure : new.sure ≡ old.sure
  pub taken : new.next.taken ≡ old.next.taken
  pub tail_is : tail_of new.next ≡ tail
  pub cells : HasCellsOf pair new.next

-- the line of a position is the cell of that position
abbrev pub IsCellOf : List Line → Header → ℕ → ℕ → Type 0
IsCellOf image head taken place = IsCell (taken + place) (line_at image (cell_place head (taken + place)))

-- the first of so many cells from a position on that is none
pub record HasBadCell (head : Header) (taken count line : ℕ) (image : List Line) : Type 0 where
  pub place : ℕ
  pub at : line ≡ cell_place head (taken + place)
  pub first : IsFirstWithout (IsCellOf image head taken) count place

-- why cells weren't read
abbrev pub IsCellRefusal : ℕ → ℕ → PairView → PairView → Why → Type 0
IsCellRefusal taken tail old new Memory = ⊥
IsCellRefusal taken tail old new (DeviceWhy fault) = HasFailed IsNothing old.doubt old fault new
IsCellRefusal taken tail old new Taken = ⊥
IsCellRefusal taken tail old new NoRegion = ⊥
IsCellRefusal taken tail old new (Damaged line) = (new ≡ old) × IfSome old.device.now (HasBadCell old.head taken (tail - taken) line)

-- the lines pass all checks of a region and say this standing: whole lines represent it
pub record PassesAndSays (s : Standing) (image : List Line) : Type 0 where
  pub passes : AllPass (region_checks image)
  pub says : s ≡ standing_in image

-- the items that the region holds: the records in use say the standing that has them, and so do the device's lines where they are told
pub record IsRecovered (pair : PairView) (items : ItemsView) : Type 0 where
  pub size : items.size ≡ pair.head.size
  pub sure : items.next ≡ items.sure
  pub records : AreRecords (lines_of pair) (standing_of pair items.sure)
  pub told : IfSome pair.device.now (PassesAndSays (standing_of pair items.sure))

-- why there are none, and what became of the pair: the first line of the region that is refused, or a read that failed
abbrev pub IsRecoveryRefusal : PairView → PairView → Why → Type 0
IsRecoveryRefusal old new Memory = new ≡ old
IsRecoveryRefusal old new (DeviceWhy fault) = HasFailed IsNothing old.doubt old fault new
IsRecoveryRefusal old new Taken = ⊥
IsRecoveryRefusal old new NoRegion = ⊥
IsRecoveryRefusal old new (Damaged line) = (new ≡ old) × IfSome old.device.now (λ image. IsDamagedAt image line)
