-- What was read of a queue's region, said of the device's lines.
use Rattle.std.proofs.Common.{◌≡◌, ℕ, zero, suc, ◌+◌, ◌-◌, ◌%◌, ◌<◌, ◌≤◌, List, [], ◌∷◌, ◌++◌, IfSome, length, slice_index, refl, sym, ap, ◌∙◌, subst, inl, inr, arith}
use Rattle.std.proofs.lemmas.List.FromFn.{fill_by_all}
use Rattle.pb_pmem.specs.declared.line.Line.{Line}
use Rattle.pb_pmem.specs.Lines.{line_at, word_of}
use Rattle.pb_object.specs.declared.kind.Kind.{Kind}
use Rattle.pb_object.specs.declared.kind.Kind.TheVariants.{Queue}
use Rattle.pb_object.specs.Object.{Waits}
use Rattle.pb_object.specs.ObjectLines.{IsAllowedLine, IsFirstRefused, LinesRepresent}
use Rattle.pb_object.specs.Queue.{Waiting, last_position, tail_of}
use Rattle.pb_object.specs.Standing.{side_count, rounds_of}
use Rattle.pb_layout.specs.Damage.{Check, AllPass, HasRegion, IsDamagedAt, header_in, round_in, record_in, object_lines_in, object_place_by, taken_in, waiting_in, IsCellAt, opening_checks, state_checks}
use Rattle.pb_layout.specs.Header.{slot_count, word}
use Rattle.pb_layout.specs.Record.{IsFirstWithout, IsRecord}
use Rattle.pb_layout.specs.Shape.{IsHeader}
use Rattle.pb_layout.specs.Recovered.{listed, state_by, standing_in}
use Rattle.pb_layout.specs.Region.{record_place, cell_place}
use Rattle.pb_layout.specs.Represents.{header_for, object_parts, IsApart, AreApart, AreRecords, CellsRepresent, kept_list, kept_list_by}
use Rattle.pb_layout.specs.declared.header.Header.{Header}
use Rattle.pb_layout.proofs.ChangedRegion.{object_parts-same, kept_list-same, apart-same}
use Rattle.pb_layout.proofs.Checks.{named_after}
use Rattle.pb_layout.proofs.OneRecovery.{length-listed, get_or-listed}
use Rattle.pb_pair.specs.declared.why.Why.{Why}
use Rattle.pb_pair.specs.declared.why.Why.TheVariants.{Memory, Device as DeviceWhy, Taken, NoRegion, Damaged}
use Rattle.pb_pair.specs.Open.{IsReadFrom, IsOpened}
use Rattle.pb_pair.specs.View.{PairView, IsPair, at_side, round_of_side, lines_of}
use Rattle.pb_pair.proofs.Opened.{told_weaker, told_both}
use Rattle.pb_queue.specs.Items.{ItemsView, empty_items}
use Rattle.pb_queue.specs.Recovery.{count_lines, AreCounts, AreQueueRecords, place_of_record, IsBadRecordLine, HasReadCells, IsCellOf, HasBadCell, IsCellRefusal, PassesAndSays, IsRecovered, IsRecoveryRefusal}
use Rattle.pb_queue.specs.Standing.{standing_of}
use Rattle.pb_queue.proofs.QueueRecords.{counted_in, count_lines_are}

-- The counts

-- what the two counts say fits a queue of a size
pub record CountsFit (size tail taken : ℕ) : Type 0 where
  pub last : tail ≤ last_position
  pub fits : taken ≤ tail
  pub room : tail - taken ≤ size

counted : (pair : PairView) → AreCounts pair → count_lines pair ≡ counted_in pair 0 ∷ counted_in pair 1 ∷ [] → (line : ℕ) → line < 2 → IsAllowedLine Queue pair.head.size (counted_in pair 0 ∷ counted_in pair 1 ∷ []) line
counted pair counts are = subst (λ (ls : List Line). (line : ℕ) → line < length ls → IsAllowedLine Queue pair.head.size ls line) are counts

pub counts_fit : (pair : PairView) → pair.head.kind ≡ Queue → IsPair pair → AreCounts pair → CountsFit pair.head.size (word (counted_in pair 0) 0) (word (counted_in pair 1) 0)
counts_fit pair queue sound counts =
    let allowed = counted pair counts (count_lines_are pair queue sound) in
    let first = allowed 0 (omega arith) in
    let second = allowed 1 (omega arith) in
    record { last = first.last; fits = second.head refl; room = second.waiting refl }

-- items between the two counts are those that the lines represent
pub counts_represent : (pair : PairView) (queue : Waiting) → pair.head.kind ≡ Queue → IsPair pair → AreCounts pair → queue.taken ≡ word (counted_in pair 1) 0 → tail_of queue ≡ word (counted_in pair 0) 0 → LinesRepresent (count_lines pair) (Waits pair.head.size queue)
counts_represent pair queue kind sound counts taken tail =
    let are = count_lines_are pair kind sound in
    record {
      count = ap length are;
      allowed = counts;
      hold = (tail ∙ sym (ap (λ (ls : List Line). word_of ls 0 0) are), taken ∙ sym (ap (λ (ls : List Line). word_of ls 1 0) are));
    }

-- the records in use of a queue's pair say the standing that has such items
pub records_stand : (pair : PairView) (queue : Waiting) → pair.head.kind ≡ Queue → IsPair pair → AreQueueRecords pair → queue.taken ≡ word (counted_in pair 1) 0 → tail_of queue ≡ word (counted_in pair 0) 0 → AreRecords (lines_of pair) (standing_of pair queue)
records_stand pair queue kind sound good taken tail = record {
  valid = subst IsHeader head sound.valid;
  sides = refl;
  own = own;
  kind = refl;
  size = refl;
  state = subst (λ (h : Header). LinesRepresent (object_parts h (lines_of pair)) (Waits pair.head.size queue)) head (counts_represent pair queue kind sound good.counts taken tail);
  clients = length-listed pair.head.clients (kept_list_by Queue (lines_of pair));
  apart = subst (λ (h : Header). AreApart h (lines_of pair)) head good.apart;
  kept = λ client inside. get_or-listed pair.head.clients (kept_list_by Queue (lines_of pair)) client [] inside;
}
  where
    head : pair.head ≡ header_for (standing_of pair queue)
    head = λ i. record { kind = kind i; clients = pair.head.clients; size = pair.head.size }

    own : (side : ℕ) → side < 2 → IsRecord (header_for (standing_of pair queue)) side (rounds_of (standing_of pair queue) side) (lines_of pair side)
    own zero below = subst (λ (h : Header). IsRecord h 0 (round_of_side pair 0) (lines_of pair 0)) head (sound.sides 0 (omega (arith, ap side_count kind))).own
    own (suc zero) below = subst (λ (h : Header). IsRecord h 1 (round_of_side pair 1) (lines_of pair 1)) head (sound.sides 1 (omega (arith, ap side_count kind))).own
    own (suc (suc side)) below = absurd (omega arith)

-- What the device's lines say of themselves

-- a queue's pair that was read from lines
pub record IsReadQueue (pair : PairView) (image : List Line) : Type 0 where
  pub queue : pair.head.kind ≡ Queue
  pub sound : IsPair pair
  pub read : IsReadFrom pair image

pub same_count_lines : (pair : PairView) (image : List Line) → IsReadQueue pair image → count_lines pair ≡ object_lines_in image
same_count_lines pair image is =
    object_parts-same pair.head.kind pair.head (lines_of pair) (record_in image) is.read.records ∙ ap (λ (h : Header). object_parts h (record_in image)) is.read.head

read_kind : (pair : PairView) (image : List Line) → IsReadQueue pair image → (header_in image).kind ≡ Queue
read_kind pair image is = sym (ap (λ (h : Header). h.kind) is.read.head) ∙ is.queue

place_read : (pair : PairView) (image : List Line) (side : ℕ) → IsReadQueue pair image → side < 2 → place_of_record pair side ≡ record_place (header_in image) side (round_in image side % 2)
place_read pair image side is below =
    let head = is.read.head in
    let round = is.read.rounds side (omega (arith, below, ap side_count is.queue)) in
    λ i. record_place (head i) side (round i % 2)

region_read : (image : List Line) → AllPass (opening_checks image) → HasRegion image
region_read image passes = ap (λ (line : Line). word line 0) passes.0.2

-- The checks that opening left

objects_pass : (pair : PairView) (image : List Line) → IsReadQueue pair image → AreCounts pair → (place : ℕ) → place < length (object_lines_in image) → IsAllowedLine (header_in image).kind (header_in image).size (object_lines_in image) place
objects_pass pair image is counts =
    subst (λ (k : Kind). (place : ℕ) → place < length (object_lines_in image) → IsAllowedLine k (header_in image).size (object_lines_in image) place) (sym (read_kind pair image is))
    (subst (λ (h : Header). (place : ℕ) → place < length (object_lines_in image) → IsAllowedLine Queue h.size (object_lines_in image) place) is.read.head
    (subst (λ (ls : List Line). (place : ℕ) → place < length ls → IsAllowedLine Queue pair.head.size ls place) (same_count_lines pair image is) counts))

apart_passes : (pair : PairView) (image : List Line) → IsReadQueue pair image → AreApart pair.head (lines_of pair) → AreApart (header_in image) (record_in image)
apart_passes pair image is apart =
    subst (λ (h : Header). AreApart h (record_in image)) is.read.head (apart-same pair.head (lines_of pair) (record_in image) is.read.records apart)

-- a line that was refused of the records is the first one of the region
pub records_damaged : (pair : PairView) (image : List Line) (line : ℕ) → IsReadQueue pair image → IsBadRecordLine pair line → IsDamagedAt image line
records_damaged pair image line is (inl bad) = record {
  region = region_read image is.read.passes;
  first = named_after (opening_checks image) (state_checks image) line is.read.passes (inl (bad.side, at, refused));
}
  where
    below : bad.side < 2
    below = subst (λ (n : ℕ). bad.side < n) (ap length (count_lines_are pair is.queue is.sound)) bad.first.within

    at : line ≡ object_place_by (header_in image).kind image bad.side
    at = bad.at ∙ ((λ i. place_read pair image bad.side is below i + 1 + slot_count (is.read.head i)) ∙ ap (λ (k : Kind). object_place_by k image bad.side) (sym (read_kind pair image is)))

    refused : IsFirstRefused (header_in image).kind (header_in image).size (object_lines_in image) bad.side
    refused =
        subst (λ (k : Kind). IsFirstRefused k (header_in image).size (object_lines_in image) bad.side) (sym (read_kind pair image is))
        (subst (λ (h : Header). IsFirstRefused Queue h.size (object_lines_in image) bad.side) is.read.head
        (subst (λ (ls : List Line). IsFirstRefused Queue pair.head.size ls bad.side) (same_count_lines pair image is) bad.first))
records_damaged pair image line is (inr shared) = record {
  region = region_read image is.read.passes;
  first = named_after (opening_checks image) (state_checks image) line is.read.passes (inr (objects_pass pair image is shared.counts, inl (read_kind pair image is, (shared.slot, at, first))));
}
  where
    at : line ≡ record_place (header_in image) 1 (round_in image 1 % 2) + 1 + shared.slot
    at = shared.at ∙ ap (λ (n : ℕ). n + 1 + shared.slot) (place_read pair image 1 is (omega arith))

    puts : lines_of pair 0 ≡ record_in image 0
    puts = is.read.records 0 (omega (arith, ap side_count is.queue))

    takes : lines_of pair 1 ≡ record_in image 1
    takes = is.read.records 1 (omega (arith, ap side_count is.queue))

    first : IsFirstWithout (IsApart (record_in image)) (slot_count (header_in image)) shared.slot
    first =
        subst (λ (h : Header). IsFirstWithout (IsApart (record_in image)) (slot_count h) shared.slot) is.read.head
        (subst (λ (ls : List Line). IsFirstWithout (IsApart (at_side (record_in image 0) ls)) (slot_count pair.head) shared.slot) takes
        (subst (λ (ls : List Line). IsFirstWithout (IsApart (at_side ls (lines_of pair 1))) (slot_count pair.head) shared.slot) puts shared.first))

-- the counts of the region are those of the pair
tail_read : (pair : PairView) (image : List Line) → IsReadQueue pair image → word (counted_in pair 0) 0 ≡ word_of (object_lines_in image) 0 0
tail_read pair image is =
    ap (λ (ls : List Line). word_of ls 0 0) (sym (count_lines_are pair is.queue is.sound) ∙ same_count_lines pair image is)

taken_read : (pair : PairView) (image : List Line) → IsReadQueue pair image → word (counted_in pair 1) 0 ≡ taken_in image
taken_read pair image is =
    ap (λ (ls : List Line). word_of ls 1 0) (sym (count_lines_are pair is.queue is.sound) ∙ same_count_lines pair image is)

-- the first cell that is none is the first line of the region that is refused
pub cells_damaged : (pair : PairView) (image : List Line) (line taken count : ℕ) → IsReadQueue pair image → AreQueueRecords pair → taken ≡ word (counted_in pair 1) 0 → count ≡ word (counted_in pair 0) 0 - word (counted_in pair 1) 0 → HasBadCell pair.head taken count line image → IsDamagedAt image line
cells_damaged pair image line taken count is good taken_is count_is bad = record {
  region = region_read image is.read.passes;
  first = named_after (opening_checks image) (state_checks image) line is.read.passes (inr (objects_pass pair image is good.counts, inr (apart_passes pair image is good.apart, inl (read_kind pair image is, (bad.place, at, first)))));
}
  where
    from : taken ≡ taken_in image
    from = taken_is ∙ taken_read pair image is

    many : count ≡ waiting_in image
    many = omega (arith, count_is, tail_read pair image is, taken_read pair image is)

    at : line ≡ cell_place (header_in image) (taken_in image + bad.place)
    at = let head = is.read.head in bad.at ∙ (λ i. cell_place (head i) (from i + bad.place))

    first : IsFirstWithout (IsCellAt image) (waiting_in image) bad.place
    first =
        subst (λ (n : ℕ). IsFirstWithout (IsCellAt image) n bad.place) many
        (subst (λ (n : ℕ). IsFirstWithout (IsCellOf image (header_in image) n) count bad.place) from
        (subst (λ (h : Header). IsFirstWithout (IsCellOf image h taken) count bad.place) is.read.head bad.first))

-- What the region says

all_pass : (checks more : List Check) → AllPass checks → AllPass more → AllPass (checks ++ more)
all_pass [] more pass rest = rest
all_pass (check ∷ checks) more pass rest = (pass.0, all_pass checks more pass.1 rest)

-- the items that were read are those that the region says
items_say : (image : List Line) (head : Header) (size taken count : ℕ) (queue : Waiting) → queue.taken ≡ taken → length queue.items ≡ count → CellsRepresent image head (Waits size queue) → queue.items ≡ listed count (λ place. word (line_at image (cell_place head (taken + place))) 1)
unfolding listed
items_say image head size taken count queue same long cells =
    fill_by_all (λ place. word (line_at image (cell_place head (taken + place))) 1) queue.items count 0 long (λ place inside.
    sym (ap (λ (n : ℕ). word (line_at image (cell_place head (n + place))) 1) (sym same) ∙ ap (λ (l : Line). word l 1) (cells place (omega (arith, long)))))

-- so they say the standing that has these items
pub region_says : (pair : PairView) (image : List Line) (queue : Waiting) → IsReadQueue pair image → AreQueueRecords pair → queue.taken ≡ word (counted_in pair 1) 0 → tail_of queue ≡ word (counted_in pair 0) 0 → CellsRepresent image pair.head (Waits pair.head.size queue) → PassesAndSays (standing_of pair queue) image
unfolding standing_in state_by listed
region_says pair image queue is good taken tail cells = record {
  passes = all_pass (opening_checks image) (state_checks image) is.read.passes (objects_pass pair image is good.counts, (apart_passes pair image is good.apart, (cells_pass, tt)));
  says = λ i. record { kind = kind i; clients = (is.read.head i).clients; size = (is.read.head i).size; rounds = rounds i; state = state i; kept = listed ((is.read.head i).clients) (λ client. kept client i) };
}
  where
    from : queue.taken ≡ taken_in image
    from = taken ∙ taken_read pair image is

    many : length queue.items ≡ waiting_in image
    many = omega (arith, taken, tail, tail_read pair image is, taken_read pair image is)

    kind : Queue ≡ (header_in image).kind
    kind = sym (read_kind pair image is)

    both : round_of_side pair 0 ∷ round_of_side pair 1 ∷ [] ≡ round_in image 0 ∷ round_in image 1 ∷ []
    both =
        let first = is.read.rounds 0 (omega (arith, ap side_count is.queue)) in
        let second = is.read.rounds 1 (omega (arith, ap side_count is.queue)) in
        λ i. first i ∷ second i ∷ []

    rounds : round_of_side pair 0 ∷ round_of_side pair 1 ∷ [] ≡ listed (side_count (header_in image).kind) (round_in image)
    rounds = both ∙ ap (λ (k : Kind). listed (side_count k) (round_in image)) kind

    kept : (client : ℕ) → kept_list_by Queue (lines_of pair) client ≡ kept_list (header_in image) (record_in image) client
    kept client =
        kept_list-same Queue (lines_of pair) (record_in image) client (λ side inside. is.read.records side (omega (arith, inside, ap side_count is.queue)))
        ∙ ap (λ (k : Kind). kept_list_by k (record_in image) client) kind

    items : queue.items ≡ listed (waiting_in image) (λ place. word (line_at image (cell_place (header_in image) (taken_in image + place))) 1)
    items = items_say image (header_in image) pair.head.size (taken_in image) (waiting_in image) queue from many (subst (λ (h : Header). CellsRepresent image h (Waits pair.head.size queue)) is.read.head cells)

    waits : Waits pair.head.size queue ≡ state_by Queue (header_in image).size (object_lines_in image) image (header_in image)
    waits = λ i. Waits ((is.read.head i).size) (record { taken = from i; items = items i })

    state : Waits pair.head.size queue ≡ state_by (header_in image).kind (header_in image).size (object_lines_in image) image (header_in image)
    state = waits ∙ ap (λ (k : Kind). state_by k (header_in image).size (object_lines_in image) image (header_in image)) kind

    cells_pass : (header_in image).kind ≡ Queue → (place : ℕ) → place < waiting_in image → IsCellAt image place
    cells_pass kind place inside =
        subst (λ (n : ℕ). IsCellOf image (header_in image) n place) from
        (subst (λ (h : Header). IsCellOf image h queue.taken place) is.read.head (slice_index queue.items place, cells place (omega (arith, many))))

-- What reading the region answers

told_read : (pair : PairView) (P : List Line → Type 0) → pair.head.kind ≡ Queue → IsPair pair → IfSome pair.device.now (IsReadFrom pair) → ((image : List Line) → IsReadQueue pair image → P image) → IfSome pair.device.now P
told_read pair P queue sound read each = told_weaker pair.device.now (IsReadFrom pair) P (λ image is. each image (record { queue = queue; sound = sound; read = is })) read

-- a count that was read of a side's record
pub count_read : (pair : PairView) (head : Header) (lines : List Line) (side : ℕ) (line : Line) → head ≡ pair.head → lines ≡ lines_of pair side → line ≡ line_at lines (1 + slot_count head) → word line 0 ≡ word (counted_in pair side) 0
count_read pair head lines side line head_is lines_are is =
    ap (λ (l : Line). word l 0) is ∙ (λ i. word (line_at (lines_are i) (1 + slot_count (head_is i))) 0)

-- a line of the records was refused
pub bad_line_told : (pair : PairView) (line : ℕ) → pair.head.kind ≡ Queue → IsOpened pair.device pair → IsBadRecordLine pair line → IfSome pair.device.now (λ image. IsDamagedAt image line)
bad_line_told pair line queue opened bad =
    told_read pair (λ image. IsDamagedAt image line) queue opened.sound opened.read (λ image is. records_damaged pair image line is bad)

-- reading the cells was refused
pub cells_refused : (old new : PairView) (taken tail : ℕ) (why : Why) → old.head.kind ≡ Queue → IsOpened old.device old → AreQueueRecords old → taken ≡ word (counted_in old 1) 0 → tail ≡ word (counted_in old 0) 0 → IsCellRefusal taken tail old new why → IsRecoveryRefusal old new why
cells_refused old new taken tail Memory queue opened good taken_is tail_is refusal = absurd refusal
cells_refused old new taken tail (DeviceWhy fault) queue opened good taken_is tail_is refusal = refusal
cells_refused old new taken tail Taken queue opened good taken_is tail_is refusal = refusal
cells_refused old new taken tail NoRegion queue opened good taken_is tail_is refusal = refusal
cells_refused old new taken tail (Damaged line) queue opened good taken_is tail_is refusal = (
  refusal.0,
  told_both old.device.now (IsReadFrom old) (HasBadCell old.head taken (tail - taken) line) (λ image. IsDamagedAt image line)
      (λ image is bad. cells_damaged old image line taken (tail - taken) (record { queue = queue; sound = opened.sound; read = is }) good taken_is (omega (arith, taken_is, tail_is)) bad) opened.read refusal.1,
)

-- or all cells were read
pub recovered_is : (pair : PairView) (tail : ℕ) (start items final : ItemsView) → pair.head.kind ≡ Queue → IsOpened pair.device pair → AreQueueRecords pair → start ≡ empty_items pair.head.size (word (counted_in pair 1) 0) → tail ≡ word (counted_in pair 0) 0 → HasReadCells pair tail start items → final ≡ record items { sure = items.next } → IsRecovered pair final
recovered_is pair tail start items final queue opened good empty tail_is have confirmed =
    subst (IsRecovered pair) (sym confirmed) (record {
      size = have.size ∙ ap (λ (v : ItemsView). v.size) empty;
      sure = refl;
      records = records_stand pair items.next queue opened.sound good taken last;
      told = told_both pair.device.now (IsReadFrom pair) (λ image. CellsRepresent image pair.head (Waits pair.head.size items.next)) (PassesAndSays (standing_of pair items.next))
          (λ image is cells. region_says pair image items.next (record { queue = queue; sound = opened.sound; read = is }) good taken last cells) opened.read have.cells;
    })
  where
    taken : items.next.taken ≡ word (counted_in pair 1) 0
    taken = have.taken ∙ ap (λ (v : ItemsView). v.next.taken) empty

    last : tail_of items.next ≡ word (counted_in pair 0) 0
    last = have.tail_is ∙ tail_is
