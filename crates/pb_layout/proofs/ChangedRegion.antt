-- A region changes: outside the lines in use, and by a round.
use Rattle.std.proofs.Common.{◌≡◌, ◌≢◌, ℕ, ◌+◌, ◌*◌, ◌/◌, ◌%◌, ◌<◌, List, ◌++◌, length, get_or, set, take, drop, refl, sym, ap, ◌∙◌, subst, inl, inr, arith}
use Rattle.std.proofs.lemmas.Bool.{cases_eq}
use Rattle.std.proofs.lemmas.Bool.Decides.{nat_tests}
use Rattle.std.proofs.lemmas.List.{ext_get_or, length-take, length-drop, length-set, get_or-set_same, get_or-set_other}
use Rattle.pb_pmem.specs.declared.line.Line.{Line}
use Rattle.pb_pmem.specs.Lines.{line_at, word_of, zero_line}
use Rattle.pb_object.specs.declared.kind.Kind.{Kind}
use Rattle.pb_object.specs.declared.kind.Kind.TheVariants.{Map, Stack, Heap, Queue}
use Rattle.pb_object.specs.Object.{State, Registers, Items, Rising, Waits}
use Rattle.pb_object.specs.ObjectLines.{kind_of, size_of, LinesRepresent}
use Rattle.pb_object.specs.Standing.{Standing, side_count, rounds_of, kept_list_of}
use Rattle.pb_object.specs.declared.request.TheConstants.{KEPT_REQUESTS}
use Rattle.pb_layout.specs.Shape.{IsHeader}
use Rattle.pb_layout.specs.Header.{header_line_of, record_length, word}
use Rattle.pb_layout.specs.Record.{count_line_of, slot_at, kept_in_slots, IsRecord}
use Rattle.pb_layout.specs.Region.{record_place, cell_place}
use Rattle.pb_layout.specs.Represents.{header_for, record_in_use, record_of_side, object_part, object_parts_by, object_parts, kept_list_by, kept_list, newest_of_two, number_at, AreApart, CellsRepresent, with_record, records_with, RegionParts}
use Rattle.pb_layout.specs.declared.header.Header.{Header}
use Rattle.pb_pmem.proofs.Lines.{same_line}
use Rattle.pb_layout.proofs.Records.{line_at-piece}

-- records that are the same on each side that there is
abbrev pub SameRecords : Kind → (ℕ → List Line) → (ℕ → List Line) → Type 0
SameRecords kind a b = (side : ℕ) → side < side_count kind → a side ≡ b side

pub object_parts-same : (kind : Kind) (head : Header) (a b : ℕ → List Line) → SameRecords kind a b → object_parts_by kind head a ≡ object_parts_by kind head b
object_parts-same Map head a b same = ap (object_part head) (same 0 (omega arith))
object_parts-same Stack head a b same = ap (object_part head) (same 0 (omega arith))
object_parts-same Heap head a b same = ap (object_part head) (same 0 (omega arith))
object_parts-same Queue head a b same =
    let first = same 0 (omega arith) in
    let second = same 1 (omega arith) in
    λ i. object_part head (first i) ++ object_part head (second i)

pub kept_list-same : (kind : Kind) (a b : ℕ → List Line) (client : ℕ) → SameRecords kind a b → kept_list_by kind a client ≡ kept_list_by kind b client
kept_list-same Map a b client same = ap (λ (ls : List Line). kept_in_slots ls client) (same 0 (omega arith))
kept_list-same Stack a b client same = ap (λ (ls : List Line). kept_in_slots ls client) (same 0 (omega arith))
kept_list-same Heap a b client same = ap (λ (ls : List Line). kept_in_slots ls client) (same 0 (omega arith))
kept_list-same Queue a b client same =
    let first = same 0 (omega arith) in
    let second = same 1 (omega arith) in
    λ i. newest_of_two KEPT_REQUESTS (kept_in_slots (first i) client) (kept_in_slots (second i) client)

number_same : (a b : ℕ → List Line) (side : ℕ) → a side ≡ b side → (place : ℕ) → number_at a side place ≡ number_at b side place
number_same a b side e place = ap (λ (ls : List Line). word (slot_at ls place) 0) e

pub apart-same : (head : Header) (a b : ℕ → List Line) → SameRecords head.kind a b → AreApart head a → AreApart head b
apart-same head a b same apart queue place inside some slot below equal =
    let sides = ap side_count queue in
    let puts = number_same a b 0 (same 0 (omega arith)) (KEPT_REQUESTS * (place / KEPT_REQUESTS) + slot) in
    let takes = number_same a b 1 (same 1 (omega arith)) place in
    apart queue place inside (λ e. some (sym takes ∙ e)) slot below (takes ∙ (equal ∙ sym puts))

-- a region that represents s, said of the records in use
pub record HasRecords (image : List Line) (s : Standing) (records : ℕ → List Line) : Type 0 where
  pub valid : IsHeader (header_for s)
  pub header : line_at image 0 ≡ header_line_of (header_for s)
  pub sides : length s.rounds ≡ side_count s.kind
  pub rounds : (side : ℕ) → side < 2 → line_at image (1 + side) ≡ count_line_of (rounds_of s side)
  pub in_use : SameRecords s.kind (record_of_side image s) records
  pub own : (side : ℕ) → side < side_count s.kind → IsRecord (header_for s) side (rounds_of s side) (records side)
  pub kind : kind_of s.state ≡ s.kind
  pub size : size_of s.state ≡ s.size
  pub state : LinesRepresent (object_parts (header_for s) records) s.state
  pub cells : CellsRepresent image (header_for s) s.state
  pub clients : length s.kept ≡ s.clients
  pub apart : AreApart (header_for s) records
  pub kept : (client : ℕ) → client < s.clients → kept_list_of s client ≡ kept_list (header_for s) records client

pub represents_from_records : (image : List Line) (s : Standing) (records : ℕ → List Line) → HasRecords image s records → RegionParts image s
represents_from_records image s records has =
    let back : SameRecords s.kind records (record_of_side image s) = λ side inside. sym (has.in_use side inside) in
    record {
      valid = has.valid;
      header = has.header;
      sides = has.sides;
      rounds = has.rounds;
      records = λ side inside. subst (λ (ls : List Line). IsRecord (header_for s) side (rounds_of s side) ls) (back side inside) (has.own side inside);
      kind = has.kind;
      size = has.size;
      state = subst (λ (ls : List Line). LinesRepresent ls s.state) (object_parts-same s.kind (header_for s) records (record_of_side image s) back) has.state;
      cells = has.cells;
      clients = has.clients;
      apart = apart-same (header_for s) records (record_of_side image s) back has.apart;
      kept = λ client inside. has.kept client inside ∙ kept_list-same s.kind records (record_of_side image s) client back;
    }

-- pieces whose lines are the same
pub same_piece : (a b : List Line) (first count : ℕ) → length a ≡ length b → ((place : ℕ) → place < count → line_at a (first + place) ≡ line_at b (first + place)) → take count (drop first a) ≡ take count (drop first b)
same_piece a b first count long same =
    let left = length-take count (drop first a) in
    let right = length-take count (drop first b) in
    let la = length-drop first a in
    let lb = length-drop first b in
    ext_get_or zero_line (take count (drop first a)) (take count (drop first b)) (omega arith) (λ place inside. line_at-piece a first count place (omega arith) ∙ (same place (omega arith) ∙ sym (line_at-piece b first count place (omega arith))))

-- lines that are the same in each word
pub same_by_words : (a b : List Line) (line : ℕ) → ((word : ℕ) → word < 8 → word_of a line word ≡ word_of b line word) → line_at a line ≡ line_at b line
same_by_words a b line same =
    let left = (line_at a line).eight in
    let right = (line_at b line).eight in
    same_line (line_at a line) (line_at b line) (ext_get_or 0 (line_at a line).words (line_at b line).words (left ∙ sym right) (λ word inside. same word (omega arith)))

-- the cells in use are the same
abbrev pub SameCells : List Line → List Line → Header → State → Type 0
SameCells a b head (Registers registers) = Unit {0}
SameCells a b head (Items size items) = Unit {0}
SameCells a b head (Rising size items) = Unit {0}
SameCells a b head (Waits size queue) =
    (place : ℕ) → place < length queue.items → line_at a (cell_place head (queue.taken + place)) ≡ line_at b (cell_place head (queue.taken + place))

-- two images are the same where a region that represents s is in use
pub record SameInUse (a b : List Line) (s : Standing) : Type 0 where
  pub long : length a ≡ length b
  pub prefix : (line : ℕ) → line < 3 → line_at a line ≡ line_at b line
  pub records : (side place : ℕ) → side < side_count s.kind → place < record_length (header_for s) → line_at a (record_place (header_for s) side (rounds_of s side % 2) + place) ≡ line_at b (record_place (header_for s) side (rounds_of s side % 2) + place)
  pub cells : SameCells a b (header_for s) s.state

hold_cells : (a b : List Line) (head : Header) (state : State) → SameCells a b head state → CellsRepresent a head state → CellsRepresent b head state
hold_cells a b head (Registers registers) same hold = tt
hold_cells a b head (Items size items) same hold = tt
hold_cells a b head (Rising size items) same hold = tt
hold_cells a b head (Waits size queue) same hold = λ place inside. sym (same place inside) ∙ hold place inside

-- the frame: a change outside the lines in use keeps the standing
pub frame : (a b : List Line) (s : Standing) → SameInUse a b s → RegionParts a s → RegionParts b s
frame a b s same stands =
    represents_from_records b s (record_of_side a s) (record {
      valid = stands.valid;
      header = sym (same.prefix 0 (omega arith)) ∙ stands.header;
      sides = stands.sides;
      rounds = λ side inside. sym (same.prefix (1 + side) (omega arith)) ∙ stands.rounds side inside;
      in_use = λ side inside. sym (same_piece a b (record_place (header_for s) side (rounds_of s side % 2)) (record_length (header_for s)) same.long (λ place within. same.records side place inside within));
      own = stands.records;
      kind = stands.kind;
      size = stands.size;
      state = stands.state;
      cells = hold_cells a b (header_for s) s.state same.cells stands.cells;
      clients = stands.clients;
      apart = stands.apart;
      kept = stands.kept;
    })

-- a round of a side: its spare record holds these lines, which stand with the rest for t, and the side's round number is one more
pub record Turns (a b : List Line) (s t : Standing) (side : ℕ) (lines : List Line) : Type 0 where
  pub here : side < side_count s.kind
  pub same : header_for t ≡ header_for s
  pub rounds : t.rounds ≡ set s.rounds side (rounds_of s side + 1)
  pub header : line_at b 0 ≡ line_at a 0
  pub index : line_at b (1 + side) ≡ count_line_of (rounds_of s side + 1)
  pub others : (other : ℕ) → other < 2 → other ≢ side → line_at b (1 + other) ≡ line_at a (1 + other)
  pub spare : record_in_use b (header_for s) side (rounds_of s side + 1) ≡ lines
  pub others_in_use : (other : ℕ) → other < side_count s.kind → other ≢ side → record_of_side b s other ≡ record_of_side a s other
  pub own : IsRecord (header_for s) side (rounds_of s side + 1) lines
  pub kind : kind_of t.state ≡ t.kind
  pub size : size_of t.state ≡ t.size
  pub state : LinesRepresent (object_parts (header_for s) (records_with a s side lines)) t.state
  pub cells : CellsRepresent b (header_for s) t.state
  pub clients : length t.kept ≡ t.clients
  pub apart : AreApart (header_for s) (records_with a s side lines)
  pub kept : (client : ℕ) → client < t.clients → kept_list_of t client ≡ kept_list (header_for s) (records_with a s side lines) client

pub with_here : (records : ℕ → List Line) (side : ℕ) (lines : List Line) (other : ℕ) → other ≡ side → with_record records side lines other ≡ lines
with_here records side lines other e = grind (arith, nat_tests)

pub with_other : (records : ℕ → List Line) (side : ℕ) (lines : List Line) (other : ℕ) → other ≢ side → with_record records side lines other ≡ records other
with_other records side lines other e = grind (arith, nat_tests)

round_here : (s t : Standing) (side : ℕ) → side < length s.rounds → t.rounds ≡ set s.rounds side (rounds_of s side + 1) → rounds_of t side ≡ rounds_of s side + 1
round_here s t side inside e =
    ap (λ (r : List ℕ). get_or r side 0) e ∙ get_or-set_same s.rounds side (rounds_of s side + 1) 0 inside

round_other : (s t : Standing) (side other : ℕ) → other ≢ side → t.rounds ≡ set s.rounds side (rounds_of s side + 1) → rounds_of t other ≡ rounds_of s other
round_other s t side other apart e =
    ap (λ (r : List ℕ). get_or r other 0) e ∙ get_or-set_other s.rounds side other (rounds_of s side + 1) 0 apart

-- a record of one header, side and round number, each named in another way
pub own_along : (h k : Header) (side other r q : ℕ) (a b : List Line) → h ≡ k → side ≡ other → r ≡ q → a ≡ b → IsRecord h side r a → IsRecord k other q b
own_along h k side other r q a b head same round lines own =
    subst (λ (g : Header). IsRecord g other q b) head (subst (λ (x : ℕ). IsRecord h x q b) same (subst (λ (n : ℕ). IsRecord h side n b) round (subst (λ (ls : List Line). IsRecord h side r ls) lines own)))

-- the turn: after a round the region represents the next standing
pub turn : (a b : List Line) (s t : Standing) (side : ℕ) (lines : List Line) → RegionParts a s → Turns a b s t side lines → RegionParts b t
turn a b s t side lines stands turns =
    let head = sym turns.same in
    let sides = ap (λ (h : Header). side_count h.kind) turns.same in
    let inside : side < length s.rounds = omega (arith, stands.sides, turns.here) in
    let here = round_here s t side inside turns.rounds in
    let records = records_with a s side lines in
    represents_from_records b t records (record {
      valid = subst (λ (h : Header). IsHeader h) head stands.valid;
      header = turns.header ∙ (stands.header ∙ ap header_line_of head);
      sides = ap length turns.rounds ∙ (length-set s.rounds side (rounds_of s side + 1) ∙ (stands.sides ∙ sym sides));
      rounds = λ x below. elim (cases_eq x side) [
        | inl e ↦ ap (λ (n : ℕ). line_at b (1 + n)) e ∙ (turns.index ∙ (ap count_line_of (sym here) ∙ ap (λ (n : ℕ). count_line_of (rounds_of t n)) (sym e)))
        | inr other ↦ turns.others x below other ∙ (stands.rounds x below ∙ ap count_line_of (sym (round_other s t side x other turns.rounds)))
      ];
      in_use = λ x below. elim (cases_eq x side) [
        | inl e ↦ ap (λ (n : ℕ). record_of_side b t n) e ∙ (ap (λ (h : Header). record_in_use b h side (rounds_of t side)) turns.same ∙ (ap (λ (n : ℕ). record_in_use b (header_for s) side n) here ∙ (turns.spare ∙ sym (with_here (record_of_side a s) side lines x e))))
        | inr other ↦ ap (λ (h : Header). record_in_use b h x (rounds_of t x)) turns.same ∙ (ap (λ (n : ℕ). record_in_use b (header_for s) x n) (round_other s t side x other turns.rounds) ∙ (turns.others_in_use x (omega arith) other ∙ sym (with_other (record_of_side a s) side lines x other)))
      ];
      own = λ x below. elim (cases_eq x side) [
        | inl e ↦ own_along (header_for s) (header_for t) side x (rounds_of s side + 1) (rounds_of t x) lines (records x) head (sym e) (sym here ∙ ap (λ (n : ℕ). rounds_of t n) (sym e)) (sym (with_here (record_of_side a s) side lines x e)) turns.own
        | inr other ↦ own_along (header_for s) (header_for t) x x (rounds_of s x) (rounds_of t x) (record_of_side a s x) (records x) head refl (sym (round_other s t side x other turns.rounds)) (sym (with_other (record_of_side a s) side lines x other)) (stands.records x (omega arith))
      ];
      kind = turns.kind;
      size = turns.size;
      state = subst (λ (h : Header). LinesRepresent (object_parts h records) t.state) head turns.state;
      cells = subst (λ (h : Header). CellsRepresent b h t.state) head turns.cells;
      clients = turns.clients;
      apart = subst (λ (h : Header). AreApart h records) head turns.apart;
      kept = λ client within. turns.kept client within ∙ ap (λ (h : Header). kept_list h records client) head;
    })
