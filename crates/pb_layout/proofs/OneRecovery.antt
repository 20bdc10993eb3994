-- A region that passes all checks has the parts of what it says, and one that has the parts of a standing passes them and says it.
use Rattle.std.proofs.Common.{◌≡◌, ℕ, ◌+◌, ◌-◌, ◌*◌, ◌/◌, ◌%◌, ◌<◌, ◌≤◌, zero, suc, List, [], ◌++◌, length, get_or, drop, refl, sym, ap, ◌∙◌, subst, inl, inr, arith}
use Rattle.std.proofs.lemmas.Bool.{cases_lt}
use Rattle.std.proofs.lemmas.List.{get_or_past, length-take, length-drop, length-append}
use Rattle.std.proofs.lemmas.List.FromFn.{length-map-range_with_len, get_or-map-range_with_len}
use Rattle.pb_pmem.specs.declared.line.Line.{Line}
use Rattle.pb_pmem.specs.declared.line.TheConstants.{LINES}
use Rattle.pb_pmem.specs.Lines.{line_at, word_of}
use Rattle.pb_object.specs.declared.kind.Kind.{Kind}
use Rattle.pb_object.specs.declared.kind.Kind.TheVariants.{Map, Stack, Heap, Queue}
use Rattle.pb_object.specs.ItemLines.{count_in, item_in, WordsRepresentItems}
use Rattle.pb_object.specs.Map.{empty_register}
use Rattle.pb_object.specs.MapLines.{register_in}
use Rattle.pb_object.specs.Object.{State, Waits}
use Rattle.pb_object.specs.ObjectLines.{object_line_count, object_lines_of_all_sides, IsAllowedLine, kind_of, size_of, WordsRepresent, LinesRepresent}
use Rattle.pb_object.specs.Standing.{Standing, side_count, rounds_of}
use Rattle.pb_layout.specs.Cell.{cell_line_of, IsCell}
use Rattle.pb_object.specs.declared.request.TheConstants.{KEPT_REQUESTS}
use Rattle.pb_layout.specs.Damage.{AllPass, HasRegion, IsDamagedAt, header_in, round_in, record_in, object_lines_in, IsRoundLine, region_checks}
use Rattle.pb_layout.specs.Shape.{IsHeader}
use Rattle.pb_layout.specs.Header.{record_length, slot_count, word}
use Rattle.pb_layout.specs.Laws.{HasOneRecovery}
use Rattle.pb_layout.specs.Record.{count_line_of, slot_at, kept_in_slots, IsRecord}
use Rattle.pb_layout.specs.Region.{record_place, cell_place}
use Rattle.pb_layout.specs.Represents.{header_for, record_at, record_in_use, record_of_side, object_part, object_parts_by, object_parts, kept_list_by, kept_list, newest_of_two, number_at, AreApart, CellsRepresent, RegionParts, AreRecords}
use Rattle.pb_layout.specs.Recovered.{listed, state_by, standing_in, Represents, Recovery, NoRegion, DamagedAt, Recovered, Recovers}
use Rattle.pb_layout.specs.declared.header.Header.{Header}
use Rattle.pb_layout.specs.declared.header.TheConstants.{MAGIC}
use Rattle.pb_layout.proofs.Checks.{all_answer, all_sound, all_one, region_sharp}
use Rattle.pb_layout.proofs.Decided.{decided_eq}
use Rattle.pb_object.proofs.Sides.{few_sides}
use Rattle.pb_layout.proofs.OneStanding.{one_standing}
use Rattle.pb_layout.proofs.Readers.{named_by_line, named_of_header}

-- what the lines say of themselves is what the standing says
record Agrees (image : List Line) (s : Standing) : Type 0 where
  head : header_in image ≡ header_for s
  rounds : (side : ℕ) → side < 2 → round_in image side ≡ rounds_of s side

same_record : (image : List Line) (s : Standing) → Agrees image s → (side : ℕ) → side < 2 → record_in image side ≡ record_of_side image s side
same_record image s agrees side inside =
    let head = agrees.head in
    let round = agrees.rounds side inside in
    λ i. record_in_use image (head i) side (round i)

parts_by : (kind : Kind) (head : Header) (a b : ℕ → List Line) → a 0 ≡ b 0 → a 1 ≡ b 1 → object_parts_by kind head a ≡ object_parts_by kind head b
parts_by Map head a b first second = ap (object_part head) first
parts_by Stack head a b first second = ap (object_part head) first
parts_by Heap head a b first second = ap (object_part head) first
parts_by Queue head a b first second = λ i. object_part head (first i) ++ object_part head (second i)

last_by : (kind : Kind) (a b : ℕ → List Line) (client : ℕ) → a 0 ≡ b 0 → a 1 ≡ b 1 → kept_list_by kind a client ≡ kept_list_by kind b client
last_by Map a b client first second = ap (λ (ls : List Line). kept_in_slots ls client) first
last_by Stack a b client first second = ap (λ (ls : List Line). kept_in_slots ls client) first
last_by Heap a b client first second = ap (λ (ls : List Line). kept_in_slots ls client) first
last_by Queue a b client first second = λ i. newest_of_two KEPT_REQUESTS (kept_in_slots (first i) client) (kept_in_slots (second i) client)

same_parts : (image : List Line) (s : Standing) → Agrees image s → object_lines_in image ≡ object_parts (header_for s) (record_of_side image s)
same_parts image s agrees =
    ap (λ (h : Header). object_parts h (record_in image)) agrees.head ∙ parts_by s.kind (header_for s) (record_in image) (record_of_side image s) (same_record image s agrees 0 (omega arith)) (same_record image s agrees 1 (omega arith))

same_last : (image : List Line) (s : Standing) → Agrees image s → (client : ℕ) → kept_list (header_in image) (record_in image) client ≡ kept_list (header_for s) (record_of_side image s) client
same_last image s agrees client =
    ap (λ (h : Header). kept_list h (record_in image) client) agrees.head ∙ last_by s.kind (record_in image) (record_of_side image s) client (same_record image s agrees 0 (omega arith)) (same_record image s agrees 1 (omega arith))

apart_along : (h k : Header) (a b : ℕ → List Line) → h ≡ k → a 0 ≡ b 0 → a 1 ≡ b 1 → AreApart h a → AreApart k b
apart_along h k a b head first second apart =
    subst (λ (g : Header). AreApart g b) head (λ queue place inside some slot below same. apart queue place inside (λ e. some (sym (number 1 second place) ∙ e)) slot below (number 1 second place ∙ (same ∙ sym (number 0 first (KEPT_REQUESTS * (place / KEPT_REQUESTS) + slot)))))
  where
    number : (side : ℕ) → a side ≡ b side → (place : ℕ) → number_at a side place ≡ number_at b side place
    number side e place = ap (λ (ls : List Line). word (slot_at ls place) 0) e

record_along : (h k : Header) (side r q : ℕ) (a b : List Line) → h ≡ k → r ≡ q → a ≡ b → IsRecord h side r a → IsRecord k side q b
record_along h k side r q a b head round lines own =
    subst (λ (g : Header). IsRecord g side q b) head (subst (λ (n : ℕ). IsRecord h side n b) round (subst (λ (ls : List Line). IsRecord h side r ls) lines own))

allowed_along : (kind kind' : Kind) (size size' : ℕ) (a b : List Line) → kind ≡ kind' → size ≡ size' → a ≡ b → ((place : ℕ) → place < length a → IsAllowedLine kind size a place) → (place : ℕ) → place < length b → IsAllowedLine kind' size' b place
allowed_along kind kind' size size' a b ek es el all =
    subst (λ (k : Kind). (place : ℕ) → place < length b → IsAllowedLine k size' b place) ek (subst (λ (n : ℕ). (place : ℕ) → place < length b → IsAllowedLine kind n b place) es (subst (λ (ls : List Line). (place : ℕ) → place < length ls → IsAllowedLine kind size ls place) el all))

-- from a standing to the checks
agrees_from : (image : List Line) (s : Standing) → RegionParts image s → Agrees image s
agrees_from image s stands = record {
  head = named_by_line (line_at image 0) (header_for s) stands.header;
  rounds = λ side inside. ap (λ (line : Line). word line 0) (stands.rounds side inside);
}

round_line_from : (image : List Line) (s : Standing) → RegionParts image s → Agrees image s → (side : ℕ) → side < 2 → IsRoundLine (header_in image).kind side (line_at image (1 + side))
round_line_from image s stands agrees side inside = record {
  count = stands.rounds side inside ∙ ap count_line_of (sym (agrees.rounds side inside));
  no_side = λ past. agrees.rounds side inside ∙ get_or_past s.rounds side 0 (omega (arith, stands.sides, ap (λ (h : Header). side_count h.kind) agrees.head));
}

cells_from : (image lines : List Line) (head : Header) (state : State) → kind_of state ≡ Queue → WordsRepresent lines state → CellsRepresent image head state → (place : ℕ) → place < word_of lines 0 0 - word_of lines 1 0 → IsCell (word_of lines 1 0 + place) (line_at image (cell_place head (word_of lines 1 0 + place)))
cells_from image lines head (Waits size queue) kind hold cells place inside =
    let at : queue.taken + place ≡ word_of lines 1 0 + place = ap (λ (n : ℕ). n + place) hold.1 in
    subst (λ (n : ℕ). IsCell n (line_at image (cell_place head n))) at (get_or queue.items place 0, cells place (omega (arith, hold.0, hold.1)))
cells_from image lines head state kind hold cells place inside = absurd (cc)

pub pass_from : (image : List Line) (s : Standing) → RegionParts image s → AllPass (region_checks image)
pass_from image s stands =
    let agrees = agrees_from image s stands in
    let head = agrees.head in
    let kind = ap (λ (h : Header). h.kind) head in
    let first = same_record image s agrees 0 (omega arith) in
    let second = same_record image s agrees 1 (omega arith) in
    let lines = same_parts image s agrees in (
      (header_for s, stands.valid, stands.header),
      (
        round_line_from image s stands agrees 0 (omega arith),
        (
          round_line_from image s stands agrees 1 (omega arith),
          (
            (λ inside. record_along (header_for s) (header_in image) 0 (rounds_of s 0) (round_in image 0) (record_of_side image s 0) (record_in image 0) (sym head) (sym (agrees.rounds 0 (omega arith))) (sym first) (stands.records 0 (omega (arith, ap side_count kind)))),
            (
              (λ inside. record_along (header_for s) (header_in image) 1 (rounds_of s 1) (round_in image 1) (record_of_side image s 1) (record_in image 1) (sym head) (sym (agrees.rounds 1 (omega arith))) (sym second) (stands.records 1 (omega (arith, ap side_count kind)))),
              (
                allowed_along (kind_of s.state) (header_in image).kind (size_of s.state) (header_in image).size (object_parts (header_for s) (record_of_side image s)) (object_lines_in image) (stands.kind ∙ sym kind) (stands.size ∙ sym (ap (λ (h : Header). h.size) head)) (sym lines) stands.state.allowed,
                (
                  apart_along (header_for s) (header_in image) (record_of_side image s) (record_in image) (sym head) (sym first) (sym second) stands.apart,
                  (
                    (λ queue. cells_from image (object_lines_in image) (header_in image) s.state (stands.kind ∙ (sym kind ∙ queue)) (subst (λ (ls : List Line). WordsRepresent ls s.state) (sym lines) stands.state.hold) (subst (λ (h : Header). CellsRepresent image h s.state) (sym head) stands.cells)),
                    tt,
                  ),
                ),
              ),
            ),
          ),
        ),
      ),
    )

pub region_from : (image : List Line) (s : Standing) → RegionParts image s → HasRegion image
region_from image s stands = ap (λ (line : Line). word line 0) stands.header

-- from the checks to a standing
pub length-listed : {X : Type 0} (n : ℕ) (f : ℕ → X) → length (listed n f) ≡ n
unfolding listed
length-listed n f = length-map-range_with_len f 0 n

pub get_or-listed : {X : Type 0} (n : ℕ) (f : ℕ → X) (k : ℕ) (d : X) → k < n → get_or (listed n f) k d ≡ f k
unfolding listed
get_or-listed n f k d inside = get_or-map-range_with_len f 0 n k k d inside (omega arith)

-- a side's record ends within the device
fits_by : (kind : Kind) (clients size side which : ℕ) → IsHeader (record { kind = kind; clients = clients; size = size }) → side < side_count kind → which < 2 → record_place (record { kind = kind; clients = clients; size = size }) side which + record_length (record { kind = kind; clients = clients; size = size }) ≤ LINES
fits_by Map clients size zero zero head s w = omega (arith, head.few_clients, head.small_size)
fits_by Map clients size zero (suc zero) head s w = omega (arith, head.few_clients, head.small_size)
fits_by Stack clients size zero zero head s w = omega (arith, head.few_clients, head.small_size)
fits_by Stack clients size zero (suc zero) head s w = omega (arith, head.few_clients, head.small_size)
fits_by Heap clients size zero zero head s w = omega (arith, head.few_clients, head.small_size)
fits_by Heap clients size zero (suc zero) head s w = omega (arith, head.few_clients, head.small_size)
fits_by Queue clients size zero zero head s w = omega (arith, head.few_clients, head.small_size)
fits_by Queue clients size zero (suc zero) head s w = omega (arith, head.few_clients, head.small_size)
fits_by Queue clients size (suc zero) zero head s w = omega (arith, head.few_clients, head.small_size)
fits_by Queue clients size (suc zero) (suc zero) head s w = omega (arith, head.few_clients, head.small_size)
fits_by kind clients size side (suc (suc n)) head s w = absurd (omega arith)
fits_by kind clients size (suc (suc n)) which head s w = absurd (omega (arith, few_sides kind))
fits_by kind clients size (suc zero) which head s w = absurd (omega arith)

pub record_fits : (head : Header) (side which : ℕ) → IsHeader head → side < side_count head.kind → which < 2 → record_place head side which + record_length head ≤ LINES
record_fits head side which valid s w = fits_by head.kind head.clients head.size side which valid s w

pub length-record_at : (image : List Line) (head : Header) (side which : ℕ) → length image ≡ LINES → IsHeader head → side < side_count head.kind → which < 2 → length (record_at image head side which) ≡ record_length head
length-record_at image head side which whole valid s w =
    omega (arith, length-take (record_length head) (drop (record_place head side which) image), length-drop (record_place head side which) image, record_fits head side which valid s w)

length-part : (head : Header) (lines : List Line) → length lines ≡ record_length head → length (object_part head lines) ≡ object_line_count head.kind head.size
length-part head lines long = omega (arith, length-drop (1 + slot_count head) lines)

length-parts : (kind : Kind) (clients size : ℕ) (records : ℕ → List Line) → ((side : ℕ) → side < side_count kind → length (records side) ≡ record_length (record { kind = kind; clients = clients; size = size })) → length (object_parts (record { kind = kind; clients = clients; size = size }) records) ≡ object_lines_of_all_sides kind size
length-parts Map clients size records long = length-part (record { kind = Map; clients = clients; size = size }) (records 0) (long 0 (omega arith))
length-parts Stack clients size records long = length-part (record { kind = Stack; clients = clients; size = size }) (records 0) (long 0 (omega arith))
length-parts Heap clients size records long = length-part (record { kind = Heap; clients = clients; size = size }) (records 0) (long 0 (omega arith))
length-parts Queue clients size records long =
    let head : Header = record { kind = Queue; clients = clients; size = size } in
    omega (arith, length-append (object_part head (records 0)) (object_part head (records 1)), length-part head (records 0) (long 0 (omega arith)), length-part head (records 1) (long 1 (omega arith)))

-- the state that the object lines, and a queue's cells, say
kind_of-state_by : (kind : Kind) (size : ℕ) (lines image : List Line) (head : Header) → kind_of (state_by kind size lines image head) ≡ kind
unfolding state_by
kind_of-state_by Map size lines image head = refl
kind_of-state_by Stack size lines image head = refl
kind_of-state_by Heap size lines image head = refl
kind_of-state_by Queue size lines image head = refl

size_of-state_by : (kind : Kind) (size : ℕ) (lines image : List Line) (head : Header) → size_of (state_by kind size lines image head) ≡ size
unfolding state_by
size_of-state_by Map size lines image head = length-listed size (register_in lines)
size_of-state_by Stack size lines image head = refl
size_of-state_by Heap size lines image head = refl
size_of-state_by Queue size lines image head = refl

items_held : (lines : List Line) → WordsRepresentItems lines (listed (count_in lines) (item_in lines))
items_held lines = record {
  count = length-listed (count_in lines) (item_in lines);
  each = λ place inside. get_or-listed (count_in lines) (item_in lines) place 0 (omega (arith, length-listed (count_in lines) (item_in lines)));
}

hold-state_by : (kind : Kind) (size : ℕ) (lines image : List Line) (head : Header) → length lines ≡ object_lines_of_all_sides kind size → ((place : ℕ) → place < length lines → IsAllowedLine kind size lines place) → WordsRepresent lines (state_by kind size lines image head)
unfolding state_by
hold-state_by Map size lines image head long all =
    λ key inside. get_or-listed size (register_in lines) key empty_register (omega (arith, length-listed size (register_in lines)))
hold-state_by Stack size lines image head long all = items_held lines
hold-state_by Heap size lines image head long all = (listed (count_in lines) (item_in lines), items_held lines, refl)
hold-state_by Queue size lines image head long all =
    let fits : word_of lines 1 0 ≤ word_of lines 0 0 = (all 1 (omega arith)).head refl in
    let value : ℕ → ℕ = λ (place : ℕ). word (line_at image (cell_place head (word_of lines 1 0 + place))) 1 in
    (omega (arith, length-listed (word_of lines 0 0 - word_of lines 1 0) value), refl)

cells-state_by : (kind : Kind) (size : ℕ) (lines image : List Line) (head : Header) → (kind ≡ Queue → (place : ℕ) → place < word_of lines 0 0 - word_of lines 1 0 → IsCell (word_of lines 1 0 + place) (line_at image (cell_place head (word_of lines 1 0 + place)))) → CellsRepresent image head (state_by kind size lines image head)
unfolding state_by
cells-state_by Map size lines image head cells = tt
cells-state_by Stack size lines image head cells = tt
cells-state_by Heap size lines image head cells = tt
cells-state_by Queue size lines image head cells = λ place inside.
    let value : ℕ → ℕ = λ (p : ℕ). word (line_at image (cell_place head (word_of lines 1 0 + p))) 1 in
    let below : place < word_of lines 0 0 - word_of lines 1 0 = omega (arith, length-listed (word_of lines 0 0 - word_of lines 1 0) value) in
    let cell = cells refl place below in
    let item = get_or-listed (word_of lines 0 0 - word_of lines 1 0) value place 0 below in
    cell.1 ∙ ap (cell_line_of (word_of lines 1 0 + place)) (sym (item ∙ ap (λ (l : Line). word l 1) cell.1))

some_side : (kind : Kind) → 0 < side_count kind
some_side Map = omega arith
some_side Stack = omega arith
some_side Heap = omega arith
some_side Queue = omega arith

no_round : (image : List Line) (side : ℕ) → side < 2 → side_count (header_in image).kind ≤ side → IsRoundLine (header_in image).kind 1 (line_at image 2) → round_in image side ≡ 0
no_round image zero inside past second = absurd (omega (arith, some_side (header_in image).kind))
no_round image (suc zero) inside past second = second.no_side past
no_round image (suc (suc n)) inside past second = absurd (omega arith)

agrees_in : (image : List Line) → IsRoundLine (header_in image).kind 1 (line_at image 2) → Agrees image (standing_in image)
unfolding standing_in
agrees_in image second = record {
  head = refl;
  rounds = λ side inside. elim (cases_lt side (side_count (header_in image).kind)) [
    | inl below ↦ sym (get_or-listed (side_count (header_in image).kind) (round_in image) side 0 below)
    | inr past ↦ no_round image side inside past second ∙ sym (get_or_past (listed (side_count (header_in image).kind) (round_in image)) side 0 (omega (arith, length-listed (side_count (header_in image).kind) (round_in image))))
  ];
}

stand-state_by : (kind : Kind) (size : ℕ) (lines image : List Line) (head : Header) → length lines ≡ object_lines_of_all_sides kind size → ((place : ℕ) → place < length lines → IsAllowedLine kind size lines place) → LinesRepresent lines (state_by kind size lines image head)
stand-state_by kind size lines image head long all =
    let state = state_by kind size lines image head in
    let same_kind = sym (kind_of-state_by kind size lines image head) in
    let same_size = sym (size_of-state_by kind size lines image head) in
    record {
      count = long ∙ (λ i. object_lines_of_all_sides (same_kind i) (same_size i));
      allowed = allowed_along kind (kind_of state) size (size_of state) lines lines same_kind same_size refl all;
      hold = hold-state_by kind size lines image head long all;
    }

rounds_in : (image : List Line) → IsRoundLine (header_in image).kind 0 (line_at image 1) → IsRoundLine (header_in image).kind 1 (line_at image 2) → (side : ℕ) → side < 2 → line_at image (1 + side) ≡ count_line_of (round_in image side)
rounds_in image first second zero inside = first.count
rounds_in image first second (suc zero) inside = second.count
rounds_in image first second (suc (suc n)) inside = absurd (omega arith)

records_in : (image : List Line) → (0 < side_count (header_in image).kind → IsRecord (header_in image) 0 (round_in image 0) (record_in image 0)) → (1 < side_count (header_in image).kind → IsRecord (header_in image) 1 (round_in image 1) (record_in image 1)) → (side : ℕ) → side < side_count (header_in image).kind → IsRecord (header_in image) side (round_in image side) (record_in image side)
records_in image first second zero inside = first inside
records_in image first second (suc zero) inside = second inside
records_in image first second (suc (suc n)) inside = absurd (omega (arith, few_sides (header_in image).kind))

pub stands_in : (image : List Line) → length image ≡ LINES → AllPass (region_checks image) → RegionParts image (standing_in image)
unfolding standing_in
stands_in image whole (header, (first, (second, (own, (other, (objects, (apart, (cells, _)))))))) =
    let head = header_in image in
    let valid : IsHeader head = (named_of_header (line_at image 0) header).0 in
    let agrees = agrees_in image second in
    let lines = object_lines_in image in
    let few = few_sides head.kind in
    let long = λ (side : ℕ) (inside : side < side_count head.kind). length-record_at image head side (round_in image side % 2) whole valid inside (omega arith) in
    let count = length-parts head.kind head.clients head.size (record_in image) long in
    let parts = same_parts image (standing_in image) agrees in
    record {
      valid = valid;
      header = (named_of_header (line_at image 0) header).1;
      sides = length-listed (side_count head.kind) (round_in image);
      rounds = λ side inside. rounds_in image first second side inside ∙ ap count_line_of (agrees.rounds side inside);
      records = λ side inside. record_along head head side (round_in image side) (rounds_of (standing_in image) side) (record_in image side) (record_of_side image (standing_in image) side) refl (agrees.rounds side (omega arith)) (same_record image (standing_in image) agrees side (omega arith)) (records_in image own other side inside);
      kind = kind_of-state_by head.kind head.size lines image head;
      size = size_of-state_by head.kind head.size lines image head;
      state = subst (λ (ls : List Line). LinesRepresent ls (state_by head.kind head.size lines image head)) parts (stand-state_by head.kind head.size lines image head count objects);
      cells = cells-state_by head.kind head.size lines image head cells;
      clients = length-listed head.clients (kept_list head (record_in image));
      apart = apart_along head head (record_in image) (record_of_side image (standing_in image)) refl (same_record image (standing_in image) agrees 0 (omega arith)) (same_record image (standing_in image) agrees 1 (omega arith)) apart;
      kept = λ client inside. get_or-listed head.clients (kept_list head (record_in image)) client [] inside ∙ same_last image (standing_in image) agrees client;
    }

-- a region that represents s has its parts
pub parts : (image : List Line) (s : Standing) → Represents image s → RegionParts image s
parts image s stands = subst (RegionParts image) (sym stands.says) (stands_in image stands.whole stands.passes)

-- and the parts of a standing make the region represent it
pub from_parts : (image : List Line) (s : Standing) → length image ≡ LINES → RegionParts image s → Represents image s
from_parts image s whole has =
    let passes = pass_from image s has in
    record {
      whole = whole;
      passes = passes;
      says = one_standing image s (standing_in image) has (stands_in image whole passes);
    }

pub has_region : (image : List Line) (s : Standing) → Represents image s → HasRegion image
has_region image s stands = region_from image s (parts image s stands)

pub represents_one : (image : List Line) (s t : Standing) → Represents image s → Represents image t → s ≡ t
represents_one image s t left right = left.says ∙ sym right.says

-- what represents a standing isn't damaged
pub not_damaged : (image : List Line) (s : Standing) (line : ℕ) → Represents image s → ¬ IsDamagedAt image line
not_damaged image s line stands damaged = all_sound (region_checks image) (region_sharp image) line damaged.first stands.passes

one_recovery_each : (image : List Line) (a b : Recovery) → Recovers image a → Recovers image b → a ≡ b
one_recovery_each image NoRegion NoRegion left right = refl
one_recovery_each image NoRegion (DamagedAt line) left right = absurd (left right.region)
one_recovery_each image NoRegion (Recovered s) left right = absurd (left (has_region image s right))
one_recovery_each image (DamagedAt line) NoRegion left right = absurd (right left.region)
one_recovery_each image (DamagedAt line) (DamagedAt other) left right =
    ap DamagedAt (all_one (region_checks image) (region_sharp image) line other left.first right.first)
one_recovery_each image (DamagedAt line) (Recovered s) left right = absurd (not_damaged image s line right left)
one_recovery_each image (Recovered s) NoRegion left right = absurd (right (has_region image s left))
one_recovery_each image (Recovered s) (DamagedAt line) left right = absurd (not_damaged image s line left right)
one_recovery_each image (Recovered s) (Recovered t) left right = ap Recovered (represents_one image s t left right)

some_recovery : (image : List Line) → length image ≡ LINES → (recovery : Recovery) × Recovers image recovery
some_recovery image whole =
    elim (decided_eq (word_of image 0 0) MAGIC) [
      | inr other ↦ (NoRegion, other)
      | inl region ↦ elim (all_answer (region_checks image) (region_sharp image)) [
        | inl passes ↦ (Recovered (standing_in image), record { whole = whole; passes = passes; says = refl })
        | inr named ↦ (DamagedAt named.0, record { region = region; first = named.1 })
      ]
    ]

-- what a device holds is a function of its lines
pub one_recovery : (image : List Line) → length image ≡ LINES → HasOneRecovery image
one_recovery image whole =
    let found = some_recovery image whole in
    record { recovery = found.0; recovers = found.1; alone = λ other recovers. one_recovery_each image other found.0 recovers found.1 }

-- the records in use of a region are records of what it represents
pub region_records : (image : List Line) (s : Standing) → RegionParts image s → AreRecords (record_of_side image s) s
region_records image s has = record {
  valid = has.valid;
  sides = has.sides;
  own = has.records;
  kind = has.kind;
  size = has.size;
  state = has.state;
  clients = has.clients;
  apart = has.apart;
  kept = has.kept;
}
