-- An engine over a pair that was just formatted or opened.
use Rattle.std.proofs.Common.{◌≡◌, ◌≢◌, true, ℕ, zero, suc, ◌+◌, ◌-◌, ◌<◌, ◌≤◌, ◌%◌, Option, Some, None, IfSome, List, [], ◌∷◌, length, drop, replicate, refl, sym, ap, subst, ◌∙◌, inl, arith}
use Rattle.std.proofs.lemmas.List.{ext_get_or, length-replicate, get_or-replicate, length-drop}
use Rattle.pb_pmem.specs.declared.line.Line.{Line}
use Rattle.pb_pmem.specs.declared.line.TheConstants.{LINES}
use Rattle.pb_pmem.specs.Device.{Device, IsWhole, IsReplay}
use Rattle.pb_pmem.specs.Lines.{line_at, zero_line}
use Rattle.pb_pmem.specs.Operations.{after}
use Rattle.pb_object.specs.declared.kind.Kind.{Kind}
use Rattle.pb_object.specs.declared.kind.Kind.TheVariants.{Map, Stack, Heap, Queue}
use Rattle.pb_object.specs.declared.request.Kept.{Kept}
use Rattle.pb_object.specs.Object.{State, Registers, Items, Rising, Waits, start_state}
use Rattle.pb_object.specs.ObjectLines.{kind_of, size_of, object_line_count, IsFirstRefused, LinesRepresent}
use Rattle.pb_object.specs.Standing.{Standing, side_count, rounds_of}
use Rattle.pb_layout.specs.declared.header.Header.{Header}
use Rattle.pb_layout.specs.Damage.{HasRegion, IsDamagedAt, header_in, round_in, record_in, object_lines_in, object_place_by, opening_checks, state_checks}
use Rattle.pb_layout.specs.Exits.{AreEmptyRecords, empty_for, records_of as first_records}
use Rattle.pb_layout.specs.Header.{record_length, slot_count, header_line_of, word}
use Rattle.pb_layout.specs.Record.{count_line_of, kept_in_slots, IsRecord}
use Rattle.pb_layout.specs.Recovered.{listed, Represents}
use Rattle.pb_layout.specs.Region.{record_place}
use Rattle.pb_layout.specs.RegionOps.{format_ops}
use Rattle.pb_layout.specs.Represents.{header_for, record_in_use, record_of_side, object_part, AreApart, CellsRepresent, AreRecords}
use Rattle.pb_layout.specs.Shape.{IsHeader}
use Rattle.pb_layout.proofs.Checks.{named_after}
use Rattle.pb_layout.proofs.OneRecovery.{length-listed, get_or-listed, from_parts}
use Rattle.pb_layout.proofs.Readers.{named_of_header}
use Rattle.pb_layout_laws.proofs.EmptyRegion.{own_record, no_kept}
use Rattle.pb_layout_laws.proofs.Formatting.{formatted_stands}
use Rattle.pb_pair.specs.declared.known.Known.TheVariants.{Sure}
use Rattle.pb_pair.specs.Format.{AreFirst, IsFormatted, IsFormatRefusal}
use Rattle.pb_pair.specs.Open.{IsOpened, IsReadFrom}
use Rattle.pb_pair.specs.Safe.{FormatCovers, FailedFormatCovers}
use Rattle.pb_pair.specs.View.{SideView, PairView, IsPair, round_of_side, lines_of}
use Rattle.pb_pair.proofs.Told.{if_some_mapped}
use Rattle.pb_engine.specs.Next.{KeepsBefore}
use Rattle.pb_engine.specs.Opening.{IsFreshEngine, IsAdopted, IsFreshRefusal}
use Rattle.pb_engine.specs.View.{AreInUse}
use Rattle.pb_engine.proofs.InUse.{written_in_use, opened_in_use}
use Rattle.pb_engine.proofs.Served.{state_from-none}
use Rattle.pb_engine.specs.Pairs.{is_sure, known_records}
use Rattle.pb_comb.specs.View.{standing_of, comb_view, IsComb}
use Rattle.pb_comb.proofs.Records.{one_side, parts_of_one, list_of_one, kept_is}
use Rattle.pb_object.specs.Map.{empty_register}
use Rattle.pb_pair.specs.declared.why.Why.{Why}
use Rattle.pb_pair.specs.declared.why.Why.TheVariants.{Memory, Device as DeviceWhy}
use Rattle.pb_pmem.specs.declared.device.DeviceFault.{DeviceFault}
use Rattle.pb_pair.proofs.Safe.{nothing_done}

-- Where the record in use has lines of a state

not_apart : (head : Header) (records : ℕ → List Line) → head.kind ≢ Queue → AreApart head records
not_apart head records not_queue queue = absurd (not_queue queue)

pub records_of : (pair : PairView) (state : State) → IsPair pair → pair.head.kind ≢ Queue → kind_of state ≡ pair.head.kind → size_of state ≡ pair.head.size → LinesRepresent (drop (1 + slot_count pair.head) (lines_of pair 0)) state → AreRecords (lines_of pair) (standing_of pair state)
records_of pair state sound not_queue kind size lines = record {
  valid = sound.valid;
  sides = sym one;
  own = own;
  kind = kind;
  size = size;
  state = subst (λ (ls : List Line). LinesRepresent ls state) (sym (parts_of_one pair.head.kind pair.head (lines_of pair) not_queue)) lines;
  clients = length-listed pair.head.clients (kept_in_slots (lines_of pair 0));
  apart = not_apart pair.head (lines_of pair) not_queue;
  kept = λ client inside. kept_is pair state client inside ∙ sym (list_of_one pair.head.kind (lines_of pair) client not_queue);
}
  where
    one : side_count pair.head.kind ≡ 1
    one = one_side pair.head.kind not_queue

    own : (side : ℕ) → side < side_count pair.head.kind → IsRecord pair.head side (rounds_of (standing_of pair state) side) (lines_of pair side)
    own zero below = (sound.sides 0 below).own
    own (suc side) below = absurd (omega (arith, below, one))

-- an engine without a request in doubt, whose copies of the object agree
pub resting : (kind : Kind) (pair : PairView) (state ahead : State) (next : List Line) → IsPair pair → pair.head.kind ≡ kind → kind ≢ Queue → AreRecords (lines_of pair) (standing_of pair state) → ahead ≡ state → length next ≡ record_length pair.head → (is_sure pair.known ≡ true → next ≡ lines_of pair 0) → pair.doubt ≡ None → IsComb kind pair state ahead next []
resting kind pair state ahead next sound kind_is not_queue records same long carried none = record {
  sound = sound;
  kind_is = kind_is;
  one_side = not_queue;
  records = records;
  ahead_by = same ∙ sym (state_from-none state);
  long = long;
  carried = carried;
  none = λ nothing. none;
  some = λ some. absurd (some refl);
}

-- A region that was just made

-- the lines of the first record: zeros, and then those of the fresh object
pub record AreFirstLines (head : Header) (state : State) (zeros lines : List Line) : Type 0 where
  pub valid : IsHeader head
  pub not_queue : head.kind ≢ Queue
  pub fresh : state ≡ start_state head.kind head.size
  pub zero : zeros ≡ replicate (record_length head) zero_line
  pub keeps : KeepsBefore (length zeros - object_line_count head.kind (size_of state)) zeros lines
  pub object : LinesRepresent (drop (length zeros - object_line_count head.kind (size_of state)) lines) state

start_size : (kind : Kind) (size : ℕ) → size_of (start_state kind size) ≡ size
start_size Map size = length-replicate size empty_register
start_size Stack size = refl
start_size Heap size = refl
start_size Queue size = refl

start_kind : (kind : Kind) (size : ℕ) → kind_of (start_state kind size) ≡ kind
start_kind Map size = refl
start_kind Stack size = refl
start_kind Heap size = refl
start_kind Queue size = refl

object_at : (head : Header) (state : State) (zeros lines : List Line) → AreFirstLines head state zeros lines → length zeros - object_line_count head.kind (size_of state) ≡ 1 + slot_count head
object_at head state zeros lines is =
    let size : size_of state ≡ head.size = ap size_of is.fresh ∙ start_size head.kind head.size in
    omega (arith, ap length is.zero, length-replicate (record_length head) zero_line, ap (object_line_count head.kind) size)

pub object_fits : (head : Header) (state : State) (zeros : List Line) → state ≡ start_state head.kind head.size → zeros ≡ replicate (record_length head) zero_line → object_line_count head.kind (size_of state) ≤ length zeros
object_fits head state zeros fresh none =
    let size : size_of state ≡ head.size = ap size_of fresh ∙ start_size head.kind head.size in
    omega (arith, ap length none, length-replicate (record_length head) zero_line, ap (object_line_count head.kind) size)

pub first_lines : (kind named : Kind) (clients size : ℕ) (state : State) (zeros lines : List Line) → named ≡ kind → kind ≢ Queue → IsHeader (record { kind = named; clients = clients; size = size }) → state ≡ start_state kind size → (let head : Header = record { kind = named; clients = clients; size = size } in zeros ≡ replicate (record_length head) zero_line)
    → KeepsBefore (length zeros - object_line_count kind (size_of state)) zeros lines → LinesRepresent (drop (length zeros - object_line_count kind (size_of state)) lines) state → AreFirstLines (record { kind = named; clients = clients; size = size }) state zeros lines
first_lines kind named clients size state zeros lines same not_queue valid fresh made keeps object = record {
  valid = valid;
  not_queue = λ queue. not_queue (sym same ∙ queue);
  fresh = fresh ∙ ap (λ (k : Kind). start_state k size) (sym same);
  zero = made;
  keeps = subst (λ (k : Kind). KeepsBefore (length zeros - object_line_count k (size_of state)) zeros lines) (sym same) keeps;
  object = subst (λ (k : Kind). LinesRepresent (drop (length zeros - object_line_count k (size_of state)) lines) state) (sym same) object;
}

pub empty_records : (head : Header) (state : State) (zeros lines : List Line) → AreFirstLines head state zeros lines → AreEmptyRecords head lines []
empty_records head state zeros lines is = record {
  first_record = record {
    long = is.keeps.long ∙ (ap length is.zero ∙ length-replicate (record_length head) zero_line);
    round = zero_at 0 (omega arith);
    slots = λ place inside. zero_at (1 + place) (omega (arith, inside));
  };
  second_record = λ more. absurd (omega (arith, more, one_side head.kind is.not_queue));
  no_second = λ one. refl;
  state = subst (λ (ls : List Line). LinesRepresent ls (start_state head.kind head.size)) (sym (parts_of_one head.kind head (first_records lines []) is.not_queue))
      (subst (LinesRepresent (drop (1 + slot_count head) lines)) is.fresh (subst (λ (n : ℕ). LinesRepresent (drop n lines) state) at is.object));
}
  where
    at : length zeros - object_line_count head.kind (size_of state) ≡ 1 + slot_count head
    at = object_at head state zeros lines is

    zero_at : (line : ℕ) → line < 1 + slot_count head → line_at lines line ≡ zero_line
    zero_at line below =
        is.keeps.same line (omega (arith, below, at)) ∙ (ap (λ (ls : List Line). line_at ls line) is.zero ∙ get_or-replicate (record_length head) line zero_line zero_line (omega (arith, below)))

pub are_first : (head : Header) (state : State) (zeros lines : List Line) → AreFirstLines head state zeros lines → AreFirst head lines []
are_first head state zeros lines is =
    let empty = (empty_records head state zeros lines is).first_record in
    record {
      valid = is.valid;
      long = empty.long;
      own = own_record head 0 lines empty;
      second_long = λ more. absurd (omega (arith, more, one_side head.kind is.not_queue));
      second_own = λ more. absurd (omega (arith, more, one_side head.kind is.not_queue));
      no_second = λ one. refl;
    }

lines_along : (head other : Header) (lines more : List Line) (state : State) → head ≡ other → lines ≡ more → LinesRepresent (drop (1 + slot_count head) lines) state → LinesRepresent (drop (1 + slot_count other) more) state
lines_along head other lines more state heads same are =
    subst (λ (h : Header). LinesRepresent (drop (1 + slot_count h) more) state) heads (subst (λ (ls : List Line). LinesRepresent (drop (1 + slot_count head) ls) state) same are)

pub fresh_records : (head : Header) (pair : PairView) (state : State) (zeros lines : List Line) (old : Device) → AreFirstLines head state zeros lines → IsFormatted head lines [] old pair → AreRecords (lines_of pair) (standing_of pair state)
fresh_records head pair state zeros lines old is formatted =
    records_of pair state formatted.sound (λ queue. is.not_queue (ap (λ (h : Header). h.kind) (sym formatted.head) ∙ queue)) (ap kind_of is.fresh ∙ (start_kind head.kind head.size ∙ ap (λ (h : Header). h.kind) (sym formatted.head))) (ap size_of is.fresh ∙ (start_size head.kind head.size ∙ ap (λ (h : Header). h.size) (sym formatted.head)))
    (lines_along head pair.head lines (lines_of pair 0) state (sym formatted.head) (sym (ap (λ (part : SideView). part.lines) formatted.first_side)) (subst (λ (n : ℕ). LinesRepresent (drop n lines) state) (object_at head state zeros lines is) is.object))

pub fresh_standing : (head : Header) (pair : PairView) (state : State) (zeros lines : List Line) (old : Device) → AreFirstLines head state zeros lines → IsFormatted head lines [] old pair → standing_of pair state ≡ empty_for head
fresh_standing head pair state zeros lines old is formatted =
    λ i. record { kind = (formatted.head i).kind; clients = (formatted.head i).clients; size = (formatted.head i).size; rounds = rounds i; state = is.fresh i; kept = kept i }
  where
    rounds : round_of_side pair 0 ∷ [] ≡ replicate (side_count head.kind) 0
    rounds = ap (λ (part : SideView). part.round ∷ []) formatted.first_side ∙ ap (λ (n : ℕ). replicate n 0) (sym (one_side head.kind is.not_queue))

    kept : listed pair.head.clients (kept_in_slots (lines_of pair 0)) ≡ replicate {A = List Kept} head.clients []
    kept =
        ext_get_or [] (listed pair.head.clients (kept_in_slots (lines_of pair 0))) (replicate {A = List Kept} head.clients [])
        (length-listed pair.head.clients (kept_in_slots (lines_of pair 0)) ∙ (ap (λ (h : Header). h.clients) formatted.head ∙ sym (length-replicate {A = List Kept} head.clients [])))
        (λ client inside.
        let below : client < pair.head.clients = omega (arith, inside, length-listed pair.head.clients (kept_in_slots (lines_of pair 0))) in
        get_or-listed pair.head.clients (kept_in_slots (lines_of pair 0)) client [] below
        ∙ (ap (λ (part : SideView). kept_in_slots part.lines client) formatted.first_side
        ∙ (no_kept head lines client (empty_records head state zeros lines is).first_record (omega (arith, below, ap (λ (h : Header). h.clients) formatted.head)) ∙ sym (get_or-replicate {A = List Kept} head.clients client [] [] (omega (arith, below, ap (λ (h : Header). h.clients) formatted.head))))))

pub fresh_is : (head : Header) (pair : PairView) (state : State) (zeros lines : List Line) (old : Device) → AreFirstLines head state zeros lines → IsFormatted head lines [] old pair → FormatCovers head lines [] old pair.device → IsWhole old → IsFreshEngine head old (comb_view pair state [])
fresh_is head pair state zeros lines old is formatted safely whole = record {
  standing = fresh_standing head pair state zeros lines old is formatted;
  doubt = refl;
  sure = ap is_sure formatted.known;
  first_lines = lines;
  second_lines = [];
  empty = empty;
  first = ap known_records formatted.first_side;
  second = ap known_records formatted.second_side;
  device = formatted.device;
  no_region = formatted.no_region;
  holds = if_some_mapped (λ (ls : List Line). length ls ≡ LINES) (λ (ls : List Line). ¬ HasRegion ls) (λ (ls : List Line). Represents ls (empty_for head)) (after (format_ops head lines [])) old.now pair.device.now formatted.device.now whole formatted.no_region
      (λ ls long bare. formatted_stands head lines ls is.valid empty long bare);
  in_use = in_use;
  covers = λ tale told ready. safely empty tale told ready;
}
  where
    in_use : AreInUse (comb_view pair state [])
    in_use zero below = written_in_use pair 0 formatted.sound below (ap (λ (part : SideView). part.written) formatted.first_side)
    in_use (suc other) below =
        absurd (omega (arith, below, ap (λ (h : Header). side_count h.kind) formatted.head, one_side head.kind is.not_queue))

    empty : AreEmptyRecords head lines []
    empty = empty_records head state zeros lines is

-- one that wasn't made
pub fresh_refusal : (head : Header) (state : State) (zeros lines : List Line) (old new : Device) (why : Why) → AreFirstLines head state zeros lines → IsFormatRefusal head lines [] old new why → FailedFormatCovers head lines [] old new → IsFreshRefusal head old new why
fresh_refusal head state zeros lines old new why is refusal safely = record {
  first_lines = lines;
  second_lines = [];
  empty = λ fault is_device. empty_records head state zeros lines is;
  refusal = refusal;
  covers = λ tale told ready. safely (empty_records head state zeros lines is) tale told ready;
}

memory_is_none : (fault : DeviceFault) → Memory ≡ DeviceWhy fault → ⊥
memory_is_none fault is = cc (is)

pub no_memory : (head : Header) (device : Device) → IsWhole device → IsReplay device → IsFreshRefusal head device device Memory
no_memory head device whole replay = record {
  first_lines = [];
  second_lines = [];
  empty = λ fault is_device. absurd (memory_is_none fault is_device);
  refusal = refl;
  covers = λ tale told ready. inl (nothing_done head device device tale whole replay told refl ready);
}

-- A region that was opened

records_along : (f g : ℕ → List Line) (s : Standing) → s.kind ≢ Queue → f 0 ≡ g 0 → AreRecords f s → AreRecords g s
records_along f g s not_queue same are = record {
  valid = are.valid;
  sides = are.sides;
  own = own;
  kind = are.kind;
  size = are.size;
  state = subst (λ (ls : List Line). LinesRepresent ls s.state) (parts_of_one s.kind (header_for s) f not_queue ∙ (ap (object_part (header_for s)) same ∙ sym (parts_of_one s.kind (header_for s) g not_queue))) are.state;
  clients = are.clients;
  apart = not_apart (header_for s) g not_queue;
  kept = λ client inside. are.kept client inside ∙ (list_of_one s.kind f client not_queue ∙ (ap (λ (ls : List Line). kept_in_slots ls client) same ∙ sym (list_of_one s.kind g client not_queue)));
}
  where
    own : (side : ℕ) → side < side_count s.kind → IsRecord (header_for s) side (rounds_of s side) (g side)
    own zero below = subst (IsRecord (header_for s) 0 (rounds_of s 0)) same (are.own 0 below)
    own (suc side) below = absurd (omega (arith, below, one_side s.kind not_queue))

no_cells_in : (image : List Line) (head : Header) (state : State) → kind_of state ≢ Queue → CellsRepresent image head state
no_cells_in image head (Registers registers) not_queue = tt
no_cells_in image head (Items size items) not_queue = tt
no_cells_in image head (Rising size items) not_queue = tt
no_cells_in image head (Waits size queue) not_queue = absurd (not_queue refl)

pub adopted_stands : (pair : PairView) (state : State) (image : List Line) → pair.head.kind ≢ Queue → length image ≡ LINES → IsReadFrom pair image → AreRecords (lines_of pair) (standing_of pair state) → Represents image (standing_of pair state)
adopted_stands pair state image not_queue whole read are = from_parts image s whole (record {
  valid = in_image.valid;
  header = (named_of_header (line_at image 0) read.passes.0).1 ∙ ap header_line_of (sym read.head);
  sides = in_image.sides;
  rounds = rounds;
  records = in_image.own;
  kind = in_image.kind;
  size = in_image.size;
  state = in_image.state;
  cells = no_cells_in image (header_for s) state (λ queue. not_queue (sym are.kind ∙ queue));
  clients = in_image.clients;
  apart = in_image.apart;
  kept = in_image.kept;
})
  where
    s : Standing
    s = standing_of pair state

    one : side_count pair.head.kind ≡ 1
    one = one_side pair.head.kind not_queue

    round : round_of_side pair 0 ≡ round_in image 0
    round = read.rounds 0 (omega (arith, one))

    in_image : AreRecords (record_of_side image s) s
    in_image = records_along (lines_of pair) (record_of_side image s) s not_queue (read.records 0 (omega (arith, one)) ∙ (λ i. record_in_use image (sym read.head i) 0 (sym round i))) are

    rounds : (side : ℕ) → side < 2 → line_at image (1 + side) ≡ count_line_of (rounds_of s side)
    rounds zero below = read.passes.1.0.count ∙ ap count_line_of (sym round)
    rounds (suc zero) below = read.passes.1.1.0.count ∙ ap count_line_of (read.passes.1.1.0.no_side (omega (arith, one, ap (λ (h : Header). side_count h.kind) read.head)))
    rounds (suc (suc side)) below = absurd (omega arith)

-- no other kind's lines stand beside
parts_read : (pair : PairView) (image : List Line) → pair.head.kind ≢ Queue → IsReadFrom pair image → object_lines_in image ≡ drop (1 + slot_count pair.head) (lines_of pair 0)
parts_read pair image not_queue read =
    parts_of_one (header_in image).kind (header_in image) (record_in image) (λ queue. not_queue (ap (λ (h : Header). h.kind) read.head ∙ queue))
    ∙ (λ i. drop (1 + slot_count (sym read.head i)) (sym (read.records 0 (omega (arith, one_side pair.head.kind not_queue))) i))

object_place : (kind : Kind) (image : List Line) (place : ℕ) → kind ≢ Queue → object_place_by kind image place ≡ record_place (header_in image) 0 (round_in image 0 % 2) + 1 + slot_count (header_in image) + place
object_place Map image place not_queue = refl
object_place Stack image place not_queue = refl
object_place Heap image place not_queue = refl
object_place Queue image place not_queue = absurd (not_queue refl)

-- the line of the region where the object's first refused line stands
pub damaged_at : (pair : PairView) (image : List Line) (place : ℕ) → pair.head.kind ≢ Queue → IsReadFrom pair image → IsFirstRefused pair.head.kind pair.head.size (drop (1 + slot_count pair.head) (lines_of pair 0)) place → IsDamagedAt image (record_place pair.head 0 (round_of_side pair 0 % 2) + 1 + slot_count pair.head + place)
damaged_at pair image place not_queue read refused = record {
  region = ap (λ (l : Line). word l 0) (named_of_header (line_at image 0) read.passes.0).1;
  first = named_after (opening_checks image) (state_checks image) line read.passes (inl (place, at, refused_there));
}
  where
    line : ℕ
    line = record_place pair.head 0 (round_of_side pair 0 % 2) + 1 + slot_count pair.head + place

    round : round_of_side pair 0 ≡ round_in image 0
    round = read.rounds 0 (omega (arith, one_side pair.head.kind not_queue))

    at : line ≡ object_place_by (header_in image).kind image place
    at = (λ i. record_place (read.head i) 0 (round i % 2) + 1 + slot_count (read.head i) + place) ∙ sym (object_place (header_in image).kind image place (λ queue. not_queue (ap (λ (h : Header). h.kind) read.head ∙ queue)))

    refused_there : IsFirstRefused (header_in image).kind (header_in image).size (object_lines_in image) place
    refused_there =
        subst (λ (ls : List Line). IsFirstRefused (header_in image).kind (header_in image).size ls place) (sym (parts_read pair image not_queue read))
        (subst (λ (h : Header). IsFirstRefused h.kind h.size (drop (1 + slot_count pair.head) (lines_of pair 0)) place) read.head refused)

told_stands : (now : Option (List Line)) (pair : PairView) (s : Standing) → IfSome now (λ lines. length lines ≡ LINES) → IfSome now (IsReadFrom pair) → ((image : List Line) → length image ≡ LINES → IsReadFrom pair image → Represents image s) → IfSome now (λ lines. Represents lines s)
told_stands None pair s whole read shown = tt
told_stands (Some image) pair s whole read shown = shown image whole read

pub adopted_is : (pair : PairView) (state : State) → pair.head.kind ≢ Queue → IsOpened pair.device pair → AreRecords (lines_of pair) (standing_of pair state) → IsAdopted pair.device (comb_view pair state [])
adopted_is pair state not_queue opened are = record {
  same = refl;
  stands = told_stands pair.device.now pair (standing_of pair state) opened.whole opened.read (λ image whole read. adopted_stands pair state image not_queue whole read are);
  in_use = in_use;
  doubt = refl;
  sure = ap is_sure opened.known;
  first = ap known_records (opened.sound.unsure_first unsure);
  second = ap known_records (opened.sound.unsure_second unsure);
}
  where
    unsure : pair.known ≢ Sure
    unsure sure = cc (opened.known, sure)

    in_use : AreInUse (comb_view pair state [])
    in_use zero below = opened_in_use pair 0 opened below
    in_use (suc other) below = absurd (omega (arith, below, one_side pair.head.kind not_queue))

pub damaged_told : (pair : PairView) (place : ℕ) → pair.head.kind ≢ Queue → IsOpened pair.device pair → IsFirstRefused pair.head.kind pair.head.size (drop (1 + slot_count pair.head) (lines_of pair 0)) place → IfSome pair.device.now (λ image. IsDamagedAt image (record_place pair.head 0 (round_of_side pair 0 % 2) + 1 + slot_count pair.head + place))
damaged_told pair place not_queue opened refused = go pair.device.now opened.read
  where
    go : (now : Option (List Line)) → IfSome now (IsReadFrom pair) → IfSome now (λ image. IsDamagedAt image (record_place pair.head 0 (round_of_side pair 0 % 2) + 1 + slot_count pair.head + place))
    go None read = tt
    go (Some image) read = damaged_at pair image place not_queue read refused

-- Taking the object's lines of a pair in hand

pub record TakesLines (kind : Kind) (pair : PairView) (fresh : State) (head : Header) (lines part : List Line) : Type 0 where
  pub sound : IsPair pair
  pub kind_is : pair.head.kind ≡ kind
  pub not_queue : kind ≢ Queue
  pub head_is : head ≡ pair.head
  pub fresh_is : fresh ≡ start_state kind head.size
  pub lines_are : lines ≡ lines_of pair 0
  pub part_is : part ≡ drop (1 + slot_count head) lines

part_of : (kind : Kind) (pair : PairView) (fresh : State) (head : Header) (lines part : List Line) → TakesLines kind pair fresh head lines part → part ≡ drop (1 + slot_count pair.head) (lines_of pair 0)
part_of kind pair fresh head lines part takes =
    takes.part_is ∙ (λ i. drop (1 + slot_count (takes.head_is i)) (takes.lines_are i))

fresh_size : (kind : Kind) (pair : PairView) (fresh : State) (head : Header) (lines part : List Line) → TakesLines kind pair fresh head lines part → size_of fresh ≡ pair.head.size
fresh_size kind pair fresh head lines part takes =
    ap size_of takes.fresh_is ∙ (start_size kind head.size ∙ ap (λ (h : Header). h.size) takes.head_is)

pub taken_length : (kind : Kind) (pair : PairView) (fresh : State) (head : Header) (lines part : List Line) → TakesLines kind pair fresh head lines part → length part ≡ object_line_count kind (size_of fresh)
taken_length kind pair fresh head lines part takes =
    let long = (takes.sound.sides 0 (omega (arith, one_side kind takes.not_queue, ap side_count takes.kind_is))).long in
    let count : length (drop (1 + slot_count pair.head) (lines_of pair 0)) ≡ object_line_count pair.head.kind pair.head.size = omega (arith, length-drop (1 + slot_count pair.head) (lines_of pair 0), long) in
    ap length (part_of kind pair fresh head lines part takes) ∙ (count ∙ (λ i. object_line_count (takes.kind_is i) (sym (fresh_size kind pair fresh head lines part takes) i)))

pub taken_records : (kind : Kind) (pair : PairView) (fresh state : State) (head : Header) (lines part : List Line) → TakesLines kind pair fresh head lines part → kind_of state ≡ kind → size_of state ≡ size_of fresh → LinesRepresent part state → AreRecords (lines_of pair) (standing_of pair state)
taken_records kind pair fresh state head lines part takes of_kind size taken =
    records_of pair state takes.sound (λ queue. takes.not_queue (sym takes.kind_is ∙ queue)) (of_kind ∙ sym takes.kind_is) (size ∙ fresh_size kind pair fresh head lines part takes)
    (subst (λ (ls : List Line). LinesRepresent ls state) (part_of kind pair fresh head lines part takes) taken)

pub next_length : (pair : PairView) (head : Header) (next : List Line) → head ≡ pair.head → next ≡ replicate (record_length head) zero_line → length next ≡ record_length pair.head
next_length pair head next same made = ap length made ∙ (length-replicate (record_length head) zero_line ∙ ap record_length same)

pub long_first : (head : Header) (state : State) (zeros lines : List Line) (pair : PairView) (old : Device) → AreFirstLines head state zeros lines → IsFormatted head lines [] old pair → length lines ≡ record_length pair.head
long_first head state zeros lines pair old is formatted =
    (empty_records head state zeros lines is).first_record.long ∙ ap record_length (sym formatted.head)

refused_in : (kind : Kind) (pair : PairView) (fresh : State) (head : Header) (lines part : List Line) (place : ℕ) → TakesLines kind pair fresh head lines part → IsFirstRefused kind (size_of fresh) part place → IsFirstRefused pair.head.kind pair.head.size (drop (1 + slot_count pair.head) (lines_of pair 0)) place
refused_in kind pair fresh head lines part place takes refused =
    subst (λ (ls : List Line). IsFirstRefused pair.head.kind pair.head.size ls place) (part_of kind pair fresh head lines part takes)
    (subst (λ (k : Kind). IsFirstRefused k pair.head.size part place) (sym takes.kind_is) (subst (λ (n : ℕ). IsFirstRefused kind n part place) (fresh_size kind pair fresh head lines part takes) refused))

pub refused_within : (kind : Kind) (pair : PairView) (fresh : State) (head : Header) (lines part : List Line) (place : ℕ) → TakesLines kind pair fresh head lines part → IsFirstRefused kind (size_of fresh) part place → place < object_line_count head.kind head.size
refused_within kind pair fresh head lines part place takes refused =
    let same : object_line_count kind (size_of fresh) ≡ object_line_count head.kind head.size = (λ i. object_line_count (sym takes.kind_is i) (fresh_size kind pair fresh head lines part takes i)) ∙ ap (λ (h : Header). object_line_count h.kind h.size) (sym takes.head_is) in
    omega (arith, refused.within, taken_length kind pair fresh head lines part takes, same)

pub refused_told : (kind : Kind) (pair : PairView) (fresh : State) (head : Header) (lines part : List Line) (place round line : ℕ) → TakesLines kind pair fresh head lines part → IsOpened pair.device pair → IsFirstRefused kind (size_of fresh) part place → round ≡ round_of_side pair 0 → line ≡ record_place head 0 (round % 2) + 1 + slot_count head + place → IfSome pair.device.now (λ image. IsDamagedAt image line)
refused_told kind pair fresh head lines part place round line takes opened refused rounds at =
    let here : line ≡ record_place pair.head 0 (round_of_side pair 0 % 2) + 1 + slot_count pair.head + place = at ∙ (λ i. record_place (takes.head_is i) 0 (rounds i % 2) + 1 + slot_count (takes.head_is i) + place) in
    subst (λ (n : ℕ). IfSome pair.device.now (λ image. IsDamagedAt image n)) (sym here)
    (damaged_told pair place (λ queue. takes.not_queue (sym takes.kind_is ∙ queue)) opened (refused_in kind pair fresh head lines part place takes refused))
