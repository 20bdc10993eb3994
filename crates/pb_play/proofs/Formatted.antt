-- The world over a device of zeros that was just formatted.
use Rattle.std.proofs.Common.{◌≡◌, ℕ, zero, suc, ◌+◌, ◌*◌, ◌/◌, ◌%◌, ◌<◌, ◌≤◌, Bool, true, false, List, [], ◌∷◌, ◌++◌, set, replicate, slice_index, ap, subst, sym, refl, ◌∙◌, inl, inr, arith}
use Rattle.std.specs.Prelude.{◌==◌, if◌then◌else◌}
use Rattle.std.proofs.lemmas.Bool.{cases_lt}
use Rattle.std.proofs.lemmas.List.{append_assoc, length-replicate, get_or-replicate, drop-replicate, set-get_or}
use Rattle.pb_pmem.specs.declared.line.Line.{Line}
use Rattle.pb_pmem.specs.declared.line.TheConstants.{LINES}
use Rattle.pb_pmem.specs.declared.log.LogOp.{LogOp}
use Rattle.pb_pmem.specs.declared.log.LogOp.TheVariants.{Whole, Back, Fence}
use Rattle.pb_pmem.specs.Contents.{contents}
use Rattle.pb_pmem.specs.Lines.{line_at, word_of, zero_line, with_word}
use Rattle.pb_pmem.specs.Operations.{writes_from}
use Rattle.pb_pmem.proofs.Lines.{same_line, contents-none, contents-first, contents-append}
use Rattle.pb_pmem.proofs.WrittenLines.{writes_from-none, writes_from-more}
use Rattle.pb_object.specs.declared.kind.Kind.{Kind}
use Rattle.pb_object.specs.declared.kind.Kind.TheVariants.{Map, Stack, Heap, Queue}
use Rattle.pb_object.specs.declared.request.Kept.{Kept}
use Rattle.pb_object.specs.ItemLines.{HasOneWord, item_in}
use Rattle.pb_object.specs.Map.{empty_register}
use Rattle.pb_object.specs.MapLines.{register_in, IsRegisterAt}
use Rattle.pb_object.specs.Object.{start_state}
use Rattle.pb_object.specs.ObjectLines.{LinesRepresent, object_line_count}
use Rattle.pb_object.specs.Standing.{newest, kept_list_of, side_count, empty_standing}
use Rattle.pb_layout.specs.declared.header.Header.{Header}
use Rattle.pb_layout.specs.declared.header.TheConstants.{MAGIC}
use Rattle.pb_layout.specs.Exits.{IsEmptyRecord, AreEmptyRecords, empty_for}
use Rattle.pb_layout.specs.Header.{record_length, slot_count, header_line_of}
use Rattle.pb_layout.specs.Region.{record_place}
use Rattle.pb_layout.specs.RegionOps.{header_words, publish_ops, format_ops}
use Rattle.pb_layout.specs.Represents.{object_part}
use Rattle.pb_layout.specs.Shape.{IsHeader}
use Rattle.pb_layout_laws.proofs.WritingRegion.{with_header}
use Rattle.pb_core.specs.Client.{fresh_client, row_word}
use Rattle.pb_core.specs.Fresh as core
use Rattle.pb_core.specs.World.{NoCall}
use Rattle.pb_play.specs.declared.memory.Memory.{Memory as CodeMemory}
use Rattle.pb_round_play.specs.declared.seat.Seat.{Seat}
use Rattle.pb_play.specs.declared.world.World.{World as CodeWorld}
use Rattle.pb_play.specs.Device.{ShowsProgress}
use Rattle.pb_round_play.specs.Seats.{no_row, no_seat}
use Rattle.pb_play.specs.Seats.{formatted_memory}
use Rattle.pb_round_play.specs.Counts.{ShowsRounds}
use Rattle.pb_play.specs.Shown.{IsRowOf, ShowsSeat, ShowsMemory}
use Rattle.pb_play.specs.Worlds.{IsBegun}
use Rattle.pb_play.proofs.Founding.{seat_shown}

-- Lines of zeros

abbrev zeros : ℕ → List Line
zeros count = replicate count zero_line

abbrev AllZero : List Line → Type 0
AllZero lines = (line : ℕ) → line_at lines line ≡ zero_line

past_end : (count line : ℕ) → count ≤ line → line_at (zeros count) line ≡ zero_line
past_end zero line after = refl
past_end (suc count) zero after = absurd (omega arith)
past_end (suc count) (suc line) after = past_end count line (omega arith)

pub all_zero : (count line : ℕ) → line_at (zeros count) line ≡ zero_line
all_zero count line = elim (cases_lt line count) [
  | inl inside ↦ get_or-replicate count line zero_line zero_line inside
  | inr after ↦ past_end count line after
]

no_word : (word : ℕ) → slice_index zero_line.words word ≡ 0
no_word zero = refl
no_word (suc zero) = refl
no_word (suc (suc zero)) = refl
no_word (suc (suc (suc zero))) = refl
no_word (suc (suc (suc (suc zero)))) = refl
no_word (suc (suc (suc (suc (suc zero))))) = refl
no_word (suc (suc (suc (suc (suc (suc zero)))))) = refl
no_word (suc (suc (suc (suc (suc (suc (suc zero))))))) = refl
no_word (suc (suc (suc (suc (suc (suc (suc (suc word)))))))) = refl

zero_word : (count line word : ℕ) → word_of (zeros count) line word ≡ 0
zero_word count line word = ap (λ (l : Line). slice_index l.words word) (all_zero count line) ∙ no_word word

one_word : (line : Line) → line ≡ zero_line → HasOneWord line
one_word line none word some few = ap (λ (l : Line). slice_index l.words word) none ∙ no_word word

-- Such lines represent a fresh object

no_register : (count key : ℕ) → register_in (zeros count) key ≡ empty_register
no_register count key = λ i. record {
  value = zero_word count (key / 4) (2 * (key % 4)) i;
  version = zero_word count (key / 4) (2 * (key % 4) + 1) i;
}

is_register : (size count key : ℕ) → IsRegisterAt size key (register_in (zeros count) key)
is_register size count key = subst (IsRegisterAt size key) (sym (no_register count key)) (record {
  last = omega arith;
  unwritten = λ none. refl;
  unused = λ after. refl;
})

fresh_map : (size : ℕ) → LinesRepresent (zeros ((size + 3) / 4)) (start_state Map size)
fresh_map size = record {
  count = length-replicate count zero_line ∙ ap (λ (n : ℕ). (n + 3) / 4) (sym (length-replicate size empty_register));
  allowed = λ line inside key at. subst (λ (n : ℕ). IsRegisterAt n key (register_in (zeros count) key)) (sym (length-replicate size empty_register)) (is_register size count key);
  hold = λ key inside. get_or-replicate size key empty_register empty_register (omega (arith, inside, length-replicate size empty_register)) ∙ sym (no_register count key);
}
  where
    count : ℕ
    count = (size + 3) / 4

no_item : (count place : ℕ) → item_in (zeros count) place ≡ 0
no_item count place = zero_word count (place / 8 + 1) (place % 8)

fresh_stack : (size : ℕ) → LinesRepresent (zeros ((size + 7) / 8 + 1)) (start_state Stack size)
fresh_stack size = record {
  count = length-replicate count zero_line;
  allowed = λ line inside. record {
    count = λ first. record { count = omega (arith, zero_word count 0 0); rest = one_word (line_at (zeros count) 0) (all_zero count 0) };
    places = λ place at. record { unused = λ after. no_item count place };
  };
  hold = record { count = sym (zero_word count 0 0); each = λ place inside. absurd (omega (arith, inside)) };
}
  where
    count : ℕ
    count = (size + 7) / 8 + 1

fresh_heap : (size : ℕ) → LinesRepresent (zeros ((size + 7) / 8 + 1)) (start_state Heap size)
fresh_heap size = record {
  count = length-replicate count zero_line;
  allowed = λ line inside. record {
    count = λ first. record { count = omega (arith, zero_word count 0 0); rest = one_word (line_at (zeros count) 0) (all_zero count 0) };
    places = λ place at. record {
      unused = λ after. no_item count place;
      ordered = λ some within. absurd (omega (arith, within, zero_word count 0 0));
    };
  };
  hold = ([], record { count = sym (zero_word count 0 0); each = λ place inside. absurd (omega (arith, inside)) }, refl);
}
  where
    count : ℕ
    count = (size + 7) / 8 + 1

fresh_queue : (size : ℕ) → LinesRepresent (zeros 2) (start_state Queue size)
fresh_queue size = record {
  count = refl;
  allowed = λ line inside. record {
    last = omega (arith, zero_word 2 line 0);
    rest = one_word (line_at (zeros 2) line) (all_zero 2 line);
    head = λ second. omega arith;
    waiting = λ second. omega arith;
  };
  hold = (refl, refl);
}

-- A record of zeros

empty_record : (head : Header) → IsEmptyRecord head (zeros (record_length head))
empty_record head = record {
  long = length-replicate (record_length head) zero_line;
  round = all_zero (record_length head) 0;
  slots = λ place inside. all_zero (record_length head) (1 + place);
}

-- the lines of the object in it
part_is : (head : Header) → object_part head (zeros (record_length head)) ≡ zeros (object_line_count head.kind head.size)
part_is head = drop-replicate (1 + slot_count head) (record_length head) zero_line ∙ ap zeros (omega arith)

-- the second record, which a queue alone has
abbrev second_zeros : Kind → ℕ → List Line
second_zeros Map count = []
second_zeros Stack count = []
second_zeros Heap count = []
second_zeros Queue count = zeros count

fresh_records : (kind : Kind) (clients size : ℕ) → (let head : Header = record { kind = kind; clients = clients; size = size } in AreEmptyRecords head (zeros (record_length head)) (second_zeros kind (record_length head)))
fresh_records Map clients size =
    let head : Header = record { kind = Map; clients = clients; size = size } in
    record {
      first_record = empty_record head;
      second_record = λ two. absurd (omega (arith, two));
      no_second = λ one. refl;
      state = subst (λ (ls : List Line). LinesRepresent ls (start_state Map size)) (sym (part_is head)) (fresh_map size);
    }
fresh_records Stack clients size =
    let head : Header = record { kind = Stack; clients = clients; size = size } in
    record {
      first_record = empty_record head;
      second_record = λ two. absurd (omega (arith, two));
      no_second = λ one. refl;
      state = subst (λ (ls : List Line). LinesRepresent ls (start_state Stack size)) (sym (part_is head)) (fresh_stack size);
    }
fresh_records Heap clients size =
    let head : Header = record { kind = Heap; clients = clients; size = size } in
    record {
      first_record = empty_record head;
      second_record = λ two. absurd (omega (arith, two));
      no_second = λ one. refl;
      state = subst (λ (ls : List Line). LinesRepresent ls (start_state Heap size)) (sym (part_is head)) (fresh_heap size);
    }
fresh_records Queue clients size =
    let head : Header = record { kind = Queue; clients = clients; size = size } in
    record {
      first_record = empty_record head;
      second_record = λ two. empty_record head;
      no_second = λ one. absurd (omega (arith, one));
      state = subst (λ (ls : List Line). LinesRepresent ls (start_state Queue size)) (λ i. sym (part_is head) i ++ sym (part_is head) i) (fresh_queue size);
    }

-- Formatting

-- writes of zeros over zeros change nothing
zeros_again : (lines : List Line) (first count : ℕ) → AllZero lines → contents lines (writes_from first (zeros count)) ≡ lines
zeros_again lines first zero none = ap (contents lines) (writes_from-none first) ∙ contents-none lines
zeros_again lines first (suc count) none =
    ap (contents lines) (writes_from-more first zero_line (zeros count))
    ∙ (contents-first lines (Whole first zero_line) (writes_from (suc first) (zeros count))
    ∙ (ap (λ (ls : List Line). contents ls (writes_from (suc first) (zeros count))) same
    ∙ zeros_again lines (suc first) count none))
  where
    same : set lines first zero_line ≡ lines
    same = ap (λ (l : Line). set lines first l) (sym (none first)) ∙ set-get_or lines first zero_line

second_again : (kind : Kind) (lines : List Line) (first count : ℕ) → AllZero lines → contents lines (writes_from first (second_zeros kind count)) ≡ lines
second_again Map lines first count none = zeros_again lines first 0 none
second_again Stack lines first count none = zeros_again lines first 0 none
second_again Heap lines first count none = zeros_again lines first 0 none
second_again Queue lines first count none = zeros_again lines first count none

-- what comes after the records
abbrev rest_ops : Header → Bool → List LogOp
rest_ops head two =
    (Whole 1 zero_line ∷ Whole 2 zero_line ∷ (header_words head ++ (Back 0 3 ∷ Back (record_place head 0 0) (record_length head) ∷ ((if two then Back (record_place head 1 0) (record_length head) ∷ [] else []) ++ Fence ∷ [])))) ++ publish_ops

on_three : (head : Header) (two : Bool) (lines : List Line) → contents (zero_line ∷ zero_line ∷ zero_line ∷ lines) (rest_ops head two) ≡ with_word (with_header zero_line head) 0 MAGIC ∷ zero_line ∷ zero_line ∷ lines
unfolding contents
on_three head true lines = refl
on_three head false lines = refl

header_is : (head : Header) → with_word (with_header zero_line head) 0 MAGIC ≡ header_line_of head
header_is head = same_line (with_word (with_header zero_line head) 0 MAGIC) (header_line_of head) refl

rest_in : (head : Header) (first second : List Line) → format_ops head first second ≡ writes_from (record_place head 0 0) first ++ (writes_from (record_place head 1 0) second ++ rest_ops head (side_count head.kind == 2))
rest_in head first second =
    let one = writes_from (record_place head 0 0) first in
    let two = writes_from (record_place head 1 0) second in
    append_assoc one (two ++ last) publish_ops ∙ ap (λ (l : List LogOp). one ++ l) (append_assoc two last publish_ops)
  where
    last : List LogOp
    last = Whole 1 zero_line ∷ Whole 2 zero_line ∷ (header_words head ++ (Back 0 3 ∷ Back (record_place head 0 0) (record_length head) ∷ ((if side_count head.kind == 2 then Back (record_place head 1 0) (record_length head) ∷ [] else []) ++ Fence ∷ [])))

-- the first of so many zeros, set
pub set_first : (count : ℕ) (lines : List Line) (line to : Line) → lines ≡ replicate (suc count) line → line ≡ zero_line → set lines 0 to ≡ to ∷ replicate count zero_line
set_first count lines line to all none = ap (λ (ls : List Line). set ls 0 to) all ∙ ap (λ (l : Line). to ∷ replicate count l) none

-- a device of zeros that was formatted holds the header, and zeros behind it
pub formatted_lines : (head : Header) (count : ℕ) → contents (zeros (suc (suc (suc count)))) (format_ops head (zeros (record_length head)) (second_zeros head.kind (record_length head))) ≡ header_line_of head ∷ zeros (suc (suc count))
formatted_lines head count =
    ap (contents all) (rest_in head first second)
    ∙ (contents-append all (writes_from (record_place head 0 0) first) (writes_from (record_place head 1 0) second ++ rest)
    ∙ (ap (λ (ls : List Line). contents ls (writes_from (record_place head 1 0) second ++ rest)) (zeros_again all (record_place head 0 0) (record_length head) (all_zero (suc (suc (suc count)))))
    ∙ (contents-append all (writes_from (record_place head 1 0) second) rest
    ∙ (ap (λ (ls : List Line). contents ls rest) (second_again head.kind all (record_place head 1 0) (record_length head) (all_zero (suc (suc (suc count)))))
    ∙ (on_three head (side_count head.kind == 2) (zeros count) ∙ ap (λ (l : Line). l ∷ zero_line ∷ zero_line ∷ zeros count) (header_is head))))))
  where
    all : List Line
    all = zeros (suc (suc (suc count)))

    first : List Line
    first = zeros (record_length head)

    second : List Line
    second = second_zeros head.kind (record_length head)

    rest : List LogOp
    rest = rest_ops head (side_count head.kind == 2)

-- The world

shows_fresh : (head : Header) → IsHeader head → ShowsMemory (formatted_memory head) (core.fresh_memory head)
shows_fresh head valid = record {
  head = refl;
  valid = valid;
  places = refl;
  clients = λ client there.
      subst (λ (seat : Seat). ShowsSeat (fresh_client (kept_list_of (empty_for head) client)) (λ place. 0) (λ number place. row_word (newest (kept_list_of (empty_for head) client)) place) seat)
      (sym (get_or-replicate 16 client no_seat no_seat (omega (arith, there, valid.few_clients))))
      (seat_shown (kept_list_of (empty_for head) client) no_row (none_kept client there));
  next = tt;
  turn = refl;
  noted = refl;
  count = refl;
  owner = refl;
  room = refl;
  work = refl;
  met = omega arith;
  engine = refl;
  ahead = refl;
  rounds = of_sides head.kind;
}
  where
    none_kept : (client : ℕ) → client < head.clients → IsRowOf (newest (kept_list_of (empty_for head) client)) no_row
    none_kept client there =
        let none : kept_list_of (empty_for head) client ≡ [] = get_or-replicate {A = List Kept} head.clients client [] [] there in
        record {
          number = ap (λ (kept : List Kept). (newest kept).number) none;
          reply = ap (λ (kept : List Kept). (newest kept).reply) none;
        }

    of_sides : (kind : Kind) → ShowsRounds (empty_standing kind head.clients head.size) (record { first = 0; second = 0 })
    of_sides Map = record { first = refl; second = refl }
    of_sides Stack = record { first = refl; second = refl }
    of_sides Heap = record { first = refl; second = refl }
    of_sides Queue = record { first = refl; second = refl }

-- memory, device and calls of a world in which nothing happened since
pub begins : (head : Header) (new : CodeWorld) → IsHeader head → new.head ≡ head → new.memory ≡ formatted_memory head → new.calls.going ≡ false
    → new.device.base.items ≡ header_line_of head ∷ zeros 2047 → new.device.log.items ≡ [] → new.device.lines.items ≡ header_line_of head ∷ zeros 2047 → IsBegun head new
begins head new valid head_is memory_is idle base log lines = record {
  world = record { memory = core.fresh_memory head; tale = record { base = formatted; log = [] }; progress = NoCall };
  fresh = record {
    valid = valid;
    zeros = zeros LINES;
    long = length-replicate LINES zero_line;
    all_zero = all_zero LINES;
    first = zeros (record_length head);
    second = second_zeros head.kind (record_length head);
    records = fresh_records head.kind head.clients head.size;
    is = refl;
  };
  shows = record {
    memory = subst (λ (p : CodeMemory). ShowsMemory p (core.fresh_memory head)) (sym memory_is) (shows_fresh head valid);
    device = record {
      progress_is = subst (λ (g : Bool). ShowsProgress g new.calls.plan.items new.calls.made NoCall) (sym idle) tt;
      base = whole ∙ sym base;
      log = sym log;
      lines = contents-none formatted ∙ (whole ∙ sym lines);
    };
    head = sym head_is;
  };
}
  where
    formatted : List Line
    formatted = contents (zeros LINES) (format_ops head (zeros (record_length head)) (second_zeros head.kind (record_length head)))

    whole : formatted ≡ header_line_of head ∷ zeros 2047
    whole = formatted_lines head 2045
