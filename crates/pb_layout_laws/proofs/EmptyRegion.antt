-- A fresh region with its magic represents the empty object.
use Rattle.std.proofs.Common.{◌≡◌, ◌≢◌, ℕ, zero, suc, ◌+◌, ◌*◌, ◌<◌, List, [], replicate, take, drop, slice_index, ap, subst, sym, refl, ◌∙◌, inl, inr, arith}
use Rattle.std.proofs.lemmas.Bool.{cases_lt}
use Rattle.std.proofs.lemmas.List.{length-replicate, get_or-replicate, get_or_past}
use Rattle.pb_pmem.specs.declared.line.Line.{Line}
use Rattle.pb_pmem.specs.declared.line.TheConstants.{LINES}
use Rattle.pb_pmem.specs.Lines.{line_at}
use Rattle.pb_pmem.specs.Past.{Words}
use Rattle.pb_object.specs.declared.kind.Kind.{Kind}
use Rattle.pb_object.specs.declared.kind.Kind.TheVariants.{Map, Stack, Heap, Queue}
use Rattle.pb_object.specs.declared.request.Kept.{Kept}
use Rattle.pb_object.specs.Map.{empty_register}
use Rattle.pb_object.specs.Object.{start_state}
use Rattle.pb_object.specs.ObjectLines.{kind_of, size_of}
use Rattle.pb_object.specs.declared.request.TheConstants.{KEPT_REQUESTS}
use Rattle.pb_object.specs.Standing.{side_count, rounds_of}
use Rattle.pb_layout.specs.ClientLine.{kept_in, IsKept}
use Rattle.pb_layout.specs.Shape.{IsHeader}
use Rattle.pb_layout.specs.Header.{record_length, header_line_of, word}
use Rattle.pb_layout.specs.Record.{count_line_of, kept_in_slots, IsRecord}
use Rattle.pb_layout.specs.Region.{record_place}
use Rattle.pb_layout.specs.Represents.{record_in_use, record_of_side, newest_of_two, kept_list_by, AreApart, CellsRepresent}
use Rattle.pb_layout.specs.Recovered.{Represents}
use Rattle.pb_layout.specs.declared.header.Header.{Header}
use Rattle.pb_object.proofs.Sides.{few_sides}
use Rattle.pb_layout.proofs.Records.{piece_is}
use Rattle.pb_layout.proofs.ChangedRegion.{represents_from_records}
use Rattle.pb_layout.specs.Exits.{IsEmptyRecord, AreEmptyRecords, records_of, empty_for}
use Rattle.pb_layout_laws.proofs.Images.{image_of, line_in, line_in-is, line_at-image_of, length-image_of}
use Rattle.pb_layout_laws.proofs.WrittenRegion.{HasWritten, IsFreshLine, Formed}
use Rattle.pb_layout.proofs.OneRecovery.{from_parts, record_fits}
use Rattle.pb_layout.proofs.SlotLemmas.{kept_from-empty, slots_fall}
use Rattle.pb_layout_laws.proofs.WritingRegion.{IsWrittenIn}

-- The empty standing

-- there was no round
pub no_rounds : (head : Header) (side : ℕ) → rounds_of (empty_for head) side ≡ 0
no_rounds head side =
    elim (cases_lt side (side_count head.kind)) [
      | inl here ↦ get_or-replicate (side_count head.kind) side 0 0 here
      | inr past ↦ get_or_past (replicate (side_count head.kind) 0) side 0 (omega (arith, length-replicate {A = ℕ} (side_count head.kind) 0, past))
    ]

start_kind : (kind : Kind) (size : ℕ) → kind_of (start_state kind size) ≡ kind
start_kind Map size = refl
start_kind Stack size = refl
start_kind Heap size = refl
start_kind Queue size = refl

start_size : (kind : Kind) (size : ℕ) → size_of (start_state kind size) ≡ size
start_size Map size = length-replicate size empty_register
start_size Stack size = refl
start_size Heap size = refl
start_size Queue size = refl

start_cells : (kind : Kind) (size : ℕ) (image : List Line) (head : Header) → CellsRepresent image head (start_state kind size)
start_cells Map size image head = tt
start_cells Stack size image head = tt
start_cells Heap size image head = tt
start_cells Queue size image head = λ place inside. absurd (omega (arith, inside))

-- The empty records

empty_record : (head : Header) (first second : List Line) → AreEmptyRecords head first second → (side : ℕ) → side < side_count head.kind → IsEmptyRecord head (records_of first second side)
empty_record head first second empty zero here = empty.first_record
empty_record head first second empty (suc zero) here = empty.second_record here
empty_record head first second empty (suc (suc side)) here = absurd (omega (arith, here, few_sides head.kind))

pub own_record : (head : Header) (side : ℕ) (lines : List Line) → IsEmptyRecord head lines → IsRecord head side 0 lines
own_record head side lines empty = record {
  carries = empty.round;
  slots = λ place inside. record {
    allowed = subst (λ (l : Line). IsKept head.kind side (kept_in l)) (sym (empty.slots place inside)) (inl refl);
    falls = λ other some. absurd (some (ap (λ (l : Line). word l 0) (empty.slots place inside)));
  };
  rounds = omega arith;
}

-- no request is kept in empty slots
pub no_kept : (head : Header) (lines : List Line) (client : ℕ) → IsEmptyRecord head lines → client < head.clients → kept_in_slots lines client ≡ []
no_kept head lines client empty inside =
    kept_from-empty lines (1 + KEPT_REQUESTS * client) KEPT_REQUESTS (slots_fall head 0 lines client (own_record head 0 lines empty).slots inside) first
  where
    at : 1 + KEPT_REQUESTS * client ≡ 1 + (KEPT_REQUESTS * client + 0)
    at = omega arith

    first : word (line_at lines (1 + KEPT_REQUESTS * client)) 0 ≡ 0
    first =
        ap (λ (n : ℕ). word (line_at lines n) 0) at ∙ ap (λ (l : Line). word l 0) (empty.slots (KEPT_REQUESTS * client + 0) (omega (arith, inside)))

last_none : (kind : Kind) (records : ℕ → List Line) (client : ℕ) → ((side : ℕ) → side < side_count kind → kept_in_slots (records side) client ≡ []) → kept_list_by kind records client ≡ []
unfolding newest_of_two
last_none Map records client none = none 0 (omega arith)
last_none Stack records client none = none 0 (omega arith)
last_none Heap records client none = none 0 (omega arith)
last_none Queue records client none =
    let first = none 0 (omega arith) in
    let second = none 1 (omega arith) in
    λ i. newest_of_two KEPT_REQUESTS (first i) (second i)

-- The region

laid_line : (head : Header) (lines : List Line) (words : Words) (line : ℕ) → HasWritten head lines words → IsFreshLine head line → line ≢ 0 → line_in words line ≡ line_at lines line
laid_line head lines words line laid here other =
    line_in-is words line (line_at lines line) (λ word few. laid line word here (λ e. absurd (other e)))

header_line_is : (head : Header) (first second lines : List Line) (words : Words) → IsWrittenIn head first second lines → Formed head lines words → line_in words 0 ≡ header_line_of head
header_line_is head first second lines words is formed = line_in-is words 0 (header_line_of head) at
  where
    at : (word : ℕ) → word < 8 → words 0 word ≡ slice_index (header_line_of head).words word
    at zero few = formed.0
    at (suc word) few =
        formed.1 0 (suc word) (inl (omega arith)) (λ _. λ e. omega (arith, e)) ∙ is.header (suc word) (omega arith) few

-- a fresh region, as lines, represents the empty object
pub formed_stands : (head : Header) (first second lines : List Line) (count : ℕ) (words : Words) → IsHeader head → AreEmptyRecords head first second → IsWrittenIn head first second lines → count ≡ LINES → Formed head lines words → Represents (image_of count words) (empty_for head)
formed_stands head first second lines count words valid empty is long formed =
    from_parts image (empty_for head) (length-image_of count words ∙ long) (represents_from_records image (empty_for head) records (record {
      valid = valid;
      header = line_at-image_of count words 0 (omega (arith, long)) ∙ header_line_is head first second lines words is formed;
      sides = length-replicate {A = ℕ} (side_count head.kind) 0;
      rounds = rounds;
      in_use = in_use;
      own = λ side here. subst (λ (n : ℕ). IsRecord head side n (records side)) (sym (no_rounds head side)) (own_record head side (records side) (empty_record head first second empty side here));
      kind = start_kind head.kind head.size;
      size = start_size head.kind head.size;
      state = empty.state;
      cells = start_cells head.kind head.size image head;
      clients = length-replicate {A = List Kept} head.clients [];
      apart = apart;
      kept = λ client inside. get_or-replicate {A = List Kept} head.clients client [] [] inside ∙ sym (last_none head.kind records client (λ side here. no_kept head (records side) client (empty_record head first second empty side here) inside));
    }))
  where
    image : List Line
    image = image_of count words

    records : ℕ → List Line
    records = records_of first second

    rounds : (side : ℕ) → side < 2 → line_at image (1 + side) ≡ count_line_of (rounds_of (empty_for head) side)
    rounds zero low =
        line_at-image_of count words 1 (omega (arith, long)) ∙ (laid_line head lines words 1 formed.1 (inl (omega arith)) (λ e. omega (arith, e)) ∙ (is.first_round ∙ ap count_line_of (sym (no_rounds head 0))))
    rounds (suc zero) low =
        line_at-image_of count words 2 (omega (arith, long)) ∙ (laid_line head lines words 2 formed.1 (inl (omega arith)) (λ e. omega (arith, e)) ∙ (is.second_round ∙ ap count_line_of (sym (no_rounds head 1))))
    rounds (suc (suc side)) low = absurd (omega arith)

    laid_record : (side : ℕ) → side < side_count head.kind → (place : ℕ) → place < record_length head → line_in words (record_place head side 0 + place) ≡ line_at (records side) place
    laid_record zero here place inside =
        laid_line head lines words (record_place head 0 0 + place) formed.1 (inr (inl (omega arith, omega (arith, inside)))) (λ e. omega (arith, e)) ∙ is.first_lines place inside
    laid_record (suc zero) here place inside =
        laid_line head lines words (record_place head 1 0 + place) formed.1 (inr (inr (here, (omega arith, omega (arith, inside))))) (λ e. omega (arith, e)) ∙ is.second_lines here place inside
    laid_record (suc (suc side)) here place inside = absurd (omega (arith, here, few_sides head.kind))

    in_use : (side : ℕ) → side < side_count head.kind → record_of_side image (empty_for head) side ≡ records side
    in_use side here =
        let long_record = (empty_record head first second empty side here).long in
        let fits = record_fits head side 0 valid here (omega arith) in
        ap (λ (n : ℕ). record_in_use image head side n) (no_rounds head side) ∙ (ap (λ (n : ℕ). take n (drop (record_place head side 0) image)) (sym long_record) ∙ piece_is image (records side) (record_place head side 0) (omega (arith, long_record, fits, length-image_of count words, long)) (λ place inside. line_at-image_of count words (record_place head side 0 + place) (omega (arith, inside, long_record, fits, long)) ∙ laid_record side here place (omega (arith, inside, long_record))))

    apart : AreApart head records
    apart queue place inside some =
        absurd (some (ap (λ (l : Line). word l 0) ((empty_record head first second empty 1 (omega (arith, ap side_count queue))).slots place inside)))
