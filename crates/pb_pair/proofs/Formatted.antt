-- The pair of a device that was formatted.
use Rattle.std.proofs.Common.{◌≡◌, ℕ, zero, suc, ◌+◌, ◌<◌, ◌≤◌, Bool, true, false, List, [], ◌∷◌, ◌++◌, length, take, drop, append_assoc, Option, Some, None, IfSome, refl, sym, ap, subst, ◌∙◌, inl, inr, arith}
use Rattle.std.specs.List.{All}
use Rattle.std.specs.Prelude.{◌==◌, if◌then◌else◌}
use Rattle.std.proofs.lemmas.List.Elements.{All-nil, All-append, All-cons}
use Rattle.pb_pmem.specs.declared.line.Line.{Line}
use Rattle.pb_pmem.specs.declared.line.TheConstants.{LINES}
use Rattle.pb_pmem.specs.declared.log.LogOp.{LogOp}
use Rattle.pb_pmem.specs.declared.log.LogOp.TheVariants.{Whole, Word, Back, Fence, Sync}
use Rattle.pb_pmem.specs.Contents.{contents}
use Rattle.pb_pmem.specs.Device.{Device, Tale, IsWhole, IsReplay}
use Rattle.pb_pmem.specs.Lines.{line_at, zero_line}
use Rattle.pb_pmem.specs.Operations.{writes_from, Does}
use Rattle.pb_pmem.proofs.Lines.{contents-append, length-contents}
use Rattle.pb_pmem.proofs.WrittenLines.{line_at-writes_here}
use Rattle.pb_object.specs.Codes.{kind_code}
use Rattle.pb_object.specs.Standing.{side_count}
use Rattle.pb_layout.specs.declared.header.Header.{Header}
use Rattle.pb_layout.specs.declared.header.TheConstants.{MAGIC, VERSION}
use Rattle.pb_layout.specs.Shape.{IsHeader}
use Rattle.pb_layout.specs.Header.{record_length, old_record_length, old_first_record_line}
use Rattle.pb_layout.specs.Record.{IsRecord}
use Rattle.pb_layout.specs.Region.{record_place}
use Rattle.pb_layout.specs.RegionOps.{header_words, publish_ops, format_ops, front_ops, write_backs}
use Rattle.pb_layout.specs.Represents.{record_at, record_in_use}
use Rattle.pb_layout.specs.ToldExits.{contents_of}
use Rattle.pb_layout.proofs.OneRecovery.{record_fits}
use Rattle.pb_layout.proofs.Records.{piece_is}
use Rattle.pb_layout.proofs.SparseWrites.{writes-spare}
use Rattle.pb_layout.proofs.Untouched.{Spares, line_at-spared}
use Rattle.pb_layout_laws.proofs.Geometry.{record_after}
use Rattle.pb_layout_laws.proofs.WritingRegion.{one_or_two}
use Rattle.pb_pair.specs.declared.known.Known.TheVariants.{Sure}
use Rattle.pb_pair.specs.declared.side.Sides.{Sides}
use Rattle.pb_pair.specs.Format.{AreFirst, IsFormatted, MakesRegion, fresh_side}
use Rattle.pb_pair.specs.View.{PairView, at_side, round_of_side, lines_of, pair_view, IsSide, HoldsSide, HoldsRecords, IsPair}
use Rattle.pb_pair.proofs.Pairs.{now_before}
use Rattle.pb_pair.proofs.Told.{whole_contents, told_before}

-- what stands after the writes of the records
abbrev pub rest_ops : Header → List LogOp
rest_ops head = (front_ops head ++ write_backs head) ++ publish_ops

format_in : (head : Header) (first second : List Line) → format_ops head first second ≡ writes_from (record_place head 0 0) first ++ (writes_from (record_place head 1 0) second ++ rest_ops head)
format_in head first second =
    let one = writes_from (record_place head 0 0) first in
    let two = writes_from (record_place head 1 0) second in
    append_assoc one (two ++ (front_ops head ++ write_backs head)) publish_ops ∙ ap (λ (l : List LogOp). one ++ l) (append_assoc two (front_ops head ++ write_backs head) publish_ops)

words-spare : (at count : ℕ) (head : Header) → 3 ≤ at → All (Spares at count) (header_words head)
words-spare at count head after =
    let Out : LogOp → Type 0 = Spares at count in
    All-cons Out (Word 0 1 VERSION) (Word 0 2 (kind_code head.kind) ∷ Word 0 3 head.clients ∷ Word 0 4 head.size ∷ Word 0 5 (old_record_length head) ∷ Word 0 6 (old_first_record_line head) ∷ Word 0 7 0 ∷ []) (inl (omega arith))
    (All-cons Out (Word 0 2 (kind_code head.kind)) (Word 0 3 head.clients ∷ Word 0 4 head.size ∷ Word 0 5 (old_record_length head) ∷ Word 0 6 (old_first_record_line head) ∷ Word 0 7 0 ∷ []) (inl (omega arith))
    (All-cons Out (Word 0 3 head.clients) (Word 0 4 head.size ∷ Word 0 5 (old_record_length head) ∷ Word 0 6 (old_first_record_line head) ∷ Word 0 7 0 ∷ []) (inl (omega arith))
    (All-cons Out (Word 0 4 head.size) (Word 0 5 (old_record_length head) ∷ Word 0 6 (old_first_record_line head) ∷ Word 0 7 0 ∷ []) (inl (omega arith))
    (All-cons Out (Word 0 5 (old_record_length head)) (Word 0 6 (old_first_record_line head) ∷ Word 0 7 0 ∷ []) (inl (omega arith))
    (All-cons Out (Word 0 6 (old_first_record_line head)) (Word 0 7 0 ∷ []) (inl (omega arith))
    (All-cons Out (Word 0 7 0) [] (inl (omega arith)) (All-nil Out)))))))

backs-spare : (at count : ℕ) (head : Header) → All (Spares at count) (write_backs head)
backs-spare at count head =
    let Out : LogOp → Type 0 = Spares at count in
    All-cons Out (Back 0 3) (Back (record_place head 0 0) (record_length head) ∷ (second ++ Fence ∷ [])) tt
    (All-cons Out (Back (record_place head 0 0) (record_length head)) (second ++ Fence ∷ []) tt
    (All-append Out second (Fence ∷ []) (by (side_count head.kind == 2)) (All-cons Out Fence [] tt (All-nil Out))))
  where
    second : List LogOp
    second = if side_count head.kind == 2 then Back (record_place head 1 0) (record_length head) ∷ [] else []

    by : (two : Bool) → All (Spares at count) (if two then Back (record_place head 1 0) (record_length head) ∷ [] else [])
    by true = All-cons (Spares at count) (Back (record_place head 1 0) (record_length head)) [] tt (All-nil (Spares at count))
    by false = All-nil (Spares at count)

rest-spares : (at count : ℕ) (head : Header) → 3 ≤ at → All (Spares at count) (rest_ops head)
rest-spares at count head after =
    let Out : LogOp → Type 0 = Spares at count in
    All-append Out (front_ops head ++ write_backs head) publish_ops
    (All-append Out (front_ops head) (write_backs head)
    (All-cons Out (Whole 1 zero_line) (Whole 2 zero_line ∷ header_words head) (inl (omega arith)) (All-cons Out (Whole 2 zero_line) (header_words head) (inl (omega arith)) (words-spare at count head after)))
    (backs-spare at count head))
    (All-cons Out (Word 0 0 MAGIC) (Back 0 1 ∷ Sync ∷ []) (inl (omega arith)) (All-cons Out (Back 0 1) (Sync ∷ []) tt (All-cons Out Sync [] tt (All-nil Out))))

-- lines that were written as a block, and left alone since, are there
block_there : (image : List Line) (head : Header) (side : ℕ) (lines : List Line) (rest : List LogOp) → length image ≡ LINES → IsHeader head → side < side_count head.kind → length lines ≡ record_length head → All (Spares (record_place head side 0) (length lines)) rest → record_at (contents image (writes_from (record_place head side 0) lines ++ rest)) head side 0 ≡ lines
block_there image head side lines rest whole valid here long spares =
    ap (λ (n : ℕ). take n (drop first new)) (sym long) ∙ piece_is new lines first (omega (arith, fits, length-contents image (writes_from first lines ++ rest))) at
  where
    first : ℕ
    first = record_place head side 0

    new : List Line
    new = contents image (writes_from first lines ++ rest)

    fits : first + length lines ≤ length image
    fits = omega (arith, record_fits head side 0 valid here (omega arith))

    at : (place : ℕ) → place < length lines → line_at new (first + place) ≡ line_at lines place
    at place inside =
        ap (λ (l : List Line). line_at l (first + place)) (contents-append image (writes_from first lines) rest)
        ∙ (line_at-spared rest (contents image (writes_from first lines)) first (length lines) (first + place) (omega arith) (omega arith) spares
        ∙ line_at-writes_here image first lines place inside fits)

some_side : (head : Header) → 0 < side_count head.kind
some_side head = elim (one_or_two head.kind) [ inl one ↦ omega (arith, one) | inr two ↦ omega (arith, two) ]

-- the first side's record
first_there : (image : List Line) (head : Header) (first second : List Line) → length image ≡ LINES → AreFirst head first second → record_at (contents image (format_ops head first second)) head 0 0 ≡ first
first_there image head first second whole given =
    ap (λ (l : List LogOp). record_at (contents image l) head 0 0) (format_in head first second)
    ∙ block_there image head 0 first (writes_from (record_place head 1 0) second ++ rest_ops head) whole given.valid (some_side head) given.long
    (All-append (Spares (record_place head 0 0) (length first)) (writes_from (record_place head 1 0) second) (rest_ops head) (writes-spare (record_place head 0 0) (length first) (record_place head 1 0) second (inl apart)) (rest-spares (record_place head 0 0) (length first) head (record_after head 0 0)))
  where
    apart : record_place head 0 0 + length first ≤ record_place head 1 0
    apart = omega (arith, given.long)

-- and the second one's
second_there : (image : List Line) (head : Header) (first second : List Line) → length image ≡ LINES → AreFirst head first second → 1 < side_count head.kind → record_at (contents image (format_ops head first second)) head 1 0 ≡ second
second_there image head first second whole given two =
    ap (λ (l : List LogOp). record_at (contents image l) head 1 0) (format_in head first second)
    ∙ (ap (λ (l : List Line). record_at l head 1 0) (contents-append image (writes_from (record_place head 0 0) first) (writes_from (record_place head 1 0) second ++ rest_ops head))
    ∙ block_there (contents image (writes_from (record_place head 0 0) first)) head 1 second (rest_ops head) (length-contents image (writes_from (record_place head 0 0) first) ∙ whole) given.valid two (given.second_long two) (rest-spares (record_place head 1 0) (length second) head (record_after head 1 0)))

-- the pair
abbrev formatted_as : Device → Header → List Line → List Line → PairView
formatted_as device head first second = record {
  device = device;
  head = head;
  first = fresh_side true first;
  second = fresh_side (side_count head.kind == 2) second;
  known = Sure;
  doubt = None;
}

two_of : (head : Header) (side : ℕ) → suc side < side_count head.kind → (1 < side_count head.kind) × (1 ≡ suc side)
two_of head side here =
    let low : side_count head.kind ≡ 2 = elim (one_or_two head.kind) [ inl single ↦ absurd (omega arith) | inr both ↦ both ] in
    (omega (arith, low), omega arith)

formatted_holds : (device : Device) (image : List Line) (head : Header) (first second : List Line) → length image ≡ LINES → AreFirst head first second → HoldsRecords (formatted_as device head first second) (contents image (format_ops head first second))
formatted_holds device image head first second whole given = record { in_use = in_use; in_doubt = λ doubt is called. absurd (cc) }
  where
    new : List Line
    new = contents image (format_ops head first second)

    in_use : (side : ℕ) → side < side_count head.kind → record_in_use new head side (round_of_side (formatted_as device head first second) side) ≡ lines_of (formatted_as device head first second) side
    in_use zero here = first_there image head first second whole given
    in_use (suc side) here =
        let two = two_of head side here in
        subst (λ (n : ℕ). record_in_use new head n 0 ≡ second) two.1 (second_there image head first second whole given two.0)

after_format : (old new : Device) (head : Header) (first second : List Line) → AreFirst head first second → IsWhole old → IsReplay old → Does (format_ops head first second) old new → (tale : Tale) → new.told ≡ Some tale → HoldsRecords (formatted_as new head first second) (contents_of tale)
after_format old new head first second given whole replay does tale told =
    let before = told_before (format_ops head first second) old.told new.told tale does.told told in
    subst (HoldsRecords (formatted_as new head first second)) (sym before.2) (formatted_holds new (contents_of before.0) head first second (whole_contents old before.0 whole replay before.1) given)

formatted_pair : (old new : Device) (head : Header) (first second : List Line) (sides : Sides) → AreFirst head first second → IsWhole old → IsReplay old → MakesRegion head first second old new sides → IsPair (formatted_as new head first second)
formatted_pair old new head first second sides given whole replay made = record {
  valid = given.valid;
  sides = records;
  one_side = λ one. λ i. record { round = 0; lines = given.no_second one i; written = single one i; spare = None };
  holds = holds;
  records = after_format old new head first second given whole replay made.device;
  unsure_first = λ unsure. absurd (unsure refl);
  unsure_second = λ unsure. absurd (unsure refl);
  in_doubt = λ doubt e. absurd (cc);
  decided = λ other. refl;
}
  where
    single : side_count head.kind ≡ 1 → (side_count head.kind == 2) ≡ false
    single one = ap (λ (n : ℕ). n == 2) one

    records : (side : ℕ) → side < side_count head.kind → IsSide head side (at_side (fresh_side true first) (fresh_side (side_count head.kind == 2) second) side)
    records zero here = record { long = given.long; own = given.own }
    records (suc side) here =
        let two = two_of head side here in
        record { long = given.second_long two.0; own = subst (λ (n : ℕ). IsRecord head n 0 second) two.1 (given.second_own two.0) }

    whole_image : (image : List Line) → old.now ≡ Some image → length image ≡ LINES
    whole_image image now = subst (λ (o : Option (List Line)). IfSome o (λ lines. length lines ≡ LINES)) now whole

    holds : (image : List Line) → new.now ≡ Some image → (side : ℕ) → side < side_count head.kind → HoldsSide head side (at_side (fresh_side true first) (fresh_side (side_count head.kind == 2) second) side) image
    holds image now zero here =
        let before = now_before (format_ops head first second) old.now new.now image made.device.now now in
        record {
          in_use = λ written. ap (λ (l : List Line). record_at l head 0 0) before.2 ∙ first_there before.0 head first second (whole_image before.0 before.1) given;
          spare = λ lines e. absurd (cc);
        }
    holds image now (suc side) here =
        let before = now_before (format_ops head first second) old.now new.now image made.device.now now in
        let two = two_of head side here in
        record {
          in_use = λ written. subst (λ (n : ℕ). record_at image head n 0 ≡ second) two.1 (ap (λ (l : List Line). record_at l head 1 0) before.2 ∙ second_there before.0 head first second (whole_image before.0 before.1) given two.0);
          spare = λ lines e. absurd (cc);
        }

pub formatted : (old new : Device) (head : Header) (first second : List Line) (sides : Sides) → AreFirst head first second → IsWhole old → IsReplay old → MakesRegion head first second old new sides → IsFormatted head first second old (pair_view new head sides Sure None)
formatted old new head first second sides given whole replay made = record {
  sound = subst IsPair (sym same) (formatted_pair old new head first second sides given whole replay made);
  device = made.device;
  no_region = made.no_region;
  head = refl;
  first_side = made.first_side;
  second_side = made.second_side;
  known = refl;
  doubt = refl;
}
  where
    same : pair_view new head sides Sure None ≡ formatted_as new head first second
    same = λ i. record { device = new; head = head; first = made.first_side i; second = made.second_side i; known = Sure; doubt = None }
