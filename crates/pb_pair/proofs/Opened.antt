-- What opening answers.
use Rattle.std.proofs.Common.{◌≡◌, ℕ, ◌+◌, ◌%◌, ◌<◌, zero, suc, List, ◌++◌, Option, Some, None, IfSome, length, take, drop, refl, sym, ap, subst, ◌∙◌, inl, inr, arith}
use Rattle.std.proofs.lemmas.List.{take_at}
use Rattle.pb_pmem.specs.declared.line.Line.{Line}
use Rattle.pb_pmem.specs.Device.{Device, Tale, Fails, IsNoOp, IsReplay, IsWhole}
use Rattle.pb_pmem.specs.Lines.{line_at}
use Rattle.pb_object.specs.Standing.{side_count}
use Rattle.pb_layout.specs.declared.header.Header.{Header}
use Rattle.pb_layout.specs.Damage.{HasRegion, IsRoundLine, header_in, round_in, record_in, record_place_in}
use Rattle.pb_layout.specs.Shape.{IsHeader}
use Rattle.pb_layout.specs.Header.{IsHeaderLine, header_line_of, word}
use Rattle.pb_layout.specs.Record.{IsRecord, IsBadRecordAt}
use Rattle.pb_layout.specs.Region.{record_place}
use Rattle.pb_layout.specs.Represents.{record_in_use}
use Rattle.pb_layout.specs.ToldExits.{contents_of}
use Rattle.pb_layout.proofs.Readers.{named_by_line}
use Rattle.pb_layout.proofs.Records.{line_at-piece}
use Rattle.pb_layout_laws.proofs.WritingRegion.{one_or_two}
use Rattle.pb_pair.specs.declared.known.Known.TheVariants.{Opened}
use Rattle.pb_pair.specs.declared.side.Side.{Side}
use Rattle.pb_pair.specs.declared.side.Sides.{Sides}
use Rattle.pb_pair.specs.declared.why.Stop.{Stop}
use Rattle.pb_pair.specs.declared.why.Stop.TheVariants.{NoMemory, Fault, WasTaken, WasEmpty, BadLine}
use Rattle.pb_pair.specs.Open.{IsReadFrom, IsRefusedAt, IsOpenStop, HasReadRegion}
use Rattle.pb_pair.specs.Reading.{HasRead, IsFront, IsFrontRefusal, HasReadSide, IsSideStop, HasReadSecond, IsSecondStop}
use Rattle.pb_pair.specs.View.{at_side, forgotten, if_known, side_view, pair_view, IsSide, HoldsSide, HoldsRecords, IsPair}
use Rattle.pb_pair.proofs.Settled.{unknown_holds}
use Rattle.pb_pair.proofs.Told.{told_now}

-- what is told may be weaker
pub told_weaker : {X : Type 0} (now : Option X) (P Q : X → Type 0) → ((x : X) → P x → Q x) → IfSome now P → IfSome now Q
told_weaker None P Q weaker told = tt
told_weaker (Some x) P Q weaker told = weaker x told

-- what is told of two things
pub told_both : {X : Type 0} (now : Option X) (P Q R : X → Type 0) → ((x : X) → P x → Q x → R x) → IfSome now P → IfSome now Q → IfSome now R
told_both None P Q R weaker first second = tt
told_both (Some x) P Q R weaker first second = weaker x first second

-- a vector that was written as a slice of its whole length holds what the slice holds
pub written_whole : {X : Type 0} (count : ℕ) (new old : List X) → length new ≡ length old → count ≡ length old → take count (new ++ drop (length new) old) ≡ new
written_whole count new old same whole =
    ap (λ (n : ℕ). take n (new ++ drop (length new) old)) (whole ∙ sym same) ∙ take_at new (drop (length new) old) (length new) refl

-- the first three lines are where they were read
record AreLines (front image : List Line) : Type 0 where
  header : line_at front 0 ≡ line_at image 0
  first : line_at front 1 ≡ line_at image 1
  second : line_at front 2 ≡ line_at image 2

lines_read : (front image : List Line) → length front ≡ 3 → front ≡ take (length front) (drop 0 image) → AreLines front image
lines_read front image three read = record { header = at 0 (omega arith); first = at 1 (omega arith); second = at 2 (omega arith) }
  where
    at : (place : ℕ) → place < 3 → line_at front place ≡ line_at image place
    at place below =
        let here : 0 + place ≡ place = omega arith in
        ap (λ (lines : List Line). line_at lines place) read ∙ (line_at-piece image 0 (length front) place (omega (arith, three)) ∙ ap (line_at image) here)

pub header_is : (image : List Line) (head : Header) → line_at image 0 ≡ header_line_of head → header_in image ≡ head
header_is image head line = named_by_line (line_at image 0) head line

region_is : (image : List Line) (head : Header) → line_at image 0 ≡ header_line_of head → HasRegion image
region_is image head line = ap (λ (l : Line). word l 0) line

-- a header and two counts of rounds that the lines of a device say
pub record IsFound (head : Header) (first second : ℕ) (image : List Line) : Type 0 where
  pub valid : IsHeader head
  pub region : HasRegion image
  pub header : IsHeaderLine (line_at image 0)
  pub head_is : head ≡ header_in image
  pub first_is : first ≡ round_in image 0
  pub second_is : second ≡ round_in image 1
  pub count_first : IsRoundLine (header_in image).kind 0 (line_at image 1)
  pub count_second : IsRoundLine (header_in image).kind 1 (line_at image 2)

found_in : (front image : List Line) (head : Header) (first second : ℕ) → AreLines front image → IsFront front head → first ≡ word (line_at front 1) 0 → second ≡ word (line_at front 2) 0 → IsFound head first second image
found_in front image head first second are found one two =
    let line : line_at image 0 ≡ header_line_of head = sym are.header ∙ found.header in
    let named : header_in image ≡ head = header_is image head line in
    record {
      valid = found.valid;
      region = region_is image head line;
      header = (head, found.valid, line);
      head_is = sym named;
      first_is = one ∙ ap (λ (l : Line). word l 0) are.first;
      second_is = two ∙ ap (λ (l : Line). word l 0) are.second;
      count_first = subst (IsRoundLine (header_in image).kind 0) are.first (subst (λ (h : Header). IsRoundLine h.kind 0 (line_at front 1)) (sym named) found.first);
      count_second = subst (IsRoundLine (header_in image).kind 1) are.second (subst (λ (h : Header). IsRoundLine h.kind 1 (line_at front 2)) (sym named) found.second);
    }

pub found_of : (old mid : Device) (front : List Line) (head : Header) (first second : ℕ) → length front ≡ 3 → HasRead 0 front old mid → IsFront front head → first ≡ word (line_at front 1) 0 → second ≡ word (line_at front 2) 0 → IfSome old.now (IsFound head first second)
found_of old mid front head first second three read found one two =
    told_weaker old.now (λ lines. front ≡ take (length front) (drop 0 lines)) (IsFound head first second) (λ image is. found_in front image head first second (lines_read front image three is) found one two) read.content

-- a refusal of the first three lines
front_refused : (front image : List Line) (line : ℕ) → AreLines front image → IsFrontRefusal front (BadLine line) → IsRefusedAt line image
front_refused front image line are (inl bad) = record {
  region = sym (ap (λ (l : Line). word l 0) are.header) ∙ bad.region;
  first = inl (bad.place, λ own. bad.refused (subst IsHeaderLine (sym are.header) own));
}
front_refused front image line are (inr (inl bad)) =
    let header = sym are.header ∙ bad.header in
    let named = header_is image bad.head header in
    record {
      region = region_is image bad.head header;
      first = inr ((bad.head, bad.valid, header), inl (bad.place, λ own. bad.refused (subst (IsRoundLine bad.head.kind 0) (sym are.first) (subst (λ (h : Header). IsRoundLine h.kind 0 (line_at image 1)) named own))));
    }
front_refused front image line are (inr (inr bad)) =
    let header = sym are.header ∙ bad.header in
    let named = header_is image bad.head header in
    let first : IsRoundLine (header_in image).kind 0 (line_at image 1) = subst (IsRoundLine (header_in image).kind 0) are.first (subst (λ (h : Header). IsRoundLine h.kind 0 (line_at front 1)) (sym named) bad.first) in
    record {
      region = region_is image bad.head header;
      first = inr ((bad.head, bad.valid, header), inr (first, inl (bad.place, λ own. bad.refused (subst (IsRoundLine bad.head.kind 1) (sym are.second) (subst (λ (h : Header). IsRoundLine h.kind 1 (line_at image 2)) named own)))));
    }

pub refused_front : (old mid : Device) (front : List Line) (stop : Stop) → length front ≡ 3 → HasRead 0 front old mid → IsFrontRefusal front stop → IsOpenStop old mid stop
refused_front old mid front NoMemory three read refusal = absurd refusal
refused_front old mid front Fault three read refusal = absurd refusal
refused_front old mid front WasTaken three read refusal = absurd refusal
refused_front old mid front WasEmpty three read refusal = (
  read.same,
  told_weaker old.now (λ lines. front ≡ take (length front) (drop 0 lines)) (λ lines. ¬ HasRegion lines) (λ image is has. refusal (ap (λ (l : Line). word l 0) (lines_read front image three is).header ∙ has)) read.content,
)
refused_front old mid front (BadLine line) three read refusal = (
  read.same,
  told_weaker old.now (λ lines. front ≡ take (length front) (drop 0 lines)) (IsRefusedAt line) (λ image is. front_refused front image line (lines_read front image three is) refusal) read.content,
)

-- The records

same_record : (side : ℕ) (a b : Header) (r s : ℕ) (l m : List Line) → a ≡ b → r ≡ s → l ≡ m → IsRecord a side r l → IsRecord b side s m
same_record side a b r s l m heads rounds lines own =
    subst (λ (h : Header). IsRecord h side s m) heads (subst (λ (n : ℕ). IsRecord a side n m) rounds (subst (IsRecord a side r) lines own))

same_bad : (side : ℕ) (a b : Header) (r s : ℕ) (l m : List Line) (place : ℕ) → a ≡ b → r ≡ s → l ≡ m → IsBadRecordAt a side r l place → IsBadRecordAt b side s m place
same_bad side a b r s l m place heads rounds lines bad =
    subst (λ (h : Header). IsBadRecordAt h side s m place) heads (subst (λ (n : ℕ). IsBadRecordAt a side n m place) rounds (subst (λ (k : List Line). IsBadRecordAt a side r k place) lines bad))

in_use_is : (image : List Line) (side : ℕ) (head : Header) (round : ℕ) → head ≡ header_in image → round ≡ round_in image side → record_in_use image head side round ≡ record_in image side
in_use_is image side head round heads rounds =
    ap (λ (h : Header). record_in_use image h side round) heads ∙ ap (λ (n : ℕ). record_in_use image (header_in image) side n) rounds

-- a record in use that is refused
abbrev pub IsBadIn : Header → ℕ → ℕ → ℕ → List Line → Type 0
IsBadIn head side round line image = (place : ℕ) × (line ≡ record_place head side (round % 2) + place) × IsBadRecordAt head side round (record_in_use image head side round) place

bad_in : (image : List Line) (side : ℕ) (head : Header) (round line : ℕ) → head ≡ header_in image → round ≡ round_in image side → IsBadIn head side round line image → (place : ℕ) × (line ≡ record_place_in image side + place) × IsBadRecordAt (header_in image) side (round_in image side) (record_in image side) place
bad_in image side head round line heads rounds bad =
    let place : record_place head side (round % 2) ≡ record_place_in image side = ap (λ (h : Header). record_place h side (round % 2)) heads ∙ ap (λ (n : ℕ). record_place (header_in image) side (n % 2)) rounds in
    (bad.0, bad.1 ∙ ap (λ (n : ℕ). n + bad.0) place, same_bad side head (header_in image) round (round_in image side) (record_in_use image head side round) (record_in image side) bad.0 heads rounds (in_use_is image side head round heads rounds) bad.2)

some_side : (image : List Line) → 0 < side_count (header_in image).kind
some_side image = elim (one_or_two (header_in image).kind) [ inl one ↦ omega (arith, one) | inr two ↦ omega (arith, two) ]

first_refused : (head : Header) (first second line : ℕ) (image : List Line) → IsFound head first second image → IsBadIn head 0 first line image → IsRefusedAt line image
first_refused head first second line image found bad = record {
  region = found.region;
  first = inr (found.header, inr (found.count_first, inr (found.count_second, inl (some_side image, bad_in image 0 head first line found.head_is found.first_is bad))));
}

second_refused : (head : Header) (first second line : ℕ) (image : List Line) → IsFound head first second image → IsRecord (header_in image) 0 (round_in image 0) (record_in image 0) → 1 < side_count head.kind → IsBadIn head 1 second line image → IsRefusedAt line image
second_refused head first second line image found own two bad = record {
  region = found.region;
  first = inr (found.header, inr (found.count_first, inr (found.count_second, inr ((λ here. own), inl (subst (λ (h : Header). 1 < side_count h.kind) found.head_is two, bad_in image 1 head second line found.head_is found.second_is bad)))));
}

pub refused_first : (old mid new : Device) (head : Header) (first second : ℕ) (stop : Stop) → mid ≡ old → IfSome old.now (IsFound head first second) → IsSideStop head 0 first mid new stop → IsOpenStop old new stop
refused_first old mid new head first second NoMemory same found stop = stop ∙ same
refused_first old mid new head first second Fault same found stop = subst (λ (d : Device). Fails IsNoOp d new) same stop
refused_first old mid new head first second WasTaken same found stop = absurd stop
refused_first old mid new head first second WasEmpty same found stop = absurd stop
refused_first old mid new head first second (BadLine line) same found stop = (
  stop.0 ∙ same,
  told_both old.now (IsFound head first second) (IsBadIn head 0 first line) (IsRefusedAt line) (first_refused head first second line) found (subst (λ (d : Device). IfSome d.now (IsBadIn head 0 first line)) same stop.1),
)

-- the first side's record is in order
abbrev IsOwnFirst : List Line → Type 0
IsOwnFirst image = IsRecord (header_in image) 0 (round_in image 0) (record_in image 0)

own_first : (old mid new : Device) (head : Header) (first second : ℕ) (read : Side) → mid ≡ old → IfSome old.now (IsFound head first second) → HasReadSide head 0 first read mid new → IfSome old.now IsOwnFirst
own_first old mid new head first second read same found is =
    told_both old.now (IsFound head first second) (λ image. read.lines.items ≡ record_in_use image head 0 first) IsOwnFirst
    (λ image f lines. same_record 0 head (header_in image) first (round_in image 0) read.lines.items (record_in image 0) f.head_is f.first_is (lines ∙ in_use_is image 0 head first f.head_is f.first_is) is.own) found (subst (λ (d : Device). IfSome d.now (λ image. read.lines.items ≡ record_in_use image head 0 first)) same is.content)

refused_side : (old mid new : Device) (head : Header) (first second : ℕ) (stop : Stop) → mid ≡ old → IfSome old.now (IsFound head first second) → IfSome old.now IsOwnFirst → 1 < side_count head.kind → IsSideStop head 1 second mid new stop → IsOpenStop old new stop
refused_side old mid new head first second NoMemory same found own two stop = stop ∙ same
refused_side old mid new head first second Fault same found own two stop = subst (λ (d : Device). Fails IsNoOp d new) same stop
refused_side old mid new head first second WasTaken same found own two stop = absurd stop
refused_side old mid new head first second WasEmpty same found own two stop = absurd stop
refused_side old mid new head first second (BadLine line) same found own two stop = (
  stop.0 ∙ same,
  told_both old.now (λ image. IsFound head first second image × IsOwnFirst image) (IsBadIn head 1 second line) (IsRefusedAt line) (λ image f. second_refused head first second line image f.0 f.1 two) (told_both old.now (IsFound head first second) IsOwnFirst (λ image. IsFound head first second image × IsOwnFirst image) (λ image a b. (a, b)) found own) (subst (λ (d : Device). IfSome d.now (IsBadIn head 1 second line)) same stop.1),
)

pub refused_second : (old mid between new : Device) (head : Header) (first second : ℕ) (read : Side) (stop : Stop) → mid ≡ old → IfSome old.now (IsFound head first second) → HasReadSide head 0 first read mid between → IsSecondStop head second between new stop → IsOpenStop old new stop
refused_second old mid between new head first second read stop same found is second_stop =
    elim (one_or_two head.kind) [
      | inl one ↦ let none = second_stop.one one in subst (IsOpenStop old new) (sym none.1) (none.0 ∙ (is.same ∙ same))
      | inr two ↦ let more : 1 < side_count head.kind = omega (arith, two) in refused_side old between new head first second stop (is.same ∙ same) found (own_first old mid between head first second read same found is) more (second_stop.two more)
    ]

-- Both sides were read

unknown_side : (head : Header) (side round : ℕ) (read : Side) (old new : Device) → HasReadSide head side round read old new → side_view read ≡ forgotten (side_view read)
unknown_side head side round read old new is = λ i. record {
  round = read.round;
  lines = read.lines.items;
  written = is.written i;
  spare = if_known (is.spare_known i) read.spare.items;
}

side_is : (head : Header) (side round : ℕ) (read : Side) (old new : Device) → HasReadSide head side round read old new → IsSide head side (side_view read)
side_is head side round read old new is = record { long = is.long; own = subst (λ (n : ℕ). IsRecord head side n read.lines.items) (sym is.round_is) is.own }

-- what was read of both
pub record AreRead (head : Header) (first second : ℕ) (one two : Side) (old mid between new : Device) : Type 0 where
  pub same : mid ≡ old
  pub whole : IsWhole old
  pub replay : IsReplay old
  pub found : IfSome old.now (IsFound head first second)
  pub valid : IsHeader head
  pub first_read : HasReadSide head 0 first one mid between
  pub second_read : HasReadSecond head second between new two

abbrev sides_of : Side → Side → Sides
sides_of one two = record { first = one; second = two }

-- the lines that were read, as the device's
abbrev IsLinesOf : Header → ℕ → ℕ → List Line → List Line → Type 0
IsLinesOf head side round lines image = lines ≡ record_in_use image head side round

-- the device is as it was
new_is : (head : Header) (first second : ℕ) (one two : Side) (old mid between new : Device) → AreRead head first second one two old mid between new → new ≡ old
new_is head first second one two old mid between new are = last ∙ (are.first_read.same ∙ are.same)
  where
    last : new ≡ between
    last = elim (one_or_two head.kind) [
      | inl single ↦ (are.second_read.one single).0
      | inr both ↦ (are.second_read.two (omega (arith, both))).same
    ]

first_lines : (head : Header) (first second : ℕ) (one two : Side) (old mid between new : Device) → AreRead head first second one two old mid between new → IfSome old.now (IsLinesOf head 0 first one.lines.items)
first_lines head first second one two old mid between new are =
    subst (λ (d : Device). IfSome d.now (IsLinesOf head 0 first one.lines.items)) are.same are.first_read.content

second_lines : (head : Header) (first second : ℕ) (one two : Side) (old mid between new : Device) → AreRead head first second one two old mid between new → 1 < side_count head.kind → IfSome old.now (IsLinesOf head 1 second two.lines.items)
second_lines head first second one two old mid between new are more =
    subst (λ (d : Device). IfSome d.now (IsLinesOf head 1 second two.lines.items)) (are.first_read.same ∙ are.same) (are.second_read.two more).content

-- it holds the records, where it tells its log
read_holds : (head : Header) (first second : ℕ) (one two : Side) (old mid between new : Device) → AreRead head first second one two old mid between new → (tale : Tale) → new.told ≡ Some tale → HoldsRecords (pair_view new head (sides_of one two) Opened None) (contents_of tale)
read_holds head first second one two old mid between new are tale told = record { in_use = in_use; in_doubt = λ doubt is called. absurd (cc) }
  where
    now : old.now ≡ Some (contents_of tale)
    now = told_now old tale are.replay (subst (λ (d : Device). d.told ≡ Some tale) (new_is head first second one two old mid between new are) told)

    is_there : (side round : ℕ) (lines : List Line) → IfSome old.now (IsLinesOf head side round lines) → record_in_use (contents_of tale) head side round ≡ lines
    is_there side round lines read = sym (subst (λ (o : Option (List Line)). IfSome o (IsLinesOf head side round lines)) now read)

    in_use : (side : ℕ) → side < side_count head.kind → record_in_use (contents_of tale) head side (at_side (side_view one) (side_view two) side).round ≡ (at_side (side_view one) (side_view two) side).lines
    in_use zero here =
        ap (record_in_use (contents_of tale) head 0) are.first_read.round_is ∙ is_there 0 first one.lines.items (first_lines head first second one two old mid between new are)
    in_use (suc side) here =
        let low : side_count head.kind ≡ 2 = elim (one_or_two head.kind) [ inl single ↦ absurd (omega arith) | inr both ↦ both ] in
        let more : 1 < side_count head.kind = omega (arith, low) in
        let same : 1 ≡ suc side = omega arith in
        subst (λ (n : ℕ). record_in_use (contents_of tale) head n two.round ≡ two.lines.items) same
        (ap (record_in_use (contents_of tale) head 1) (are.second_read.two more).round_is ∙ is_there 1 second two.lines.items (second_lines head first second one two old mid between new are more))

read_pair : (head : Header) (first second : ℕ) (one two : Side) (old mid between new : Device) → AreRead head first second one two old mid between new → IsPair (pair_view new head (sides_of one two) Opened None)
read_pair head first second one two old mid between new are = record {
  valid = are.valid;
  sides = sides;
  one_side = λ single. (are.second_read.one single).1;
  holds = λ image now side here. holds image side;
  records = read_holds head first second one two old mid between new are;
  unsure_first = λ unsure. unknown;
  unsure_second = λ unsure. unknown_two;
  in_doubt = λ doubt e. absurd (cc);
  decided = λ other. refl;
}
  where
    unknown : side_view one ≡ forgotten (side_view one)
    unknown = unknown_side head 0 first one mid between are.first_read

    unknown_two : side_view two ≡ forgotten (side_view two)
    unknown_two = elim (one_or_two head.kind) [
      | inl single ↦ (are.second_read.one single).1 ∙ sym (ap forgotten (are.second_read.one single).1)
      | inr both ↦ unknown_side head 1 second two between new (are.second_read.two (omega (arith, both)))
    ]

    sides : (side : ℕ) → side < side_count head.kind → IsSide head side (at_side (side_view one) (side_view two) side)
    sides zero here = side_is head 0 first one mid between are.first_read
    sides (suc side) here =
        let low : side_count head.kind ≡ 2 = elim (one_or_two head.kind) [ inl single ↦ absurd (omega arith) | inr both ↦ both ] in
        let same : 1 ≡ suc side = omega arith in
        subst (λ (n : ℕ). IsSide head n (side_view two)) same (side_is head 1 second two between new (are.second_read.two (omega (arith, low))))

    holds : (image : List Line) (side : ℕ) → HoldsSide head side (at_side (side_view one) (side_view two) side) image
    holds image zero = unknown_holds head 0 (side_view one) image unknown
    holds image (suc side) = unknown_holds head (suc side) (side_view two) image unknown_two

read_from : (head : Header) (first second : ℕ) (one two : Side) (old mid between new : Device) → AreRead head first second one two old mid between new → (image : List Line) → IsFound head first second image → IsLinesOf head 0 first one.lines.items image → (1 < side_count head.kind → IsLinesOf head 1 second two.lines.items image) → IsReadFrom (pair_view new head (sides_of one two) Opened None) image
read_from head first second one two old mid between new are image found lines more = record {
  passes = (found.header, (found.count_first, (found.count_second, ((λ here. own), ((λ here. own_second (subst (λ (h : Header). 1 < side_count h.kind) (sym found.head_is) here)), tt)))));
  head = found.head_is;
  rounds = rounds;
  records = records;
}
  where
    own : IsRecord (header_in image) 0 (round_in image 0) (record_in image 0)
    own = same_record 0 head (header_in image) first (round_in image 0) one.lines.items (record_in image 0) found.head_is found.first_is (lines ∙ in_use_is image 0 head first found.head_is found.first_is) are.first_read.own

    own_second : 1 < side_count head.kind → IsRecord (header_in image) 1 (round_in image 1) (record_in image 1)
    own_second both = same_record 1 head (header_in image) second (round_in image 1) two.lines.items (record_in image 1) found.head_is found.second_is (more both ∙ in_use_is image 1 head second found.head_is found.second_is) (are.second_read.two both).own

    is_one : (side : ℕ) → suc side < side_count head.kind → (1 < side_count head.kind) × (1 ≡ suc side)
    is_one side here =
        let low : side_count head.kind ≡ 2 = elim (one_or_two head.kind) [ inl single ↦ absurd (omega arith) | inr both ↦ both ] in
        (omega (arith, low), omega arith)

    rounds : (side : ℕ) → side < side_count head.kind → (at_side (side_view one) (side_view two) side).round ≡ round_in image side
    rounds zero here = are.first_read.round_is ∙ found.first_is
    rounds (suc side) here =
        let is = is_one side here in
        subst (λ (n : ℕ). two.round ≡ round_in image n) is.1 ((are.second_read.two is.0).round_is ∙ found.second_is)

    records : (side : ℕ) → side < side_count head.kind → (at_side (side_view one) (side_view two) side).lines ≡ record_in image side
    records zero here = lines ∙ in_use_is image 0 head first found.head_is found.first_is
    records (suc side) here =
        let is = is_one side here in
        subst (λ (n : ℕ). two.lines.items ≡ record_in image n) is.1 (more is.0 ∙ in_use_is image 1 head second found.head_is found.second_is)

pub has_read_region : (head : Header) (first second : ℕ) (one two : Side) (old mid between new : Device) → AreRead head first second one two old mid between new → HasReadRegion (record { head = head; sides = record { first = one; second = two } }) old new
has_read_region head first second one two old mid between new are =
    let ones = first_lines head first second one two old mid between new are in
    record {
      opened = record {
        sound = read_pair head first second one two old mid between new are;
        whole = are.whole;
        same = new_is head first second one two old mid between new are;
        read = elim (one_or_two head.kind) [
          | inl single ↦ told_both old.now (IsFound head first second) (IsLinesOf head 0 first one.lines.items) (IsReadFrom (pair_view new head (sides_of one two) Opened None)) (λ image found lines. read_from head first second one two old mid between new are image found lines (λ both. absurd (omega (arith, single)))) are.found ones
          | inr both ↦ let more : 1 < side_count head.kind = omega (arith, both) in told_both old.now (λ image. IsFound head first second image × IsLinesOf head 0 first one.lines.items image) (IsLinesOf head 1 second two.lines.items) (IsReadFrom (pair_view new head (sides_of one two) Opened None)) (λ image f lines. read_from head first second one two old mid between new are image f.0 f.1 (λ _. lines)) (told_both old.now (IsFound head first second) (IsLinesOf head 0 first one.lines.items) (λ image. IsFound head first second image × IsLinesOf head 0 first one.lines.items image) (λ image a b. (a, b)) are.found ones) (second_lines head first second one two old mid between new are more)
        ];
        known = refl;
        doubt = refl;
      };
      room = record { first = are.first_read.room; second = are.second_read.room };
    }
