-- What settling makes of a pair.
use Rattle.std.proofs.Common.{◌≡◌, ◌≢◌, ℕ, zero, suc, ◌+◌, ◌<◌, Bool, true, false, List, length, Option, Some, None, option_map, refl, sym, ap, subst, ◌∙◌, arith}
use Rattle.std.specs.Prelude.{◌==◌, ◌&&◌}
use Rattle.std.proofs.lemmas.Bool.{and_parts}
use Rattle.std.proofs.lemmas.Bool.Decides.{nat_tests}
use Rattle.pb_pmem.specs.declared.line.Line.{Line}
use Rattle.pb_pmem.specs.Device.{Device}
use Rattle.pb_pmem.specs.Lines.{line_at}
use Rattle.pb_pmem.specs.Operations.{IsFailedPrefix, Does, Stops}
use Rattle.pb_object.specs.Standing.{side_count}
use Rattle.pb_layout.specs.declared.header.Header.{Header}
use Rattle.pb_layout.specs.Header.{record_length, word}
use Rattle.pb_layout.specs.Record.{IsRecord}
use Rattle.pb_layout.specs.RegionOps.{settle_ops}
use Rattle.pb_layout.specs.Represents.{record_in_use}
use Rattle.pb_layout.specs.ToldExits.{contents_of}
use Rattle.pb_object.proofs.Sides.{few_sides}
use Rattle.pb_pair.specs.declared.known.Doubt.{Doubt}
use Rattle.pb_pair.specs.declared.known.Known.{Known}
use Rattle.pb_pair.specs.declared.known.Known.TheVariants.{Sure}
use Rattle.pb_pair.specs.declared.side.Side.{Side}
use Rattle.pb_pair.specs.declared.side.Sides.{Sides}
use Rattle.pb_pair.specs.Settle.{was_called, called_in, called_on, settled_by, settled_side, settled_ops, IsSettled}
use Rattle.pb_pair.specs.View.{SideView, DoubtView, PairView, at_side, view_of_side, round_of_side, lines_of, forgotten, side_view, doubt_view, pair_view, IsSide, HoldsSide, IsDoubt, HoldsRecords, IsPair}
use Rattle.pb_pair.proofs.HeldRecords.{SparesRecords, settle_spares, kept_where_told}

same_number : (a b : ℕ) → (a == b) ≡ true → a ≡ b
same_number a b e = grind (arith, nat_tests)

-- the index word of a side was called: its record is in doubt
pub called_doubt : (doubt : Option Doubt) (side : ℕ) → called_on doubt side ≡ true → (d : Doubt) × (doubt ≡ Some d) × (d.side ≡ side)
called_doubt None side e = absurd (cc)
called_doubt (Some d) side e = (d, refl, same_number d.side side (and_parts d.called (d.side == side) e).1)

doubt_is : (device : Device) (head : Header) (sides : Sides) (known : Known) (doubt : Option Doubt) (d : Doubt) → IsPair (pair_view device head sides known doubt) → doubt ≡ Some d → IsDoubt head (side_view sides.first) (side_view sides.second) (doubt_view sides d)
doubt_is device head sides known doubt d sound is = sound.in_doubt (doubt_view sides d) (ap (option_map (doubt_view sides)) is)

-- then the memory of its spare record has that record
pub record HasNext (side : Side) : Type 0 where
  pub some : 0 < length side.spare.items
  pub next : word (line_at side.spare.items 0) 0 ≡ side.round + 1

pub next_of_side : (device : Device) (head : Header) (sides : Sides) (known : Known) (doubt : Option Doubt) (side : ℕ) → IsPair (pair_view device head sides known doubt) → called_on doubt side ≡ true → HasNext (at_side sides.first sides.second side)
next_of_side device head sides known doubt side sound called =
    let found = called_doubt doubt side called in
    let is = doubt_is device head sides known doubt found.0 sound found.1 in
    subst (λ (n : ℕ). HasNext (at_side sides.first sides.second n)) found.2 (by_side found.0.side is.long (ap (λ (l : Line). word l 0) is.own.carries))
  where
    by_side : (n : ℕ) → length (at_side sides.first.spare.items sides.second.spare.items n) ≡ record_length head → word (line_at (at_side sides.first.spare.items sides.second.spare.items n) 0) 0 ≡ (at_side (side_view sides.first) (side_view sides.second) n).round + 1 → HasNext (at_side sides.first sides.second n)
    by_side zero long next = record { some = omega arith; next = next }
    by_side (suc n) long next = record { some = omega arith; next = next }

-- what the sides are settled to
by_first : (called : Bool) (side : ℕ) (first second : List Line) (part : SideView) → settled_by (called && (side == 0)) first part ≡ settled_by (called && (side == 0)) (at_side first second side) part
by_first called zero first second part = refl
by_first true (suc side) first second part = let other : (suc side == 0) ≡ false = grind (arith, nat_tests) in rw other refl
by_first false (suc side) first second part = refl

pub settled_first : (sides : Sides) (doubt : Option Doubt) → settled_by (called_on doubt 0) sides.first.spare.items (side_view sides.first) ≡ settled_side (option_map (doubt_view sides) doubt) 0 (side_view sides.first)
settled_first sides None = refl
settled_first sides (Some d) = by_first d.called d.side sides.first.spare.items sides.second.spare.items (side_view sides.first)

by_second : (called : Bool) (side : ℕ) (first second : List Line) (part : SideView) → settled_by (called && (side == 1)) second part ≡ settled_by (called && (side == 1)) (at_side first second side) part
by_second true zero first second part = refl
by_second false zero first second part = refl
by_second called (suc side) first second part = refl

pub settled_second : (sides : Sides) (doubt : Option Doubt) → settled_by (called_on doubt 1) sides.second.spare.items (side_view sides.second) ≡ settled_side (option_map (doubt_view sides) doubt) 1 (side_view sides.second)
settled_second sides None = refl
settled_second sides (Some d) = by_second d.called d.side sides.first.spare.items sides.second.spare.items (side_view sides.second)

pub answered : (sides : Sides) (doubt : Option Doubt) → called_in doubt ≡ was_called (option_map (doubt_view sides) doubt)
answered sides None = refl
answered sides (Some d) = refl

-- The pair after it

abbrev pub settled_as : PairView → Device → PairView
settled_as old device = record {
  device = device;
  head = old.head;
  first = settled_side old.doubt 0 old.first;
  second = settled_side old.doubt 1 old.second;
  known = Sure;
  doubt = None;
}

-- a side of which nothing is known holds nothing that is known
pub unknown_holds : (head : Header) (side : ℕ) (part : SideView) (image : List Line) → part ≡ forgotten part → HoldsSide head side part image
unknown_holds head side part image unknown = record {
  in_use = λ written. absurd (cc (ap (λ (p : SideView). p.written) unknown, written));
  spare = λ lines is. absurd (cc (ap (λ (p : SideView). p.spare) unknown, is));
}

settled-forgotten : (doubt : Option DoubtView) (side : ℕ) (part : SideView) → part ≡ forgotten part → settled_side doubt side part ≡ forgotten (settled_side doubt side part)
settled-forgotten None side part unknown = unknown
settled-forgotten (Some d) side part unknown = by (d.called && (d.side == side))
  where
    by : (called : Bool) → settled_by called d.lines part ≡ forgotten (settled_by called d.lines part)
    by true = refl
    by false = unknown

-- a side is settled to a record
settled-side : (head : Header) (first second : SideView) (doubt : Option DoubtView) (side : ℕ) → ((d : DoubtView) → doubt ≡ Some d → IsDoubt head first second d) → IsSide head side (at_side first second side) → IsSide head side (settled_side doubt side (at_side first second side))
settled-side head first second None side in_doubt is = is
settled-side head first second (Some d) side in_doubt is = by (d.called && (d.side == side)) (λ e. same_number d.side side (and_parts d.called (d.side == side) e).1)
  where
    by : (called : Bool) → (called ≡ true → d.side ≡ side) → IsSide head side (settled_by called d.lines (at_side first second side))
    by true tells =
        let found = in_doubt d refl in
        record { long = found.long; own = subst (λ (n : ℕ). IsRecord head n ((at_side first second n).round + 1) d.lines) (tells refl) found.own }
    by false tells = is

settled-none : (head : Header) (first second : SideView) (doubt : Option DoubtView) → side_count head.kind ≡ 1 → ((d : DoubtView) → doubt ≡ Some d → IsDoubt head first second d) → settled_side doubt 1 second ≡ second
settled-none head first second None one in_doubt = refl
settled-none head first second (Some d) one in_doubt =
    let here = (in_doubt d refl).here in
    let other : (d.side == 1) ≡ false = grind (arith, nat_tests) in
    by d.called (d.side == 1) other
  where
    by : (called same : Bool) → same ≡ false → settled_by (called && same) d.lines second ≡ second
    by called true other = absurd (cc)
    by true false other = refl
    by false false other = refl

-- the records that a settled pair has in use, where the device tells its log
settled-held : (head : Header) (image : List Line) (doubt : Option DoubtView) (side : ℕ) (part : SideView) → record_in_use image head side part.round ≡ part.lines → ((d : DoubtView) → doubt ≡ Some d → d.called ≡ true → d.side ≡ side → record_in_use image head side (part.round + 1) ≡ d.lines) → record_in_use image head side (settled_side doubt side part).round ≡ (settled_side doubt side part).lines
settled-held head image None side part in_use in_doubt = in_use
settled-held head image (Some d) side part in_use in_doubt = by (d.called && (d.side == side)) (and_parts d.called (d.side == side))
  where
    by : (called : Bool) → (called ≡ true → (d.called ≡ true) × ((d.side == side) ≡ true)) → record_in_use image head side (settled_by called d.lines part).round ≡ (settled_by called d.lines part).lines
    by true tells = in_doubt d refl (tells refl).0 (same_number d.side side (tells refl).1)
    by false tells = in_use

settled_holds : (old : PairView) (device : Device) (image : List Line) → HoldsRecords old image → HoldsRecords (settled_as old device) image
settled_holds old device image holds = record { in_use = in_use; in_doubt = λ doubt is called. absurd (cc) }
  where
    of_side : (side : ℕ) (d : DoubtView) → old.doubt ≡ Some d → d.called ≡ true → d.side ≡ side → record_in_use image old.head side (round_of_side old side + 1) ≡ d.lines
    of_side side d is called same = subst (λ (n : ℕ). record_in_use image old.head n (round_of_side old n + 1) ≡ d.lines) same (holds.in_doubt d is called)

    in_use : (side : ℕ) → side < side_count old.head.kind → record_in_use image old.head side (round_of_side (settled_as old device) side) ≡ lines_of (settled_as old device) side
    in_use zero here = settled-held old.head image old.doubt 0 old.first (holds.in_use 0 here) (of_side 0)
    in_use (suc side) here =
        let low = few_sides old.head.kind in
        let one : 1 ≡ suc side = omega arith in
        subst (λ (n : ℕ). record_in_use image old.head n (settled_side old.doubt 1 old.second).round ≡ (settled_side old.doubt 1 old.second).lines) one (settled-held old.head image old.doubt 1 old.second (holds.in_use 1 (omega arith)) (of_side 1))

pub settled_spares : (old : PairView) → SparesRecords old.head (settled_ops old)
settled_spares old = settle_spares old.head (settled_side old.doubt 0 old.first).round (settled_side old.doubt 1 old.second).round

pub settled_pair : (old : PairView) (device : Device) → IsPair old → old.known ≢ Sure → Does (settled_ops old) old.device device → IsPair (settled_as old device)
settled_pair old device sound unsure does = record {
  valid = sound.valid;
  sides = sides;
  one_side = λ one. settled-none old.head old.first old.second old.doubt one sound.in_doubt ∙ sound.one_side one;
  holds = λ image now side here. holds image side;
  records = λ tale told. settled_holds old device (contents_of tale) (kept_where_told old (settled_ops old) device sound does.told (settled_spares old) tale told);
  unsure_first = λ other. absurd (other refl);
  unsure_second = λ other. absurd (other refl);
  in_doubt = λ doubt e. absurd (cc);
  decided = λ other. refl;
}
  where
    sides : (side : ℕ) → side < side_count old.head.kind → IsSide old.head side (view_of_side (settled_as old device) side)
    sides zero here = settled-side old.head old.first old.second old.doubt 0 sound.in_doubt (sound.sides 0 here)
    sides (suc side) here =
        let low = few_sides old.head.kind in
        let one : 1 ≡ suc side = omega arith in
        subst (λ (n : ℕ). IsSide old.head n (settled_side old.doubt 1 old.second)) one (settled-side old.head old.first old.second old.doubt 1 sound.in_doubt (sound.sides 1 (omega arith)))

    holds : (image : List Line) (side : ℕ) → HoldsSide old.head side (view_of_side (settled_as old device) side) image
    holds image zero = unknown_holds old.head 0 (settled_side old.doubt 0 old.first) image (settled-forgotten old.doubt 0 old.first (sound.unsure_first unsure))
    holds image (suc side) = unknown_holds old.head (suc side) (settled_side old.doubt 1 old.second) image (settled-forgotten old.doubt 1 old.second (sound.unsure_second unsure))

-- the call's answers
pub record SettlesTo (device : Device) (head : Header) (sides : Sides) (known : Known) (doubt : Option Doubt) (first second : Side) : Type 0 where
  pub first_is : side_view first ≡ settled_side (option_map (doubt_view sides) doubt) 0 (side_view sides.first)
  pub second_is : side_view second ≡ settled_side (option_map (doubt_view sides) doubt) 1 (side_view sides.second)

pub is_settled : (device new : Device) (head : Header) (sides : Sides) (known : Known) (doubt : Option Doubt) (first second : Side) → IsPair (pair_view device head sides known doubt) → known ≢ Sure → SettlesTo device head sides known doubt first second → Does (settled_ops (pair_view device head sides known doubt)) device new → IsSettled (pair_view device head sides known doubt) (pair_view new head (record { first = first; second = second }) Sure None)
is_settled device new head sides known doubt first second sound unsure are does = record {
  sound = subst IsPair (sym same) (settled_pair (pair_view device head sides known doubt) new sound unsure does);
  device = does;
  head = refl;
  first = are.first_is;
  second = are.second_is;
  known = refl;
  doubt = refl;
}
  where
    same : pair_view new head (record { first = first; second = second }) Sure None ≡ settled_as (pair_view device head sides known doubt) new
    same = λ i. record { device = new; head = head; first = are.first_is i; second = are.second_is i; known = Sure; doubt = None }

-- the parts of the call together
pub settles_to : (device : Device) (head : Header) (sides : Sides) (known : Known) (doubt : Option Doubt) (first second : Side) (on_first on_second : Bool) → on_first ≡ called_on doubt 0 → on_second ≡ called_on doubt 1 → side_view first ≡ settled_by on_first sides.first.spare.items (side_view sides.first) → side_view second ≡ settled_by on_second sides.second.spare.items (side_view sides.second) → SettlesTo device head sides known doubt first second
settles_to device head sides known doubt first second on_first on_second one two first_is second_is = record {
  first_is = first_is ∙ (ap (λ (b : Bool). settled_by b sides.first.spare.items (side_view sides.first)) one ∙ settled_first sides doubt);
  second_is = second_is ∙ (ap (λ (b : Bool). settled_by b sides.second.spare.items (side_view sides.second)) two ∙ settled_second sides doubt);
}

same_ops : (device : Device) (head : Header) (sides : Sides) (known : Known) (doubt : Option Doubt) (on_first on_second : Bool) → on_first ≡ called_on doubt 0 → on_second ≡ called_on doubt 1 → (first second : ℕ) → first ≡ (settled_by on_first sides.first.spare.items (side_view sides.first)).round → second ≡ (settled_by on_second sides.second.spare.items (side_view sides.second)).round → settle_ops head first second ≡ settled_ops (pair_view device head sides known doubt)
same_ops device head sides known doubt on_first on_second one two first second first_is second_is =
    let a = first_is ∙ ap (λ (part : SideView). part.round) (ap (λ (b : Bool). settled_by b sides.first.spare.items (side_view sides.first)) one ∙ settled_first sides doubt) in
    let b = second_is ∙ ap (λ (part : SideView). part.round) (ap (λ (b : Bool). settled_by b sides.second.spare.items (side_view sides.second)) two ∙ settled_second sides doubt) in
    λ i. settle_ops head (a i) (b i)

pub does_settle : (device new : Device) (head : Header) (sides : Sides) (known : Known) (doubt : Option Doubt) (on_first on_second : Bool) → on_first ≡ called_on doubt 0 → on_second ≡ called_on doubt 1 → (first second : ℕ) → first ≡ (settled_by on_first sides.first.spare.items (side_view sides.first)).round → second ≡ (settled_by on_second sides.second.spare.items (side_view sides.second)).round → Does (settle_ops head first second) device new → Does (settled_ops (pair_view device head sides known doubt)) device new
does_settle device new head sides known doubt on_first on_second one two first second first_is second_is =
    subst (λ ops. Does ops device new) (same_ops device head sides known doubt on_first on_second one two first second first_is second_is)

pub stops_settle : (device new : Device) (head : Header) (sides : Sides) (known : Known) (doubt : Option Doubt) (on_first on_second : Bool) → on_first ≡ called_on doubt 0 → on_second ≡ called_on doubt 1 → (first second : ℕ) → first ≡ (settled_by on_first sides.first.spare.items (side_view sides.first)).round → second ≡ (settled_by on_second sides.second.spare.items (side_view sides.second)).round → Stops (IsFailedPrefix (settle_ops head first second)) device new → Stops (IsFailedPrefix (settled_ops (pair_view device head sides known doubt))) device new
stops_settle device new head sides known doubt on_first on_second one two first second first_is second_is =
    subst (λ ops. Stops (IsFailedPrefix ops) device new) (same_ops device head sides known doubt on_first on_second one two first second first_is second_is)
