-- What holds of a pair after each of its calls.
use Rattle.std.proofs.Common.{◌≡◌, ◌≢◌, ℕ, zero, suc, ◌+◌, ◌*◌, ◌%◌, ◌<◌, ◌≤◌, Bool, true, false, List, [], ◌∷◌, ◌++◌, length, take, drop, Option, Some, None, IfSome, option_map, refl, sym, ap, subst, ◌∙◌, inl, inr, arith}
use Rattle.std.specs.List.{All}
use Rattle.std.proofs.lemmas.List.Elements.{All-nil, All-append, All-cons}
use Rattle.pb_pmem.specs.declared.device.DeviceFault.{DeviceFault}
use Rattle.pb_pmem.specs.declared.line.Line.{Line}
use Rattle.pb_pmem.specs.declared.line.TheConstants.{LINES}
use Rattle.pb_pmem.specs.declared.log.LogOp.{LogOp}
use Rattle.pb_pmem.specs.declared.log.LogOp.TheVariants.{Whole, Back, Fence}
use Rattle.pb_pmem.specs.Contents.{contents}
use Rattle.pb_pmem.specs.Device.{Device, Tale, Fails, IsNoOp, IsWhole, IsReplay}
use Rattle.pb_pmem.specs.Lines.{line_at}
use Rattle.pb_pmem.specs.Operations.{IsFailedPrefix, after, Does, Stops, StopsBy}
use Rattle.pb_pmem.proofs.Lines.{contents-none, contents-first, contents-append, length-contents}
use Rattle.pb_pmem.proofs.OperationSteps.{does_none}
use Rattle.pb_object.specs.declared.kind.Kind.TheVariants.{Queue}
use Rattle.pb_object.specs.Standing.{side_count}
pub use Rattle.pb_object.proofs.Sides.{sides_few}
use Rattle.pb_layout.specs.declared.header.Header.{Header}
use Rattle.pb_layout.specs.Shape.{IsHeader}
use Rattle.pb_layout.specs.Header.{record_length}
use Rattle.pb_layout.specs.Record.{IsRecord}
use Rattle.pb_layout.specs.Cell.{cell_line_of}
use Rattle.pb_layout.specs.Region.{record_place, cell_place}
use Rattle.pb_layout.specs.RegionOps.{writes_over, commit_ops, spare_place}
use Rattle.pb_layout.specs.Represents.{record_at, record_in_use}
use Rattle.pb_layout.specs.ToldExits.{contents_of}
use Rattle.pb_layout.proofs.OneRecovery.{record_fits}
use Rattle.pb_layout.proofs.Records.{piece_is, line_at-piece}
use Rattle.pb_layout.proofs.SparseWrites.{over-spare, over-there}
use Rattle.pb_layout.proofs.Untouched.{Spares, record_at-spared, blocks_apart_of}
use Rattle.pb_layout_laws.proofs.CutOff.{cut_off_keeps}
use Rattle.pb_layout_laws.proofs.Geometry.{parity-lt, parity-one, record_after, record_after_cells, cell_below}
use Rattle.pb_pair.specs.declared.known.Doubt.{Doubt}
use Rattle.pb_pair.specs.declared.known.Known.{Known}
use Rattle.pb_pair.specs.declared.known.Known.TheVariants.{Sure, Failed}
use Rattle.pb_pair.specs.declared.side.Sides.{Sides}
use Rattle.pb_pair.specs.Cells.{IsNothing, IsFree}
use Rattle.pb_layout.specs.PutCell.{put_ops}
use Rattle.pb_pair.specs.Store.{staged_ops, stored_ops, stored_side, IsNext, IsFailedStore, doubt_of}
use Rattle.pb_pair.specs.View.{SideView, DoubtView, PairView, at_side, view_of_side, round_of_side, lines_of, no_side, forgotten, if_known, side_view, doubt_view, pair_view, HasRoom, IsSide, HoldsSide, IsDoubt, HoldsRecords, IsPair, HasFailed, HasForgotten}
use Rattle.pb_pair.proofs.HeldRecords.{SparesRecords, added_spares, cut_spares, commit-spares, commit_spares, IsDoubtHere, keeps_records, kept_where_told}
use Rattle.pb_pair.proofs.Told.{told_now, whole_contents, told_before}

-- A call that failed

-- a record in doubt belongs to the sides' round numbers alone
same_doubt_of : (head : Header) (first second other another : SideView) (doubt : DoubtView) → first.round ≡ other.round → second.round ≡ another.round → IsDoubt head first second doubt → IsDoubt head other another doubt
same_doubt_of head first second other another doubt one two is = record {
  here = is.here;
  long = is.long;
  own = subst (λ (n : ℕ). IsRecord head doubt.side (n + 1) doubt.lines) (rounds doubt.side) is.own;
}
  where
    rounds : (side : ℕ) → (at_side first second side).round ≡ (at_side other another side).round
    rounds zero = one
    rounds (suc side) = two

-- the pair after it
abbrev pub failed_as : PairView → Device → Option DoubtView → PairView
failed_as old device left = record {
  device = device;
  head = old.head;
  first = forgotten old.first;
  second = forgotten old.second;
  known = Failed;
  doubt = left;
}

-- it has the same records in use
forgotten_round : (first second : SideView) (side : ℕ) → (at_side (forgotten first) (forgotten second) side).round ≡ (at_side first second side).round
forgotten_round first second zero = refl
forgotten_round first second (suc side) = refl

failed_holds : (old : PairView) (device : Device) (left : Option DoubtView) (image : List Line) → HoldsRecords (record old { doubt = left }) image → HoldsRecords (failed_as old device left) image
failed_holds old device left image holds = record {
  in_use = in_use;
  in_doubt = λ doubt is called. ap (λ (n : ℕ). record_in_use image old.head doubt.side (n + 1)) (forgotten_round old.first old.second doubt.side) ∙ holds.in_doubt doubt is called;
}
  where
    in_use : (side : ℕ) → side < side_count old.head.kind → record_in_use image old.head side (round_of_side (failed_as old device left) side) ≡ lines_of (failed_as old device left) side
    in_use zero here = holds.in_use 0 here
    in_use (suc side) here = holds.in_use (suc side) here

-- what the device holds after a call that left this record in doubt
abbrev pub HoldsWith : PairView → Option DoubtView → Device → Type 0
HoldsWith old left device = (tale : Tale) → device.told ≡ Some tale → HoldsRecords (record old { doubt = left }) (contents_of tale)

pub failed_pair : (old : PairView) (device : Device) (left : Option DoubtView) → IsPair old → ((doubt : DoubtView) → left ≡ Some doubt → IsDoubt old.head old.first old.second doubt) → HoldsWith old left device → IsPair (failed_as old device left)
failed_pair old device left sound in_doubt records = record {
  valid = sound.valid;
  sides = sides;
  one_side = λ one. ap forgotten (sound.one_side one);
  holds = λ image now side here. holds image side;
  records = λ tale told. failed_holds old device left (contents_of tale) (records tale told);
  unsure_first = λ unsure. refl;
  unsure_second = λ unsure. refl;
  in_doubt = λ doubt is. same_doubt_of old.head old.first old.second (forgotten old.first) (forgotten old.second) doubt refl refl (in_doubt doubt is);
  decided = λ other. absurd (other refl);
}
  where
    sides : (side : ℕ) → side < side_count old.head.kind → IsSide old.head side (at_side (forgotten old.first) (forgotten old.second) side)
    sides zero here = let is = sound.sides 0 here in record { long = is.long; own = is.own }
    sides (suc side) here = let is = sound.sides (suc side) here in record { long = is.long; own = is.own }

    holds : (image : List Line) (side : ℕ) → HoldsSide old.head side (at_side (forgotten old.first) (forgotten old.second) side) image
    holds image zero = record { in_use = λ e. cc; spare = λ lines e. cc }
    holds image (suc side) = record { in_use = λ e. cc; spare = λ lines e. cc }

-- the fields of a pair whose call failed
pub record IsFailedAs (old : PairView) (sides : Sides) (known : Known) (doubt : Option Doubt) (left : Option DoubtView) : Type 0 where
  pub first : side_view sides.first ≡ forgotten old.first
  pub second : side_view sides.second ≡ forgotten old.second
  pub known_is : known ≡ Failed
  pub left_is : option_map (doubt_view sides) doubt ≡ left
  pub in_doubt : (d : DoubtView) → left ≡ Some d → IsDoubt old.head old.first old.second d

pub failed_view : (old : PairView) (device : Device) (sides : Sides) (known : Known) (doubt : Option Doubt) (left : Option DoubtView) → IsFailedAs old sides known doubt left → pair_view device old.head sides known doubt ≡ failed_as old device left
failed_view old device sides known doubt left are = λ i. record {
  device = device;
  head = old.head;
  first = are.first i;
  second = are.second i;
  known = are.known_is i;
  doubt = are.left_is i;
}

pub has_failed : (IsPrefix : List LogOp → Type 0) (old : PairView) (device : Device) (sides : Sides) (known : Known) (doubt : Option Doubt) (left : Option DoubtView) (fault : DeviceFault) → IsPair old → IsFailedAs old sides known doubt left → HoldsWith old left device → StopsBy IsPrefix fault old.device device → HasFailed IsPrefix left old fault (pair_view device old.head sides known doubt)
has_failed IsPrefix old device sides known doubt left fault sound are records stops = record {
  sound = subst IsPair (sym (failed_view old device sides known doubt left are)) (failed_pair old device left sound are.in_doubt records);
  device = stops;
  head = refl;
  first = are.first;
  second = are.second;
  known = are.known_is;
  doubt = are.left_is;
}

-- a call that wrote none of the records, where it is cut off
pub has_failed_beside : (IsPrefix : List LogOp → Type 0) (old : PairView) (device : Device) (sides : Sides) (known : Known) (doubt : Option Doubt) (fault : DeviceFault) → IsPair old → IsFailedAs old sides known doubt old.doubt → ((ops : List LogOp) → IsPrefix ops → SparesRecords old.head ops) → StopsBy IsPrefix fault old.device device → HasFailed IsPrefix old.doubt old fault (pair_view device old.head sides known doubt)
has_failed_beside IsPrefix old device sides known doubt fault sound are spares stops =
    has_failed IsPrefix old device sides known doubt old.doubt fault sound are (kept_where_told old stops.stops.ops device sound stops.stops.told (spares stops.stops.ops stops.stops.cut)) stops

-- the records stay in their memory
pub room_left : (old new : Sides) → HasRoom old → HasForgotten old new → HasRoom new
room_left old new room same = record {
  first = ap (λ v. length v.items) same.first_spare ∙ (room.first ∙ sym (ap (λ (part : SideView). length part.lines) same.first));
  second = ap (λ v. length v.items) same.second_spare ∙ (room.second ∙ sym (ap (λ (part : SideView). length part.lines) same.second));
}

pub doubt_left : (old new : Sides) (doubt : Option Doubt) → HasForgotten old new → option_map (doubt_view new) doubt ≡ option_map (doubt_view old) doubt
doubt_left old new None same = refl
doubt_left old new (Some doubt) same = λ i. Some (record {
  side = doubt.side;
  lines = at_side (same.first_spare i).items (same.second_spare i).items doubt.side;
  called = doubt.called;
})

-- a call that changed no record
pub fails_keeping : (device : Device) (head : Header) (old new : Sides) (known now : Known) (doubt : Option Doubt) → IsPair (pair_view device head old known doubt) → HasForgotten old new → now ≡ Failed → IsFailedAs (pair_view device head old known doubt) new now doubt (option_map (doubt_view old) doubt)
fails_keeping device head old new known now doubt sound same failed = record {
  first = same.first;
  second = same.second;
  known_is = failed;
  left_is = doubt_left old new doubt same;
  in_doubt = sound.in_doubt;
}

-- a call that stopped, with the counts that it answers
pub stops_by : (IsPrefix : List LogOp → Type 0) (old new : Device) (fault : DeviceFault) (from to : ℕ) → fault ≡ record { from = from; to = to } → from ≡ old.faults → to ≡ new.faults → Stops IsPrefix old new → StopsBy IsPrefix fault old new
stops_by IsPrefix old new fault from to is before after stops = record {
  from = ap (λ (f : DeviceFault). f.from) is ∙ before;
  to = ap (λ (f : DeviceFault). f.to) is ∙ after;
  stops = stops;
}

-- a read that failed
pub failed_read : (old new : Device) → Fails IsNoOp old new → Stops IsNothing old new
failed_read old new fails = record { rose = fails.rose; ops = []; cut = refl; told = same ∙ (does_none old).told }
  where
    same : new.told ≡ old.told
    same = elim fails.told [ inl e ↦ e | inr more ↦ absurd more.1 ]

-- What operations leave of the records

-- lines before a call, where they are told after it
pub now_before : (ops : List LogOp) (old new : Option (List Line)) (image : List Line) → new ≡ option_map (after ops) old → new ≡ Some image → (before : List Line) × (old ≡ Some before) × (image ≡ contents before ops)
now_before ops None new image grown now = absurd (cc (grown, now))
now_before ops (Some before) new image grown now = (before, refl, one_some image (contents before ops) (sym now ∙ grown))
  where
    one_some : (a b : List Line) → ◌≡◌ {A = Option (List Line)} (Some a) (Some b) → a ≡ b
    one_some a b e = cc

-- a pair over a device whose records are as before
pub moved_pair : (old : PairView) (device : Device) (ops : List LogOp) → IsPair old → Does ops old.device device → SparesRecords old.head ops → IsPair (record old { device = device })
moved_pair old device ops sound does spares = record {
  valid = sound.valid;
  sides = sound.sides;
  one_side = sound.one_side;
  holds = holds;
  records = λ tale told. let kept = kept_where_told old ops device sound does.told spares tale told in record { in_use = kept.in_use; in_doubt = kept.in_doubt };
  unsure_first = sound.unsure_first;
  unsure_second = sound.unsure_second;
  in_doubt = sound.in_doubt;
  decided = sound.decided;
}
  where
    holds : (image : List Line) → device.now ≡ Some image → (side : ℕ) → side < side_count old.head.kind → HoldsSide old.head side (view_of_side old side) image
    holds image now side here =
        let before = now_before ops old.device.now device.now image does.now now in
        let was = sound.holds before.0 before.1 side here in
        let same = λ (which : ℕ). ap (λ (l : List Line). record_at l old.head side which) before.2 ∙ record_at-spared ops before.0 old.head side which (spares side which here) in
        record {
          in_use = λ written. same ((view_of_side old side).round % 2) ∙ was.in_use written;
          spare = λ lines is. same (((view_of_side old side).round + 1) % 2) ∙ was.spare lines is;
        }

pub sure_not_failed : ◌≡◌ {A = Known} Sure Failed → ⊥
sure_not_failed e = cc

-- Putting a cell

pub put_spares : (head : Header) (position value : ℕ) → IsHeader head → head.kind ≡ Queue → SparesRecords head (put_ops head position value)
put_spares head position value valid queue side which here =
    let Out : LogOp → Type 0 = Spares (record_place head side which) (record_length head) in
    All-cons Out (Whole (cell_place head position) (cell_line_of position value)) (Back (cell_place head position) 1 ∷ []) (inl (omega (arith, cell_below head position valid queue, record_after_cells head side which)))
    (All-cons Out (Back (cell_place head position) 1) [] tt (All-nil Out))

pub put_pair : (old : PairView) (device : Device) (position value : ℕ) → IsPair old → IsFree old position → Does (put_ops old.head position value) old.device device → IsPair (record old { device = device })
put_pair old device position value sound free does =
    moved_pair old device (put_ops old.head position value) sound does (put_spares old.head position value sound.valid free.queue)

pub put_none : (old : PairView) (position : ℕ) → IsPair old → IsFree old position → old.doubt ≡ None
put_none old position sound free = sound.decided (λ failed. sure_not_failed (sym free.known ∙ failed))

-- Storing

-- it leaves another record as it is
staged-spares : (head : Header) (side : ℕ) (part : SideView) (lines : List Line) (other which : ℕ) → length lines ≡ record_length head → 2 * other + which ≢ 2 * side + (part.round + 1) % 2 → All (Spares (record_place head other which) (record_length head)) (staged_ops head side part lines)
staged-spares head side part lines other which long apart =
    let Out : LogOp → Type 0 = Spares (record_place head other which) (record_length head) in
    let first = spare_place head side part.round in
    All-append Out (writes_over first part.spare lines) (Back first (length lines) ∷ Fence ∷ [])
    (over-spare (record_place head other which) (record_length head) first part.spare lines (blocks_apart_of head side ((part.round + 1) % 2) other which (length lines) long apart))
    (All-cons Out (Back first (length lines)) (Fence ∷ []) tt (All-cons Out Fence [] tt (All-nil Out)))

pub stored-spares : (head : Header) (side : ℕ) (part : SideView) (lines : List Line) (other which : ℕ) → side < 2 → length lines ≡ record_length head → 2 * other + which ≢ 2 * side + (part.round + 1) % 2 → All (Spares (record_place head other which) (record_length head)) (stored_ops head side part lines)
stored-spares head side part lines other which few long apart =
    All-append (Spares (record_place head other which) (record_length head)) (staged_ops head side part lines) (commit_ops side (part.round + 1))
    (staged-spares head side part lines other which long apart)
    (commit-spares (record_place head other which) (record_length head) side (part.round + 1) few (record_after head other which))

-- the lines are there after they are written, given to the device and fenced ..
given_same : (image : List Line) (first many : ℕ) → contents image (Back first many ∷ Fence ∷ []) ≡ image
given_same image first many =
    contents-first image (Back first many) (Fence ∷ []) ∙ (contents-first image Fence [] ∙ contents-none image)

staged_there : (image : List Line) (head : Header) (side : ℕ) (part : SideView) (lines : List Line) → length image ≡ LINES → IsHeader head → side < side_count head.kind → length lines ≡ record_length head → HoldsSide head side part image → record_at (contents image (staged_ops head side part lines)) head side ((part.round + 1) % 2) ≡ lines
staged_there image head side part lines whole valid here long holds =
    ap (λ (n : ℕ). take n (drop first new)) (sym long) ∙ piece_is new lines first (omega (arith, fits, length-contents image (staged_ops head side part lines))) at
  where
    first : ℕ
    first = spare_place head side part.round

    new : List Line
    new = contents image (staged_ops head side part lines)

    writes : List LogOp
    writes = writes_over first part.spare lines

    same : new ≡ contents image writes
    same = contents-append image writes (Back first (length lines) ∷ Fence ∷ []) ∙ given_same (contents image writes) first (length lines)

    fits : first + length lines ≤ length image
    fits = omega (arith, record_fits head side ((part.round + 1) % 2) valid here (parity-lt (part.round + 1)))

    before : (old : List Line) → part.spare ≡ Some old → (place : ℕ) → place < length lines → line_at image (first + place) ≡ line_at old place
    before old is place inside =
        sym (line_at-piece image first (record_length head) place (omega (arith, long))) ∙ ap (λ (l : List Line). line_at l place) (holds.spare old is)

    at : (place : ℕ) → place < length lines → line_at new (first + place) ≡ line_at lines place
    at place inside =
        ap (λ (l : List Line). line_at l (first + place)) same ∙ over-there image first part.spare lines before fits place inside

-- .. and after the store
stored_there : (image : List Line) (head : Header) (side : ℕ) (part : SideView) (lines : List Line) → length image ≡ LINES → IsHeader head → side < side_count head.kind → length lines ≡ record_length head → HoldsSide head side part image → record_at (contents image (stored_ops head side part lines)) head side ((part.round + 1) % 2) ≡ lines
stored_there image head side part lines whole valid here long holds =
    ap (λ (l : List Line). record_at l head side ((part.round + 1) % 2)) (contents-append image (staged_ops head side part lines) (commit_ops side (part.round + 1)))
    ∙ (record_at-spared (commit_ops side (part.round + 1)) (contents image (staged_ops head side part lines)) head side ((part.round + 1) % 2) (commit_spares head side (part.round + 1) (sides_few head.kind side here) side ((part.round + 1) % 2) here)
    ∙ staged_there image head side part lines whole valid here long holds)

known_lines : (written : Bool) (lines known : List Line) → if_known written lines ≡ Some known → (written ≡ true) × (lines ≡ known)
known_lines true lines known e = (refl, cc)
known_lines false lines known e = absurd (cc)

-- what is known of the stored side
stored_holds : (image : List Line) (head : Header) (side : ℕ) (part : SideView) (lines : List Line) → length image ≡ LINES → IsHeader head → side < side_count head.kind → length lines ≡ record_length head → HoldsSide head side part image → HoldsSide head side (stored_side part lines) (contents image (stored_ops head side part lines))
stored_holds image head side part lines whole valid here long holds = record {
  in_use = λ written. stored_there image head side part lines whole valid here long holds;
  spare = spare;
}
  where
    other : 2 * side + part.round % 2 ≢ 2 * side + (part.round + 1) % 2
    other e = parity-one part.round (omega arith)

    spare : (known : List Line) → if_known part.written part.lines ≡ Some known → record_at (contents image (stored_ops head side part lines)) head side ((part.round + 1 + 1) % 2) ≡ known
    spare known is =
        let told = known_lines part.written part.lines known is in
        let two : (part.round + 1 + 1) % 2 ≡ part.round % 2 = omega arith in
        ap (record_at (contents image (stored_ops head side part lines)) head side) two
        ∙ (record_at-spared (stored_ops head side part lines) image head side (part.round % 2) (stored-spares head side part lines side (part.round % 2) (sides_few head.kind side here) long other)
        ∙ (holds.in_use told.0 ∙ told.1))

-- and of the other one
other_holds : (image : List Line) (head : Header) (side other : ℕ) (part another : SideView) (lines : List Line) → side < side_count head.kind → other ≢ side → length lines ≡ record_length head → HoldsSide head other another image → HoldsSide head other another (contents image (stored_ops head side part lines))
other_holds image head side other part another lines here apart long holds =
    let kept : (which : ℕ) → which < 2 → record_at (contents image (stored_ops head side part lines)) head other which ≡ record_at image head other which =
    λ which low. record_at-spared (stored_ops head side part lines) image head other which (stored-spares head side part lines other which (sides_few head.kind side here) long (λ e. apart (omega (arith, low, parity-lt (part.round + 1))))) in
    record {
      in_use = λ written. kept (another.round % 2) (parity-lt another.round) ∙ holds.in_use written;
      spare = λ known is. kept ((another.round + 1) % 2) (parity-lt (another.round + 1)) ∙ holds.spare known is;
    }

-- the pair after a store
abbrev pub stored_as : PairView → Device → ℕ → List Line → PairView
stored_as old device side lines = record {
  device = device;
  head = old.head;
  first = at_side (stored_side old.first lines) old.first side;
  second = at_side old.second (stored_side old.second lines) side;
  known = Sure;
  doubt = None;
}

-- The records, where the device tells its log

-- no side's record in use is the spare one of this side
pub in_use_is_other : (pair : PairView) (side other : ℕ) → 2 * other + round_of_side pair other % 2 ≢ 2 * side + (round_of_side pair side + 1) % 2
in_use_is_other pair side other e =
    let same : other ≡ side = omega (arith, e, parity-lt (round_of_side pair other), parity-lt (round_of_side pair side + 1)) in
    parity-one (round_of_side pair side) (omega (arith, e, same, ap (round_of_side pair) same))

one_doubt : (a b : DoubtView) → ◌≡◌ {A = Option DoubtView} (Some a) (Some b) → a ≡ b
one_doubt a b e = cc

-- the record that a store put in its place
abbrev this_doubt : ℕ → List Line → DoubtView
this_doubt side lines = record { side = side; lines = lines; called = true }

staged_holds : (old : PairView) (side : ℕ) (lines image : List Line) → IsPair old → length image ≡ LINES → old.device.now ≡ Some image → IsNext old side lines → HoldsRecords old image → HoldsRecords (record old { doubt = doubt_of side lines true }) (contents image (staged_ops old.head side (view_of_side old side) lines))
staged_holds old side lines image sound whole now next holds = record {
  in_use = λ other here. record_at-spared ops image old.head other (round_of_side old other % 2) (staged-spares old.head side (view_of_side old side) lines other (round_of_side old other % 2) next.long (in_use_is_other old side other)) ∙ holds.in_use other here;
  in_doubt = λ doubt is called. subst (λ (d : DoubtView). record_in_use (contents image ops) old.head d.side (round_of_side old d.side + 1) ≡ d.lines) (one_doubt (this_doubt side lines) doubt is) there;
}
  where
    ops : List LogOp
    ops = staged_ops old.head side (view_of_side old side) lines

    there : record_in_use (contents image ops) old.head side (round_of_side old side + 1) ≡ lines
    there = staged_there image old.head side (view_of_side old side) lines whole sound.valid next.here next.long (sound.holds image now side next.here)

this_here : (old : PairView) (side : ℕ) (lines : List Line) → side < side_count old.head.kind → IsDoubtHere (record old { doubt = doubt_of side lines true })
this_here old side lines here doubt is = subst (λ (d : DoubtView). d.side < side_count old.head.kind) (one_doubt (this_doubt side lines) doubt is) here

-- a store that failed before its index word ..
unstaged_holds : (old : PairView) (side : ℕ) (lines image : List Line) (ops : List LogOp) → IsNext old side lines → IsFailedPrefix (staged_ops old.head side (view_of_side old side) lines) ops → HoldsRecords old image → HoldsRecords (record old { doubt = doubt_of side lines false }) (contents image ops)
unstaged_holds old side lines image ops next cut holds = record {
  in_use = λ other here. record_at-spared ops image old.head other (round_of_side old other % 2) (cut_off_keeps (Spares (record_place old.head other (round_of_side old other % 2)) (record_length old.head)) (added_spares (record_place old.head other (round_of_side old other % 2)) (record_length old.head)) (staged_ops old.head side (view_of_side old side) lines) ops (staged-spares old.head side (view_of_side old side) lines other (round_of_side old other % 2) next.long (in_use_is_other old side other)) cut) ∙ holds.in_use other here;
  in_doubt = λ doubt is called. absurd (cc (is, called));
}

-- .. and from it on
failed_store_holds : (called : Bool) (old : PairView) (side : ℕ) (lines image : List Line) (ops : List LogOp) → IsPair old → length image ≡ LINES → old.device.now ≡ Some image → IsNext old side lines → IsFailedStore old.head side (view_of_side old side) lines called ops → HoldsRecords old image → HoldsRecords (record old { doubt = doubt_of side lines called }) (contents image ops)
failed_store_holds false old side lines image ops sound whole now next cut holds = unstaged_holds old side lines image ops next cut holds
failed_store_holds true old side lines image ops sound whole now next cut holds =
    let staged = staged_ops old.head side (view_of_side old side) lines in
    let left : PairView = record old { doubt = doubt_of side lines true } in
    subst (HoldsRecords left) (sym (ap (contents image) cut.whole ∙ contents-append image staged cut.tail))
    (keeps_records left cut.tail (contents image staged) (this_here old side lines next.here) (cut_spares old.head (commit_ops side (round_of_side old side + 1)) cut.tail (commit_spares old.head side (round_of_side old side + 1) (sides_few old.head.kind side next.here)) cut.cut) (staged_holds old side lines image sound whole now next holds))

-- where the log was told before a call
pub after_failed_store : (called : Bool) (old : PairView) (device : Device) (side : ℕ) (lines : List Line) → IsPair old → IsWhole old.device → IsReplay old.device → IsNext old side lines → Stops (IsFailedStore old.head side (view_of_side old side) lines called) old.device device → HoldsWith old (doubt_of side lines called) device
after_failed_store called old device side lines sound whole replay next stops tale told =
    let before = told_before stops.ops old.device.told device.told tale stops.told told in
    subst (HoldsRecords (record old { doubt = doubt_of side lines called })) (sym before.2)
    (failed_store_holds called old side lines (contents_of before.0) stops.ops sound (whole_contents old.device before.0 whole replay before.1) (told_now old.device before.0 replay before.1) next stops.cut (sound.records before.0 before.1))

-- a whole store
stored_records : (old : PairView) (device : Device) (side : ℕ) (lines image : List Line) → side < side_count old.head.kind → HoldsRecords (record old { doubt = doubt_of side lines true }) image → HoldsRecords (stored_as old device side lines) image
stored_records old device side lines image here holds = record { in_use = in_use side here (holds.in_doubt (this_doubt side lines) refl refl); in_doubt = λ doubt is called. absurd (cc) }
  where
    in_use : (side : ℕ) → side < side_count old.head.kind → record_in_use image old.head side (round_of_side old side + 1) ≡ lines → (other : ℕ) → other < side_count old.head.kind → record_in_use image old.head other (round_of_side (stored_as old device side lines) other) ≡ lines_of (stored_as old device side lines) other
    in_use zero here there zero within = there
    in_use zero here there (suc other) within = holds.in_use (suc other) within
    in_use (suc side) here there zero within = holds.in_use 0 within
    in_use (suc side) here there (suc other) within =
        let few = sides_few old.head.kind (suc side) here in
        let low = sides_few old.head.kind (suc other) within in
        let same : suc side ≡ suc other = omega arith in
        subst (λ (n : ℕ). record_in_use image old.head n (old.second.round + 1) ≡ lines) same there

stored_hold : (old : PairView) (device : Device) (side : ℕ) (lines image : List Line) → IsPair old → length image ≡ LINES → old.device.now ≡ Some image → IsNext old side lines → HoldsRecords old image → HoldsRecords (stored_as old device side lines) (contents image (stored_ops old.head side (view_of_side old side) lines))
stored_hold old device side lines image sound whole now next holds =
    let staged = staged_ops old.head side (view_of_side old side) lines in
    let commit = commit_ops side (round_of_side old side + 1) in
    let left : PairView = record old { doubt = doubt_of side lines true } in
    stored_records old device side lines (contents image (staged ++ commit)) next.here
    (subst (HoldsRecords left) (sym (contents-append image staged commit))
    (keeps_records left commit (contents image staged) (this_here old side lines next.here) (commit_spares old.head side (round_of_side old side + 1) (sides_few old.head.kind side next.here)) (staged_holds old side lines image sound whole now next holds)))

after_store : (old : PairView) (device : Device) (side : ℕ) (lines : List Line) → IsPair old → IsWhole old.device → IsReplay old.device → IsNext old side lines → Does (stored_ops old.head side (view_of_side old side) lines) old.device device → (tale : Tale) → device.told ≡ Some tale → HoldsRecords (stored_as old device side lines) (contents_of tale)
after_store old device side lines sound whole replay next does tale told =
    let before = told_before (stored_ops old.head side (view_of_side old side) lines) old.device.told device.told tale does.told told in
    subst (HoldsRecords (stored_as old device side lines)) (sym before.2)
    (stored_hold old device side lines (contents_of before.0) sound (whole_contents old.device before.0 whole replay before.1) (told_now old.device before.0 replay before.1) next (sound.records before.0 before.1))

pub stored_pair : (old : PairView) (device : Device) (side : ℕ) (lines : List Line) → IsPair old → IsWhole old.device → IsReplay old.device → IsNext old side lines → Does (stored_ops old.head side (view_of_side old side) lines) old.device device → IsPair (stored_as old device side lines)
stored_pair old device side lines sound whole replay next does = record {
  valid = sound.valid;
  sides = sides side next.here next.long next.own;
  one_side = one_side side next.here;
  holds = λ image now. let before = now_before (stored_ops old.head side (view_of_side old side) lines) old.device.now device.now image does.now now in λ other here. subst (HoldsSide old.head other (view_of_side (stored_as old device side lines) other)) (sym before.2) (holds before.0 (whole_image before.0 before.1) (sound.holds before.0 before.1) side other next.here next.long here);
  records = after_store old device side lines sound whole replay next does;
  unsure_first = λ unsure. absurd (unsure refl);
  unsure_second = λ unsure. absurd (unsure refl);
  in_doubt = λ doubt e. absurd (cc);
  decided = λ other. refl;
}
  where
    whole_image : (image : List Line) → old.device.now ≡ Some image → length image ≡ LINES
    whole_image image now = subst (λ (o : Option (List Line)). IfSome o (λ lines. length lines ≡ LINES)) now whole

    sides : (side : ℕ) → side < side_count old.head.kind → length lines ≡ record_length old.head → IsRecord old.head side ((view_of_side old side).round + 1) lines → (other : ℕ) → other < side_count old.head.kind → IsSide old.head other (view_of_side (stored_as old device side lines) other)
    sides zero here long own zero within = record { long = long; own = own }
    sides zero here long own (suc other) within = sound.sides (suc other) within
    sides (suc side) here long own zero within = sound.sides zero within
    sides (suc side) here long own (suc other) within =
        let few = sides_few old.head.kind (suc side) here in
        let low = sides_few old.head.kind (suc other) within in
        let same : suc side ≡ suc other = omega arith in
        record { long = long; own = subst (λ (n : ℕ). IsRecord old.head n (old.second.round + 1) lines) same own }

    one_side : (side : ℕ) → side < side_count old.head.kind → side_count old.head.kind ≡ 1 → at_side old.second (stored_side old.second lines) side ≡ no_side
    one_side zero here one = sound.one_side one
    one_side (suc side) here one = absurd (omega arith)

    holds : (image : List Line) → length image ≡ LINES → ((other : ℕ) → other < side_count old.head.kind → HoldsSide old.head other (view_of_side old other) image) → (side other : ℕ) → side < side_count old.head.kind → length lines ≡ record_length old.head → other < side_count old.head.kind → HoldsSide old.head other (view_of_side (stored_as old device side lines) other) (contents image (stored_ops old.head side (view_of_side old side) lines))
    holds image full was zero zero here long within = stored_holds image old.head 0 old.first lines full sound.valid here long (was 0 here)
    holds image full was zero (suc other) here long within = other_holds image old.head 0 (suc other) old.first old.second lines here (λ e. omega arith) long (was (suc other) within)
    holds image full was (suc side) zero here long within = other_holds image old.head (suc side) 0 old.second old.first lines here (λ e. omega arith) long (was 0 within)
    holds image full was (suc side) (suc other) here long within =
        let few = sides_few old.head.kind (suc side) here in
        let low = sides_few old.head.kind (suc other) within in
        let same : suc side ≡ suc other = omega arith in
        subst (λ (n : ℕ). HoldsSide old.head n (stored_side old.second lines) (contents image (stored_ops old.head (suc side) old.second lines))) same (stored_holds image old.head (suc side) old.second lines full sound.valid here long (was (suc side) here))
