-- Whether a pair's device holds the records in use that the pair has in memory.
use Rattle.std.proofs.Common.{◌≡◌, ◌≢◌, ℕ, zero, suc, ◌%◌, ◌<◌, true, List, IfSome, option_map, sym, ap, subst, ◌∙◌, inl, inr, arith}
use Rattle.std.specs.List.{All}
use Rattle.std.proofs.lemmas.Bool.{cases_eq}
use Rattle.pb_pmem.specs.declared.line.Line.{Line}
use Rattle.pb_pmem.specs.declared.log.LogOp.{LogOp}
use Rattle.pb_pmem.specs.Contents.{contents}
use Rattle.pb_pmem.specs.Operations.{after}
use Rattle.pb_object.specs.Standing.{side_count}
use Rattle.pb_layout.specs.declared.header.Header.{Header}
use Rattle.pb_layout.specs.Header.{record_length}
use Rattle.pb_layout.specs.Region.{record_place}
use Rattle.pb_layout.specs.Represents.{record_in_use}
use Rattle.pb_layout.proofs.Untouched.{Spares, record_at-spared}
use Rattle.pb_pair.specs.Open.{IsOpened, IsReadFrom}
use Rattle.pb_pair.specs.Settle.{settled_ops, IsSettled}
use Rattle.pb_pair.specs.Store.{stored_ops, stored_side, IsNext, IsStored}
use Rattle.pb_pair.specs.View.{SideView, PairView, IsPair, view_of_side, round_of_side, lines_of, forgotten}
use Rattle.pb_pair.proofs.Opened.{told_weaker}
use Rattle.pb_pair.proofs.Pairs.{sides_few, stored-spares, in_use_is_other}
use Rattle.pb_pair.proofs.Settled.{settled_spares}
use Rattle.pb_pair.proofs.Told.{where_told, if_some_mapped}

-- where the device tells its lines, a side's record in use is the one in memory
abbrev pub HasInUse : PairView → ℕ → Type 0
HasInUse pair side = IfSome pair.device.now (λ image. record_in_use image pair.head side (round_of_side pair side) ≡ lines_of pair side)

-- it is so where the pair wrote the record
pub written_in_use : (pair : PairView) (side : ℕ) → IsPair pair → side < side_count pair.head.kind → (view_of_side pair side).written ≡ true → HasInUse pair side
written_in_use pair side sound here written =
    where_told (λ (image : List Line). record_in_use image pair.head side (round_of_side pair side) ≡ lines_of pair side) pair.device.now
    (λ image now. (sound.holds image now side here).in_use written)

-- .. and where it read it
pub opened_in_use : (pair : PairView) (side : ℕ) → IsOpened pair.device pair → side < side_count pair.head.kind → HasInUse pair side
opened_in_use pair side opened here =
    told_weaker pair.device.now (IsReadFrom pair) (λ (image : List Line). record_in_use image pair.head side (round_of_side pair side) ≡ lines_of pair side)
    (λ image read. (λ i. record_in_use image (read.head i) side (read.rounds side here i)) ∙ sym (read.records side here)) opened.read

-- a side that stays, over operations that don't write its record in use
pub record StaysInUse (old new : PairView) (ops : List LogOp) (side : ℕ) : Type 0 where
  pub head : new.head ≡ old.head
  pub round : round_of_side new side ≡ round_of_side old side
  pub lines : lines_of new side ≡ lines_of old side
  pub now : new.device.now ≡ option_map (after ops) old.device.now
  pub spares : All (Spares (record_place old.head side (round_of_side old side % 2)) (record_length old.head)) ops

pub stays_in_use : (old new : PairView) (ops : List LogOp) (side : ℕ) → StaysInUse old new ops side → HasInUse old side → HasInUse new side
stays_in_use old new ops side stays held =
    if_some_mapped Held Held (λ (image : List Line). record_in_use image new.head side (round_of_side new side) ≡ lines_of new side) (after ops) old.device.now new.device.now stays.now held held
    (λ image here _. (λ i. record_in_use (contents image ops) (stays.head i) side (stays.round i)) ∙ (record_at-spared ops image old.head side (round_of_side old side % 2) stays.spares ∙ (here ∙ sym stays.lines)))
  where
    Held : List Line → Type 0
    Held image = record_in_use image old.head side (round_of_side old side) ≡ lines_of old side

-- A store

-- its own side
stored_part : (side : ℕ) (lines : List Line) (old new : PairView) → IsStored side lines old new → view_of_side new side ≡ stored_side (view_of_side old side) lines
stored_part zero lines old new stored = stored.first
stored_part (suc side) lines old new stored = stored.second

-- the other one
other_part : (side other : ℕ) (lines : List Line) (old new : PairView) → side < 2 → other < 2 → other ≢ side → IsStored side lines old new → view_of_side new other ≡ view_of_side old other
other_part zero zero lines old new few low apart stored = absurd (apart (omega arith))
other_part zero (suc other) lines old new few low apart stored = stored.second
other_part (suc side) zero lines old new few low apart stored = stored.first
other_part (suc side) (suc other) lines old new few low apart stored = absurd (apart (omega (arith, few, low)))

pub stored_in_use : (side : ℕ) (lines : List Line) (old new : PairView) (other : ℕ) → IsStored side lines old new → IsNext old side lines → other < side_count old.head.kind → HasInUse old other → HasInUse new other
stored_in_use side lines old new other stored next here held = elim (cases_eq other side) [
  | inl same ↦ written_in_use new other stored.sound (subst (λ (h : Header). other < side_count h.kind) (sym stored.head) here)
      (subst (λ (n : ℕ). (view_of_side new n).written ≡ true) (sym same) (ap (λ (part : SideView). part.written) (stored_part side lines old new stored)))
  | inr apart ↦ beside apart
]
  where
    few : side < 2
    few = sides_few old.head.kind side next.here

    beside : other ≢ side → HasInUse new other
    beside apart =
        let part : view_of_side new other ≡ view_of_side old other = other_part side other lines old new few (sides_few old.head.kind other here) apart stored in
        stays_in_use old new (stored_ops old.head side (view_of_side old side) lines) other (record {
          head = stored.head;
          round = ap (λ (p : SideView). p.round) part;
          lines = ap (λ (p : SideView). p.lines) part;
          now = stored.device.now;
          spares = stored-spares old.head side (view_of_side old side) lines other (round_of_side old other % 2) few next.long (in_use_is_other old side other);
        }) held

-- A settling with no record in doubt

pub settled_in_use : (old new : PairView) (side : ℕ) → IsSettled old new → view_of_side new side ≡ forgotten (view_of_side old side) → side < side_count old.head.kind → HasInUse old side → HasInUse new side
settled_in_use old new side settled part here held =
    stays_in_use old new (settled_ops old) side (record {
      head = settled.head;
      round = ap (λ (p : SideView). p.round) part;
      lines = ap (λ (p : SideView). p.lines) part;
      now = settled.device.now;
      spares = settled_spares old side (round_of_side old side % 2) here;
    }) held
