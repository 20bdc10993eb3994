-- What opening, storing and settling come to, one after the other.
use Rattle.std.proofs.Common.{◌≡◌, ℕ, zero, suc, ◌+◌, ◌<◌, ◌≤◌, ◌⊎◌, true, false, List, [], ◌∷◌, length, Option, Some, IfSome, slice_index, refl, sym, ap, subst, ◌∙◌, inl, inr, arith}
use Rattle.std.proofs.lemmas.Bool.{cases_lt}
use Rattle.std.proofs.lemmas.List.{length-set}
use Rattle.pb_pmem.specs.declared.device.DeviceFault.{DeviceFault}
use Rattle.pb_pmem.specs.declared.line.Line.{Line}
use Rattle.pb_pmem.specs.declared.log.LogOp.{LogOp}
use Rattle.pb_pmem.specs.Device.{Device, Tale}
use Rattle.pb_pmem.specs.Operations.{IsFailedPrefix, Does, Stops}
use Rattle.pb_object.specs.History.{Round, IsLegalRound, after_round}
use Rattle.pb_object.specs.Standing.{Standing, side_count, rounds_of}
use Rattle.pb_object.proofs.Sides.{few_sides, sides_few}
use Rattle.pb_layout.specs.Damage.{HasRegion, opening_checks, state_checks, region_checks}
use Rattle.pb_layout.specs.Header.{word}
use Rattle.pb_layout.specs.Recovered.{Represents}
use Rattle.pb_layout.specs.Represents.{header_for, record_in_use, record_of_side}
use Rattle.pb_layout.specs.ToldExits.{IsReadyWith, StaysFound, contents_of}
use Rattle.pb_layout.proofs.Checks.{all_sound, named_before, region_sharp}
use Rattle.pb_layout.proofs.OneRecovery.{region_from, parts}
use Rattle.pb_layout_laws.proofs.ReadyWithOne.{only_member}
use Rattle.pb_layout_laws.proofs.WritingRegion.{one_or_two}
use Rattle.pb_layout_laws.proofs.Rounds.{next_rounds, next_rounds_other, next_round_list, next_header}
use Rattle.pb_layout_laws.proofs.Settling.{settling_may_be_repeated}
use Rattle.pb_pair.specs.declared.why.Why.{Why}
use Rattle.pb_pair.specs.declared.why.Why.TheVariants.{Memory, Device as DeviceWhy, Taken, NoRegion, Damaged}
use Rattle.pb_pair.specs.Open.{IsReadFrom, IsOpened, IsRefusedAt, IsOpenRefusal}
use Rattle.pb_pair.specs.Safe.{IsPairOf, IsStoreOf, IsDoubtOf}
use Rattle.pb_pair.specs.Settle.{IsSettled, settled_ops, was_called}
use Rattle.pb_pair.specs.Store.{IsNext, IsStored, HasFailedStore}
use Rattle.pb_pair.specs.View.{DoubtView, SideView, PairView, round_of_side, lines_of, IsPair, HasFailed}
use Rattle.pb_pair.proofs.Opened.{header_is}
use Rattle.pb_pair.proofs.Safe.{settles_found, round_after, not_called}
use Rattle.pb_pair.proofs.Told.{told_after}

told_is : {X : Type 0} (now : Option X) (x : X) (P : X → Type 0) → now ≡ Some x → IfSome now P → P x
told_is now x P is told = subst (λ o. IfSome o P) is told

pub what_stands_is_opened : (old new : Device) (why : Why) (lines : List Line) (s : Standing) → IsOpenRefusal old new why → old.now ≡ Some lines → Represents lines s → (why ≡ Memory) ⊎ ((fault : DeviceFault) × (why ≡ DeviceWhy fault))
what_stands_is_opened old new Memory lines s refusal now stands = inl refl
what_stands_is_opened old new (DeviceWhy fault) lines s refusal now stands = inr (fault, refl)
what_stands_is_opened old new Taken lines s refusal now stands = absurd refusal
what_stands_is_opened old new NoRegion lines s refusal now stands =
    absurd (told_is old.now lines (λ l. ¬ HasRegion l) now refusal.1 (region_from lines s (parts lines s stands)))
what_stands_is_opened old new (Damaged line) lines s refusal now stands =
    absurd (all_sound (region_checks lines) (region_sharp lines) line (named_before (opening_checks lines) (state_checks lines) line (told_is old.now lines (IsRefusedAt line) now refusal.1).first) stands.passes)

some_side : (pair : PairView) → 0 < side_count pair.head.kind
some_side pair = elim (one_or_two pair.head.kind) [ inl one ↦ omega (arith, one) | inr two ↦ omega (arith, two) ]

no_rounds : (rounds : List ℕ) (side : ℕ) → length rounds ≤ side → slice_index rounds side ≡ 0
no_rounds [] side past = refl
no_rounds (round ∷ rounds) zero past = absurd (omega arith)
no_rounds (round ∷ rounds) (suc side) past = no_rounds rounds side (omega arith)

pub opening_finds_what_stands : (device : Device) (pair : PairView) (lines : List Line) (s : Standing) → IsOpened device pair → device.now ≡ Some lines → Represents lines s → IsPairOf pair s
opening_finds_what_stands device pair lines s opened now stands = record { head = head; rounds = rounds }
  where
    read : IsReadFrom pair lines
    read = told_is device.now lines (IsReadFrom pair) now opened.read

    head : pair.head ≡ header_for s
    head = read.head ∙ header_is lines (header_for s) (parts lines s stands).header

    sides : side_count pair.head.kind ≡ side_count s.kind
    sides = ap (λ h. side_count h.kind) head

    past_one : (side : ℕ) → side < 2 → side_count pair.head.kind ≤ side → round_of_side pair side ≡ 0
    past_one zero below past = absurd (omega (arith, some_side pair))
    past_one (suc side) below past = ap (λ (part : SideView). part.round) (opened.sound.one_side (omega (arith, some_side pair, few_sides pair.head.kind)))

    rounds : (side : ℕ) → side < 2 → round_of_side pair side ≡ rounds_of s side
    rounds side below =
        elim (cases_lt side (side_count pair.head.kind)) [
          | inl here ↦ read.rounds side here ∙ ap (λ (l : Line). word l 0) ((parts lines s stands).rounds side below)
          | inr past ↦ past_one side below past ∙ sym (no_rounds s.rounds side (omega (arith, (parts lines s stands).sides, sides)))
        ]

pub settling_keeps_what_was_found : (old : PairView) (new : Device) (tale : Tale) (s : Standing) → old.device.told ≡ Some tale → IsReadyWith (Some s ∷ []) tale → IsPairOf old s → was_called old.doubt ≡ false → Does (settled_ops old) old.device new ⊎ Stops (IsFailedPrefix (settled_ops old)) old.device new → StaysFound tale new s
settling_keeps_what_was_found old new tale s told ready of not (inl does) = record {
  ops = settled_ops old;
  told = told_after old.device.told new.told tale (settled_ops old) told does.told;
  images = settling_may_be_repeated tale.base tale.log (settled_ops old) s ready (inr (settles_found old s of not));
}
settling_keeps_what_was_found old new tale s told ready of not (inr stops) = record {
  ops = stops.ops;
  told = told_after old.device.told new.told tale stops.ops told stops.told;
  images = settling_may_be_repeated tale.base tale.log stops.ops s ready (inl (subst (λ (all : List LogOp). IsFailedPrefix all stops.ops) (settles_found old s of not) stops.cut));
}

-- A pair of the next standing

-- the round numbers of both sides
both_sides : (P : ℕ → Type 0) → P 0 → P 1 → (side : ℕ) → side < 2 → P side
both_sides P first second zero below = first
both_sides P first second (suc side) below = let one : 1 ≡ suc side = omega arith in subst P one second

pub settled_found : (old new : PairView) (s : Standing) → IsSettled old new → IsPairOf old s → was_called old.doubt ≡ false → IsPairOf new s
settled_found old new s settled of not = record {
  head = settled.head ∙ of.head;
  rounds = both_sides (λ side. round_of_side new side ≡ rounds_of s side)
      (ap (λ (part : SideView). part.round) (settled.first ∙ not_called old.doubt 0 old.first not) ∙ of.rounds 0 (omega arith))
      (ap (λ (part : SideView). part.round) (settled.second ∙ not_called old.doubt 1 old.second not) ∙ of.rounds 1 (omega arith));
}

sides_of : (lines : List Line) (s : Standing) (round : Round) → Represents lines s ⊎ Represents lines (after_round s round) → length s.rounds ≡ side_count s.kind
sides_of lines s round (inl before) = (parts lines s before).sides
sides_of lines s round (inr after) =
    sym (length-set s.rounds round.side (rounds_of s round.side + 1)) ∙ (sym (ap length (next_round_list s round)) ∙ ((parts lines (after_round s round) after).sides ∙ ap (λ h. side_count h.kind) (next_header s round)))

pub settled_decided : (old new : PairView) (s : Standing) (round : Round) (lines : List Line) → IsSettled old new → IsDoubtOf old s round → Represents lines s ⊎ Represents lines (after_round s round) → IsLegalRound s round → IsPairOf new (after_round s round)
settled_decided old new s round lines settled doubt stands legal =
    let long = sides_of lines s round stands in
    record {
      head = settled.head ∙ (doubt.of.head ∙ sym (next_header s round));
      rounds = both_sides (λ side. round_of_side new side ≡ rounds_of (after_round s round) side)
          (ap (λ (part : SideView). part.round) settled.first ∙ round_after old s round 0 old.first doubt legal long (omega arith) (doubt.of.rounds 0 (omega arith)))
          (ap (λ (part : SideView). part.round) settled.second ∙ round_after old s round 1 old.second doubt legal long (omega arith) (doubt.of.rounds 1 (omega arith)));
    }

pub failed_in_doubt : (old new : PairView) (side : ℕ) (lines : List Line) (fault : DeviceFault) (s : Standing) (round : Round) (tale : Tale) → HasFailedStore side lines old fault new → IsStoreOf old side lines s round tale → was_called new.doubt ≡ true → IsDoubtOf new s round
failed_in_doubt old new side lines fault s round tale failed store called = record {
  of = record {
    head = failed.failed.head ∙ store.of.head;
    rounds = both_sides (λ n. round_of_side new n ≡ rounds_of s n)
        (ap (λ (part : SideView). part.round) failed.failed.first ∙ store.of.rounds 0 (omega arith))
        (ap (λ (part : SideView). part.round) failed.failed.second ∙ store.of.rounds 1 (omega arith));
  };
  record_in_doubt = record { side = side; lines = lines; called = failed.called };
  is = failed.failed.doubt;
  called = sym (ap was_called failed.failed.doubt) ∙ called;
  side_is = sym store.side_is;
}

stored_rounds : (old new : PairView) (side : ℕ) (lines : List Line) (s : Standing) (round : Round) → IsStored side lines old new → IsPairOf old s → round.side ≡ side → IsLegalRound s round → length s.rounds ≡ side_count s.kind → side < 2 → (n : ℕ) → n < 2 → round_of_side new n ≡ rounds_of (after_round s round) n
stored_rounds old new zero lines s round stored of same legal long few zero below =
    ap (λ (part : SideView). part.round) stored.first ∙ (ap (λ (k : ℕ). k + 1) (of.rounds 0 (omega arith)) ∙ subst (λ (k : ℕ). rounds_of s k + 1 ≡ rounds_of (after_round s round) k) same (sym (next_rounds s round legal long)))
stored_rounds old new zero lines s round stored of same legal long few (suc n) below =
    let one : 1 ≡ suc n = omega arith in
    subst (λ (k : ℕ). new.second.round ≡ rounds_of (after_round s round) k) one (ap (λ (part : SideView). part.round) stored.second ∙ (of.rounds 1 (omega arith) ∙ sym (next_rounds_other s round 1 (λ e. omega (arith, e, same)))))
stored_rounds old new (suc side) lines s round stored of same legal long few zero below =
    ap (λ (part : SideView). part.round) stored.first ∙ (of.rounds 0 (omega arith) ∙ sym (next_rounds_other s round 0 (λ e. omega (arith, e, same))))
stored_rounds old new (suc side) lines s round stored of same legal long few (suc n) below =
    let one : 1 ≡ suc n = omega arith in
    let own : round.side ≡ 1 = omega (arith, same) in
    subst (λ (k : ℕ). new.second.round ≡ rounds_of (after_round s round) k) one (ap (λ (part : SideView). part.round) stored.second ∙ (ap (λ (k : ℕ). k + 1) (of.rounds 1 (omega arith)) ∙ subst (λ (k : ℕ). rounds_of s k + 1 ≡ rounds_of (after_round s round) k) own (sym (next_rounds s round legal long))))

pub stored_moves_on : (old new : PairView) (side : ℕ) (lines : List Line) (s : Standing) (round : Round) (tale : Tale) → IsNext old side lines → IsStored side lines old new → IsStoreOf old side lines s round tale → IsPairOf new (after_round s round)
stored_moves_on old new side lines s round tale next stored store =
    let long = (parts (contents_of tale) s (only_member (contents_of tale) s store.ready.holds)).sides in
    record {
      head = stored.head ∙ (store.of.head ∙ sym (next_header s round));
      rounds = stored_rounds old new side lines s round stored store.of store.side_is store.next.legal long (sides_few old.head.kind side next.here);
    }

pub failed_of : (IsPrefix : List LogOp → Type 0) (left : Option DoubtView) (old new : PairView) (fault : DeviceFault) (s : Standing) → HasFailed IsPrefix left old fault new → IsPairOf old s → IsPairOf new s
failed_of IsPrefix left old new fault s failed of = record {
  head = failed.head ∙ of.head;
  rounds = both_sides (λ side. round_of_side new side ≡ rounds_of s side)
      (ap (λ (part : SideView). part.round) failed.first ∙ of.rounds 0 (omega arith))
      (ap (λ (part : SideView). part.round) failed.second ∙ of.rounds 1 (omega arith));
}

pub failed_keeps_doubt : (IsPrefix : List LogOp → Type 0) (old new : PairView) (fault : DeviceFault) (s : Standing) (round : Round) → HasFailed IsPrefix old.doubt old fault new → IsDoubtOf old s round → IsDoubtOf new s round
failed_keeps_doubt IsPrefix old new fault s round failed doubt = record {
  of = failed_of IsPrefix old.doubt old new fault s failed doubt.of;
  record_in_doubt = doubt.record_in_doubt;
  is = failed.doubt ∙ doubt.is;
  called = doubt.called;
  side_is = doubt.side_is;
}

-- The records that a device holds which tells its log

pub in_use_of : (pair : PairView) (s : Standing) (tale : Tale) (side : ℕ) → IsPair pair → IsPairOf pair s → pair.device.told ≡ Some tale → side < side_count pair.head.kind → lines_of pair side ≡ record_of_side (contents_of tale) s side
in_use_of pair s tale side sound of told here =
    sym ((sound.records tale told).in_use side here) ∙ (λ i. record_in_use (contents_of tale) (of.head i) side (of.rounds side (sides_few pair.head.kind side here) i))

pub in_doubt_of : (pair : PairView) (s : Standing) (tale : Tale) (doubt : DoubtView) → IsPair pair → IsPairOf pair s → pair.device.told ≡ Some tale → pair.doubt ≡ Some doubt → doubt.called ≡ true → doubt.lines ≡ record_in_use (contents_of tale) (header_for s) doubt.side (rounds_of s doubt.side + 1)
in_doubt_of pair s tale doubt sound of told is called =
    sym ((sound.records tale told).in_doubt doubt is called) ∙ (λ i. record_in_use (contents_of tale) (of.head i) doubt.side (of.rounds doubt.side (sides_few pair.head.kind doubt.side (sound.in_doubt doubt is).here) i + 1))
