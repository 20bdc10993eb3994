-- What a call did to the log says what a crash leaves after it.
use Rattle.std.proofs.Common.{◌≡◌, ◌≢◌, ℕ, ◌+◌, ◌<◌, ◌≤◌, ◌⊎◌, Bool, true, false, List, [], ◌∷◌, ◌++◌, length, Option, Some, None, IfSome, option_map, refl, sym, ap, subst, ◌∙◌, inl, inr, arith}
use Rattle.std.specs.List.{All}
use Rattle.std.specs.Prelude.{◌==◌, ◌&&◌}
use Rattle.std.proofs.lemmas.Bool.Decides.{nat_tests}
use Rattle.std.proofs.lemmas.List.{append-nil, length-set}
use Rattle.std.proofs.lemmas.List.Elements.{All-nil}
use Rattle.pb_pmem.specs.declared.device.DeviceFault.{DeviceFault}
use Rattle.pb_pmem.specs.declared.line.Line.{Line}
use Rattle.pb_pmem.specs.declared.line.TheConstants.{LINES}
use Rattle.pb_pmem.specs.declared.log.LogOp.{LogOp}
use Rattle.pb_pmem.specs.declared.log.LogOp.TheVariants.{Back, Fence}
use Rattle.pb_pmem.specs.Contents.{contents}
use Rattle.pb_pmem.specs.Device.{Device, Tale, IsWhole, IsReplay}
use Rattle.pb_pmem.specs.Lines.{line_at}
use Rattle.pb_pmem.specs.Operations.{IsFailedPrefix, with_ops, Does, Stops}
use Rattle.pb_pmem.proofs.CrashLaws.{IsAtRest-none}
use Rattle.pb_pmem.proofs.Lines.{contents-none}
use Rattle.pb_object.specs.declared.kind.Kind.TheVariants.{Queue}
use Rattle.pb_object.specs.History.{Round, IsLegalRound, after_round}
use Rattle.pb_object.specs.Object.{State, Registers, Items, Rising, Waits}
use Rattle.pb_object.specs.ObjectLines.{kind_of, size_of, LinesRepresent}
use Rattle.pb_object.specs.Standing.{Standing, side_count, rounds_of}
use Rattle.pb_object.proofs.Sides.{sides_few}
use Rattle.pb_layout.specs.declared.header.Header.{Header}
use Rattle.pb_layout.specs.Doubt.{IsRoundInDoubt, HasRoundLanded}
use Rattle.pb_layout.specs.Exits.{empty_for}
use Rattle.pb_layout.specs.Shape.{IsHeader}
use Rattle.pb_layout.specs.Header.{record_length}
use Rattle.pb_layout.specs.LogHistory.{AreSealed, history_of}
use Rattle.pb_layout.specs.NextRecord.{IsNextRecord, HasCells}
use Rattle.pb_layout.specs.PutCell.{IsFreePosition, put_ops}
use Rattle.pb_layout.specs.Recovered.{Represents}
use Rattle.pb_layout.specs.RegionOps.{writes_over, stage_by, store_by, commit_ops, spare_place, prepare_ops, format_ops, settle_ops, settle_to}
use Rattle.pb_layout.specs.Represents.{header_for, object_parts}
use Rattle.pb_layout.specs.Stages.{IsStagingOp, StagesRecord}
use Rattle.pb_layout.specs.ToldExits.{IsCoveredExit, HasPublished, contents_of, IsReadyWith}
use Rattle.pb_layout.proofs.Decided.{Decided, decided_eq}
use Rattle.pb_layout.proofs.OneRecovery.{record_fits, parts}
use Rattle.pb_layout.proofs.Readiness.{at_rest_is_ready}
use Rattle.pb_layout.proofs.Records.{line_at-piece}
use Rattle.pb_layout.proofs.SparseWrites.{over_stage, over_stages}
use Rattle.pb_layout_laws.proofs.Formatting.{cut_off_while_appearing, makes_a_region}
use Rattle.pb_layout_laws.proofs.Geometry.{parity-lt}
use Rattle.pb_layout_laws.proofs.InDoubt.{settling_doubt, settling_doubt_failing, settling_landed, settling_landed_failing, landed_still}
use Rattle.pb_layout_laws.proofs.Preparing.{cut_off_while_preparing, quiet_leaves}
use Rattle.pb_layout_laws.proofs.PutCells.{putting_a_cell, putting_a_cell_failing}
use Rattle.pb_layout_laws.proofs.Quiet.{IsQuiet}
use Rattle.pb_layout_laws.proofs.ReadyWithOne.{only_member}
use Rattle.pb_layout_laws.proofs.Rounds.{next_rounds, next_rounds_other, next_round_list, next_header}
use Rattle.pb_layout_laws.proofs.Sealing.{sealed_by_settling}
use Rattle.pb_layout_laws.proofs.Settling.{settling_failing, settling_leaves_one}
use Rattle.pb_layout_laws.proofs.Storing.{IsStoreBy}
use Rattle.pb_layout_laws.proofs.StoreExits.{store_by_while_staging, store_by_while_committing, store_by_whole}
use Rattle.pb_layout_laws.proofs.ToldCalls.{told_exit, told_doubt}
use Rattle.pb_pair.specs.Cells.{IsFree}
use Rattle.pb_pair.specs.Format.{IsFailedFormat, IsFormatStop}
use Rattle.pb_pair.specs.Safe.{FormatCovers, FailedFormatCovers, IsPairOf, IsPutOf, PutCovers, IsStoreOf, StoreCovers, FailedStoreCovers, IsDoubtOf, SettleCovers, FailedSettleCovers}
use Rattle.pb_pair.specs.Settle.{was_called, settled_by, settled_side, settled_ops}
use Rattle.pb_pair.specs.Store.{staged_ops, stored_ops, IsNext, IsStored, IsFailedStore, doubt_of, HasFailedStore}
use Rattle.pb_pair.specs.View.{SideView, DoubtView, PairView, view_of_side, round_of_side, lines_of, HoldsSide, IsPair}
use Rattle.pb_pair.specs.declared.why.Stop.{Stop}
use Rattle.pb_pair.specs.declared.why.Stop.TheVariants.{NoMemory, Fault, WasTaken, WasEmpty, BadLine}
use Rattle.pb_pair.proofs.Told.{told_now, whole_contents, told_length, told_after}

-- Putting a cell

waits_free : (state : State) (pair : PairView) (position : ℕ) → kind_of state ≡ Queue → size_of state ≡ pair.head.size → LinesRepresent (object_parts pair.head (lines_of pair)) state → IsFree pair position → IsFreePosition state position
waits_free (Registers registers) pair position kind size lines free = absurd (cc)
waits_free (Items size items) pair position kind same lines free = absurd (cc)
waits_free (Rising size items) pair position kind same lines free = absurd (cc)
waits_free (Waits size queue) pair position kind same lines free =
    (omega (arith, lines.hold.0, free.after), omega (arith, lines.hold.1, free.room, same))

put_free : (pair : PairView) (position : ℕ) (s : Standing) (tale : Tale) → IsReadyWith (Some s ∷ []) tale → IsPutOf pair s → IsFree pair position → IsFreePosition s.state position
put_free pair position s tale ready put free =
    let is = parts (contents_of tale) s (only_member (contents_of tale) s ready.holds) in
    waits_free s.state pair position (is.kind ∙ (sym (ap (λ (h : Header). h.kind) put.of.head) ∙ free.queue)) (is.size ∙ sym (ap (λ (h : Header). h.size) put.of.head)) put.state free

pub put_covers : (old : PairView) (new : Device) (position value : ℕ) → IsFree old position → Does (put_ops old.head position value) old.device new → PutCovers old new
put_covers old new position value free does tale s told ready put =
    told_exit (put_ops (header_for s) position value) (told_after old.device.told new.told tale (put_ops (header_for s) position value) told (subst (λ (h : Header). new.told ≡ option_map (with_ops (put_ops h position value)) old.device.told) put.of.head does.told))
    (putting_a_cell tale.base tale.log s position _ ready (put_free old position s tale ready put free))

pub failed_put_covers : (old : PairView) (new : Device) (position value : ℕ) → IsFree old position → Stops (IsFailedPrefix (put_ops old.head position value)) old.device new → PutCovers old new
failed_put_covers old new position value free stops tale s told ready put =
    told_exit stops.ops (told_after old.device.told new.told tale stops.ops told stops.told)
    (putting_a_cell_failing tale.base tale.log stops.ops s position _ ready (put_free old position s tale ready put free) (subst (λ (h : Header). IsFailedPrefix (put_ops h position value) stops.ops) put.of.head stops.cut))

-- Storing

-- the writes of this store
abbrev writes_of : PairView → ℕ → List Line → List LogOp
writes_of old side lines = writes_over (spare_place old.head side (round_of_side old side)) (view_of_side old side).spare lines

-- its operations, in the words of the laws
staged_is : (old : PairView) (side : ℕ) (lines : List Line) (s : Standing) → IsPairOf old s → IsNext old side lines → staged_ops old.head side (view_of_side old side) lines ≡ stage_by (writes_of old side lines) (header_for s) side (rounds_of s side)
staged_is old side lines s of next =
    let few = sides_few old.head.kind side next.here in
    let place : spare_place old.head side (round_of_side old side) ≡ spare_place (header_for s) side (rounds_of s side) = λ i. spare_place (of.head i) side (of.rounds side few i) in
    let long : length lines ≡ record_length (header_for s) = next.long ∙ ap record_length of.head in
    λ i. writes_of old side lines ++ Back (place i) (long i) ∷ Fence ∷ []

staging_of : (old : PairView) (side : ℕ) (lines : List Line) (s : Standing) → IsPairOf old s → IsNext old side lines → All (IsStagingOp (spare_place (header_for s) side (rounds_of s side)) (record_length (header_for s))) (writes_of old side lines)
staging_of old side lines s of next =
    let few = sides_few old.head.kind side next.here in
    let place : spare_place old.head side (round_of_side old side) ≡ spare_place (header_for s) side (rounds_of s side) = λ i. spare_place (of.head i) side (of.rounds side few i) in
    let long : length lines ≡ record_length (header_for s) = next.long ∙ ap record_length of.head in
    subst (λ (count : ℕ). All (IsStagingOp (spare_place (header_for s) side (rounds_of s side)) count) (writes_of old side lines)) long
    (subst (λ (first : ℕ). All (IsStagingOp first (length lines)) (writes_of old side lines)) place (over_stage (spare_place old.head side (round_of_side old side)) (view_of_side old side).spare lines))

-- over a device whose lines are these, they put the record in its place
stages_at : (old : PairView) (side : ℕ) (lines : List Line) (s : Standing) (image : List Line) → IsPair old → length image ≡ LINES → old.device.now ≡ Some image → IsPairOf old s → IsNext old side lines → StagesRecord (spare_place (header_for s) side (rounds_of s side)) lines image (writes_of old side lines)
stages_at old side lines s image sound full now of next =
    let few = sides_few old.head.kind side next.here in
    let place : spare_place old.head side (round_of_side old side) ≡ spare_place (header_for s) side (rounds_of s side) = λ i. spare_place (of.head i) side (of.rounds side few i) in
    subst (λ (first : ℕ). StagesRecord first lines image (writes_of old side lines)) place (over_stages image (spare_place old.head side (round_of_side old side)) (view_of_side old side).spare lines before fits)
  where
    holds : HoldsSide old.head side (view_of_side old side) image
    holds = sound.holds image now side next.here

    fits : spare_place old.head side (round_of_side old side) + length lines ≤ length image
    fits = omega (arith, full, next.long, record_fits old.head side _ sound.valid next.here (parity-lt (round_of_side old side + 1)))

    before : (was : List Line) → (view_of_side old side).spare ≡ Some was → (at : ℕ) → at < length lines → line_at image (spare_place old.head side (round_of_side old side) + at) ≡ line_at was at
    before was is at inside =
        sym (line_at-piece image (spare_place old.head side (round_of_side old side)) (record_length old.head) at (omega (arith, next.long))) ∙ ap (λ (l : List Line). line_at l at) (holds.spare was is)

stages_of : (old : PairView) (side : ℕ) (lines : List Line) (s : Standing) (tale : Tale) → IsPair old → IsWhole old.device → IsReplay old.device → old.device.told ≡ Some tale → IsPairOf old s → IsNext old side lines → StagesRecord (spare_place (header_for s) side (rounds_of s side)) lines (contents_of tale) (writes_of old side lines)
stages_of old side lines s tale sound whole replay told of next =
    stages_at old side lines s (contents_of tale) sound (whole_contents old.device tale whole replay told) (told_now old.device tale replay told) of next

-- a store of a round, in the words of the laws
store_by_of : (old : PairView) (side : ℕ) (lines : List Line) (s : Standing) (round : Round) (tale : Tale) → IsPair old → IsWhole old.device → IsReplay old.device → old.device.told ≡ Some tale → IsNext old side lines → IsStoreOf old side lines s round tale → IsStoreBy tale.base tale.log s round lines (writes_of old side lines)
store_by_of old side lines s round tale sound whole replay told next store = record {
  ready = store.ready;
  next = store.next;
  cells = store.cells;
  stages = subst (λ (n : ℕ). StagesRecord (spare_place (header_for s) n (rounds_of s n)) lines (contents_of tale) (writes_of old side lines)) (sym store.side_is) (stages_of old side lines s tale sound whole replay told store.of next);
}

commit_is : (old : PairView) (side : ℕ) (lines : List Line) (s : Standing) → IsPairOf old s → IsNext old side lines → commit_ops side (round_of_side old side + 1) ≡ commit_ops side (rounds_of s side + 1)
commit_is old side lines s of next = ap (λ (n : ℕ). commit_ops side (n + 1)) (of.rounds side (sides_few old.head.kind side next.here))

-- the operations of a store are those of the round
stored_is : (old : PairView) (side : ℕ) (lines : List Line) (s : Standing) (round : Round) → IsPairOf old s → round.side ≡ side → IsNext old side lines → stored_ops old.head side (view_of_side old side) lines ≡ store_by (writes_of old side lines) (header_for s) round.side (rounds_of s round.side)
stored_is old side lines s round of side_is next =
    (λ i. staged_is old side lines s of next i ++ commit_is old side lines s of next i) ∙ ap (λ (n : ℕ). store_by (writes_of old side lines) (header_for s) n (rounds_of s n)) (sym side_is)

-- a store over lines that represent s makes them represent what is after the round
pub stored_represents : (side : ℕ) (lines : List Line) (old : PairView) (s : Standing) (round : Round) (image : List Line) → IsPair old → old.device.now ≡ Some image → IsNext old side lines → IsPairOf old s → round.side ≡ side → Represents image s → IsNextRecord image s round lines → HasCells image [] s round → Represents (contents image (stored_ops old.head side (view_of_side old side) lines)) (after_round s round)
stored_represents side lines old s round image sound now next of side_is stands record_is cells =
    subst (λ (ops : List LogOp). Represents (contents image ops) (after_round s round)) (sym (stored_is old side lines s round of side_is next))
    (only_member (contents image (store_by (writes_of old side lines) (header_for s) round.side (rounds_of s round.side))) (after_round s round) (store_by_whole begun).ready.holds)
  where
    same : image ≡ contents image []
    same = sym (contents-none image)

    begun : IsStoreBy image [] s round lines (writes_of old side lines)
    begun = record {
      ready = at_rest_is_ready image [] (Some s) (IsAtRest-none image) (subst (λ (ls : List Line). Represents ls s) same stands);
      next = subst (λ (ls : List Line). IsNextRecord ls s round lines) same record_is;
      cells = cells;
      stages = subst (λ (n : ℕ). StagesRecord (spare_place (header_for s) n (rounds_of s n)) lines (contents image []) (writes_of old side lines)) (sym side_is)
          (subst (λ (ls : List Line). StagesRecord (spare_place (header_for s) side (rounds_of s side)) lines ls (writes_of old side lines)) same (stages_at old side lines s image sound stands.whole now of next));
    }

pub store_covers : (side : ℕ) (lines : List Line) (old new : PairView) → IsPair old → IsWhole old.device → IsReplay old.device → IsNext old side lines → IsStored side lines old new → StoreCovers side lines old new.device
store_covers side lines old new sound whole replay next stored tale s round told store =
    let same = stored_is old side lines s round store.of store.side_is next in
    told_exit (store_by (writes_of old side lines) (header_for s) round.side (rounds_of s round.side)) (told_after old.device.told new.device.told tale (store_by (writes_of old side lines) (header_for s) round.side (rounds_of s round.side)) told (stored.device.told ∙ ap (λ (ops : List LogOp). option_map (with_ops ops) old.device.told) same))
    (store_by_whole (store_by_of old side lines s round tale sound whole replay told next store))

not_false : {X : Type 0} → ◌≡◌ {A = Bool} true false → X
not_false e = absurd (cc)

not_true : {X : Type 0} → ◌≡◌ {A = Bool} false true → X
not_true e = absurd (cc)

pub failed_store_covers : (side : ℕ) (lines : List Line) (old : PairView) (fault : DeviceFault) (new : PairView) → IsPair old → IsWhole old.device → IsReplay old.device → IsNext old side lines → HasFailedStore side lines old fault new → FailedStoreCovers side lines old new
failed_store_covers side lines old fault new sound whole replay next failed = go failed.called failed.failed.doubt failed.failed.device.stops
  where
    go : (called : Bool) → new.doubt ≡ doubt_of side lines called → Stops (IsFailedStore old.head side (view_of_side old side) lines called) old.device new.device → FailedStoreCovers side lines old new
    go false doubt stops = record {
      stopped = λ before tale s told ready of.
          told_exit stops.ops (told_after old.device.told new.device.told tale stops.ops told stops.told)
          (store_by_while_staging tale.base tale.log (writes_of old side lines) stops.ops s side ready (staging_of old side lines s of next) (subst (λ (all : List LogOp). IsFailedPrefix all stops.ops) (staged_is old side lines s of next) stops.cut));
      in_doubt = λ called. not_true (sym (ap was_called doubt) ∙ called);
    }
    go true doubt stops = record {
      stopped = λ before. not_false (sym (ap was_called doubt) ∙ before);
      in_doubt = λ called tale s round told store.
          let by = store_by_of old side lines s round tale sound whole replay told next store in
          let staged : staged_ops old.head side (view_of_side old side) lines ≡ stage_by (writes_of old side lines) (header_for s) round.side (rounds_of s round.side) =
          staged_is old side lines s store.of next ∙ ap (λ (n : ℕ). stage_by (writes_of old side lines) (header_for s) n (rounds_of s n)) (sym store.side_is) in
          let commits : commit_ops side (round_of_side old side + 1) ≡ commit_ops round.side (rounds_of s round.side + 1) =
          commit_is old side lines s store.of next ∙ ap (λ (n : ℕ). commit_ops n (rounds_of s n + 1)) (sym store.side_is) in
          let ops : List LogOp = stage_by (writes_of old side lines) (header_for s) round.side (rounds_of s round.side) ++ stops.cut.tail in
          let is : stops.ops ≡ ops = stops.cut.whole ∙ ap (λ (front : List LogOp). front ++ stops.cut.tail) staged in
          told_doubt ops (told_after old.device.told new.device.told tale ops told (stops.told ∙ ap (λ (o : List LogOp). option_map (with_ops o) old.device.told) is))
          (store_by_while_committing by stops.cut.tail (subst (λ (all : List LogOp). IsFailedPrefix all stops.cut.tail) commits stops.cut.cut)).left;
    }

-- Settling

-- where no index word was called, the round numbers stay
pub not_called : (doubt : Option DoubtView) (side : ℕ) (part : SideView) → was_called doubt ≡ false → settled_side doubt side part ≡ part
not_called None side part e = refl
not_called (Some d) side part e = by d.called e (d.side == side)
  where
    by : (called : Bool) → called ≡ false → (here : Bool) → settled_by (called && here) d.lines part ≡ part
    by true e here = not_false e
    by false e here = refl

pub settles_found : (old : PairView) (s : Standing) → IsPairOf old s → was_called old.doubt ≡ false → settled_ops old ≡ settle_ops (header_for s) (rounds_of s 0) (rounds_of s 1)
settles_found old s of not =
    let first : (settled_side old.doubt 0 old.first).round ≡ rounds_of s 0 = ap (λ (part : SideView). part.round) (not_called old.doubt 0 old.first not) ∙ of.rounds 0 (omega arith) in
    let second : (settled_side old.doubt 1 old.second).round ≡ rounds_of s 1 = ap (λ (part : SideView). part.round) (not_called old.doubt 1 old.second not) ∙ of.rounds 1 (omega arith) in
    λ i. settle_ops (of.head i) (first i) (second i)

-- where one was called, its side's number is one more
called_round : (d : DoubtView) (side : ℕ) (part : SideView) → d.called ≡ true → d.side ≡ side → (settled_by (d.called && (d.side == side)) d.lines part).round ≡ part.round + 1
called_round d side part called same =
    let here : (d.side == side) ≡ true = grind (arith, nat_tests) in
    ap (λ (b : Bool). (settled_by b d.lines part).round) ((λ i. called i && here i))

other_round : (d : DoubtView) (side : ℕ) (part : SideView) → d.called ≡ true → d.side ≢ side → (settled_by (d.called && (d.side == side)) d.lines part).round ≡ part.round
other_round d side part called other =
    let here : (d.side == side) ≡ false = grind (arith, nat_tests) in
    ap (λ (b : Bool). (settled_by b d.lines part).round) ((λ i. called i && here i))

pub round_after : (old : PairView) (s : Standing) (round : Round) (side : ℕ) (part : SideView) → IsDoubtOf old s round → IsLegalRound s round → length s.rounds ≡ side_count s.kind → side < 2 → part.round ≡ rounds_of s side → (settled_side old.doubt side part).round ≡ rounds_of (after_round s round) side
round_after old s round side part doubt legal long few is =
    ap (λ (o : Option DoubtView). (settled_side o side part).round) doubt.is ∙ by (decided_eq doubt.record_in_doubt.side side)
  where
    by : Decided (doubt.record_in_doubt.side ≡ side) → (settled_by (doubt.record_in_doubt.called && (doubt.record_in_doubt.side == side)) doubt.record_in_doubt.lines part).round ≡ rounds_of (after_round s round) side
    by (inl here) =
        let same : round.side ≡ side = sym doubt.side_is ∙ here in
        called_round doubt.record_in_doubt side part doubt.called here ∙ (ap (λ (n : ℕ). n + 1) is ∙ subst (λ (n : ℕ). rounds_of s n + 1 ≡ rounds_of (after_round s round) n) same (sym (next_rounds s round legal long)))
    by (inr other) =
        other_round doubt.record_in_doubt side part doubt.called other ∙ (is ∙ sym (next_rounds_other s round side (λ e. other (doubt.side_is ∙ sym e))))

pub settles_after : (old : PairView) (s : Standing) (round : Round) → IsDoubtOf old s round → IsLegalRound s round → length s.rounds ≡ side_count s.kind → settled_ops old ≡ settle_to (header_for s) (after_round s round)
settles_after old s round doubt legal long =
    let first = round_after old s round 0 old.first doubt legal long (omega arith) (doubt.of.rounds 0 (omega arith)) in
    let second = round_after old s round 1 old.second doubt legal long (omega arith) (doubt.of.rounds 1 (omega arith)) in
    λ i. settle_ops (doubt.of.head i) (first i) (second i)

sides_in_doubt : (tale : Tale) (s : Standing) (round : Round) → IsRoundInDoubt tale.base tale.log s round → length s.rounds ≡ side_count s.kind
sides_in_doubt tale s round doubt = (parts (contents_of tale) s doubt.stands).sides

sides_landed : (tale : Tale) (s : Standing) (round : Round) → HasRoundLanded tale.base tale.log s round → length s.rounds ≡ side_count s.kind
sides_landed tale s round landed =
    let after = (parts (contents_of tale) (after_round s round) landed.stands).sides in
    sym (length-set s.rounds round.side (rounds_of s round.side + 1)) ∙ (sym (ap length (next_round_list s round)) ∙ (after ∙ ap (λ (h : Header). side_count h.kind) (next_header s round)))

settled_told : (old : PairView) (new : Device) (tale : Tale) (ops : List LogOp) → Does (settled_ops old) old.device new → old.device.told ≡ Some tale → settled_ops old ≡ ops → new.told ≡ Some (with_ops ops tale)
settled_told old new tale ops does told same =
    told_after old.device.told new.told tale ops told (does.told ∙ ap (λ (o : List LogOp). option_map (with_ops o) old.device.told) same)

pub settle_covers : (old : PairView) (new : Device) → Does (settled_ops old) old.device new → SettleCovers old new
settle_covers old new does = record {
  found = λ not tale s members told settles.
      told_exit (settle_ops (header_for s) (rounds_of s 0) (rounds_of s 1)) (settled_told old new tale (settle_ops (header_for s) (rounds_of s 0) (rounds_of s 1)) does told (settles_found old s settles.of not))
      (settling_leaves_one tale.base tale.log s members settles.ready settles.stands);
  decided = λ tale s round told doubt is.
      told_exit (settle_to (header_for s) (after_round s round)) (settled_told old new tale (settle_to (header_for s) (after_round s round)) does told (settles_after old s round doubt is.legal (sides_in_doubt tale s round is)))
      (settling_doubt is);
  landed = λ tale s round told doubt is.
      told_exit (settle_to (header_for s) (after_round s round)) (settled_told old new tale (settle_to (header_for s) (after_round s round)) does told (settles_after old s round doubt is.legal (sides_landed tale s round is)))
      (settling_landed is);
  sealed = λ tale told. subst (λ (o : Option Tale). IfSome o (λ after. (from : ℕ) → from ≤ length tale.log → AreSealed (history_of after.base after.log from))) (sym (settled_told old new tale (settled_ops old) does told refl))
      (λ from low. sealed_by_settling tale.base tale.log old.head _ _ from low);
}

pub failed_settle_covers : (old : PairView) (new : Device) → Stops (IsFailedPrefix (settled_ops old)) old.device new → FailedSettleCovers old new
failed_settle_covers old new stops = record {
  found = λ not tale s members told settles.
      told_exit stops.ops (told_after old.device.told new.told tale stops.ops told stops.told)
      (settling_failing tale.base tale.log stops.ops s members settles.ready settles.stands (cut_by (settles_found old s settles.of not)));
  decided = λ tale s round told doubt is.
      told_doubt stops.ops (told_after old.device.told new.told tale stops.ops told stops.told)
      (settling_doubt_failing is stops.ops (cut_by (settles_after old s round doubt is.legal (sides_in_doubt tale s round is))));
  landed = λ tale s round told doubt is.
      let cut = cut_by (settles_after old s round doubt is.legal (sides_landed tale s round is)) in
      record {
        left = told_exit stops.ops (told_after old.device.told new.told tale stops.ops told stops.told) (settling_landed_failing is stops.ops cut);
        still = subst (λ (o : Option Tale). IfSome o (λ after. HasRoundLanded after.base after.log s round)) (sym (told_after old.device.told new.told tale stops.ops told stops.told)) (landed_still is stops.ops cut);
      };
}
  where
    cut_by : {ops : List LogOp} → settled_ops old ≡ ops → IsFailedPrefix ops stops.ops
    cut_by same = subst (λ (all : List LogOp). IsFailedPrefix all stops.ops) same stops.cut

-- Formatting

pub format_covers : (head : Header) (first second : List Line) (old new : Device) → IsWhole old → IsReplay old → IsHeader head → Does (format_ops head first second) old new → FormatCovers head first second old new
format_covers head first second old new whole replay valid does empty tale told ready =
    told_exit (format_ops head first second) (told_after old.told new.told tale (format_ops head first second) told does.told) (makes_a_region tale.base tale.log head first second valid (told_length old tale whole replay told) empty ready)

pub nothing_done : (head : Header) (old new : Device) (tale : Tale) → IsWhole old → IsReplay old → old.told ≡ Some tale → new.told ≡ old.told → IsReadyWith (None ∷ []) tale → IsCoveredExit tale new (empty_for head) [] (None ∷ [])
nothing_done head old new tale whole replay told same ready = record {
  ops = [];
  told = same ∙ (told ∙ ap (λ (l : List LogOp). Some (record tale { log = l })) (sym (append-nil tale.log)));
  exit = quiet_leaves tale.base tale.log [] (empty_for head) (omega (arith, told_length old tale whole replay told)) ready (All-nil IsQuiet);
}

no_ops : (told : Option Tale) (ops : List LogOp) → ops ≡ [] → option_map (with_ops ops) told ≡ told
no_ops None ops none = refl
no_ops (Some tale) ops none =
    ap (λ (l : List LogOp). Some (record tale { log = l })) (ap (λ (o : List LogOp). tale.log ++ o) none ∙ append-nil tale.log)

empty_or_more : (ops : List LogOp) → (ops ≡ []) ⊎ ¬ (ops ≡ [])
empty_or_more [] = inl refl
empty_or_more (op ∷ ops) = inr (λ e. cc)

unformatted_covers : (head : Header) (first second : List Line) (old new : Device) → IsWhole old → IsReplay old → new.told ≡ old.told → FailedFormatCovers head first second old new
unformatted_covers head first second old new whole replay same empty tale told ready = inl (nothing_done head old new tale whole replay told same ready)

stopped_covers : (head : Header) (first second : List Line) (old new : Device) → IsWhole old → IsReplay old → IsHeader head → Stops (IsFailedFormat head first second) old new → FailedFormatCovers head first second old new
stopped_covers head first second old new whole replay valid stops empty tale told ready = go stops.cut
  where
    go : IsFailedFormat head first second stops.ops → IsCoveredExit tale new (empty_for head) [] (None ∷ []) ⊎ HasPublished tale new head
    go (inl none) = inl (nothing_done head old new tale whole replay told (stops.told ∙ no_ops old.told stops.ops none) ready)
    go (inr (inl cut)) =
        inl (told_exit stops.ops (told_after old.told new.told tale stops.ops told stops.told) (cut_off_while_preparing tale.base tale.log stops.ops head first second valid (told_length old tale whole replay told) empty ready cut))
    go (inr (inr after)) =
        let ops : List LogOp = prepare_ops head first second ++ after.tail in
        let grown = told_after old.told new.told tale ops told (stops.told ∙ ap (λ (o : List LogOp). option_map (with_ops o) old.told) after.whole) in
        let appearing_so = cut_off_while_appearing tale.base tale.log after.tail head first second valid (told_length old tale whole replay told) empty ready after.cut in
        elim (empty_or_more after.tail) [
          | inl e ↦ inl (told_exit ops grown (appearing_so.none e))
          | inr more ↦ inr (record {
            left = told_exit ops grown (appearing_so.some more);
            holds = subst (λ (o : Option Tale). IfSome o (λ after. Represents (contents_of after) (empty_for head))) (sym grown) (appearing_so.holds more);
          })
        ]

-- wherever formatting stopped
pub stop_covers : (head : Header) (first second : List Line) (old new : Device) (stop : Stop) → IsWhole old → IsReplay old → IsHeader head → IsFormatStop head first second old new stop → FailedFormatCovers head first second old new
stop_covers head first second old new NoMemory whole replay valid same = unformatted_covers head first second old new whole replay (ap (λ (d : Device). d.told) same)
stop_covers head first second old new Fault whole replay valid stopped = stopped_covers head first second old new whole replay valid stopped.0
stop_covers head first second old new WasTaken whole replay valid same = unformatted_covers head first second old new whole replay (ap (λ (d : Device). d.told) same.0)
stop_covers head first second old new WasEmpty whole replay valid never = absurd never
stop_covers head first second old new (BadLine line) whole replay valid never = absurd never
