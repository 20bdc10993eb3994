-- Settling a queue: with the round that failed, or without it.
use Rattle.std.proofs.Common.{◌≡◌, ◌≢◌, ℕ, zero, suc, ◌<◌, Bool, true, false, Option, Some, None, option_map, List, [], ◌∷◌, refl, sym, ap, subst, ◌∙◌, arith}
use Rattle.std.specs.Prelude.{◌==◌, ◌&&◌}
use Rattle.pb_pmem.specs.declared.device.DeviceFault.{DeviceFault}
use Rattle.pb_pmem.specs.declared.line.Line.{Line}
use Rattle.pb_pmem.specs.declared.log.LogOp.{LogOp}
use Rattle.pb_pmem.specs.Contents.{contents}
use Rattle.pb_pmem.specs.Device.{Device}
use Rattle.pb_pmem.specs.Operations.{after as after_ops, Does, IsFailedPrefix}
use Rattle.pb_pmem.proofs.CrashLaws.{IsAtRest-none}
use Rattle.pb_pmem.proofs.Lines.{contents-none}
use Rattle.pb_object.specs.declared.request.Ask.{Ask}
use Rattle.pb_object.specs.History.{Round, after_round}
use Rattle.pb_object.specs.Object.{Waits}
use Rattle.pb_object.specs.Queue.{Waiting}
use Rattle.pb_object.specs.Standing.{Standing, side_count}
use Rattle.pb_layout.specs.declared.header.Header.{Header}
use Rattle.pb_layout.specs.Doubt.{IsRoundInDoubt, HasRoundLanded}
use Rattle.pb_layout.specs.Exits.{sealed_round}
use Rattle.pb_layout.specs.Header.{record_length}
use Rattle.pb_layout.specs.NextRecord.{IsNextOf}
use Rattle.pb_layout.specs.Recovered.{Represents}
use Rattle.pb_layout.specs.RegionOps.{settle_to}
use Rattle.pb_layout.specs.Represents.{header_for, AreRecords}
use Rattle.pb_layout.specs.ToldExits.{IsCoveredExit, IsInDoubt, StaysLanded}
use Rattle.pb_layout.proofs.Readiness.{at_rest_is_ready}
use Rattle.pb_layout_laws.proofs.ReadyWithOne.{only_member}
use Rattle.pb_layout_laws.proofs.Rounds.{next_header}
use Rattle.pb_layout_laws.proofs.Settling.{settling_leaves_one}
use Rattle.pb_pair.specs.declared.known.Known.TheVariants.{Sure}
use Rattle.pb_pair.specs.Safe.{IsPairOf, IsDoubtOf, SettleCovers, FailedSettleCovers}
use Rattle.pb_pair.specs.Settle.{was_called, settled_side, settled_by, settled_ops, IsSettled}
use Rattle.pb_pair.specs.View.{SideView, DoubtView, PairView, view_of_side, lines_of, forgotten, HasFailed}
use Rattle.pb_pair.proofs.Safe.{not_called, settles_found, settles_after}
use Rattle.pb_pair.proofs.Told.{if_some_mapped}
use Rattle.pb_engine.specs.Asks.{MayBeServed, side_asked, state_from, asked_round}
use Rattle.pb_engine.specs.Covers.{SettleCovers as EngineSettleCovers, FailedSettleCovers as EngineFailedSettleCovers}
use Rattle.pb_engine.specs.Outcomes.{HasSettled, HasFailedToSettle}
use Rattle.pb_engine.specs.Pairs.{is_sure, known_records, doubt_of}
use Rattle.pb_engine.specs.View.{EngineView, AreInUse, nothing_known, settled_standing, was_called as engine_called}
use Rattle.pb_engine.proofs.InUse.{settled_in_use}
use Rattle.pb_engine.proofs.Pairs.{known_unsure, known_none, some_doubt, round_as, uncalled_standing, called_standing}
use Rattle.pb_engine.proofs.Served.{served_is_legal}
use Rattle.pb_queue.specs.Items.{ItemsView}
use Rattle.pb_queue.specs.Standing.{standing_of}
use Rattle.pb_queue.specs.View.{twin_view, LeavesRecord, IsTwin}
use Rattle.pb_queue.proofs.InUse.{in_engine, of_engine}
use Rattle.pb_queue.proofs.Made.{HasConfirmed, settled_twin, unsure, StaysStanding, lines_stay, standing_stays, records_stay}
use Rattle.pb_queue.proofs.Rounds.{round_for, IsRound, side_here, HasMoved, standing_moved, records_moved}
use Rattle.pb_queue.proofs.Standings.{pair_of}

-- an engine whose fields say this, which isn't sure
pub record IsUnsettled (pair : PairView) (items : ItemsView) (next : List Line) (asked : List Ask) : Type 0 where
  pub is : IsTwin pair items next asked
  pub unsure : is_sure pair.known ≡ false

-- The record that a failed round left

pub record HasRecordInDoubt (pair : PairView) (s : Standing) (asked : List Ask) : Type 0 where
  pub record_in_doubt : DoubtView
  pub is : pair.doubt ≡ Some record_in_doubt
  pub called : record_in_doubt.called ≡ true
  pub side : record_in_doubt.side ≡ side_asked asked
  pub next : IsNextOf (lines_of pair) s (asked_round s asked) record_in_doubt.lines

called_some : (pair : PairView) (items : ItemsView) (next : List Line) (asked : List Ask) → IsTwin pair items next asked → was_called pair.doubt ≡ true → asked ≢ []
called_some pair items next asked is called nothing = absurd (cc (ap was_called (is.none nothing), called))

record_of : (pair : PairView) (s : Standing) (asked : List Ask) (doubt : Option DoubtView) → pair.doubt ≡ doubt → was_called doubt ≡ true → LeavesRecord pair s asked doubt → HasRecordInDoubt pair s asked
record_of pair s asked None is called left = absurd (cc (called))
record_of pair s asked (Some doubt) is called left = record { record_in_doubt = doubt; is = is; called = called; side = left.0; next = left.1 }

doubted : (pair : PairView) (items : ItemsView) (next : List Line) (asked : List Ask) → IsTwin pair items next asked → was_called pair.doubt ≡ true → HasRecordInDoubt pair (standing_of pair items.sure) asked
doubted pair items next asked is called =
    record_of pair (standing_of pair items.sure) asked pair.doubt refl called (is.some (called_some pair items next asked is called)).left

-- the round that failed, as one that is stored
doubted_round : (pair : PairView) (items : ItemsView) (next : List Line) (asked : List Ask) (is : IsTwin pair items next asked) (called : was_called pair.doubt ≡ true) → IsRound pair items.sure items.next asked (doubted pair items next asked is called).record_in_doubt.lines
doubted_round pair items next asked is called = record {
  sound = is.sound;
  queue = is.queue;
  records = is.records;
  may = (is.some (called_some pair items next asked is called)).may;
  state = subst (λ (n : ℕ). Waits n items.next ≡ state_from (Waits n items.sure) asked) is.size is.ahead_by;
  next = (doubted pair items next asked is called).next;
}

doubt_is_of : (pair : PairView) (items : ItemsView) (next : List Line) (asked : List Ask) → IsTwin pair items next asked → was_called pair.doubt ≡ true → IsDoubtOf pair (standing_of pair items.sure) (round_for pair items.sure asked)
doubt_is_of pair items next asked is called =
    let doubt = doubted pair items next asked is called in
    record {
      of = pair_of pair items.sure is.queue;
      record_in_doubt = doubt.record_in_doubt;
      is = doubt.is;
      called = doubt.called;
      side_is = doubt.side;
    }

-- Where no index word was called

found_stays : (old new : PairView) (items : ItemsView) (next : List Line) (asked : List Ask) → IsUnsettled old items next asked → was_called old.doubt ≡ false → IsSettled old new → StaysStanding old new
found_stays old new items next asked is uncalled settled =
    let unknown = known_unsure old.known is.unsure in
    record {
      head = settled.head;
      first = settled.first ∙ (not_called old.doubt 0 old.first uncalled ∙ is.is.sound.unsure_first unknown);
      second = settled.second ∙ (not_called old.doubt 1 old.second uncalled ∙ is.is.sound.unsure_second unknown);
    }

pub found_twin : (old new : PairView) (items final : ItemsView) (next : List Line) (asked : List Ask) → IsUnsettled old items next asked → was_called old.doubt ≡ false → IsSettled old new → HasConfirmed items.sure items final → IsTwin new final next []
found_twin old new items final next asked is uncalled settled reverted =
    let stays = found_stays old new items next asked is uncalled settled in
    settled_twin new final next (record {
      sound = settled.sound;
      queue = ap (λ (h : Header). h.kind) stays.head ∙ is.is.queue;
      records = subst (λ (w : Waiting). AreRecords (lines_of new) (standing_of new w)) (sym reverted.sure) (records_stay old new items.sure stays is.is.records);
      size = reverted.size ∙ (is.is.size ∙ ap (λ (h : Header). h.size) (sym stays.head));
      same = reverted.next ∙ sym reverted.sure;
      long = is.is.long ∙ ap record_length (sym stays.head);
      none = settled.doubt;
    })

-- settling lines that represent s leaves them representing it
settled_stands : (image : List Line) (s : Standing) → Represents image s → Represents (contents image (settle_to (header_for s) s)) s
settled_stands image s stands =
    let here : Represents (contents image []) s = subst (λ (ls : List Line). Represents ls s) (sym (contents-none image)) stands in
    only_member (contents image (settle_to (header_for s) s)) s
    (settling_leaves_one image [] s (Some s ∷ []) (at_rest_is_ready image [] (Some s) (IsAtRest-none image) here) here).ready.holds

pub found : (old new : PairView) (items final : ItemsView) (next : List Line) (asked : List Ask) → IsUnsettled old items next asked → was_called old.doubt ≡ false → IsSettled old new → HasConfirmed items.sure items final → HasSettled (twin_view old items asked) (twin_view new final [])
found old new items final next asked is uncalled settled reverted = record {
  standing = same ∙ sym still;
  sure = ap is_sure settled.known;
  doubt = refl;
  device = subst (λ (ops : List LogOp). Does ops old.device new.device) ops settled.device;
  first = ap known_records stays.first;
  second = ap known_records stays.second;
  holds = λ none holds. if_some_mapped (λ (ls : List Line). Represents ls s) (λ (ls : List Line). Represents ls s) (λ (ls : List Line). Represents ls (standing_of new final.sure)) (after_ops (settle_to (header_for s) s)) old.device.now new.device.now
      (subst (λ (to : List LogOp). new.device.now ≡ option_map (after_ops to) old.device.now) (settles_found old s (pair_of old items.sure is.is.queue) uncalled) settled.device.now) holds holds
      (λ image here _. subst (Represents (after_ops (settle_to (header_for s) s) image)) (sym same) (settled_stands image s here));
  in_use = λ none. in_use;
}
  where
    s : Standing
    s = standing_of old items.sure

    stays : StaysStanding old new
    stays = found_stays old new items next asked is uncalled settled

    same : standing_of new final.sure ≡ s
    same = ap (standing_of new) reverted.sure ∙ standing_stays old new items.sure stays

    still : settled_standing s (doubt_of s asked (was_called old.doubt)) ≡ s
    still = ap (λ (called : Bool). settled_standing s (doubt_of s asked called)) uncalled ∙ uncalled_standing s asked

    ops : settled_ops old ≡ settle_to (header_for (standing_of new final.sure)) (standing_of new final.sure)
    ops = settles_found old s (pair_of old items.sure is.is.queue) uncalled ∙ ap (λ (t : Standing). settle_to (header_for t) t) (sym same)

    part : (side : ℕ) → view_of_side new side ≡ forgotten (view_of_side old side)
    part zero = stays.first
    part (suc side) = stays.second

    in_use : AreInUse (twin_view old items asked) → AreInUse (twin_view new final [])
    in_use before side below =
        in_engine new final [] side (ap (λ (h : Header). h.kind) stays.head ∙ is.is.queue) below
        (settled_in_use old new side settled (part side) (omega (arith, below, ap side_count is.is.queue)) (of_engine old items asked side is.is.queue below (before side below)))

-- Where one was called

-- one side has the round's record in use
moves_by : (side : ℕ) (old new : PairView) (doubt : DoubtView) → side < 2 → doubt.called ≡ true → doubt.side ≡ side → new.head ≡ old.head → new.first ≡ settled_side (Some doubt) 0 old.first → new.second ≡ settled_side (Some doubt) 1 old.second → HasMoved side doubt.lines old new
moves_by zero old new doubt below called at head first second =
    let first_is : new.first ≡ settled_by true doubt.lines old.first = first ∙ (λ i. settled_by (called i && (at i == 0)) doubt.lines old.first) in
    let second_is : new.second ≡ settled_by false doubt.lines old.second = second ∙ (λ i. settled_by (called i && (at i == 1)) doubt.lines old.second) in
    record {
      head = head;
      first_round = ap (λ (part : SideView). part.round) first_is;
      second_round = ap (λ (part : SideView). part.round) second_is;
      first_lines = ap (λ (part : SideView). part.lines) first_is;
      second_lines = ap (λ (part : SideView). part.lines) second_is;
    }
moves_by (suc zero) old new doubt below called at head first second =
    let first_is : new.first ≡ settled_by false doubt.lines old.first = first ∙ (λ i. settled_by (called i && (at i == 0)) doubt.lines old.first) in
    let second_is : new.second ≡ settled_by true doubt.lines old.second = second ∙ (λ i. settled_by (called i && (at i == 1)) doubt.lines old.second) in
    record {
      head = head;
      first_round = ap (λ (part : SideView). part.round) first_is;
      second_round = ap (λ (part : SideView). part.round) second_is;
      first_lines = ap (λ (part : SideView). part.lines) first_is;
      second_lines = ap (λ (part : SideView). part.lines) second_is;
    }
moves_by (suc (suc side)) old new doubt below called at head first second = absurd (omega (arith, below))

decided_moves : (old new : PairView) (items : ItemsView) (next : List Line) (asked : List Ask) (is : IsTwin old items next asked) (called : was_called old.doubt ≡ true) → IsSettled old new → HasMoved (side_asked asked) (doubted old items next asked is called).record_in_doubt.lines old new
decided_moves old new items next asked is called settled =
    let doubt = doubted old items next asked is called in
    moves_by (side_asked asked) old new doubt.record_in_doubt (side_here old items.sure items.next asked doubt.record_in_doubt.lines (doubted_round old items next asked is called)) doubt.called doubt.side settled.head
    (settled.first ∙ ap (λ (d : Option DoubtView). settled_side d 0 old.first) doubt.is)
    (settled.second ∙ ap (λ (d : Option DoubtView). settled_side d 1 old.second) doubt.is)

pub decided_twin : (old new : PairView) (items final : ItemsView) (next : List Line) (asked : List Ask) → IsUnsettled old items next asked → was_called old.doubt ≡ true → IsSettled old new → HasConfirmed items.next items final → IsTwin new final next []
decided_twin old new items final next asked is called settled confirmed =
    settled_twin new final next (record {
      sound = settled.sound;
      queue = ap (λ (h : Header). h.kind) settled.head ∙ is.is.queue;
      records = subst (λ (w : Waiting). AreRecords (lines_of new) (standing_of new w)) (sym confirmed.sure)
          (records_moved old new items.sure items.next asked (doubted old items next asked is.is called).record_in_doubt.lines (doubted_round old items next asked is.is called) (decided_moves old new items next asked is.is called settled));
      size = confirmed.size ∙ (is.is.size ∙ ap (λ (h : Header). h.size) (sym settled.head));
      same = confirmed.next ∙ sym confirmed.sure;
      long = is.is.long ∙ ap record_length (sym settled.head);
      none = settled.doubt;
    })

-- what settling leaves unknown
forgets : (doubt : Option DoubtView) (side : ℕ) (part : SideView) → part ≡ forgotten part → known_records (settled_side doubt side part) ≡ nothing_known
forgets doubt side part same_part = by doubt
  where
    by_called : (b : Bool) (lines : List Line) → known_records (settled_by b lines part) ≡ nothing_known
    by_called true lines = refl
    by_called false lines = known_none part same_part

    by : (d : Option DoubtView) → known_records (settled_side d side part) ≡ nothing_known
    by None = known_none part same_part
    by (Some d) = by_called (d.called && (d.side == side)) d.lines

pub decided : (old new : PairView) (items final : ItemsView) (next : List Line) (asked : List Ask) → IsUnsettled old items next asked → was_called old.doubt ≡ true → IsSettled old new → HasConfirmed items.next items final → HasSettled (twin_view old items asked) (twin_view new final [])
decided old new items final next asked is called settled confirmed = record {
  standing = moved ∙ sym (ap (λ (c : Bool). settled_standing s (doubt_of s asked c)) called ∙ called_standing s asked some);
  sure = ap is_sure settled.known;
  doubt = refl;
  device = subst (λ (ops : List LogOp). Does ops old.device new.device) ops settled.device;
  first = ap known_records settled.first ∙ forgets old.doubt 0 old.first (is.is.sound.unsure_first unknown);
  second = ap known_records settled.second ∙ forgets old.doubt 1 old.second (is.is.sound.unsure_second unknown);
  holds = λ none holds. absurd (none_called none);
  in_use = λ none before. absurd (none_called none);
}
  where
    s : Standing
    s = standing_of old items.sure

    round : Round
    round = round_for old items.sure asked

    some : asked ≢ []
    some = called_some old items next asked is.is called

    unknown : old.known ≢ Sure
    unknown = known_unsure old.known is.unsure

    moved : standing_of new final.sure ≡ after_round s round
    moved = ap (standing_of new) confirmed.sure ∙ standing_moved old new items.sure items.next asked (doubted old items next asked is.is called).record_in_doubt.lines (doubted_round old items next asked is.is called) (decided_moves old new items next asked is.is called settled)

    ops : settled_ops old ≡ settle_to (header_for (standing_of new final.sure)) (standing_of new final.sure)
    ops =
        settles_after old s round (doubt_is_of old items next asked is.is called) (served_is_legal s asked (is.is.some some).may) is.is.records.sides
        ∙ ((λ i. settle_to (sym (next_header s round) i) (after_round s round)) ∙ ap (λ (t : Standing). settle_to (header_for t) t) (sym moved))

    none_called : doubt_of s asked (was_called old.doubt) ≡ None → ⊥
    none_called none = cc (some_doubt s asked (was_called old.doubt) some, none)

-- What a crash leaves

-- the engine's round in doubt was called exactly where the pair's record was
called_as : (pair : PairView) (items : ItemsView) (next : List Line) (asked : List Ask) → IsTwin pair items next asked → engine_called (doubt_of (standing_of pair items.sure) asked (was_called pair.doubt)) ≡ was_called pair.doubt
called_as pair items next [] is = sym (ap was_called (is.none refl))
called_as pair items next (ask ∷ asks) is = refl

pub settled_safely : (old : PairView) (items : ItemsView) (next : List Line) (asked : List Ask) (engine : EngineView) (device : Device) → IsUnsettled old items next asked → SettleCovers old device → engine.device ≡ device → EngineSettleCovers (twin_view old items asked) engine
settled_safely old items next asked engine device is safely same_device =
    subst (λ (d : Device). EngineSettleCovers (twin_view old items asked) (record engine { device = d })) (sym same_device) (record {
      found = λ uncalled tale members told ready stands.
          safely.found (sym (called_as old items next asked is.is) ∙ uncalled) tale s members told (record { ready = ready; of = of; stands = stands });
      decided = λ failed here called tale told in_doubt.
          let same = round_as s asked (was_called old.doubt) failed here in
          let doubt = doubt_is_of old items next asked is.is (same.1 ∙ called) in
          subst (λ (r : Round). IsCoveredExit tale device s (sealed_round r ∷ []) (Some (after_round s r) ∷ [])) same.0 (safely.decided tale s (round_for old items.sure asked) told doubt (subst (IsRoundInDoubt tale.base tale.log s) (sym same.0) in_doubt));
      landed = λ failed here called tale told has_landed.
          let same = round_as s asked (was_called old.doubt) failed here in
          let doubt = doubt_is_of old items next asked is.is (same.1 ∙ called) in
          subst (λ (r : Round). IsCoveredExit tale device (after_round s r) [] (Some (after_round s r) ∷ [])) same.0 (safely.landed tale s (round_for old items.sure asked) told doubt (subst (HasRoundLanded tale.base tale.log s) (sym same.0) has_landed));
      sealed = λ tale told. safely.sealed tale told;
    })
  where
    s : Standing
    s = standing_of old items.sure

    of : IsPairOf old s
    of = pair_of old items.sure is.is.queue

-- A settling that failed

-- the operations of settling, whether it failed or not
settling_ops : (old : PairView) (items : ItemsView) (next : List Line) (asked : List Ask) → IsTwin old items next asked → (called : Bool) → was_called old.doubt ≡ called → settled_ops old ≡ settle_to (header_for (settled_standing (standing_of old items.sure) (doubt_of (standing_of old items.sure) asked (was_called old.doubt)))) (settled_standing (standing_of old items.sure) (doubt_of (standing_of old items.sure) asked (was_called old.doubt)))
settling_ops old items next asked is false uncalled =
    let s = standing_of old items.sure in
    let still : settled_standing s (doubt_of s asked (was_called old.doubt)) ≡ s = ap (λ (called : Bool). settled_standing s (doubt_of s asked called)) uncalled ∙ uncalled_standing s asked in
    settles_found old s (pair_of old items.sure is.queue) uncalled ∙ ap (λ (t : Standing). settle_to (header_for t) t) (sym still)
settling_ops old items next asked is true called =
    let s = standing_of old items.sure in
    let some = called_some old items next asked is called in
    let round = round_for old items.sure asked in
    let moved : settled_standing s (doubt_of s asked (was_called old.doubt)) ≡ after_round s round = ap (λ (c : Bool). settled_standing s (doubt_of s asked c)) called ∙ called_standing s asked some in
    settles_after old s round (doubt_is_of old items next asked is called) (served_is_legal s asked (is.some some).may) is.records.sides
    ∙ ((λ i. settle_to (sym (next_header s round) i) (after_round s round)) ∙ ap (λ (t : Standing). settle_to (header_for t) t) (sym moved))

abbrev pub FailsToSettle : PairView → DeviceFault → PairView → Type 0
FailsToSettle old fault new = HasFailed (IsFailedPrefix (settled_ops old)) old.doubt old fault new

failing_stays : (old new : PairView) (fault : DeviceFault) → FailsToSettle old fault new → StaysStanding old new
failing_stays old new fault failed = record { head = failed.head; first = failed.first; second = failed.second }

still_left : (old new : PairView) (s t : Standing) (asked : List Ask) (doubt : Option DoubtView) → StaysStanding old new → t ≡ s → LeavesRecord old s asked doubt → LeavesRecord new t asked doubt
still_left old new s t asked None stays same left = tt
still_left old new s t asked (Some doubt) stays same left =
    (left.0, subst (λ (u : Standing). IsNextOf (lines_of new) u (asked_round u asked) doubt.lines) (sym same) (subst (λ (records : ℕ → List Line). IsNextOf records s (asked_round s asked) doubt.lines) (sym (lines_stay old new stays)) left.1))

pub unsettled_twin : (old new : PairView) (items : ItemsView) (next : List Line) (asked : List Ask) (fault : DeviceFault) → IsTwin old items next asked → FailsToSettle old fault new → IsTwin new items next asked
unsettled_twin old new items next asked fault is failed =
    let stays = failing_stays old new fault failed in
    let same = standing_stays old new items.sure stays in
    record {
      sound = failed.sound;
      queue = ap (λ (h : Header). h.kind) failed.head ∙ is.queue;
      records = records_stay old new items.sure stays is.records;
      size = is.size ∙ ap (λ (h : Header). h.size) (sym failed.head);
      ahead_by = is.ahead_by;
      long = is.long ∙ ap record_length (sym failed.head);
      none = λ nothing. failed.doubt ∙ is.none nothing;
      some = λ some. record {
        failed = failed.known;
        may = subst (λ (t : Standing). MayBeServed t asked) (sym same) (is.some some).may;
        left = still_left old new (standing_of old items.sure) (standing_of new items.sure) asked new.doubt stays same (subst (LeavesRecord old (standing_of old items.sure) asked) (sym failed.doubt) (is.some some).left);
      };
    }

pub failed_to_settle : (old new : PairView) (items : ItemsView) (next : List Line) (asked : List Ask) (fault : DeviceFault) → IsTwin old items next asked → FailsToSettle old fault new → HasFailedToSettle fault (twin_view old items asked) (twin_view new items asked)
failed_to_settle old new items next asked fault is failed = record {
  standing = same;
  doubt = λ i. doubt_of (same i) asked (was_called (failed.doubt i));
  unsure = unsure new old items asked failed.known failed.first failed.second;
  device = record {
    from = failed.device.from;
    to = failed.device.to;
    stops = record {
      rose = failed.device.stops.rose;
      ops = failed.device.stops.ops;
      cut = subst (λ (all : List LogOp). IsFailedPrefix all failed.device.stops.ops) (settling_ops old items next asked is (was_called old.doubt) refl) failed.device.stops.cut;
      told = failed.device.stops.told;
    };
  };
}
  where
    same : standing_of new items.sure ≡ standing_of old items.sure
    same = standing_stays old new items.sure (failing_stays old new fault failed)

pub unsettled_safely : (old new : PairView) (items : ItemsView) (next : List Line) (asked : List Ask) → IsTwin old items next asked → FailedSettleCovers old new.device → EngineFailedSettleCovers (twin_view old items asked) (twin_view new items asked)
unsettled_safely old new items next asked is safely = record {
  found = λ uncalled tale members told ready stands.
      safely.found (sym (called_as old items next asked is) ∙ uncalled) tale s members told (record { ready = ready; of = of; stands = stands });
  decided = λ failed here called tale told in_doubt.
      let same = round_as s asked (was_called old.doubt) failed here in
      let doubt = doubt_is_of old items next asked is (same.1 ∙ called) in
      subst (IsInDoubt tale new.device s) same.0 (safely.decided tale s (round_for old items.sure asked) told doubt (subst (IsRoundInDoubt tale.base tale.log s) (sym same.0) in_doubt));
  landed = λ failed here called tale told has_landed.
      let same = round_as s asked (was_called old.doubt) failed here in
      let doubt = doubt_is_of old items next asked is (same.1 ∙ called) in
      subst (StaysLanded tale new.device s) same.0 (safely.landed tale s (round_for old items.sure asked) told doubt (subst (HasRoundLanded tale.base tale.log s) (sym same.0) has_landed));
}
  where
    s : Standing
    s = standing_of old items.sure

    of : IsPairOf old s
    of = pair_of old items.sure is.queue
