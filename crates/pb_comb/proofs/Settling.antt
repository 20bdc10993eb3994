-- Settling: with the round that failed, or without it.
use Rattle.std.proofs.Common.{◌≡◌, ◌≢◌, ℕ, zero, suc, ◌<◌, arith, length, Bool, true, false, Option, Some, None, option_map, List, [], ◌∷◌, refl, sym, ap, subst, ◌∙◌, Result, Ok}
use Rattle.std.specs.Prelude.{◌==◌, ◌&&◌, if◌then◌else◌}
use Rattle.pb_pmem.specs.declared.device.DeviceFault.{DeviceFault}
use Rattle.pb_pmem.specs.declared.line.Line.{Line}
use Rattle.pb_pmem.specs.declared.log.LogOp.{LogOp}
use Rattle.pb_pmem.specs.Contents.{contents}
use Rattle.pb_pmem.specs.Device.{Device}
use Rattle.pb_pmem.specs.Operations.{after, Does, IsFailedPrefix}
use Rattle.pb_pmem.proofs.CrashLaws.{IsAtRest-none}
use Rattle.pb_pmem.proofs.Lines.{contents-none}
use Rattle.pb_object.specs.declared.kind.Kind.{Kind}
use Rattle.pb_object.specs.declared.request.Ask.{Ask}
use Rattle.pb_object.specs.History.{Round, after_round}
use Rattle.pb_object.specs.Object.{State, next_state}
use Rattle.pb_object.specs.Standing.{Standing, side_count}
use Rattle.pb_layout.specs.declared.header.Header.{Header}
use Rattle.pb_layout.specs.Doubt.{IsRoundInDoubt, HasRoundLanded}
use Rattle.pb_layout.specs.Exits.{sealed_round}
use Rattle.pb_layout.specs.Header.{record_length}
use Rattle.pb_layout.specs.Recovered.{Represents}
use Rattle.pb_layout.specs.RegionOps.{settle_to}
use Rattle.pb_layout.specs.Represents.{header_for, AreRecords}
use Rattle.pb_layout.specs.ToldExits.{IsCoveredExit, IsInDoubt, StaysLanded}
use Rattle.pb_layout.proofs.Readiness.{at_rest_is_ready}
use Rattle.pb_layout_laws.proofs.ReadyWithOne.{only_member}
use Rattle.pb_layout_laws.proofs.Rounds.{next_header, next_state-size}
use Rattle.pb_layout_laws.proofs.Settling.{settling_leaves_one}
use Rattle.pb_pair.specs.declared.known.Known.TheVariants.{Sure}
use Rattle.pb_pair.specs.Safe.{IsPairOf, IsDoubtOf, SettleCovers, FailedSettleCovers}
use Rattle.pb_pair.specs.Settle.{was_called, settled_side, settled_by, settled_ops, IsSettled}
use Rattle.pb_pair.specs.View.{SideView, DoubtView, PairView, lines_of, forgotten, HasFailed}
use Rattle.pb_pair.proofs.Safe.{not_called, settles_found, settles_after}
use Rattle.pb_pair.proofs.Told.{if_some_mapped}
use Rattle.pb_engine.specs.Asks.{state_from, asked_round}
use Rattle.pb_engine.specs.Covers.{SettleCovers as EngineSettleCovers, FailedSettleCovers as EngineFailedSettleCovers}
use Rattle.pb_engine.specs.Outcomes.{HasSettled, HasFailedToSettle}
use Rattle.pb_engine.specs.View.{FailedRound, EngineView, AreInUse, nothing_known, settled_standing, was_called as engine_called}
use Rattle.pb_engine.proofs.InUse.{settled_in_use}
use Rattle.pb_engine.proofs.Served.{served_is_legal, state_from-none, state_from-more}
use Rattle.pb_engine.specs.Pairs.{is_sure, known_records, doubt_of}
use Rattle.pb_comb.specs.View.{standing_of, comb_view, HasDoubt, IsComb}
use Rattle.pb_comb.proofs.Made.{unsure, standing_stays, records_stay, some_doubt, lines_stay}
use Rattle.pb_comb.proofs.Records.{one_side, round_for, pair_of}
use Rattle.pb_comb.proofs.Rounds.{IsRound, side_zero, HasMoved, standing_moved, records_moved}
use Rattle.pb_object.specs.declared.kind.Kind.TheVariants.{Queue}
use Rattle.pb_comb.proofs.Sound.{known_unsure}
use Rattle.pb_layout.specs.NextRecord.{IsNextOf}
use Rattle.pb_object.specs.ObjectLines.{size_of}

-- an engine whose fields say this, which isn't sure
pub record IsUnsettled (kind : Kind) (pair : PairView) (state ahead : State) (next : List Line) (asked : List Ask) : Type 0 where
  pub is : IsComb kind pair state ahead next asked
  pub unsure : is_sure pair.known ≡ false

no_queue_of : (kind : Kind) (pair : PairView) (state ahead : State) (next : List Line) (asked : List Ask) → IsComb kind pair state ahead next asked → pair.head.kind ≢ Queue
no_queue_of kind pair state ahead next asked is queue = is.one_side (sym is.kind_is ∙ queue)

-- the round that failed, as one that is stored
doubted : (kind : Kind) (pair : PairView) (state ahead : State) (next : List Line) (asked : List Ask) → IsComb kind pair state ahead next asked → (doubt : HasDoubt pair (standing_of pair state) asked) → IsRound kind pair state asked doubt.doubt.lines
doubted kind pair state ahead next asked is doubt = record {
  sound = is.sound;
  kind_is = is.kind_is;
  not_queue = is.one_side;
  records = is.records;
  may = doubt.may;
  next = doubt.next;
}

-- what is known of an unsure pair's records
known_none : (part : SideView) → part ≡ forgotten part → known_records part ≡ nothing_known
known_none part same = ap known_records same

-- Where no index word was called

-- the pair stays one of its standing
record StaysFound (old new : PairView) : Type 0 where
  head : new.head ≡ old.head
  first : new.first ≡ forgotten old.first
  second : new.second ≡ forgotten old.second

found_stays : (kind : Kind) (old new : PairView) (state ahead : State) (next : List Line) (asked : List Ask) → IsUnsettled kind old state ahead next asked → was_called old.doubt ≡ false → IsSettled old new → StaysFound old new
found_stays kind old new state ahead next asked is uncalled settled =
    let unknown = known_unsure old.known is.unsure in
    record {
      head = settled.head;
      first = settled.first ∙ (not_called old.doubt 0 old.first uncalled ∙ is.is.sound.unsure_first unknown);
      second = settled.second ∙ (not_called old.doubt 1 old.second uncalled ∙ is.is.sound.unsure_second unknown);
    }

-- the lines of the record in use are as many as a record has
followed_long : (kind : Kind) (old new : PairView) (state ahead : State) (next : List Line) (asked : List Ask) (followed : List Line) → IsComb kind old state ahead next asked → IsSettled old new → followed ≡ lines_of new 0 → length followed ≡ record_length new.head
followed_long kind old new state ahead next asked followed is settled follows =
    ap length follows ∙ (settled.sound.sides 0 (omega (arith, ap (λ (h : Header). side_count h.kind) settled.head, one_side old.head.kind (no_queue_of kind old state ahead next asked is)))).long

pub found_comb : (kind : Kind) (old new : PairView) (state ahead after_ahead : State) (next : List Line) (asked : List Ask) (followed : List Line) → IsUnsettled kind old state ahead next asked → was_called old.doubt ≡ false → IsSettled old new → followed ≡ lines_of new 0 → after_ahead ≡ state → IsComb kind new state after_ahead followed []
found_comb kind old new state ahead after_ahead next asked followed is uncalled settled follows same =
    let stays = found_stays kind old new state ahead next asked is uncalled settled in
    record {
      sound = settled.sound;
      kind_is = ap (λ (h : Header). h.kind) stays.head ∙ is.is.kind_is;
      one_side = is.is.one_side;
      records = records_stay old new state stays.head stays.first stays.second is.is.records;
      ahead_by = same ∙ sym (state_from-none state);
      long = followed_long kind old new state ahead next asked followed is.is settled follows;
      carried = λ sure. follows;
      none = λ nothing. settled.doubt;
      some = λ some. absurd (some refl);
    }

-- the standing that settling is to leave, where the engine's round wasn't called
uncalled_standing : (s : Standing) (asked : List Ask) → settled_standing s (doubt_of s asked false) ≡ s
uncalled_standing s [] = refl
uncalled_standing s (ask ∷ asks) = refl

called_standing : (s : Standing) (asked : List Ask) → asked ≢ [] → settled_standing s (doubt_of s asked true) ≡ after_round s (asked_round s asked)
called_standing s [] some = absurd (some refl)
called_standing s (ask ∷ asks) some = refl

-- settling lines that represent s leaves them representing it
settled_stands : (image : List Line) (s : Standing) → Represents image s → Represents (contents image (settle_to (header_for s) s)) s
settled_stands image s stands =
    let here : Represents (contents image []) s = subst (λ (ls : List Line). Represents ls s) (sym (contents-none image)) stands in
    only_member (contents image (settle_to (header_for s) s)) s
    (settling_leaves_one image [] s (Some s ∷ []) (at_rest_is_ready image [] (Some s) (IsAtRest-none image) here) here).ready.holds

pub found : (kind : Kind) (old new : PairView) (state ahead : State) (next : List Line) (asked : List Ask) → IsUnsettled kind old state ahead next asked → was_called old.doubt ≡ false → IsSettled old new → HasSettled (comb_view old state asked) (comb_view new state [])
found kind old new state ahead next asked is uncalled settled = record {
  standing = same ∙ sym still;
  sure = ap is_sure settled.known;
  doubt = refl;
  device = subst (λ (ops : List LogOp). Does ops old.device new.device) ops settled.device;
  first = ap known_records stays.first;
  second = ap known_records stays.second;
  holds = λ none holds. if_some_mapped (λ (ls : List Line). Represents ls s) (λ (ls : List Line). Represents ls s) (λ (ls : List Line). Represents ls (standing_of new state)) (after (settle_to (header_for s) s)) old.device.now new.device.now
      (subst (λ (to : List LogOp). new.device.now ≡ option_map (after to) old.device.now) (settles_found old s (pair_of old state is.is.sound not_queue) uncalled) settled.device.now) holds holds
      (λ image here _. subst (Represents (after (settle_to (header_for s) s) image)) (sym same) (settled_stands image s here));
  in_use = λ none. in_use;
}
  where
    s : Standing
    s = standing_of old state

    not_queue : old.head.kind ≢ Queue
    not_queue = no_queue_of kind old state ahead next asked is.is

    stays : StaysFound old new
    stays = found_stays kind old new state ahead next asked is uncalled settled

    same : standing_of new state ≡ standing_of old state
    same = standing_stays old new state stays.head stays.first

    still : settled_standing s (doubt_of s asked (was_called old.doubt)) ≡ s
    still = ap (λ (called : Bool). settled_standing s (doubt_of s asked called)) uncalled ∙ uncalled_standing s asked

    ops : settled_ops old ≡ settle_to (header_for (standing_of new state)) (standing_of new state)
    ops = settles_found old s (pair_of old state is.is.sound not_queue) uncalled ∙ ap (λ (t : Standing). settle_to (header_for t) t) (sym same)

    in_use : AreInUse (comb_view old state asked) → AreInUse (comb_view new state [])
    in_use before zero below =
        let here : 0 < side_count old.head.kind = omega (arith, one_side old.head.kind not_queue) in
        settled_in_use old new 0 settled stays.first here (before 0 here)
    in_use before (suc other) below =
        absurd (omega (arith, below, ap (λ (h : Header). side_count h.kind) stays.head, one_side old.head.kind not_queue))

-- Where one was called

called_some : (kind : Kind) (pair : PairView) (state ahead : State) (next : List Line) (asked : List Ask) → IsComb kind pair state ahead next asked → was_called pair.doubt ≡ true → asked ≢ []
called_some kind pair state ahead next asked is called nothing =
    absurd (cc (ap was_called (is.none nothing), called))

-- the first side has the round's record in use
decided_moves : (old new : PairView) (s : Standing) (asked : List Ask) (doubt : HasDoubt old s asked) → was_called old.doubt ≡ true → IsSettled old new → HasMoved doubt.doubt.lines old new
decided_moves old new s asked doubt called settled = record {
  head = settled.head;
  round = ap (λ (part : SideView). part.round) first;
  lines_are = ap (λ (part : SideView). part.lines) first;
  second = ap (λ (part : SideView). part.lines) second;
}
  where
    was : doubt.doubt.called ≡ true
    was = ap was_called (sym doubt.is) ∙ called

    here : (doubt.doubt.side == 0) ≡ true
    here = ap (λ (n : ℕ). n == 0) doubt.side

    there : (doubt.doubt.side == 1) ≡ false
    there = ap (λ (n : ℕ). n == 1) doubt.side

    first : new.first ≡ settled_by true doubt.doubt.lines old.first
    first = settled.first ∙ (ap (λ (d : Option DoubtView). settled_side d 0 old.first) doubt.is ∙ (λ i. settled_by (was i && here i) doubt.doubt.lines old.first))

    second : new.second ≡ settled_by false doubt.doubt.lines old.second
    second = settled.second ∙ (ap (λ (d : Option DoubtView). settled_side d 1 old.second) doubt.is ∙ (λ i. settled_by (was i && there i) doubt.doubt.lines old.second))

pub decided_comb : (kind : Kind) (old new : PairView) (state ahead after_state : State) (next : List Line) (asked : List Ask) (followed : List Line) → IsUnsettled kind old state ahead next asked → was_called old.doubt ≡ true → IsSettled old new → followed ≡ lines_of new 0 → after_state ≡ ahead → IsComb kind new after_state ahead followed []
decided_comb kind old new state ahead after_state next asked followed is called settled follows same =
    let doubt = is.is.some (called_some kind old state ahead next asked is.is called) in
    let round = doubted kind old state ahead next asked is.is doubt in
    let moves = decided_moves old new (standing_of old state) asked doubt called settled in
    record {
      sound = settled.sound;
      kind_is = ap (λ (h : Header). h.kind) settled.head ∙ is.is.kind_is;
      one_side = is.is.one_side;
      records = subst (λ (st : State). AreRecords (lines_of new) (standing_of new st)) (sym (same ∙ is.is.ahead_by)) (records_moved kind old new state asked doubt.doubt.lines round moves);
      ahead_by = sym same ∙ sym (state_from-none after_state);
      long = followed_long kind old new state ahead next asked followed is.is settled follows;
      carried = λ sure. follows;
      none = λ nothing. settled.doubt;
      some = λ some. absurd (some refl);
    }

-- the record in doubt is the round's
doubt_is_of : (kind : Kind) (old : PairView) (state ahead : State) (next : List Line) (asked : List Ask) → (is : IsComb kind old state ahead next asked) → (called : was_called old.doubt ≡ true) → IsDoubtOf old (standing_of old state) (round_for old state asked)
doubt_is_of kind old state ahead next asked is called =
    let doubt = is.some (called_some kind old state ahead next asked is called) in
    record {
      of = pair_of old state is.sound (no_queue_of kind old state ahead next asked is);
      record_in_doubt = doubt.doubt;
      is = doubt.is;
      called = ap was_called (sym doubt.is) ∙ called;
      side_is = doubt.side ∙ sym (side_zero kind old state asked doubt.doubt.lines (doubted kind old state ahead next asked is doubt));
    }

pub decided : (kind : Kind) (old new : PairView) (state ahead after_state : State) (next : List Line) (asked : List Ask) → IsUnsettled kind old state ahead next asked → was_called old.doubt ≡ true → IsSettled old new → after_state ≡ ahead → HasSettled (comb_view old state asked) (comb_view new after_state [])
decided kind old new state ahead after_state next asked is called settled same = record {
  standing = moved ∙ sym (ap (λ (c : Bool). settled_standing s (doubt_of s asked c)) called ∙ called_standing s asked some);
  sure = ap is_sure settled.known;
  doubt = refl;
  device = subst (λ (ops : List LogOp). Does ops old.device new.device) ops settled.device;
  first = ap known_records settled.first ∙ forgets 0 old.first (is.is.sound.unsure_first unknown);
  second = ap known_records settled.second ∙ forgets 1 old.second (is.is.sound.unsure_second unknown);
  holds = λ none holds. absurd (none_called none);
  in_use = λ none before. absurd (none_called none);
}
  where
    s : Standing
    s = standing_of old state

    round : Round
    round = round_for old state asked

    some : asked ≢ []
    some = called_some kind old state ahead next asked is.is called

    doubt : HasDoubt old s asked
    doubt = is.is.some some

    unknown : old.known ≢ Sure
    unknown = known_unsure old.known is.unsure

    moved : standing_of new after_state ≡ after_round s round
    moved = ap (standing_of new) (same ∙ is.is.ahead_by) ∙ standing_moved kind old new state asked doubt.doubt.lines (doubted kind old state ahead next asked is.is doubt) (decided_moves old new s asked doubt called settled)

    ops : settled_ops old ≡ settle_to (header_for (standing_of new after_state)) (standing_of new after_state)
    ops =
        settles_after old s round (doubt_is_of kind old state ahead next asked is.is called) (served_is_legal s asked doubt.may) is.is.records.sides
        ∙ ((λ i. settle_to (sym (next_header s round) i) (after_round s round)) ∙ ap (λ (t : Standing). settle_to (header_for t) t) (sym moved))

    forgets : (side : ℕ) (part : SideView) → part ≡ forgotten part → known_records (settled_side old.doubt side part) ≡ nothing_known
    forgets side part same_part = by old.doubt
      where
        by_called : (b : Bool) (lines : List Line) → known_records (settled_by b lines part) ≡ nothing_known
        by_called true lines = refl
        by_called false lines = known_none part same_part

        by : (d : Option DoubtView) → known_records (settled_side d side part) ≡ nothing_known
        by None = known_none part same_part
        by (Some d) = by_called (d.called && (d.side == side)) d.lines

    none_called : doubt_of s asked (was_called old.doubt) ≡ None → ⊥
    none_called none = cc (some_doubt s asked (was_called old.doubt) some, none)

-- What a crash leaves

-- the engine's round in doubt was called exactly where the pair's record was
called_as : (kind : Kind) (pair : PairView) (state ahead : State) (next : List Line) (asked : List Ask) → IsComb kind pair state ahead next asked → engine_called (doubt_of (standing_of pair state) asked (was_called pair.doubt)) ≡ was_called pair.doubt
called_as kind pair state ahead next [] is = sym (ap was_called (is.none refl))
called_as kind pair state ahead next (ask ∷ asks) is = refl

-- and it is the round of the requests that failed
round_as : (s : Standing) (asked : List Ask) (called : Bool) (failed : FailedRound) → doubt_of s asked called ≡ Some failed → (asked_round s asked ≡ failed.round) × (called ≡ failed.called)
round_as s [] called failed is = absurd (cc (is))
round_as s (ask ∷ asks) called failed is = (ap (λ (f : FailedRound). f.round) (the _ failed is), ap (λ (f : FailedRound). f.called) (the _ failed is))
  where
    the : (a b : FailedRound) → ◌≡◌ {A = Option FailedRound} (Some a) (Some b) → a ≡ b
    the a b e = cc

pub settled_safely : (kind : Kind) (old new : PairView) (state ahead : State) (next : List Line) (asked : List Ask) (engine : EngineView) → IsUnsettled kind old state ahead next asked → SettleCovers old new.device → engine.device ≡ new.device → EngineSettleCovers (comb_view old state asked) engine
settled_safely kind old new state ahead next asked engine is safely device =
    subst (λ (d : Device). EngineSettleCovers (comb_view old state asked) (record engine { device = d })) (sym device) (record {
      found = λ uncalled tale members told ready stands.
          safely.found (sym (called_as kind old state ahead next asked is.is) ∙ uncalled) tale s members told (record { ready = ready; of = of; stands = stands });
      decided = λ failed here called tale told in_doubt.
          let same = round_as s asked (was_called old.doubt) failed here in
          let doubt = doubt_is_of kind old state ahead next asked is.is (same.1 ∙ called) in
          subst (λ (r : Round). IsCoveredExit tale new.device s (sealed_round r ∷ []) (Some (after_round s r) ∷ [])) same.0 (safely.decided tale s (round_for old state asked) told doubt (subst (IsRoundInDoubt tale.base tale.log s) (sym same.0) in_doubt));
      landed = λ failed here called tale told has_landed.
          let same = round_as s asked (was_called old.doubt) failed here in
          let doubt = doubt_is_of kind old state ahead next asked is.is (same.1 ∙ called) in
          subst (λ (r : Round). IsCoveredExit tale new.device (after_round s r) [] (Some (after_round s r) ∷ [])) same.0 (safely.landed tale s (round_for old state asked) told doubt (subst (HasRoundLanded tale.base tale.log s) (sym same.0) has_landed));
      sealed = λ tale told. safely.sealed tale told;
    })
  where
    s : Standing
    s = standing_of old state

    of : IsPairOf old s
    of = pair_of old state is.is.sound (no_queue_of kind old state ahead next asked is.is)

-- A settling that failed

-- the operations of settling, whether it failed or not
settling_ops : (kind : Kind) (old : PairView) (state ahead : State) (next : List Line) (asked : List Ask) → IsComb kind old state ahead next asked → (called : Bool) → was_called old.doubt ≡ called → settled_ops old ≡ settle_to (header_for (settled_standing (standing_of old state) (doubt_of (standing_of old state) asked (was_called old.doubt)))) (settled_standing (standing_of old state) (doubt_of (standing_of old state) asked (was_called old.doubt)))
settling_ops kind old state ahead next asked is false uncalled =
    let s = standing_of old state in
    let still : settled_standing s (doubt_of s asked (was_called old.doubt)) ≡ s = ap (λ (called : Bool). settled_standing s (doubt_of s asked called)) uncalled ∙ uncalled_standing s asked in
    settles_found old s (pair_of old state is.sound (no_queue_of kind old state ahead next asked is)) uncalled ∙ ap (λ (t : Standing). settle_to (header_for t) t) (sym still)
settling_ops kind old state ahead next asked is true called =
    let s = standing_of old state in
    let some = called_some kind old state ahead next asked is called in
    let round = round_for old state asked in
    let moved : settled_standing s (doubt_of s asked (was_called old.doubt)) ≡ after_round s round = ap (λ (c : Bool). settled_standing s (doubt_of s asked c)) called ∙ called_standing s asked some in
    settles_after old s round (doubt_is_of kind old state ahead next asked is called) (served_is_legal s asked (is.some some).may) is.records.sides
    ∙ ((λ i. settle_to (sym (next_header s round) i) (after_round s round)) ∙ ap (λ (t : Standing). settle_to (header_for t) t) (sym moved))

abbrev FailsToSettle : PairView → DeviceFault → PairView → Type 0
FailsToSettle old fault new = HasFailed (IsFailedPrefix (settled_ops old)) old.doubt old fault new

still_in_doubt : (old new : PairView) (fault : DeviceFault) (s t : Standing) (asked : List Ask) → FailsToSettle old fault new → t ≡ s → HasDoubt old s asked → HasDoubt new t asked
still_in_doubt old new fault s t asked failed same doubt =
    subst (λ (u : Standing). HasDoubt new u asked) (sym same) (record {
      failed = failed.known;
      may = doubt.may;
      doubt = doubt.doubt;
      is = failed.doubt ∙ doubt.is;
      side = doubt.side;
      next = subst (λ (records : ℕ → List Line). IsNextOf records s (asked_round s asked) doubt.doubt.lines) (sym (lines_stay old new failed.first failed.second)) doubt.next;
    })

pub unsettled_comb : (kind : Kind) (old new : PairView) (state ahead : State) (next : List Line) (asked : List Ask) (fault : DeviceFault) → IsComb kind old state ahead next asked → FailsToSettle old fault new → IsComb kind new state ahead next asked
unsettled_comb kind old new state ahead next asked fault is failed = record {
  sound = failed.sound;
  kind_is = ap (λ (h : Header). h.kind) failed.head ∙ is.kind_is;
  one_side = is.one_side;
  records = records_stay old new state failed.head failed.first failed.second is.records;
  ahead_by = is.ahead_by;
  long = is.long ∙ ap record_length (sym failed.head);
  carried = λ sure. absurd (cc (ap is_sure failed.known, sure));
  none = λ nothing. failed.doubt ∙ is.none nothing;
  some = λ some. still_in_doubt old new fault (standing_of old state) (standing_of new state) asked failed (standing_stays old new state failed.head failed.first) (is.some some);
}

pub failed_to_settle : (kind : Kind) (old new : PairView) (state ahead : State) (next : List Line) (asked : List Ask) (fault : DeviceFault) → IsComb kind old state ahead next asked → FailsToSettle old fault new → HasFailedToSettle fault (comb_view old state asked) (comb_view new state asked)
failed_to_settle kind old new state ahead next asked fault is failed = record {
  standing = same;
  doubt = λ i. doubt_of (same i) asked (was_called (failed.doubt i));
  unsure = unsure old new state asked failed.known failed.first failed.second;
  device = record {
    from = failed.device.from;
    to = failed.device.to;
    stops = record {
      rose = failed.device.stops.rose;
      ops = failed.device.stops.ops;
      cut = subst (λ (all : List LogOp). IsFailedPrefix all failed.device.stops.ops) (settling_ops kind old state ahead next asked is (was_called old.doubt) refl) failed.device.stops.cut;
      told = failed.device.stops.told;
    };
  };
}
  where
    same : standing_of new state ≡ standing_of old state
    same = standing_stays old new state failed.head failed.first

pub unsettled_safely : (kind : Kind) (old new : PairView) (state ahead : State) (next : List Line) (asked : List Ask) → IsComb kind old state ahead next asked → FailedSettleCovers old new.device → EngineFailedSettleCovers (comb_view old state asked) (comb_view new state asked)
unsettled_safely kind old new state ahead next asked is safely = record {
  found = λ uncalled tale members told ready stands.
      safely.found (sym (called_as kind old state ahead next asked is) ∙ uncalled) tale s members told (record { ready = ready; of = of; stands = stands });
  decided = λ failed here called tale told in_doubt.
      let same = round_as s asked (was_called old.doubt) failed here in
      let doubt = doubt_is_of kind old state ahead next asked is (same.1 ∙ called) in
      subst (IsInDoubt tale new.device s) same.0 (safely.decided tale s (round_for old state asked) told doubt (subst (IsRoundInDoubt tale.base tale.log s) (sym same.0) in_doubt));
  landed = λ failed here called tale told has_landed.
      let same = round_as s asked (was_called old.doubt) failed here in
      let doubt = doubt_is_of kind old state ahead next asked is (same.1 ∙ called) in
      subst (StaysLanded tale new.device s) same.0 (safely.landed tale s (round_for old state asked) told doubt (subst (HasRoundLanded tale.base tale.log s) (sym same.0) has_landed));
}
  where
    s : Standing
    s = standing_of old state

    of : IsPairOf old s
    of = pair_of old state is.sound (no_queue_of kind old state ahead next asked is)

-- Both together

settled_fields : (kind : Kind) (old new : PairView) (state ahead state_after ahead_after : State) (next : List Line) (asked : List Ask) (followed : List Line) (called recorded : Bool) → was_called old.doubt ≡ called → recorded ≡ called → IsUnsettled kind old state ahead next asked → IsSettled old new → followed ≡ lines_of new 0
    → state_after ≡ (if recorded then ahead else state) → ahead_after ≡ (if recorded then ahead else state) → IsComb kind new state_after ahead_after followed [] × HasSettled (comb_view old state asked) (comb_view new state_after [])
settled_fields kind old new state ahead state_after ahead_after next asked followed true recorded was is unsettled settled follows first second =
    let here : state_after ≡ ahead = first ∙ ap (λ (b : Bool). if b then ahead else state) is in
    let there : ahead_after ≡ ahead = second ∙ ap (λ (b : Bool). if b then ahead else state) is in (
      subst (λ (a : State). IsComb kind new state_after a followed []) (sym there) (decided_comb kind old new state ahead state_after next asked followed unsettled was settled follows here),
      decided kind old new state ahead state_after next asked unsettled was settled here,
    )
settled_fields kind old new state ahead state_after ahead_after next asked followed false recorded was is unsettled settled follows first second =
    let here : state_after ≡ state = first ∙ ap (λ (b : Bool). if b then ahead else state) is in
    let there : ahead_after ≡ state = second ∙ ap (λ (b : Bool). if b then ahead else state) is in (
      subst (λ (st : State). IsComb kind new st ahead_after followed []) (sym here) (found_comb kind old new state ahead ahead_after next asked followed unsettled was settled follows there),
      subst (λ (st : State). HasSettled (comb_view old state asked) (comb_view new st [])) (sym here) (found kind old new state ahead next asked unsettled was settled),
    )

-- what the fields come to, whose pair was settled
pub settled_both : (kind : Kind) (old new : PairView) (state ahead state_after ahead_after : State) (next : List Line) (asked rest : List Ask) (followed : List Line) (recorded : Bool) → recorded ≡ was_called old.doubt → IsUnsettled kind old state ahead next asked → IsSettled old new → followed ≡ lines_of new 0
    → state_after ≡ (if recorded then ahead else state) → ahead_after ≡ (if recorded then ahead else state) → rest ≡ [] → IsComb kind new state_after ahead_after followed rest × HasSettled (comb_view old state asked) (comb_view new state_after rest)
settled_both kind old new state ahead state_after ahead_after next asked rest followed recorded is unsettled settled follows first second none =
    subst (λ (asks : List Ask). IsComb kind new state_after ahead_after followed asks × HasSettled (comb_view old state asked) (comb_view new state_after asks)) (sym none)
    (settled_fields kind old new state ahead state_after ahead_after next asked followed (was_called old.doubt) recorded refl is unsettled settled follows first second)

-- requests keep an object's size
pub size_from : (asks : List Ask) (state : State) → size_of (state_from state asks) ≡ size_of state
size_from [] state = ap size_of (state_from-none state)
size_from (ask ∷ asks) state = ap size_of (state_from-more state ask asks) ∙ (size_from asks (next_state state ask.op) ∙ next_state-size state ask.op)

-- so the two copies have one size
pub same_size : (kind : Kind) (pair : PairView) (state ahead : State) (next : List Line) (asked : List Ask) → IsComb kind pair state ahead next asked → size_of state ≡ size_of ahead
same_size kind pair state ahead next asked is = sym (ap size_of is.ahead_by ∙ size_from asked state)

pub same_answer : (a b : Bool) → ◌≡◌ {A = Result Bool DeviceFault} (Ok a) (Ok b) → a ≡ b
same_answer a b e = cc
