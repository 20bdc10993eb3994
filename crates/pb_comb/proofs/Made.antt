-- A round that was stored, and one that failed.
use Rattle.std.proofs.Common.{◌≡◌, ◌≢◌, ℕ, zero, suc, ◌<◌, Bool, true, false, Option, Some, None, IfSome, List, [], ◌∷◌, ◌++◌, refl, sym, ap, subst, ◌∙◌, arith, length}
use Rattle.pb_pmem.specs.declared.device.DeviceFault.{DeviceFault}
use Rattle.pb_pmem.specs.declared.line.Line.{Line}
use Rattle.pb_pmem.specs.declared.log.LogOp.{LogOp}
use Rattle.pb_pmem.specs.Operations.{after, Does, IsFailedPrefix, IsFailedPrefixAfter}
use Rattle.pb_object.specs.declared.kind.Kind.{Kind}
use Rattle.pb_object.specs.declared.request.Ask.{Ask}
use Rattle.pb_object.specs.History.{Round, after_round}
use Rattle.pb_object.specs.Object.{State}
use Rattle.pb_object.specs.Standing.{Standing, side_count}
use Rattle.pb_layout.specs.declared.header.Header.{Header}
use Rattle.pb_layout.specs.Header.{record_length}
use Rattle.pb_layout.specs.NextRecord.{IsNextOf}
use Rattle.pb_layout.specs.Recovered.{Represents, listed}
use Rattle.pb_layout.specs.Represents.{record_in_use, AreRecords}
use Rattle.pb_pair.specs.declared.known.Known.TheVariants.{Failed}
use Rattle.pb_pair.specs.Safe.{StoreCovers, FailedStoreCovers}
use Rattle.pb_pair.specs.Settle.{was_called}
use Rattle.pb_pair.specs.Store.{stored_ops, staged_ops, IsStored, IsFailedStore, HasFailedStore, doubt_of}
use Rattle.pb_pair.specs.View.{SideView, PairView, view_of_side, round_of_side, lines_of, forgotten, HasFailed}
use Rattle.pb_pair.proofs.Safe.{stored_represents}
use Rattle.pb_pair.proofs.Told.{if_some_mapped}
use Rattle.pb_engine.specs.Asks.{side_asked, state_from, asked_round}
use Rattle.pb_engine.specs.Covers.{RoundCovers, FailedRoundCovers}
use Rattle.pb_engine.specs.Operations.{committed_ops, round_ops, IsFailedRoundOps}
use Rattle.pb_engine.specs.Outcomes.{stored_on_first, stored_on_second, HasMade, IsUnsure, HasFailedToMake, IsNextRecordOf}
use Rattle.pb_engine.specs.View.{IsInUse, AreInUse, was_called as engine_called}
use Rattle.pb_engine.specs.Pairs.{is_sure, known_records, doubt_of as engine_doubt}
use Rattle.pb_comb.specs.View.{standing_of, comb_view, HasDoubt, IsComb}
use Rattle.pb_comb.proofs.Records.{one_side, round_for, pair_of}
use Rattle.pb_comb.proofs.Rounds.{IsRound, side_zero, no_queue, store_next, next_in, cells_of, store_of, ops_of, commits_of, HasMoved, standing_moved, records_moved}
use Rattle.pb_engine.proofs.InUse.{stored_in_use}
use Rattle.pb_engine.proofs.Served.{state_from-none}
use Rattle.pb_layout.specs.Record.{kept_in_slots}

no_asks : List Ask
no_asks = []

-- The pair after a store

stored_moves : (old new : PairView) (lines : List Line) → IsStored 0 lines old new → HasMoved lines old new
stored_moves old new lines stored = record {
  head = stored.head;
  round = ap (λ (part : SideView). part.round) stored.first;
  lines_are = ap (λ (part : SideView). part.lines) stored.first;
  second = ap (λ (part : SideView). part.lines) stored.second;
}

pub stored_comb : (kind : Kind) (old new : PairView) (state : State) (asks : List Ask) (lines next : List Line) → IsRound kind old state asks lines → IsStored 0 lines old new → next ≡ lines → IsComb kind new (state_from state asks) (state_from state asks) next []
stored_comb kind old new state asks lines next is stored same = record {
  sound = stored.sound;
  kind_is = ap (λ (h : Header). h.kind) stored.head ∙ is.kind_is;
  one_side = is.not_queue;
  records = records_moved kind old new state asks lines is (stored_moves old new lines stored);
  ahead_by = sym (state_from-none (state_from state asks));
  long = ap length same ∙ (is.next.long ∙ ap record_length (sym stored.head));
  carried = λ sure. same ∙ sym (stored_moves old new lines stored).lines_are;
  none = λ nothing. stored.doubt;
  some = λ some. absurd (some refl);
}

-- the record is one of the side's next round
next_is : (kind : Kind) (pair : PairView) (state : State) (asks : List Ask) (lines : List Line) → IsRound kind pair state asks lines → IsNextRecordOf (standing_of pair state) (round_for pair state asks) lines
next_is kind pair state asks lines is = record {
  records = lines_of pair;
  say = is.records;
  next = is.next;
}

engine_ops : (kind : Kind) (pair : PairView) (state : State) (asks : List Ask) (lines : List Line) → IsRound kind pair state asks lines → round_ops (comb_view pair state []) (round_for pair state asks) lines ≡ stored_ops pair.head 0 (view_of_side pair 0) lines
engine_ops kind pair state asks lines is =
    (λ i. ops_of kind pair state [] asks lines is i ++ commits_of kind pair state [] asks lines is i)

pub made : (kind : Kind) (old new : PairView) (state : State) (asks : List Ask) (lines : List Line) → IsRound kind old state asks lines → IsStored 0 lines old new → HasMade (round_for old state asks) (comb_view old state []) (comb_view new (state_from state asks) [])
made kind old new state asks lines is stored = record {
  standing = moved;
  sure = ap is_sure stored.known;
  doubt = refl;
  lines = lines;
  record_is = next_is kind old state asks lines is;
  device = subst (λ (ops : List LogOp). Does ops old.device new.device) (sym (engine_ops kind old state asks lines is)) stored.device;
  first = ap known_records stored.first ∙ sym (ap (λ (n : ℕ). stored_on_first (comb_view old state []) n lines) side);
  second = ap known_records stored.second ∙ sym (ap (λ (n : ℕ). stored_on_second (comb_view old state []) n lines) side);
  holds = λ used holds. if_some_mapped (λ (ls : List Line). IsHeld ls) (λ (ls : List Line). Represents ls s) (λ (ls : List Line). Represents ls (standing_of new (state_from state asks))) (after ops) old.device.now new.device.now stored.device.now
      (held old.device.now refl (subst (IsInUse (comb_view old state [])) side used)) holds stands;
  in_use = in_use;
}
  where
    s : Standing
    s = standing_of old state

    round : Round
    round = round_for old state asks

    side : side_asked asks ≡ 0
    side = side_zero kind old state asks lines is

    moved : standing_of new (state_from state asks) ≡ after_round s round
    moved = standing_moved kind old new state asks lines is (stored_moves old new lines stored)

    ops : List LogOp
    ops = stored_ops old.head 0 (view_of_side old 0) lines

    -- the device's lines, whose record in use is the pair's
    IsHeld : List Line → Type 0
    IsHeld image = (record_in_use image old.head 0 (round_of_side old 0) ≡ lines_of old 0) × (old.device.now ≡ Some image)

    held : (now : Option (List Line)) → old.device.now ≡ now → IfSome now (λ image. record_in_use image old.head 0 (round_of_side old 0) ≡ lines_of old 0) → IfSome now (λ ls. IsHeld ls)
    held None told used = tt
    held (Some image) told used = (used, told)

    in_use : AreInUse (comb_view old state []) → AreInUse (comb_view new (state_from state asks) [])
    in_use before zero below =
        let here : 0 < side_count old.head.kind = omega (arith, one_side old.head.kind (no_queue kind old state asks lines is)) in
        stored_in_use 0 lines old new 0 stored (store_next kind old state asks lines is) here (before 0 here)
    in_use before (suc other) below =
        absurd (omega (arith, below, ap (λ (h : Header). side_count h.kind) stored.head, one_side old.head.kind (no_queue kind old state asks lines is)))

    stands : (image : List Line) → IsHeld image → Represents image s → Represents (after ops image) (standing_of new (state_from state asks))
    stands image has here =
        subst (Represents (after ops image)) (sym moved)
        (stored_represents 0 lines old s round image is.sound has.1 (store_next kind old state asks lines is) (pair_of old state is.sound (no_queue kind old state asks lines is)) side here (next_in kind old state asks lines image is has.0) (cells_of image [] kind old state asks lines is))

pub made_safely : (kind : Kind) (old new : PairView) (state : State) (asks : List Ask) (lines : List Line) → IsRound kind old state asks lines → StoreCovers 0 lines old new.device → RoundCovers (round_for old state asks) (comb_view old state []) (comb_view new (state_from state asks) [])
made_safely kind old new state asks lines is safely tale told ready =
    safely tale (standing_of old state) (round_for old state asks) told (store_of kind old state asks lines tale is told ready)

-- One that failed

-- an engine whose pair has failed knows nothing for sure
pub unsure : (old new : PairView) (state : State) (asked : List Ask) → new.known ≡ Failed → new.first ≡ forgotten old.first → new.second ≡ forgotten old.second → IsUnsure (comb_view new state asked)
unsure old new state asked known first second = record {
  sure = ap is_sure known;
  first = ap known_records first;
  second = ap known_records second;
}

-- the standing stays where the header, the rounds and the lines do
pub standing_stays : (old new : PairView) (state : State) → new.head ≡ old.head → new.first ≡ forgotten old.first → standing_of new state ≡ standing_of old state
standing_stays old new state head first =
    λ i. record {
      kind = (head i).kind;
      clients = (head i).clients;
      size = (head i).size;
      rounds = (first i).round ∷ [];
      state = state;
      kept = listed (head i).clients (kept_in_slots (first i).lines);
    }

pub lines_stay : (old new : PairView) → new.first ≡ forgotten old.first → new.second ≡ forgotten old.second → lines_of new ≡ lines_of old
lines_stay old new first second = λ i. λ side. same side i
  where
    same : (side : ℕ) → lines_of new side ≡ lines_of old side
    same zero = ap (λ (part : SideView). part.lines) first
    same (suc side) = ap (λ (part : SideView). part.lines) second

pub records_stay : (old new : PairView) (state : State) → new.head ≡ old.head → new.first ≡ forgotten old.first → new.second ≡ forgotten old.second → AreRecords (lines_of old) (standing_of old state) → AreRecords (lines_of new) (standing_of new state)
records_stay old new state head first second are =
    subst (AreRecords (lines_of new)) (sym (standing_stays old new state head first)) (subst (λ (records : ℕ → List Line). AreRecords records (standing_of old state)) (sym (lines_stay old new first second)) are)

-- the round stays in doubt
in_doubt : (kind : Kind) (old new : PairView) (state : State) (asks : List Ask) (lines : List Line) (called : Bool) (fault : DeviceFault) → IsRound kind old state asks lines → HasFailed (IsFailedStore old.head 0 (view_of_side old 0) lines called) (doubt_of 0 lines called) old fault new → HasDoubt new (standing_of new state) asks
in_doubt kind old new state asks lines called fault is failed =
    subst (λ (s : Standing). HasDoubt new s asks) (sym (standing_stays old new state failed.head failed.first)) (record {
      failed = failed.known;
      may = is.may;
      doubt = record { side = 0; lines = lines; called = called };
      is = failed.doubt;
      side = refl;
      next = subst (λ (records : ℕ → List Line). IsNextOf records (standing_of old state) (round_for old state asks) lines) (sym (lines_stay old new failed.first failed.second)) is.next;
    })

pub failed_comb : (kind : Kind) (old new : PairView) (state ahead : State) (asks asked : List Ask) (lines next : List Line) (fault : DeviceFault) → IsRound kind old state asks lines → HasFailedStore 0 lines old fault new → next ≡ lines → asked ≡ asks → ahead ≡ state_from state asks → IsComb kind new state ahead next asked
failed_comb kind old new state ahead asks asked lines next fault is failed same kept moved = record {
  sound = failed.failed.sound;
  kind_is = ap (λ (h : Header). h.kind) failed.failed.head ∙ is.kind_is;
  one_side = is.not_queue;
  records = records_stay old new state failed.failed.head failed.failed.first failed.failed.second is.records;
  ahead_by = moved ∙ ap (state_from state) (sym kept);
  long = ap length same ∙ (is.next.long ∙ ap record_length (sym failed.failed.head));
  carried = λ sure. absurd (cc (ap is_sure failed.failed.known, sure));
  none = λ nothing. absurd (is.may.some (sym kept ∙ nothing));
  some = λ some. subst (HasDoubt new (standing_of new state)) (sym kept) (in_doubt kind old new state asks lines failed.called fault is failed.failed);
}

pub some_doubt : (s : Standing) (asks : List Ask) (called : Bool) → asks ≢ [] → engine_doubt s asks called ≡ Some (record { round = asked_round s asks; called = called })
some_doubt s [] called some = absurd (some refl)
some_doubt s (ask ∷ asks) called some = refl

pub failed_to_make : (kind : Kind) (old new : PairView) (state : State) (asks : List Ask) (lines : List Line) (fault : DeviceFault) → IsRound kind old state asks lines → HasFailedStore 0 lines old fault new → HasFailedToMake (round_for old state asks) fault (comb_view old state []) (comb_view new state asks)
failed_to_make kind old new state asks lines fault is failed = record {
  standing = same;
  called = failed.called;
  doubt = (λ i. engine_doubt (same i) asks (was_called (failed.failed.doubt i))) ∙ some_doubt (standing_of old state) asks failed.called is.may.some;
  unsure = unsure old new state asks failed.failed.known failed.failed.first failed.failed.second;
  lines = lines;
  record_is = next_is kind old state asks lines is;
  device = record {
    from = failed.failed.device.from;
    to = failed.failed.device.to;
    stops = record {
      rose = failed.failed.device.stops.rose;
      ops = failed.failed.device.stops.ops;
      cut = cut failed.called failed.failed.device.stops.ops failed.failed.device.stops.cut;
      told = failed.failed.device.stops.told;
    };
  };
}
  where
    same : standing_of new state ≡ standing_of old state
    same = standing_stays old new state failed.failed.head failed.failed.first

    cut : (called : Bool) (ops : List LogOp) → IsFailedStore old.head 0 (view_of_side old 0) lines called ops → IsFailedRoundOps (comb_view old state []) (round_for old state asks) lines called ops
    cut false ops was = subst (λ (all : List LogOp). IsFailedPrefix all ops) (sym (ops_of kind old state [] asks lines is)) was
    cut true ops was =
        subst (λ (front : List LogOp). IsFailedPrefixAfter front (committed_ops (comb_view old state []) (round_for old state asks)) ops) (sym (ops_of kind old state [] asks lines is))
        (subst (λ (all : List LogOp). IsFailedPrefixAfter (staged_ops old.head 0 (view_of_side old 0) lines) all ops) (sym (commits_of kind old state [] asks lines is)) was)

-- whether the index word was called
called_is : (s : Standing) (asks : List Ask) (pair : PairView) → asks ≢ [] → engine_called (engine_doubt s asks (was_called pair.doubt)) ≡ was_called pair.doubt
called_is s asks pair some = ap engine_called (some_doubt s asks (was_called pair.doubt) some)

pub failed_safely : (kind : Kind) (old new : PairView) (state : State) (asks : List Ask) (lines : List Line) → IsRound kind old state asks lines → FailedStoreCovers 0 lines old new → FailedRoundCovers (round_for old state asks) (comb_view old state []) (comb_view new state asks)
failed_safely kind old new state asks lines is safely = record {
  uncalled = λ uncalled tale told ready.
      safely.stopped (sym (called_is (standing_of new state) asks new is.may.some) ∙ uncalled) tale (standing_of old state) told ready (pair_of old state is.sound (no_queue kind old state asks lines is));
  called = λ called tale told ready.
      safely.in_doubt (sym (called_is (standing_of new state) asks new is.may.some) ∙ called) tale (standing_of old state) (round_for old state asks) told (store_of kind old state asks lines tale is told ready);
}
