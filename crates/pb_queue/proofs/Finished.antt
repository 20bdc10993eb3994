-- A round of a queue's engine, from what its parts did.
use Rattle.std.proofs.Common.{◌≡◌, ℕ, ◌<◌, ◌≤◌, Bool, true, false, List, [], Result, Ok, refl, sym, ap, subst, ◌∙◌, inl, inr}
use Rattle.pb_pmem.specs.declared.device.DeviceFault.{DeviceFault}
use Rattle.pb_pmem.specs.declared.line.Line.{Line}
use Rattle.pb_object.specs.declared.request.Ask.{Ask}
use Rattle.pb_object.specs.Object.{Waits}
use Rattle.pb_object.specs.Queue.{Waiting, tail_of}
use Rattle.pb_layout.specs.NextRecord.{IsNextOf}
use Rattle.pb_pair.specs.Safe.{SettleCovers}
use Rattle.pb_pair.specs.Settle.{was_called, IsSettled}
use Rattle.pb_pair.specs.View.{PairView, lines_of}
use Rattle.pb_engine.specs.Asks.{MayBeServed, side_asked, state_from, asked_round}
use Rattle.pb_engine.specs.Covers.{RoundCovers, FailedRoundCovers, SettleCovers as EngineSettleCovers}
use Rattle.pb_object.specs.declared.kind.Kind.TheVariants.{Queue}
use Rattle.pb_pair.specs.Cells.{IsFree}
use Rattle.pb_pair.specs.Store.{IsNext}
use Rattle.pb_engine.specs.View.{EngineView, IsEngine}
use Rattle.pb_engine.proofs.Pairs.{known_sure}
use Rattle.pb_engine.specs.Outcomes.{HasMade, HasFailedToMake, HasSettled}
use Rattle.pb_queue.specs.Items.{ItemsView, IsBounded, settled_items}
use Rattle.pb_queue.specs.Rounds.{added, added_since, HasStoredRound, HasFailedRound}
use Rattle.pb_queue.specs.Serving.{HasServed}
use Rattle.pb_queue.specs.Standing.{standing_of}
use Rattle.pb_queue.specs.View.{twin_view, IsTwin}
use Rattle.pb_queue.proofs.Made.{IsCelled, HasConfirmed, IsAhead, stored_twin, made, made_safely, among_left, after_left, failed_twin, failed_among, failed_after, among_safely, after_safely}
use Rattle.pb_queue.proofs.Prepared.{side_there}
use Rattle.pb_queue.proofs.Rounds.{round_for, IsRound, IsStep, store_next, waits_below, is_free}
use Rattle.pb_queue.proofs.Sound.{none_in_doubt, engine_of}
use Rattle.pb_queue.proofs.Settling.{IsUnsettled, found_twin, found, decided_twin, decided, settled_safely}

-- an engine that is sure, requests that may be served, and what preparing their round made
pub record HasPrepared (pair : PairView) (old new : ItemsView) (asks : List Ask) (before lines : List Line) : Type 0 where
  pub is : IsTwin pair old before []
  pub may : MayBeServed (standing_of pair old.sure) asks
  pub served : HasServed (side_asked asks) asks old new
  pub bounded : IsBounded new.size new.next
  pub next : IsNextOf (lines_of pair) (standing_of pair old.sure) (round_for pair old.sure asks) lines

pub round_of : (pair : PairView) (old new : ItemsView) (asks : List Ask) (before lines : List Line) → HasPrepared pair old new asks before lines → IsRound pair old.sure new.next asks lines
round_of pair old new asks before lines has = record {
  sound = has.is.sound;
  queue = has.is.queue;
  records = has.is.records;
  may = has.may;
  state = subst (λ (n : ℕ). Waits n new.next ≡ state_from (Waits n old.sure) asks) has.is.size (subst (λ (n : ℕ). Waits n new.next ≡ state_from (Waits old.size old.sure) asks) has.served.size has.served.state);
  next = has.next;
}

pub step_of : (pair : PairView) (old new : ItemsView) (asks : List Ask) (before lines : List Line) → HasPrepared pair old new asks before lines → IsStep (side_asked asks) pair.head.size old.sure new.next
step_of pair old new asks before lines has = record {
  here = side_there (standing_of pair old.sure) asks has.may;
  moves = has.served.moves;
  bounded = subst (λ (n : ℕ). IsBounded n new.next) (has.served.size ∙ has.is.size) has.bounded;
}

-- what a round that was made comes to
pub record HasDone (pair final : PairView) (old items : ItemsView) (asks : List Ask) (lines : List Line) : Type 0 where
  pub twin : IsTwin final items lines []
  pub made : HasMade (round_for pair old.sure asks) (twin_view pair old []) (twin_view final items [])
  pub safe : RoundCovers (round_for pair old.sure asks) (twin_view pair old []) (twin_view final items [])

pub done : (pair final : PairView) (old new items : ItemsView) (asks : List Ask) (before lines : List Line) (side : ℕ) → HasPrepared pair old new asks before lines → side ≡ side_asked asks → HasStoredRound (tail_of new.sure) (added new) side lines pair final → items ≡ record new { sure = new.next } → HasDone pair final old items asks lines
done pair final old new items asks before lines side has side_is stored_by items_are = by stored
  where
    stored : HasStoredRound (tail_of old.sure) (added_since old.sure new.next) (side_asked asks) lines pair final
    stored = subst (λ (n : ℕ). HasStoredRound (tail_of old.sure) (added_since old.sure new.next) n lines pair final) side_is
        (subst (λ (w : Waiting). HasStoredRound (tail_of w) (added_since w new.next) side lines pair final) has.served.sure stored_by)

    confirmed : HasConfirmed new.next old items
    confirmed = record {
      size = ap (λ (v : ItemsView). v.size) items_are ∙ has.served.size;
      sure = ap (λ (v : ItemsView). v.sure) items_are;
      next = ap (λ (v : ItemsView). v.next) items_are;
    }

    by : HasStoredRound (tail_of old.sure) (added_since old.sure new.next) (side_asked asks) lines pair final → HasDone pair final old items asks lines
    by is =
        let celled : IsCelled pair is.between old.sure new.next asks lines = record { round = round_of pair old new asks before lines has; step = step_of pair old new asks before lines has; cells = is.cells } in
        record {
          twin = stored_twin pair is.between final old items new.next asks lines lines celled has.is.size confirmed is.stored refl;
          made = made pair is.between final old items new.next asks lines celled confirmed is.stored;
          safe = made_safely pair is.between final old items new.next asks lines celled is.safe;
        }

-- and what one that failed does
pub record HasFailedIn (pair : PairView) (fault : DeviceFault) (final : PairView) (old items : ItemsView) (asks asked : List Ask) (lines : List Line) : Type 0 where
  pub twin : IsTwin final items lines asked
  pub failed : HasFailedToMake (round_for pair old.sure asks) fault (twin_view pair old []) (twin_view final items asked)
  pub safe : FailedRoundCovers (round_for pair old.sure asks) (twin_view pair old []) (twin_view final items asked)

pub failed : (pair final : PairView) (fault : DeviceFault) (old new : ItemsView) (asks asked : List Ask) (before lines : List Line) (side : ℕ) → HasPrepared pair old new asks before lines → side ≡ side_asked asks → HasFailedRound (tail_of new.sure) (added new) side lines pair fault final → asked ≡ asks → HasFailedIn pair fault final old new asks asked lines
failed pair final fault old new asks asked before lines side has side_is failed_by kept =
    subst (λ (a : List Ask). HasFailedIn pair fault final old new asks a lines) (sym kept) (by here)
  where
    here : HasFailedRound (tail_of old.sure) (added_since old.sure new.next) (side_asked asks) lines pair fault final
    here = subst (λ (n : ℕ). HasFailedRound (tail_of old.sure) (added_since old.sure new.next) n lines pair fault final) side_is
        (subst (λ (w : Waiting). HasFailedRound (tail_of w) (added_since w new.next) side lines pair fault final) has.served.sure failed_by)

    ahead : IsAhead new.next old new
    ahead = record { size = has.served.size; sure = has.served.sure; next = refl }

    round : IsRound pair old.sure new.next asks lines
    round = round_of pair old new asks before lines has

    step : IsStep (side_asked asks) pair.head.size old.sure new.next
    step = step_of pair old new asks before lines has

    by : HasFailedRound (tail_of old.sure) (added_since old.sure new.next) (side_asked asks) lines pair fault final → HasFailedIn pair fault final old new asks asks lines
    by (inl among) = record {
      twin = failed_twin pair final old new new.next asks asks lines lines round has.is.size ahead (among_left pair final old.sure new.next asks fault among) refl refl;
      failed = failed_among pair final old new new.next asks lines fault round ahead among;
      safe = among_safely pair final old new new.next asks lines fault round step among;
    }
    by (inr past) = record {
      twin = failed_twin pair final old new new.next asks asks lines lines round has.is.size ahead (after_left pair final old.sure new.next asks lines fault round past) refl refl;
      failed = failed_after pair final old new new.next asks lines fault round step ahead past;
      safe = after_safely pair final old new new.next asks lines fault round step past;
    }

-- What preparing a round made, for an engine that shows this
pub record HasBegun (pair : PairView) (old new : ItemsView) (asked asks given : List Ask) (before lines : List Line) (engine : EngineView) (side : ℕ) : Type 0 where
  pub is : IsTwin pair old before asked
  pub shown : twin_view pair old asked ≡ engine
  pub sure : engine.sure ≡ true
  pub may : MayBeServed engine.standing given
  pub same : asks ≡ given
  pub side_is : side ≡ side_asked asks
  pub served : HasServed side asks old new
  pub bounded : IsBounded new.size new.next
  pub next : IsNextOf (lines_of pair) (standing_of pair old.sure) (round_for pair old.sure asks) lines

nothing_asked : (pair : PairView) (old new : ItemsView) (asked asks given : List Ask) (before lines : List Line) (engine : EngineView) (side : ℕ) → HasBegun pair old new asked asks given before lines engine side → asked ≡ []
nothing_asked pair old new asked asks given before lines engine side has =
    none_in_doubt pair old before asked has.is (ap (λ (e : EngineView). e.sure) has.shown ∙ has.sure)

pub may_serve : (pair : PairView) (old : ItemsView) (asked asks given : List Ask) (engine : EngineView) → twin_view pair old asked ≡ engine → asks ≡ given → MayBeServed engine.standing given → MayBeServed (standing_of pair old.sure) asks
may_serve pair old asked asks given engine shown same may =
    subst (MayBeServed (standing_of pair old.sure)) (sym same) (subst (λ (e : EngineView). MayBeServed e.standing given) (sym shown) may)

pub prepared_of : (pair : PairView) (old new : ItemsView) (asked asks given : List Ask) (before lines : List Line) (engine : EngineView) (side : ℕ) → HasBegun pair old new asked asks given before lines engine side → HasPrepared pair old new asks before lines
prepared_of pair old new asked asks given before lines engine side has = record {
  is = subst (IsTwin pair old before) (nothing_asked pair old new asked asks given before lines engine side has) has.is;
  may = may_serve pair old asked asks given engine has.shown has.same has.may;
  served = subst (λ (n : ℕ). HasServed n asks old new) has.side_is has.served;
  bounded = has.bounded;
  next = has.next;
}

-- the lines may be stored
pub next_of : (pair : PairView) (old new : ItemsView) (asked asks given : List Ask) (before lines : List Line) (engine : EngineView) (side : ℕ) → HasBegun pair old new asked asks given before lines engine side → IsNext pair side lines
next_of pair old new asked asks given before lines engine side has =
    subst (λ (n : ℕ). IsNext pair n lines) (sym has.side_is) (store_next pair old.sure new.next asks lines (round_of pair old new asks before lines (prepared_of pair old new asked asks given before lines engine side has)))

-- and the cells may be put
pub waits_of : (pair : PairView) (old new : ItemsView) (asked asks given : List Ask) (before lines : List Line) (engine : EngineView) (side : ℕ) → HasBegun pair old new asked asks given before lines engine side → new.next.taken ≤ tail_of new.sure
waits_of pair old new asked asks given before lines engine side has =
    subst (λ (w : Waiting). new.next.taken ≤ tail_of w) (sym has.served.sure) (waits_below (side_asked asks) pair.head.size old.sure new.next (step_of pair old new asks before lines (prepared_of pair old new asked asks given before lines engine side has)))

pub free_of : (pair : PairView) (old new : ItemsView) (asked asks given : List Ask) (before lines : List Line) (engine : EngineView) (side position : ℕ) → HasBegun pair old new asked asks given before lines engine side → tail_of new.sure ≤ position → position < tail_of new.next → IsFree pair position
free_of pair old new asked asks given before lines engine side position has from below =
    is_free pair (side_asked asks) old.sure new.next position has.is.queue (known_sure pair.known (ap (λ (e : EngineView). e.sure) has.shown ∙ has.sure)) has.is.records (step_of pair old new asks before lines (prepared_of pair old new asked asks given before lines engine side has)) (subst (λ (w : Waiting). tail_of w ≤ position) has.served.sure from) below

-- what the engine shows after a round
pub record IsFinished (old new : EngineView) (final : PairView) (items : ItemsView) (given asked : List Ask) (lines : List Line) : Type 0 where
  pub twin : IsTwin final items lines asked
  pub made : HasMade (asked_round old.standing given) old new
  pub safe : RoundCovers (asked_round old.standing given) old new
  pub sound : IsEngine Queue new

pub finished : (pair final : PairView) (old new items : ItemsView) (asked asks given : List Ask) (before lines : List Line) (engine : EngineView) (side : ℕ) → HasBegun pair old new asked asks given before lines engine side → HasStoredRound (tail_of new.sure) (added new) side lines pair final → items ≡ record new { sure = new.next } → IsFinished engine (twin_view final items asked) final items given asked lines
finished pair final old new items asked asks given before lines engine side has stored items_are =
    subst (λ (e : EngineView). IsFinished e (twin_view final items asked) final items given asked lines) has.shown
    (subst (λ (a : List Ask). IsFinished (twin_view pair old asked) (twin_view final items asked) final items a asked lines) has.same
    (subst (λ (a : List Ask). IsFinished (twin_view pair old a) (twin_view final items a) final items asks a lines) (sym (nothing_asked pair old new asked asks given before lines engine side has)) (record {
      twin = is.twin;
      made = is.made;
      safe = is.safe;
      sound = engine_of final items lines [] is.twin;
    })))
  where
    is : HasDone pair final old items asks lines
    is = done pair final old new items asks before lines side (prepared_of pair old new asked asks given before lines engine side has) has.side_is stored items_are

-- and after one that failed
pub record IsGivenUp (fault : DeviceFault) (old new : EngineView) (final : PairView) (items : ItemsView) (given asked : List Ask) (lines : List Line) : Type 0 where
  pub twin : IsTwin final items lines asked
  pub failed : HasFailedToMake (asked_round old.standing given) fault old new
  pub safe : FailedRoundCovers (asked_round old.standing given) old new
  pub sound : IsEngine Queue new

pub given_up : (pair final : PairView) (fault : DeviceFault) (old new : ItemsView) (asked kept asks given : List Ask) (before lines : List Line) (engine : EngineView) (side : ℕ) → HasBegun pair old new asked asks given before lines engine side → HasFailedRound (tail_of new.sure) (added new) side lines pair fault final → kept ≡ given → IsGivenUp fault engine (twin_view final new kept) final new given kept lines
given_up pair final fault old new asked kept asks given before lines engine side has failed_by kept_is =
    subst (λ (e : EngineView). IsGivenUp fault e (twin_view final new kept) final new given kept lines) has.shown
    (subst (λ (a : List Ask). IsGivenUp fault (twin_view pair old asked) (twin_view final new kept) final new a kept lines) has.same
    (subst (λ (a : List Ask). IsGivenUp fault (twin_view pair old a) (twin_view final new kept) final new asks kept lines) (sym (nothing_asked pair old new asked asks given before lines engine side has)) (record {
      twin = is.twin;
      failed = is.failed;
      safe = is.safe;
      sound = engine_of final new lines kept is.twin;
    })))
  where
    is : HasFailedIn pair fault final old new asks kept lines
    is = failed pair final fault old new asks kept before lines side (prepared_of pair old new asked asks given before lines engine side has) has.side_is failed_by (kept_is ∙ sym has.same)

-- Settling

pub record HasBeenSettled (old new : PairView) (items final : ItemsView) (next : List Line) (asked : List Ask) : Type 0 where
  pub twin : IsTwin new final next []
  pub settled : HasSettled (twin_view old items asked) (twin_view new final [])
  pub safe : EngineSettleCovers (twin_view old items asked) (twin_view new final [])

pub settled_both : (old new : PairView) (items final : ItemsView) (next : List Line) (asked : List Ask) (recorded : Bool) → recorded ≡ was_called old.doubt → IsUnsettled old items next asked → IsSettled old new → SettleCovers old new.device → final ≡ settled_items recorded items → HasBeenSettled old new items final next asked
settled_both old new items final next asked recorded answer is settled safely same = record {
  twin = (both recorded (sym answer) same).0;
  settled = (both recorded (sym answer) same).1;
  safe = settled_safely old items next asked (twin_view new final []) new.device is safely refl;
}
  where
    both : (b : Bool) → was_called old.doubt ≡ b → final ≡ settled_items b items → IsTwin new final next [] × HasSettled (twin_view old items asked) (twin_view new final [])
    both true called items_are =
        let confirmed : HasConfirmed items.next items final = record { size = ap (λ (v : ItemsView). v.size) items_are; sure = ap (λ (v : ItemsView). v.sure) items_are; next = ap (λ (v : ItemsView). v.next) items_are } in
        (decided_twin old new items final next asked is called settled confirmed, decided old new items final next asked is called settled confirmed)
    both false uncalled items_are =
        let reverted : HasConfirmed items.sure items final = record { size = ap (λ (v : ItemsView). v.size) items_are; sure = ap (λ (v : ItemsView). v.sure) items_are; next = ap (λ (v : ItemsView). v.next) items_are } in
        (found_twin old new items final next asked is uncalled settled reverted, found old new items final next asked is uncalled settled reverted)

-- an answer says what it is equal to
pub same_answer : (a b : Bool) → ◌≡◌ {A = Result Bool DeviceFault} (Ok a) (Ok b) → a ≡ b
same_answer a b e = cc
