-- What the log tells of requests that were run over an engine.
use Rattle.std.proofs.Common.{◌≡◌, ◌⊎◌, ℕ, ◌+◌, ◌<◌, Bool, true, false, cond, List, [], ◌∷◌, ◌++◌, length, get_or, Option, Some, None, refl, sym, ap, subst, ◌∙◌, arith, inl, inr, zero, suc, IfSome, option_map, ◌≤◌}
use Rattle.std.specs.List.{Contains, count_by, filter, zip}
use Rattle.std.proofs.lemmas.List.{append_cancel_left, get_or_append_left, length-append, length-map, append-nil, take_all}
use Rattle.std.proofs.lemmas.Option.{same_Some}
use Rattle.pb_pmem.specs.declared.log.LogOp.{LogOp}
use Rattle.pb_pmem.specs.Device.{Tale}
use Rattle.pb_pmem.specs.Operations.{with_ops}
use Rattle.pb_object.specs.declared.request.Ask.{Ask}
use Rattle.pb_object.specs.History.{Entry, Round, History, IsLegal, IsLegalRound, state_after}
use Rattle.pb_object.specs.Standing.{Standing}
use Rattle.pb_layout.specs.Doubt.{either_state, IsRoundInDoubt, HasRoundLanded}
use Rattle.pb_layout.specs.Exits.{HasOneUnsealedAtMost}
use Rattle.pb_layout.specs.LogHistory.{LoggedRound, rounds_in, round_of, AreSealed, history_of}
use Rattle.pb_layout.specs.ToldExits.{IsCoveredExit, IsSealedAfter}
use Rattle.pb_engine.specs.Calls.{Progress, progress_of, with_doubt, settled_rounds, after_calls, AreCalls, all_ops, HasCalled}
use Rattle.pb_engine.specs.Good.{fence_count, sync_count, settlings, BeginsAt, IsCovered, IsDecidedAfter, IsInDoubtAfter, IsStillFound, HasCome}
use Rattle.pb_engine.specs.View.{EngineView, FailedRound, was_called}
use Rattle.pb_layout_laws.proofs.ToldCalls.{from_told}
use Rattle.pb_core.proofs.Histories.{legal-push}
use Rattle.pb_report.specs.declared.outcome.Outcome.{Outcome}
use Rattle.pb_report.specs.Outcomes.{Outcomes, HasEntry, entry_of}
use Rattle.pb_run.specs.Run.{HasRun, is_doubt, AreNewRecorded, AreCharged}
use Rattle.pb_broker.proofs.Counts.{fences_counted, syncs_counted}
use Rattle.pb_broker.specs.Running.{Explains, NoneInDoubt, AreAround, AreAroundDoubt, IsCalmRun, IsWork, IsLogged}

-- Rounds by their places

abbrev no_round : Round
no_round = record { side = 0; entries = [] }

abbrev unsealed : LoggedRound
unsealed = record { round = no_round; backed = false; sealed = false }

-- the round at a place of a told history is sealed
abbrev IsSealedAt : List LoggedRound → ℕ → Type 0
IsSealedAt history place = (get_or history place unsealed).sealed ≡ true

-- the sealed ones
abbrev pub sealed_rounds : List LoggedRound → History
sealed_rounds history = rounds_in (filter (λ round. round.sealed) history)

sealed_by_place : (history : List LoggedRound) (place : ℕ) → AreSealed history → place < length history → IsSealedAt history place
sealed_by_place [] place sealed inside = absurd (omega (arith, inside))
sealed_by_place (logged ∷ history) zero sealed inside = sealed.0
sealed_by_place (logged ∷ history) (suc place) sealed inside = sealed_by_place history place sealed.1 (omega (arith, inside))

sealed_in_front : (front rest : List LoggedRound) (place : ℕ) → AreSealed front → place < length front → IsSealedAt (front ++ rest) place
sealed_in_front front rest place sealed inside =
    ap (λ (logged : LoggedRound). logged.sealed) (get_or_append_left front rest unsealed place inside) ∙ sealed_by_place front place sealed inside

as_many : (history : List LoggedRound) → length history ≡ length (rounds_in history)
as_many history = sym (length-map history round_of)

-- an entry of a sealed round is one of the sealed ones'
entry_sealed : (history : List LoggedRound) (place : ℕ) (d : Round) (entry : Entry) → place < length history → IsSealedAt history place → Contains (get_or (rounds_in history) place d).entries entry → HasEntry (sealed_rounds history) entry
entry_sealed [] place d entry inside sealed member = absurd (omega (arith, inside))
entry_sealed (logged ∷ history) zero d entry inside sealed member =
    let others = filter (λ round. round.sealed) history in
    subst (λ (b : Bool). HasEntry (rounds_in (cond b (logged ∷ others) others)) entry) (sym sealed)
    (record { round = logged.round; told = (zero, omega arith, refl); member = member })
entry_sealed (logged ∷ history) (suc place) d entry inside sealed member =
    let others = filter (λ round. round.sealed) history in
    let later : HasEntry (rounds_in others) entry = entry_sealed history place d entry (omega (arith, inside)) sealed member in
    elim logged.sealed as (λ b. HasEntry (rounds_in (cond b (logged ∷ others) others)) entry) [
      | true ↦ record { round = later.round; told = (suc later.told.0, omega (arith, later.told.1), later.told.2); member = later.member }
      | false ↦ later
    ]

-- the new requests' rounds are among the first ones, which are sealed
first_sealed : (rounds : History) (history : List LoggedRound) (more : History) (asks : List Ask) (list : List Outcome) → rounds_in history ≡ rounds ++ more → ((place : ℕ) → place < length rounds → IsSealedAt history place) → AreNewRecorded rounds (zip asks list) → AreNewRecorded (sealed_rounds history) (zip asks list)
first_sealed rounds history more asks list are sealed recorded ask reply line =
    let is = recorded ask reply line in
    let place = is.told.0 in
    let inside = is.told.1 in
    let here : get_or (rounds_in history) place no_round ≡ is.round =
    ap (λ (h : History). get_or h place no_round) are ∙ (get_or_append_left rounds more no_round place inside ∙ (any_default rounds place no_round is.round inside ∙ is.told.2)) in
    entry_sealed history place no_round (entry_of ask reply) (omega (arith, inside, as_many history, ap length are, length-append rounds more)) (sealed place inside)
    (subst (λ (r : Round). Contains r.entries (entry_of ask reply)) (sym here) is.member)
  where
    any_default : (h : History) (place : ℕ) (a b : Round) → place < length h → get_or h place a ≡ get_or h place b
    any_default [] place a b inside = absurd (omega (arith, inside))
    any_default (one ∷ h) zero a b inside = refl
    any_default (one ∷ h) (suc place) a b inside = any_default h place a b (omega (arith, inside))

-- all but the last round of a log are sealed
all_but_last : (history : List LoggedRound) (count place : ℕ) → HasOneUnsealedAtMost history → length history ≡ count + 1 → place < count → IsSealedAt history place
all_but_last history count place one many inside =
    let longer : place < length one.prefix = omega (arith, many, inside, one.few, ap length one.whole, length-append one.prefix one.last) in
    subst (λ (h : List LoggedRound). IsSealedAt h place) (sym one.whole) (sealed_in_front one.prefix one.last place one.sealed longer)

-- Operations

pub same_ops : (tale : Tale) (told : Option Tale) (a b : List LogOp) → told ≡ Some (with_ops a tale) → told ≡ Some (with_ops b tale) → a ≡ b
same_ops tale told a b first second =
    append_cancel_left tale.log a b (ap (λ (t : Tale). t.log) (same_Some (with_ops a tale) (with_ops b tale) (sym first ∙ second)))

-- An engine from a first view on

-- requests were run from a start on that has come from the first view with no round; no call failed between
pub record IsRunSince (first start : EngineView) (asks : List Ask) (now : EngineView) (list : List Outcome) : Type 0 where
  pub run : HasRun start asks now list
  pub come : HasCome first now run.rounds (count_by is_doubt list) run.calls
  pub same : start.standing ≡ first.standing
  pub sure : start.sure ≡ true
  pub first_sure : first.sure ≡ true
  pub decided : start.doubt ≡ None
  pub first_decided : first.doubt ≡ None

pub rounds_most : (rounds : History) (doubt : Option FailedRound) → length rounds ≤ length (settled_rounds rounds doubt)
rounds_most rounds None = omega arith
rounds_most rounds (Some failed) = by_called failed.called failed.round
  where
    by_called : (called : Bool) (round : Round) → length rounds ≤ length (with_doubt called rounds round)
    by_called true round = omega (arith, length-append rounds (round ∷ []))
    by_called false round = omega arith

with_called : (rounds : History) (doubt : Option FailedRound) (failed : FailedRound) → doubt ≡ Some failed → failed.called ≡ true → settled_rounds rounds doubt ≡ rounds ++ failed.round ∷ []
with_called rounds doubt failed is called =
    ap (settled_rounds rounds) is ∙ ap (λ (b : Bool). with_doubt b rounds failed.round) called

-- the rounds explain the outcomes
pub rounds_explain : {first start now : EngineView} {asks : List Ask} {list : List Outcome} (since : IsRunSince first start asks now list) → Explains since.run.rounds first.standing asks list
rounds_explain {first} {start} {now} {asks} {list} since = record {
  legal = since.come.legal;
  outcomes = subst (λ (s : Standing). Outcomes s since.run.rounds asks list) since.same since.run.outcomes;
  few = omega (arith, since.run.few, rounds_most since.run.rounds now.doubt);
}

-- so do the rounds after settling, which are legal
settled_explain : {first start now : EngineView} {asks : List Ask} {list : List Outcome} (since : IsRunSince first start asks now list) (settled : History) → settled_rounds since.run.rounds now.doubt ≡ settled → IsLegal first.standing settled → Explains (settled_rounds since.run.rounds now.doubt) first.standing asks list
settled_explain {first} {start} {now} {asks} {list} since settled is legal = record {
  legal = subst (IsLegal first.standing) (sym is) legal;
  outcomes = subst (λ (s : Standing). Outcomes s (settled_rounds since.run.rounds now.doubt) asks list) since.same since.run.settled;
  few = since.run.few;
}

-- no round whose index word was called is in doubt

uncalled_adds_none : (rounds : History) (called : Bool) (round : Round) → called ≡ false → with_doubt called rounds round ≡ rounds
uncalled_adds_none rounds true round is = absurd (cc (is))
uncalled_adds_none rounds false round is = refl

settled_same : (rounds : History) (doubt : Option FailedRound) → was_called doubt ≡ false → settled_rounds rounds doubt ≡ rounds
settled_same rounds None quiet = refl
settled_same rounds (Some failed) quiet = uncalled_adds_none rounds failed.called failed.round quiet

around_uncalled : (s : Standing) (known : History) (called : Bool) (round : Round) (told : History) (members : List (Option Standing)) → called ≡ false → told ≡ known → members ≡ Some (state_after s known) ∷ [] → AreAroundDoubt s known called round told members
around_uncalled s known true round told members is all alone = absurd (cc (is))
around_uncalled s known false round told members is all alone = (all, alone)

around_known : (s : Standing) (known : History) (doubt : Option FailedRound) (told : History) (members : List (Option Standing)) → was_called doubt ≡ false → told ≡ known → members ≡ Some (state_after s known) ∷ [] → AreAround s known doubt told members
around_known s known None told members quiet all alone = (all, alone)
around_known s known (Some failed) told members quiet all alone = around_uncalled s known failed.called failed.round told members quiet all alone

-- .. or this one is

around_doubt : (s : Standing) (known : History) (doubt : Option FailedRound) (failed : FailedRound) (told : History) (members : List (Option Standing)) → doubt ≡ Some failed → failed.called ≡ true → (told ≡ known) ⊎ (told ≡ known ++ failed.round ∷ []) → members ≡ either_state (state_after s known) failed.round → AreAround s known doubt told members
around_doubt s known doubt failed told members is called found either =
    subst (λ (d : Option FailedRound). AreAround s known d told members) (sym is)
    (subst (λ (b : Bool). AreAroundDoubt s known b failed.round told members) (sym called) (found, either))

-- so do these and the one in doubt
with_doubt_explain : {first start now : EngineView} {asks : List Ask} {list : List Outcome} (since : IsRunSince first start asks now list) (failed : FailedRound) → now.doubt ≡ Some failed → failed.called ≡ true → IsLegalRound (state_after first.standing since.run.rounds) failed.round → Explains (since.run.rounds ++ failed.round ∷ []) first.standing asks list
with_doubt_explain {first} {start} {now} {asks} {list} since failed is called legal = record {
  legal = legal-push first.standing since.run.rounds failed.round since.come.legal legal;
  outcomes = subst (λ (s : Standing). Outcomes s (since.run.rounds ++ failed.round ∷ []) asks list) since.same (subst (λ (h : History). Outcomes start.standing h asks list) (with_called since.run.rounds now.doubt failed is called) since.run.settled);
  few = omega (arith, since.run.few, ap length (with_called since.run.rounds now.doubt failed is called));
}

-- where no line is in doubt the engine is sure
calm_is_sure : {first start now : EngineView} {asks : List Ask} {list : List Outcome} (since : IsRunSince first start asks now list) → NoneInDoubt list → (now.sure ≡ true) × (now.doubt ≡ None)
calm_is_sure since calm =
    let quiet = since.run.come.quiet calm in
    (quiet.sure since.sure, quiet.doubt since.decided)

settled_with : {first start now : EngineView} {asks : List Ask} {list : List Outcome} (since : IsRunSince first start asks now list) (tale : Tale) (history : List LoggedRound) (left : IsCoveredExit tale now.device first.standing history (Some (state_after first.standing since.run.rounds) ∷ [])) → first.device.told ≡ Some tale → AreSealed history → rounds_in history ≡ since.run.rounds → NoneInDoubt list → IsCalmRun first.standing history (Some (state_after first.standing since.run.rounds) ∷ []) left.ops
settled_with {first} {start} {now} since tale history left told sealed are calm =
    let cost = since.come.cost tale told since.first_decided calm in
    let same = same_ops tale now.device.told cost.ops left.ops cost.told left.told in
    let many = as_many history ∙ ap length are in
    record {
      sealed = sealed;
      alone = ap (λ (h : History). Some (state_after first.standing h) ∷ []) (sym are);
      fences = omega (arith, ap fence_count same, cost.fences, many, fences_counted left.ops);
      syncs = omega (arith, syncs_counted left.ops, ap sync_count same, cost.syncs, ap (λ (b : Bool). settlings b now.sure) since.first_sure, many);
    }

-- its operations are those of the engine's calls
worked : {first start now : EngineView} {asks : List Ask} {list : List Outcome} (since : IsRunSince first start asks now list) (tale : Tale) (ops : List LogOp) → first.device.told ≡ Some tale → now.device.told ≡ Some (with_ops ops tale) → IsWork first.standing since.run.rounds now.doubt asks list ops
worked {first} {start} {now} {asks} {list} since tale ops told left = record {
  calls = since.run.calls;
  are = subst (λ (p : Progress). AreCalls first.standing p since.run.calls) begun called.are;
  ops_are = same_ops tale now.device.told ops (all_ops since.run.calls) left (called.told ∙ ap (option_map (with_ops (all_ops since.run.calls))) told);
  sure = now.sure;
  come = ap (λ (p : Progress). after_calls p since.run.calls) (sym begun) ∙ called.come;
  failed = called.failed;
  charged = subst (λ (t : Standing). AreCharged t (record { rounds = []; sure = true; doubt = None }) since.run.calls (zip asks list)) since.same (subst (λ (p : Progress). AreCharged start.standing p since.run.calls (zip asks list)) run_begun since.run.charged);
  made = since.run.made;
}
  where
    called : HasCalled first now since.run.rounds (count_by is_doubt list) since.run.calls
    called = since.come.called

    run_begun : progress_of [] start ≡ record { rounds = []; sure = true; doubt = None }
    run_begun = λ i. record { rounds = []; sure = since.sure i; doubt = since.decided i }

    begun : progress_of [] first ≡ record { rounds = []; sure = true; doubt = None }
    begun = λ i. record { rounds = []; sure = since.first_sure i; doubt = since.first_decided i }

-- the rounds are told and sealed
logged_sealed : {first start now : EngineView} {asks : List Ask} {list : List Outcome} (since : IsRunSince first start asks now list) (tale : Tale) → first.device.told ≡ Some tale → was_called now.doubt ≡ false → IsSealedAfter tale now.device first.standing since.run.rounds → IsLogged since.run.rounds first.standing [] asks list tale now.device
logged_sealed {first} {start} {now} {asks} {list} since tale told quiet after = record {
  history = after.history;
  members = Some (state_after first.standing since.run.rounds) ∷ [];
  left = after.left;
  more = after.left.ops;
  parts = refl;
  doubt = now.doubt;
  work = worked since tale after.left.ops told after.left.told;
  around = around_known first.standing since.run.rounds now.doubt (rounds_in after.history) (Some (state_after first.standing since.run.rounds) ∷ []) quiet after.rounds_are refl;
  explained = subst (λ (h : History). Explains h first.standing asks list) (sym after.rounds_are) (rounds_explain since);
  settled = settled_explain since since.run.rounds (settled_same since.run.rounds now.doubt quiet) since.come.legal;
  new_sealed = first_sealed since.run.rounds after.history [] asks list (after.rounds_are ∙ sym (append-nil since.run.rounds)) (λ place inside. sealed_by_place after.history place after.sealed (omega (arith, inside, as_many after.history, ap length after.rounds_are))) since.run.recorded;
  calm = settled_with since tale after.history after.left told after.sealed after.rounds_are;
}

-- nothing was settled yet, and no request was served
logged_found : {first start now : EngineView} {asks : List Ask} {list : List Outcome} (since : IsRunSince first start asks now list) (tale : Tale) → first.device.told ≡ Some tale → was_called now.doubt ≡ false → now.sure ≡ false → since.run.rounds ≡ [] → IsStillFound tale (Some first.standing ∷ []) now.device first.standing → IsLogged since.run.rounds first.standing [] asks list tale now.device
logged_found {first} {start} {now} {asks} {list} since tale told quiet unsure none still = record {
  history = [];
  members = Some first.standing ∷ [];
  left = still.left;
  more = still.left.ops;
  parts = refl;
  doubt = now.doubt;
  work = worked since tale still.left.ops told still.left.told;
  around = around_known first.standing since.run.rounds now.doubt [] (Some first.standing ∷ []) quiet (sym none) (ap (λ (h : History). Some (state_after first.standing h) ∷ []) (sym none));
  explained = subst (λ (h : History). Explains h first.standing asks list) none (rounds_explain since);
  settled = settled_explain since since.run.rounds (settled_same since.run.rounds now.doubt quiet) since.come.legal;
  new_sealed = first_sealed [] [] [] asks list refl (λ place inside. absurd (omega (arith, inside))) (subst (λ (h : History). AreNewRecorded h (zip asks list)) none since.run.recorded);
  calm = λ calm. absurd (cc ((calm_is_sure since calm).0, unsure));
}

-- a round is in doubt after them
logged_in_doubt : {first start now : EngineView} {asks : List Ask} {list : List Outcome} (since : IsRunSince first start asks now list) (tale : Tale) (failed : FailedRound) → first.device.told ≡ Some tale → now.doubt ≡ Some failed → failed.called ≡ true → IsInDoubtAfter tale now.device first.standing since.run.rounds failed.round → IsLogged since.run.rounds first.standing [] asks list tale now.device
logged_in_doubt {first} {start} {now} {asks} {list} since tale failed told is called after = by_state after.state
  where
    never : NoneInDoubt list → ⊥
    never calm = cc ((calm_is_sure since calm).1, is)

    told_end : IfSome now.device.told (λ end. HasRoundLanded end.base end.log (state_after first.standing since.run.rounds) failed.round) → HasRoundLanded tale.base (tale.log ++ after.left.ops) (state_after first.standing since.run.rounds) failed.round
    told_end landed = from_told (λ (end : Tale). HasRoundLanded end.base end.log (state_after first.standing since.run.rounds) failed.round) now.device.told (with_ops after.left.ops tale) after.left.told landed

    told_in_doubt : IfSome now.device.told (λ end. IsRoundInDoubt end.base end.log (state_after first.standing since.run.rounds) failed.round) → IsRoundInDoubt tale.base (tale.log ++ after.left.ops) (state_after first.standing since.run.rounds) failed.round
    told_in_doubt still = from_told (λ (end : Tale). IsRoundInDoubt end.base end.log (state_after first.standing since.run.rounds) failed.round) now.device.told (with_ops after.left.ops tale) after.left.told still

    settles : IsLegalRound (state_after first.standing since.run.rounds) failed.round → Explains (settled_rounds since.run.rounds now.doubt) first.standing asks list
    settles legal = settled_explain since (since.run.rounds ++ failed.round ∷ []) (with_called since.run.rounds now.doubt failed is called) (legal-push first.standing since.run.rounds failed.round since.come.legal legal)

    one : HasOneUnsealedAtMost after.history
    one =
        let log = tale.log ++ after.left.ops in
        subst HasOneUnsealedAtMost (ap (λ (l : List LogOp). history_of tale.base l (length tale.log)) (take_all (length log) log (omega arith)) ∙ sym after.left.exit.covers.told)
        (after.left.exit.one_unsealed (length log) (omega (arith, length-append tale.log after.left.ops)) (omega arith))

    by_state : (AreSealed after.history × (rounds_in after.history ≡ since.run.rounds) × IfSome now.device.told (λ end. IsRoundInDoubt end.base end.log (state_after first.standing since.run.rounds) failed.round))
        ⊎ ((rounds_in after.history ≡ since.run.rounds ++ failed.round ∷ []) × IfSome now.device.told (λ end. HasRoundLanded end.base end.log (state_after first.standing since.run.rounds) failed.round))
        → IsLogged since.run.rounds first.standing [] asks list tale now.device
    by_state (inl (sealed, are, still)) = record {
      history = after.history;
      members = either_state (state_after first.standing since.run.rounds) failed.round;
      left = after.left;
      more = after.left.ops;
      parts = refl;
      doubt = now.doubt;
      work = worked since tale after.left.ops told after.left.told;
      around = around_doubt first.standing since.run.rounds now.doubt failed (rounds_in after.history) (either_state (state_after first.standing since.run.rounds) failed.round) is called (inl are) refl;
      explained = subst (λ (h : History). Explains h first.standing asks list) (sym are) (rounds_explain since);
      settled = settles (told_in_doubt still).legal;
      new_sealed = first_sealed since.run.rounds after.history [] asks list (are ∙ sym (append-nil since.run.rounds)) (λ place inside. sealed_by_place after.history place sealed (omega (arith, inside, as_many after.history, ap length are))) since.run.recorded;
      calm = λ calm. absurd (never calm);
    }
    by_state (inr (are, landed)) =
        let many : length after.history ≡ length since.run.rounds + 1 = as_many after.history ∙ (ap length are ∙ length-append since.run.rounds (failed.round ∷ [])) in
        record {
          history = after.history;
          members = either_state (state_after first.standing since.run.rounds) failed.round;
          left = after.left;
          more = after.left.ops;
          parts = refl;
          doubt = now.doubt;
          work = worked since tale after.left.ops told after.left.told;
          around = around_doubt first.standing since.run.rounds now.doubt failed (rounds_in after.history) (either_state (state_after first.standing since.run.rounds) failed.round) is called (inr are) refl;
          explained = subst (λ (h : History). Explains h first.standing asks list) (sym are) (with_doubt_explain since failed is called (told_end landed).legal);
          settled = settles (told_end landed).legal;
          new_sealed = first_sealed since.run.rounds after.history (failed.round ∷ []) asks list are (λ place inside. all_but_last after.history (length since.run.rounds) place one many inside) since.run.recorded;
          calm = λ calm. absurd (never calm);
        }

-- whatever became of it
pub logged_since : {first start now : EngineView} {asks : List Ask} {list : List Outcome} (since : IsRunSince first start asks now list) (tale : Tale) → BeginsAt tale (Some first.standing ∷ []) first → IsLogged since.run.rounds first.standing [] asks list tale now.device
logged_since {first} {start} {now} {asks} {list} since tale begins = by_doubt now.doubt refl
  where
    covered : IsCovered tale (Some first.standing ∷ []) first.standing now since.run.rounds
    covered = since.come.covered tale (Some first.standing ∷ []) begins

    by_decided : was_called now.doubt ≡ false → IsDecidedAfter tale (Some first.standing ∷ []) now first.standing since.run.rounds → IsLogged since.run.rounds first.standing [] asks list tale now.device
    by_decided quiet (inl after) = logged_sealed since tale begins.told quiet after
    by_decided quiet (inr (unsure, none, still)) = logged_found since tale begins.told quiet unsure none still

    by_called : (failed : FailedRound) (called : Bool) → now.doubt ≡ Some failed → failed.called ≡ called → IsLogged since.run.rounds first.standing [] asks list tale now.device
    by_called failed true is called = logged_in_doubt since tale failed begins.told is called (covered.in_doubt failed is called)
    by_called failed false is uncalled = by_decided (ap was_called is ∙ uncalled) (covered.decided (ap was_called is ∙ uncalled))

    by_doubt : (doubt : Option FailedRound) → now.doubt ≡ doubt → IsLogged since.run.rounds first.standing [] asks list tale now.device
    by_doubt None is = by_decided (ap was_called is) (covered.decided (ap was_called is))
    by_doubt (Some failed) is = by_called failed failed.called is refl
