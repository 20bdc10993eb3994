-- What a script that was run on a new region, or on one that was opened, comes to.
use Rattle.std.proofs.Common.{◌≡◌, ℕ, true, List, [], ◌∷◌, ◌++◌, Some, None, refl, sym, ap, subst, ◌∙◌, Option, Bool, false, cond, length, ◌+◌, ◌≤◌, Contains, inl, inr, arith}
use Rattle.std.specs.List.{count_by}
use Rattle.std.proofs.lemmas.Bool.{cases_eq, false≢true}
use Rattle.std.proofs.lemmas.List.{append_assoc}
use Rattle.std.proofs.lemmas.List.Elements.{Contains-append_cases, Contains-append_left, Contains-append_right, Contains-push, Contains-push_cases}
use Rattle.std.proofs.lemmas.List.Recursion.{is_count_by}
use Rattle.pb_pmem.specs.declared.log.LogOp.{LogOp}
use Rattle.pb_pmem.specs.Device.{Device, Tale, IsReplay}
use Rattle.pb_pmem.specs.Operations.{with_ops, Does}
use Rattle.pb_object.specs.declared.request.Ask.{Ask}
use Rattle.pb_object.specs.declared.request.Kept.{Kept as KeptRequest}
use Rattle.pb_object.specs.History.{History, state_after}
use Rattle.pb_object.specs.Standing.{Standing, kept_list_of}
use Rattle.pb_layout.specs.declared.header.Header.{Header}
use Rattle.pb_layout.specs.Exits.{empty_for}
use Rattle.pb_layout.specs.Recovered.{Represents}
use Rattle.pb_layout.specs.RegionOps.{settle_to}
use Rattle.pb_layout.specs.Represents.{header_for}
use Rattle.pb_layout.specs.ToldExits.{IsCoveredExit, IsReadyWith, contents_of}
use Rattle.pb_layout_laws.proofs.ToldCalls.{told_then_sealed, from_told}
use Rattle.pb_pair.proofs.Told.{told_after}
use Rattle.pb_engine.specs.Calls.{settled_rounds}
use Rattle.pb_engine.specs.Good.{BeginsAt}
use Rattle.pb_engine.specs.Opening.{IsFreshEngine, IsAdopted}
use Rattle.pb_engine.specs.View.{FailedRound, EngineView, IsHeld, settled_standing, DeviceRepresents, was_called}
use Rattle.pb_engine.proofs.Coming.{at_start, still_stands}
use Rattle.pb_engine.proofs.Joining.{fresh_begins, adopted_begins}
use Rattle.pb_report.specs.declared.outcome.Outcome.{Outcome}
use Rattle.pb_report.specs.declared.outcome.Outcome.TheVariants.{New, Kept, Old, Gap, Changed, Doubt, Left}
use Rattle.pb_report.specs.Outcomes.{AreLines, Outcomes}
use Rattle.pb_run.specs.Run.{HasRun, is_doubt}
use Rattle.pb_broker.specs.Running.{making_ops, Explains, AreCounted, NoneInDoubt, IsLogged, IsRun, HasSome}
use Rattle.pb_broker.specs.Serving.{ServesNew, SettlesEngine}
use Rattle.pb_broker.proofs.EmptyRecords.{made_by}
use Rattle.pb_broker.proofs.Logged.{IsRunSince, rounds_explain, logged_since, same_ops}

abbrev tally_doubts : List Outcome → ℕ
tally_doubts [] = 0
tally_doubts (o ∷ list) = cond (is_doubt o) (1 + tally_doubts list) (tally_doubts list)

doubts_counted : (list : List Outcome) → tally_doubts list ≡ count_by is_doubt list
doubts_counted list = is_count_by tally_doubts is_doubt refl (λ o rest. refl) list

-- a line in doubt counts, and one that counts is in doubt
one_doubt : (list : List Outcome) → Contains list Doubt → 1 ≤ tally_doubts list
one_doubt [] line = absurd (omega (arith, line.1))
one_doubt (o ∷ list) line = elim (Contains-append_cases (o ∷ []) list Doubt line) [
  | inl here ↦ (elim (Contains-push_cases [] o Doubt here) [
    | inl none ↦ absurd (omega (arith, none.1))
    | inr same ↦ let is : is_doubt o ≡ true = ap is_doubt same in subst (λ (b : Bool). 1 ≤ cond b (1 + tally_doubts list) (tally_doubts list)) (sym is) (omega arith)
  ])
  | inr later ↦ least (is_doubt o) (one_doubt list later)
]
  where
    least : (b : Bool) → 1 ≤ tally_doubts list → 1 ≤ cond b (1 + tally_doubts list) (tally_doubts list)
    least true some = omega arith
    least false some = some

counted_doubt : (list : List Outcome) → Contains list Doubt → 1 ≤ count_by is_doubt list
counted_doubt list line = omega (arith, one_doubt list line, doubts_counted list)

is_doubt_of : (o : Outcome) → is_doubt o ≡ true → o ≡ Doubt
is_doubt_of Doubt is = refl
is_doubt_of (New reply) is = absurd (false≢true is)
is_doubt_of (Kept reply) is = absurd (false≢true is)
is_doubt_of Old is = absurd (false≢true is)
is_doubt_of Gap is = absurd (false≢true is)
is_doubt_of Changed is = absurd (false≢true is)
is_doubt_of Left is = absurd (false≢true is)

some_doubt : (list : List Outcome) → 1 ≤ tally_doubts list → Contains list Doubt
some_doubt [] some = absurd (omega (arith, some))
some_doubt (o ∷ list) some = go (is_doubt o) refl (some_doubt list) some
  where
    go : (b : Bool) → is_doubt o ≡ b → (1 ≤ tally_doubts list → Contains list Doubt) → 1 ≤ cond b (1 + tally_doubts list) (tally_doubts list) → Contains (o ∷ list) Doubt
    go true is rest some = Contains-append_left (o ∷ []) list Doubt (subst (Contains (o ∷ [])) (is_doubt_of o is) (Contains-push [] o))
    go false is rest some = Contains-append_right (o ∷ []) list Doubt (rest some)

found_doubt : (list : List Outcome) → 1 ≤ count_by is_doubt list → Contains list Doubt
found_doubt list some = some_doubt list (omega (arith, some, doubts_counted list))

no_lines : (history : History) (kept : List KeptRequest) → AreLines history kept []
unfolding AreLines
no_lines history kept = tt

-- no requests leave an engine as it is
pub nothing_run : (start : EngineView) → start.doubt ≡ None → HasRun start [] start []
nothing_run start none = record {
  rounds = [];
  calls = [];
  come = at_start start;
  charged = record { asks = []; made_for = tt; entries = λ failed ops call. absurd (omega (arith, call.1)); next = tt; each_client = λ client. refl };
  made = λ round ops call. absurd (omega (arith, call.1));
  outcomes = nothing;
  settled = subst (λ (h : History). Outcomes start.standing h [] []) (sym (ap (settled_rounds []) none)) nothing;
  recorded = λ ask reply line. absurd (omega (arith, line.1));
  few = omega (arith, ap (λ (d : Option FailedRound). length (settled_rounds [] d)) none);
}
  where
    nothing : Outcomes start.standing [] [] []
    nothing = record {
      same_length = refl;
      each_client = λ client. no_lines [] (kept_list_of start.standing client);
      each_entry = λ entry has. absurd (omega (arith, has.told.1));
    }

-- a region was made, and no request was run on it
pub made_alone : {head : Header} {before after : Device} {start : EngineView} → IsFreshEngine head before start → after ≡ start.device → ServesNew head before after [] []
made_alone {start = start} fresh device = record { start = start; fresh = fresh; now = start; run = nothing_run start fresh.doubt; device = device }

counted_from : (before : ℕ) {start now : EngineView} {asks : List Ask} {list : List Outcome} → start.device.faults ≡ before → HasRun start asks now list → AreCounted before now.device.faults list
counted_from before {start} {now} {asks} {list} is run =
    subst (λ (count : ℕ). AreCounted count now.device.faults list) is (record {
      each = run.come.each;
      calm = run.come.calm;
      rose = λ line. run.come.rose (λ none. omega (arith, none, counted_doubt list line));
      shown = λ more. found_doubt list (elim (cases_eq (count_by is_doubt list) 0) [
        | inl none ↦ absurd (omega (arith, more, run.come.calm none))
        | inr some ↦ omega (arith, some)
      ]);
    })

-- Behind the operations that make or settle the region

-- an engine that is sure begins anew
abbrev sure_since : {start now : EngineView} {asks : List Ask} {list : List Outcome} → start.sure ≡ true → start.doubt ≡ None → HasRun start asks now list → IsRunSince start start asks now list
sure_since sure decided run = record {
  run = run;
  come = run.come;
  same = refl;
  sure = sure;
  first_sure = sure;
  decided = decided;
  first_decided = decided;
}

since_sure : {start now : EngineView} {asks : List Ask} {list : List Outcome} (tale : Tale) → start.sure ≡ true → start.doubt ≡ None → (run : HasRun start asks now list) → BeginsAt tale (Some start.standing ∷ []) start → IsLogged run.rounds start.standing [] asks list tale now.device
since_sure {start} {now} {asks} {list} tale sure decided run begins = logged_since (sure_since sure decided run) tale begins

-- the first operations go before those of the run
logged_behind : {known : History} {s : Standing} {asks : List Ask} {list : List Outcome} {mid after : Device} (tale : Tale) (made : IsCoveredExit tale mid s [] (Some s ∷ [])) (first : List LogOp) → mid.told ≡ Some (with_ops first tale) → IsLogged known s [] asks list (with_ops made.ops tale) after → IsLogged known s first asks list tale after
logged_behind {known} {s} {asks} {list} {mid} {after} tale made first told inner = record {
  history = inner.history;
  members = inner.members;
  left = left;
  more = inner.more;
  doubt = inner.doubt;
  work = inner.work;
  parts = all_ops ∙ (ap (λ (ops : List LogOp). ops ++ inner.left.ops) ops_are ∙ ap (λ (ops : List LogOp). first ++ ops) inner.parts);
  around = inner.around;
  explained = inner.explained;
  settled = inner.settled;
  new_sealed = inner.new_sealed;
  calm = inner.calm;
}
  where
    ops_are : made.ops ≡ first
    ops_are = same_ops tale mid.told made.ops first made.told told

    left : IsCoveredExit tale after s inner.history inner.members
    left = told_then_sealed made inner.left tt

    all_ops : left.ops ≡ made.ops ++ inner.left.ops
    all_ops = same_ops tale after.told left.ops (made.ops ++ inner.left.ops) left.told
        (inner.left.told ∙ ap (λ (log : List LogOp). Some (record tale { log = log })) (append_assoc tale.log made.ops inner.left.ops))

-- On a new region

-- where no line is in doubt the device's lines represent what came of the run
held_after : {start now : EngineView} {asks : List Ask} {list : List Outcome} → start.doubt ≡ None → IsHeld start → (run : HasRun start asks now list) → NoneInDoubt list → DeviceRepresents (state_after start.standing run.rounds) now.device
held_after {start} {now} decided held run none =
    subst (λ (s : Standing). DeviceRepresents s now.device) run.come.standing ((run.come.quiet none).holds decided held).stands

fresh_held : {head : Header} {before : Device} {start : EngineView} → IsFreshEngine head before start → IsHeld start
fresh_held {head} {before} {start} fresh = record {
  stands = subst (λ (s : Standing). DeviceRepresents s start.device) (sym fresh.standing) fresh.holds;
  in_use = fresh.in_use;
}

logged_new : {head : Header} {before : Device} {start now : EngineView} {asks : List Ask} {list : List Outcome} → IsFreshEngine head before start → (run : HasRun start asks now list) → (tale : Tale) → before.told ≡ Some tale → IsReadyWith (None ∷ []) tale → IsLogged run.rounds (empty_for head) (making_ops head) asks list tale now.device
logged_new {head} {before} {start} {now} {asks} {list} fresh run tale told ready =
    let made = fresh.covers tale told ready in
    let first = making_ops head in
    let does : Does first before start.device = subst (λ (ops : List LogOp). Does ops before start.device) (made_by head fresh.empty) fresh.device in
    logged_behind tale made first (told_after before.told start.device.told tale first told does.told)
    (subst (λ (s : Standing). IsLogged run.rounds s [] asks list (with_ops made.ops tale) now.device) fresh.standing
    (since_sure (with_ops made.ops tale) fresh.sure fresh.doubt run (fresh_begins head before start tale fresh told ready)))

pub run_made : {head : Header} {before : Device} {start now : EngineView} {asks : List Ask} {list : List Outcome} → IsFreshEngine head before start → HasRun start asks now list → IsRun (empty_for head) (making_ops head) (IsReadyWith (None ∷ [])) asks list before now.device
run_made {head} {before} {start} {now} {asks} {list} fresh run = record {
  history = run.rounds;
  explained = subst (λ (s : Standing). Explains run.rounds s asks list) fresh.standing (rounds_explain (sure_since fresh.sure fresh.doubt run));
  counted = counted_from before.faults fresh.device.faults run;
  holds = λ none. subst (λ (s : Standing). DeviceRepresents (state_after s run.rounds) now.device) fresh.standing
      (held_after fresh.doubt (fresh_held fresh) run none);
  logged = logged_new fresh run;
}

-- its history is that of the rounds
pub run_made_history : {head : Header} {before : Device} {start now : EngineView} {asks : List Ask} {list : List Outcome} (fresh : IsFreshEngine head before start) (run : HasRun start asks now list) → (run_made fresh run).history ≡ run.rounds
unfolding run_made
run_made_history fresh run = refl

pub run_on_new : {head : Header} {before after : Device} {asks : List Ask} {list : List Outcome} → ServesNew head before after asks list → IsRun (empty_for head) (making_ops head) (IsReadyWith (None ∷ [])) asks list before after
run_on_new {head} {before} {after} {asks} {list} served =
    subst (λ (d : Device). IsRun (empty_for head) (making_ops head) (IsReadyWith (None ∷ [])) asks list before d) (sym served.device) (run_made served.fresh served.run)

-- On a region that was opened

settled_same : {before : Device} {found start : EngineView} → IsAdopted before found → SettlesEngine found start → start.standing ≡ found.standing
settled_same {before} {found} adopted settled = settled.settled.standing ∙ ap (settled_standing found.standing) adopted.doubt

found_held : {before : Device} {found start : EngineView} → IsAdopted before found → SettlesEngine found start → IsHeld start
found_held {before} {found} {start} adopted settled = record {
  stands = settled.settled.holds adopted.doubt (subst (DeviceRepresents found.standing) (sym adopted.same) adopted.stands);
  in_use = settled.settled.in_use adopted.doubt adopted.in_use;
}

-- the device as settling left it
settled_exit : {before : Device} {found start : EngineView} (tale : Tale) (members : List (Option Standing)) → IsAdopted before found → SettlesEngine found start → BeginsAt tale members found → IsCoveredExit tale start.device found.standing [] (Some found.standing ∷ [])
settled_exit tale members adopted settled begins = settled.covers.found (ap was_called adopted.doubt) tale members begins.told begins.ready begins.stands

settled_begins : {before : Device} {found start : EngineView} (tale : Tale) (members : List (Option Standing)) (adopted : IsAdopted before found) (settled : SettlesEngine found start) (begins : BeginsAt tale members found) → BeginsAt (with_ops (settled_exit tale members adopted settled begins).ops tale) (Some start.standing ∷ []) start
settled_begins {before} {found} {start} tale members adopted settled begins =
    let made = settled_exit tale members adopted settled begins in
    let after = with_ops made.ops tale in
    let same = settled_same adopted settled in
    record {
      told = made.told;
      ready = subst (λ (s : Standing). IsReadyWith (Some s ∷ []) after) (sym same) made.exit.ready;
      stands = subst (λ (s : Standing). Represents (contents_of after) s) (sym same)
          (from_told (λ (t : Tale). Represents (contents_of t) found.standing) start.device.told after made.told (still_stands tale start.device found.standing (Some found.standing ∷ []) made begins.stands));
      alone = λ sure. refl;
      decided = settled.settled.doubt;
    }

logged_found : {before : Device} {found start now : EngineView} {asks : List Ask} {list : List Outcome} (tale : Tale) (members : List (Option Standing)) → IsAdopted before found → SettlesEngine found start → (run : HasRun start asks now list) → BeginsAt tale members found → IsLogged run.rounds found.standing (settle_to (header_for found.standing) found.standing) asks list tale now.device
logged_found {before} {found} {start} {now} {asks} {list} tale members adopted settled run begins =
    let made = settled_exit tale members adopted settled begins in
    let same = settled_same adopted settled in
    let first = settle_to (header_for found.standing) found.standing in
    let does : Does first found.device start.device = subst (λ (s : Standing). Does (settle_to (header_for s) s) found.device start.device) same settled.settled.device in
    logged_behind tale made first
    (told_after found.device.told start.device.told tale first begins.told does.told)
    (subst (λ (s : Standing). IsLogged run.rounds s [] asks list (with_ops made.ops tale) now.device) same
    (since_sure (with_ops made.ops tale) settled.settled.sure settled.settled.doubt run (settled_begins tale members adopted settled begins)))

pub run_on_found : {before after : Device} {found start now : EngineView} {asks : List Ask} {list : List Outcome} → IsReplay before → IsAdopted before found → SettlesEngine found start → HasRun start asks now list → after ≡ now.device → IsRun found.standing (settle_to (header_for found.standing) found.standing) HasSome asks list before after
run_on_found {before} {after} {found} {start} {now} {asks} {list} replay adopted settled run device =
    subst (λ (d : Device). IsRun found.standing (settle_to (header_for found.standing) found.standing) HasSome asks list before d) (sym device) (record {
      history = run.rounds;
      explained = subst (λ (s : Standing). Explains run.rounds s asks list) (settled_same adopted settled) (rounds_explain (sure_since settled.settled.sure settled.settled.doubt run));
      counted = counted_from before.faults (settled.settled.device.faults ∙ ap (λ (d : Device). d.faults) adopted.same) run;
      holds = λ none. subst (λ (s : Standing). DeviceRepresents (state_after s run.rounds) now.device) (settled_same adopted settled)
          (held_after settled.settled.doubt (found_held adopted settled) run none);
      logged = λ tale told some. logged_found tale some.0 adopted settled run (adopted_begins before found tale some.0 adopted replay told some.1);
    })
