-- A call of `fresh` or `run` on a device at rest has one run.
use Rattle.std.proofs.Common.{◌≡◌, ◌≢◌, ◌⊎◌, ℕ, ◌≤◌, List, [], ◌∷◌, length, Option, Some, None, refl, sym, ap, subst, ◌∙◌, arith, inl, inr}
use Rattle.std.specs.Prelude.{Contains, codes, count_by, option_map}
use Rattle.std.specs.List.{zip}
use Rattle.std.proofs.lemmas.Bool.{cases_eq}
use Rattle.std.proofs.lemmas.List.{append-nil}
use Rattle.std.proofs.lemmas.List.Elements.{All-nil}
use Rattle.pb_pmem.specs.declared.line.Line.{Line}
use Rattle.pb_pmem.specs.declared.log.LogOp.{LogOp}
use Rattle.pb_pmem.specs.Contents.{contents}
use Rattle.pb_pmem.specs.Count.{Rose}
use Rattle.pb_pmem.specs.Crash.{IsCrashImage, IsCrashImageAt}
use Rattle.pb_pmem.specs.Device.{Tale, IsReplay}
use Rattle.pb_pmem.specs.Operations.{with_ops}
use Rattle.pb_object.specs.declared.kind.Kind.{Kind}
use Rattle.pb_object.specs.declared.kind.Kind.TheVariants.{Map}
use Rattle.pb_object.specs.declared.request.Ask.{Ask}
use Rattle.pb_object.specs.History.{History, state_after}
use Rattle.pb_object.specs.Standing.{Standing, empty_standing}
use Rattle.pb_layout.specs.Damage.{HasRegion}
use Rattle.pb_layout.specs.Exits.{empty_for}
use Rattle.pb_layout.specs.LogHistory.{LoggedRound, rounds_in}
use Rattle.pb_layout.specs.Once.{HasNumbersOnce}
use Rattle.pb_layout.specs.Ready.{ImageRepresents}
use Rattle.pb_layout.specs.Recovered.{Represents}
use Rattle.pb_layout.specs.ToldExits.{IsCoveredExit, IsReadyWith, contents_of}
use Rattle.pb_layout.proofs.LegalHistories.{numbers_stand_once}
use Rattle.pb_layout.proofs.OneRecovery.{has_region, parts, from_parts}
use Rattle.pb_layout.proofs.Readiness.{at_rest_is_ready}
use Rattle.pb_layout_laws.proofs.ToldCalls.{from_told}
use Rattle.pb_report.specs.declared.outcome.Outcome.{Outcome}
use Rattle.pb_report.specs.declared.outcome.Outcome.TheVariants.{Doubt}
use Rattle.pb_report.specs.Outcomes.{Outcomes, AreLines, is_tried}
use Rattle.pb_report.specs.OutcomeText.{outcomes_text}
use Rattle.pb_run.specs.Run.{AreNewRecorded}
use Rattle.pb_script.specs.declared.command.Command.{Command}
use Rattle.pb_script.specs.declared.command.Command.TheVariants.{Fresh, Run, Report, Replay, Drill}
use Rattle.pb_script.specs.Command.{alone, command_of, object_of}
use Rattle.pb_broker.specs.declared.status.Status.{Status}
use Rattle.pb_broker.specs.declared.stop.Stop.{Stop}
use Rattle.pb_broker.specs.declared.stop.Stop.TheVariants.{Usage}
use Rattle.pb_broker.specs.Call.{Call, IsSaid}
use Rattle.pb_broker.specs.Chain.{Point, Called, HasRequests, begun_by, first_behind, rounds_behind}
use Rattle.pb_broker.specs.Comes.{Comes, TellsNoRegion}
use Rattle.pb_broker.specs.Ending.{Ending, Stopped, Served, Drilled, Reported, Replayed}
use Rattle.pb_broker.specs.Recovery.{IsRunning, IsRegionOf, IsFirst, IsAfterSome, IsWritten, HasOneRun, IsRecoverable}
use Rattle.pb_broker.specs.Stream.{Stream}
use Rattle.pb_broker.specs.Texts.{ending_says}
use Rattle.pb_broker.specs.Top.{IsAnswered}
use Rattle.pb_broker.proofs.Behind.{rounds_are}
use Rattle.pb_broker.proofs.Cases.{Case, IsIdle, Made, FailedToMake, same, made, failed, ran, cut, case_of}
use Rattle.pb_broker.proofs.Held.{IsHeld, IsHeldAt, IsServing, held_call, held_point, served_held, serving}
use Rattle.pb_broker.proofs.Points.{AnyRounds, IsSound, start_sound}
use Rattle.pb_broker.proofs.Replied.{new_recorded}
use Rattle.pb_broker.proofs.Steps.{call_sound, empty_keeps, if_lines, same_rounds}

-- The commands that run a script

-- what words of `fresh` or `run` may be
data Running (command : Option Command) : Type 0 where
  nothing : command ≡ None → Running command
  making : (kind : Kind) (clients size : ℕ) → command ≡ Some (Fresh kind clients size) → Running command
  running : command ≡ Some Run → Running command

making_object : (object : Option (Kind × ℕ × ℕ)) → Running (option_map (λ (o : Kind × ℕ × ℕ). Fresh o.0 o.1 o.2) object)
making_object None = nothing refl
making_object (Some object) = making object.0 object.1 object.2 refl

running_alone : (arguments : List (List ℕ)) → Running (alone Run arguments)
running_alone [] = running refl
running_alone (argument ∷ arguments) = nothing refl

fresh_words : (arguments : List (List ℕ)) → Running (command_of (codes "fresh" ∷ arguments))
unfolding command_of
fresh_words arguments = making_object (object_of arguments)

run_words : (arguments : List (List ℕ)) → Running (command_of (codes "run" ∷ arguments))
unfolding command_of
run_words arguments = running_alone arguments

of_words : (words : List (List ℕ)) → IsRunning words → Running (command_of words)
of_words [] never = absurd never
of_words (word ∷ arguments) (inl is) = subst (λ (w : List ℕ). Running (command_of (w ∷ arguments))) (sym is) (fresh_words arguments)
of_words (word ∷ arguments) (inr is) = subst (λ (w : List ℕ). Running (command_of (w ∷ arguments))) (sym is) (run_words arguments)

-- what they come to
data EndsSo (ending : Ending) : Type 0 where
  stopped : (stop : Stop) → ending ≡ Stopped stop → EndsSo ending
  served : (asks : List Ask) (list : List Outcome) → ending ≡ Served asks list → EndsSo ending

fresh_ends : (kind : Kind) (clients size : ℕ) (call : Call) (ending : Ending) → Comes (Some (Fresh kind clients size)) call ending → EndsSo ending
fresh_ends kind clients size call (Stopped stop) comes = stopped stop refl
fresh_ends kind clients size call (Served asks list) comes = served asks list refl
fresh_ends kind clients size call (Drilled asks list versions) comes = absurd comes
fresh_ends kind clients size call (Reported s) comes = absurd comes
fresh_ends kind clients size call (Replayed answers s) comes = absurd comes

run_ends : (call : Call) (ending : Ending) → Comes (Some Run) call ending → EndsSo ending
run_ends call (Stopped stop) comes = stopped stop refl
run_ends call (Served asks list) comes = served asks list refl
run_ends call (Drilled asks list versions) comes = absurd comes
run_ends call (Reported s) comes = absurd comes
run_ends call (Replayed answers s) comes = absurd comes

ends_so : (command : Option Command) (call : Call) (ending : Ending) → Running command → Comes command call ending → EndsSo ending
ends_so command call ending (nothing is) comes = stopped Usage (subst (λ (c : Option Command). Comes c call ending) is comes).0
ends_so command call ending (making kind clients size is) comes = fresh_ends kind clients size call ending (subst (λ (c : Option Command). Comes c call ending) is comes)
ends_so command call ending (running is) comes = run_ends call ending (subst (λ (c : Option Command). Comes c call ending) is comes)

-- Regions by their parts, and by what passes all checks

pub region_of : (image : List Line) (s : Standing) → Represents image s → IsRegionOf image s
region_of image s stands = (stands.whole, parts image s stands)

represents_first : (image : List Line) (first : Option Standing) → IsFirst image first → ImageRepresents image first
represents_first image None none = none
represents_first image (Some s) (whole, region) = from_parts image s whole region

-- The text

written : (out : Stream) (text : List ℕ) (wanted status : Status) → IsSaid out text wanted status → IsWritten out text
written out text wanted status (inl says) = inl says.written
written out text wanted status (inr says) = inr (says.written, says.rose)

-- The standing that a run begins from

some_standing : {a b : Standing} → Some a ≡ Some b → a ≡ b
some_standing is = cc (is)

begun_empty : (command : Option Command) (s : Standing) → begun_by command None ≡ Some s → s ≡ empty_standing s.kind s.clients s.size
begun_empty None s is = absurd (cc (is))
begun_empty (Some (Fresh kind clients size)) s is = subst (λ (t : Standing). t ≡ empty_standing t.kind t.clients t.size) (some_standing is) refl
begun_empty (Some Run) s is = absurd (cc (is))
begun_empty (Some Report) s is = absurd (cc (is))
begun_empty (Some (Replay kind clients size)) s is = absurd (cc (is))
begun_empty (Some (Drill seed clients count)) s is = subst (λ (t : Standing). t ≡ empty_standing t.kind t.clients t.size) (some_standing is) refl

starts_from : (first : Option Standing) (command : Option Command) (s : Standing) → begun_by command first ≡ Some s → (first ≡ Some s) ⊎ ((first ≡ None) × (s ≡ empty_standing s.kind s.clients s.size))
starts_from None command s is = inr (refl, begun_empty command s is)
starts_from (Some t) command s is = inl is

-- a call of which nothing is told is the run of no requests
none_run : (s : Standing) → Outcomes s [] [] []
unfolding AreLines
none_run s = record { same_length = refl; each_client = λ client. tt; each_entry = λ entry has. absurd (omega (arith, has.told.1)) }

-- .. and no request stands twice in none
none_once : HasNumbersOnce []
none_once = numbers_stand_once (empty_for (record { kind = Map; clients = 1; size = 1 })) [] (empty_keeps (record { kind = Map; clients = 1; size = 1 })) tt

-- The device tells its log behind the call

module _ (command : Option Command) (call : Call) (ending : Ending) (replay : IsReplay call.before) (tale : Tale) (told : call.before.told ≡ Some tale) where
  never_none : (s : Standing) → Represents (contents_of tale) s → TellsNoRegion call.before → ⊥
  never_none s stands none =
      if_lines (λ image. ¬ HasRegion image) call.before.now (contents_of tale) (from_told (λ (t : Tale). call.before.now ≡ Some (contents_of t)) call.before.told tale told replay) none
      (has_region (contents_of tale) s stands)

  -- what it tells then
  abbrev Tells : Type 0
  Tells = (ops : List LogOp) × (call.after.told ≡ Some (with_ops ops tale))

  tells_same : call.after.told ≡ call.before.told → Tells
  tells_same stays = ([], stays ∙ told ∙ ap Some nothing_more)
    where
      nothing_more : tale ≡ with_ops [] tale
      nothing_more = ap (λ (log : List LogOp). record { base = tale.base; log = log }) (sym (append-nil tale.log))

  tells_covered : (s : Standing) (history : List LoggedRound) (members : List (Option Standing)) → IsCoveredExit tale call.after s history members → Tells
  tells_covered s history members left = (left.ops, left.told)

  made_tells : (first : Option Standing) → IsReadyWith (first ∷ []) tale → ImageRepresents (contents_of tale) first → Made command call ending → Tells
  made_tells None ready stands was =
      let logged = was.serves.run.logged tale told ready in
      tells_covered (empty_for was.head) logged.history logged.members logged.left
  made_tells (Some s) ready stands was = absurd (never_none s stands was.serves.none)

  failed_tells : (first : Option Standing) → IsReadyWith (first ∷ []) tale → ImageRepresents (contents_of tale) first → FailedToMake command call → Tells
  failed_tells None ready stands was = elim (was.cut.left tale told ready) [
    | inl left ↦ tells_covered (empty_for was.head) [] (None ∷ []) left
    | inr published ↦ tells_covered (empty_for was.head) [] (None ∷ Some (empty_for was.head) ∷ []) published.left
  ]
  failed_tells (Some s) ready stands was = elim was.cut.none [
    | inl stays ↦ tells_same stays
    | inr none ↦ absurd (never_none s stands none)
  ]

  tells : (first : Option Standing) → IsReadyWith (first ∷ []) tale → ImageRepresents (contents_of tale) first → Case command call ending → Tells
  tells first ready stands (same stays idle) = tells_same stays
  tells first ready stands (made was) = made_tells first ready stands was
  tells first ready stands (failed was idle) = failed_tells first ready stands was
  tells first ready stands (ran was) =
      let logged = was.serves.run.logged tale told (first ∷ [], ready) in
      tells_covered was.serves.standing logged.history logged.members logged.left
  tells first ready stands (cut was idle) = tells_covered was.standing [] (first ∷ []) (was.left tale (first ∷ []) told ready)

-- The run

abbrev start_at : Tale → Option Standing → Point
start_at tale first = record { tale = tale; first = first; rounds = [] }

module _ (tale : Tale) (first : Option Standing) (ready : IsReadyWith (first ∷ []) tale) where
  abbrev start : Point
  start = start_at tale first

  sound : IsSound start
  sound = start_sound start (record { ready = ready; none = refl })

  module _ (called : Called tale) where
    abbrev told_rounds : History
    told_rounds = rounds_behind start called

    -- where no requests were run the log tells no round

    none_told : (s : Standing) (history : List LoggedRound) (members : List (Option Standing)) → IsCoveredExit tale called.call.after s history members → length (rounds_in history) ≤ 0 → told_rounds ≡ []
    none_told s history members left few = rounds_are tale called.after s [] history members called.call.after called.ends left ∙ nothing_in (rounds_in history) few
      where
        nothing_in : (rounds : History) → length rounds ≤ 0 → rounds ≡ []
        nothing_in [] none = refl
        nothing_in (round ∷ rounds) none = absurd (omega (arith, none))

    few_of : (history : History) (list : List Outcome) → length history ≤ count_by is_tried list → list ≡ [] → length history ≤ 0
    few_of history list few none = subst (λ (l : List Outcome). length history ≤ count_by is_tried l) none few

    idle_rounds : ImageRepresents (contents_of tale) first → IsIdle called.answered.ending → told_rounds ≡ []
    idle_rounds stands idle = elim (case_of (command_of called.words) called.call called.answered.ending called.answered.comes) [
      | same stays none ↦ same_rounds start called stays
      | made was ↦ made_none first ready stands was
      | failed was none ↦ failed_none first ready stands was
      | ran was ↦
          let logged = was.serves.run.logged tale called.begins (first ∷ [], ready) in
          none_told was.serves.standing logged.history logged.members logged.left (few_of (rounds_in logged.history) was.list logged.explained.few (was.idle idle).1)
      | cut was none ↦ none_told was.standing [] (first ∷ []) (was.left tale (first ∷ []) called.begins ready) (omega arith)
    ]
      where
        made_none : (f : Option Standing) → IsReadyWith (f ∷ []) tale → ImageRepresents (contents_of tale) f → Made (command_of called.words) called.call called.answered.ending → told_rounds ≡ []
        made_none None r holds was =
            let logged = was.serves.run.logged tale called.begins r in
            none_told (empty_for was.head) logged.history logged.members logged.left (few_of (rounds_in logged.history) was.list logged.explained.few (was.idle idle).1)
        made_none (Some s) r holds was = absurd (never_none (command_of called.words) called.call called.answered.ending called.replay tale called.begins s holds was.serves.none)

        failed_none : (f : Option Standing) → IsReadyWith (f ∷ []) tale → ImageRepresents (contents_of tale) f → FailedToMake (command_of called.words) called.call → told_rounds ≡ []
        failed_none None r holds was = elim (was.cut.left tale called.begins r) [
          | inl left ↦ none_told (empty_for was.head) [] (None ∷ []) left (omega arith)
          | inr published ↦ none_told (empty_for was.head) [] (None ∷ Some (empty_for was.head) ∷ []) published.left (omega arith)
        ]
        failed_none (Some s) r holds was = elim was.cut.none [
          | inl stays ↦ same_rounds start called stays
          | inr none ↦ absurd (never_none (command_of called.words) called.call called.answered.ending called.replay tale called.begins s holds none)
        ]

    -- what a crash leaves at any moment

    abbrev IsLeftAt : Standing → ℕ → List Line → Type 0
    IsLeftAt s moment image = IsAfterSome AnyRounds first s told_rounds image

    abbrev AreLeft : Standing → Type 0
    AreLeft s = (moment : ℕ) → length tale.log ≤ moment → moment ≤ length called.after.log → (image : List Line) → IsCrashImageAt called.after.base called.after.log moment image → IsLeftAt s moment image

-- from no region
module _ (tale : Tale) (ready : IsReadyWith (None ∷ []) tale) (called : Called tale) where
  bare_rounds : (image : List Line) → ¬ HasRegion image → (s : Standing) → IsAfterSome AnyRounds None s (told_rounds tale None ready called) image
  bare_rounds image none s = record { kept = []; lost = told_rounds tale None ready called; whole = refl; stands = inr (refl, refl, none); holds = tt }

  -- .. no region is made
  left_none : (s : Standing) → first_behind (start_at tale None) called ≡ None → AreLeft tale None ready called s
  left_none s is moment low high image crash = elim ((call_sound (start_at tale None) (sound tale None ready) called).images moment low high image crash) [
    | inl none ↦ bare_rounds image none s
    | inr some ↦ absurd (cc (some.first, is))
  ]

  -- .. or this one
  left_made : (s : Standing) → first_behind (start_at tale None) called ≡ Some s → AreLeft tale None ready called s
  left_made s is moment low high image crash = elim ((call_sound (start_at tale None) (sound tale None ready) called).images moment low high image crash) [
    | inl none ↦ bare_rounds image none s
    | inr some ↦ record {
      kept = some.prefix.kept;
      lost = some.prefix.lost;
      whole = some.prefix.whole;
      stands = inl (region_of image (state_after s some.prefix.kept) (subst (λ (t : Standing). Represents image (state_after t some.prefix.kept)) (some_standing (sym some.first ∙ is)) some.prefix.stands));
      holds = tt;
    }
  ]

-- from a region
module _ (tale : Tale) (s : Standing) (ready : IsReadyWith (Some s ∷ []) tale) (called : Called tale) where
  held_first : IsHeld AnyRounds s (start_at tale (Some s))
  held_first = record {
    first = refl;
    now = tt;
    images = λ image left. inr (record {
      kept = [];
      lost = [];
      whole = refl;
      stands = elim (ready.images [] (All-nil _) image (subst (λ (log : List LogOp). IsCrashImage tale.base log image) (sym (append-nil tale.log)) left)) [ inl stands ↦ stands | inr never ↦ absurd never ];
      fine = tt;
    });
  }

  left_found : AreLeft tale (Some s) ready called s
  left_found moment low high image crash =
      elim ((held_call AnyRounds s (start_at tale (Some s)) called (held_point AnyRounds s (start_at tale (Some s)) (sound tale (Some s) ready) held_first) (λ first more keeps legal holds. tt) held_first moment low high).images image crash) [
        | inl bare ↦ absurd bare.0
        | inr prefix ↦ record { kept = prefix.kept; lost = prefix.lost; whole = prefix.whole; stands = inl (region_of image (state_after s prefix.kept) prefix.stands); holds = tt }
      ]

-- from either
module _ (tale : Tale) (first : Option Standing) (ready : IsReadyWith (first ∷ []) tale) (called : Called tale) where
  left_by : (f : Option Standing) (r : IsReadyWith (f ∷ []) tale) (s : Standing) → first_behind (start_at tale f) called ≡ Some s → AreLeft tale f r called s
  left_by None r s is = left_made tale r called s is
  left_by (Some t) r s is = subst (AreLeft tale (Some t) r called) (some_standing is) (left_found tale t r called)

  abbrev text_of : List ℕ
  text_of = (ending_says called.answered.ending).0

  -- it stopped
  stopped_run : (stop : Stop) → called.answered.ending ≡ Stopped stop → ImageRepresents (contents_of tale) first → HasOneRun first tale called.after called.call.before.faults called.call.after.faults text_of
  stopped_run stop is stands = go (first_behind (start_at tale first) called) refl
    where
      none : told_rounds tale first ready called ≡ []
      none = idle_rounds tale first ready called stands (λ asks list has. subst (λ (e : Ending). HasRequests e asks list) is has)

      run_from : (s : Standing) → (first ≡ Some s) ⊎ ((first ≡ None) × (s ≡ empty_standing s.kind s.clients s.size)) → AreLeft tale first ready called s → HasOneRun first tale called.after called.call.before.faults called.call.after.faults text_of
      run_from s starts left = record {
        s = s;
        start = starts;
        history = [];
        legal = tt;
        once = none_once;
        asks = [];
        list = [];
        outcomes = none_run s;
        doubt = λ there. absurd (omega (arith, there.1));
        text_is = inr (refl, (stop, ap (λ (e : Ending). (ending_says e).0) is));
        images = λ moment low high image crash.
            let there = subst (λ (h : History). IsAfterSome AnyRounds first s h image) none (left moment low high image crash) in
            record { kept = there.kept; lost = there.lost; whole = there.whole; stands = there.stands; holds = λ end ask reply line. absurd (omega (arith, line.1)) };
      }

      bare : (f : Option Standing) (r : IsReadyWith (f ∷ []) tale) → first_behind (start_at tale f) called ≡ None → (f ≡ None) × ((s : Standing) → AreLeft tale f r called s)
      bare None r never = (refl, λ s. left_none tale r called s never)
      bare (Some s) r never = absurd (cc (never))

      go : (o : Option Standing) → first_behind (start_at tale first) called ≡ o → HasOneRun first tale called.after called.call.before.faults called.call.after.faults text_of
      go (Some s) from = run_from s (starts_from first (command_of called.words) s from) (left_by first ready s from)
      go None from =
          let where_none = bare first ready from in
          run_from (empty_standing Map 1 1) (inr (where_none.0, refl)) (where_none.1 (empty_standing Map 1 1))

  -- a request is in doubt only where a call of the device failed
  rises : (asks : List Ask) (list : List Outcome) → HasRequests called.answered.ending asks list → Contains list Doubt → Rose called.call.before.faults called.call.after.faults
  rises asks list has there = elim (case_of (command_of called.words) called.call called.answered.ending called.answered.comes) [
    | same stays idle ↦ absurd (idle asks list has)
    | made was ↦ was.serves.run.counted.rose (subst (λ (l : List Outcome). Contains l Doubt) (was.tells asks list has).1 there)
    | failed was idle ↦ absurd (idle asks list has)
    | ran was ↦ was.serves.run.counted.rose (subst (λ (l : List Outcome). Contains l Doubt) (was.tells asks list has).1 there)
    | cut was idle ↦ absurd (idle asks list has)
  ]

  -- it ran requests
  served_run : (asks : List Ask) (list : List Outcome) → called.answered.ending ≡ Served asks list → HasOneRun first tale called.after called.call.before.faults called.call.after.faults text_of
  served_run asks list is = go (serving (start_at tale first) called asks list (sound tale first ready) (subst (λ (e : Ending). HasRequests e asks list) (sym is) (refl, refl)))
    where
      go : IsServing (start_at tale first) called → HasOneRun first tale called.after called.call.before.faults called.call.after.faults text_of
      go some = record {
        s = some.s;
        start = starts_from first (command_of called.words) some.s some.served.first;
        history = told_rounds tale first ready called;
        legal = held.legal;
        once = numbers_stand_once some.s (told_rounds tale first ready called) held.keeps held.legal;
        asks = some.asks;
        list = some.list;
        outcomes = subst (λ (h : History). Outcomes some.s h some.asks some.list) (sym told) (subst (λ (t : Standing). Outcomes t (rounds_in some.served.logged.history) some.asks some.list) some.served.is some.served.logged.explained.outcomes);
        doubt = rises some.asks some.list some.ending;
        text_is = inl (ap (λ (e : Ending). (ending_says e).0) is ∙ ap (λ (a : List Ask). outcomes_text a list) own.0 ∙ ap (outcomes_text some.asks) own.1);
        images = λ moment low high image crash. at moment image (cases_eq moment (length called.after.log)) crash (left_by first ready some.s some.served.first moment low high image crash);
      }
        where
          own : (asks ≡ some.asks) × (list ≡ some.list)
          own = subst (λ (e : Ending). HasRequests e some.asks some.list) is some.ending

          told : told_rounds tale first ready called ≡ rounds_in some.served.logged.history
          told = rounds_are tale called.after some.t [] some.served.logged.history some.served.logged.members called.call.after called.ends some.served.logged.left

          AreRecorded : History → Type 0
          AreRecorded kept = AreNewRecorded kept (zip some.asks some.list)

          held : IsHeldAt AreRecorded some.s (start_at tale first) called (length called.after.log)
          held = served_held AreRecorded some.s some.t (start_at tale first) called some.asks some.list some.served
              (λ kept lost whole unsealed. new_recorded some.s some.t (start_at tale first) called some.asks some.list some.served kept lost whole unsealed)

          at : (moment : ℕ) (image : List Line) → (moment ≡ length called.after.log) ⊎ (moment ≢ length called.after.log) → IsCrashImageAt called.after.base called.after.log moment image → IsAfterSome AnyRounds first some.s (told_rounds tale first ready called) image
              → IsAfterSome (λ kept. moment ≡ length called.after.log → AreRecorded kept) first some.s (told_rounds tale first ready called) image
          at moment image (inl end) crash there = elim (held.images image (subst (λ (m : ℕ). IsCrashImageAt called.after.base called.after.log m image) end crash)) [
            | inl bare ↦ absurd bare.0
            | inr prefix ↦ record { kept = prefix.kept; lost = prefix.lost; whole = prefix.whole; stands = inl (region_of image (state_after some.s prefix.kept) prefix.stands); holds = λ again. prefix.fine }
          ]
          at moment image (inr within) crash there = record { kept = there.kept; lost = there.lost; whole = there.whole; stands = there.stands; holds = λ end. absurd (within end) }

-- The theorem

pub recoverable : (words : List (List ℕ)) (call : Call) (out : Stream) (status : Status) → IsAnswered words call out status → IsReplay call.before → IsRecoverable words call.before call.after out
recoverable words call out status answered replay asked tale first told rest holds =
    let stands : ImageRepresents (contents tale.base tale.log) first = represents_first (contents tale.base tale.log) first holds in
    let ready : IsReadyWith (first ∷ []) tale = at_rest_is_ready tale.base tale.log first rest stands in
    let end = tells (command_of words) call answered.ending replay tale told first ready stands (case_of (command_of words) call answered.ending answered.comes) in
    let called : Called tale = record { words = words; call = call; out = out; status = status; answered = answered; after = with_ops end.0 tale; begins = told; ends = end.1; replay = replay } in
    let run : HasOneRun first tale (with_ops end.0 tale) call.before.faults call.after.faults (ending_says answered.ending).0 = elim (ends_so (command_of words) call answered.ending (of_words words asked) answered.comes) [
      | stopped stop is ↦ stopped_run tale first ready called stop is stands
      | served asks list is ↦ served_run tale first ready called asks list is
    ] in
    (end.0, (ending_says answered.ending).0, end.1, written out (ending_says answered.ending).0 (ending_says answered.ending).1 status answered.said, run)
