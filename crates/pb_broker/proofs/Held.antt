-- What holds of the rounds of a chain behind a call holds at each later point.
use Rattle.std.proofs.Common.{◌≡◌, ℕ, zero, suc, ◌≤◌, true, false, List, [], ◌∷◌, ◌++◌, length, take, drop, Option, Some, refl, sym, ap, subst, ◌∙◌, arith, inl, inr, IfSome}
use Rattle.std.specs.List.{list_any, zip}
use Rattle.std.specs.Prelude.{Contains, ◌==◌, if◌then◌else◌}
use Rattle.std.proofs.lemmas.Bool.{false≢true}
use Rattle.std.proofs.lemmas.List.{append_assoc, append-nil, drop_all, drop-append-le, length-append, take_all}
use Rattle.pb_pmem.specs.declared.line.Line.{Line}
use Rattle.pb_pmem.specs.declared.log.LogOp.{LogOp}
use Rattle.pb_pmem.specs.declared.log.LogOp.TheVariants.{Whole, Word, Back, Fence, Sync}
use Rattle.pb_pmem.specs.Crash.{is_sync, IsCrashImage, IsCrashImageAt}
use Rattle.pb_pmem.specs.Device.{Tale}
use Rattle.pb_pmem.specs.Operations.{with_ops}
use Rattle.pb_pmem.proofs.CrashLaws.{IsAtRest-none, IsCrashImage-contents}
use Rattle.pb_pmem.proofs.Lines.{contents-none}
use Rattle.pb_object.specs.declared.request.Ask.{Ask}
use Rattle.pb_object.specs.History.{Round, History, IsLegal, after_round, state_after}
use Rattle.pb_object.specs.KeptLists.{HasKeptLists}
use Rattle.pb_object.specs.Standing.{Standing, rounds_of, side_count}
use Rattle.pb_object.proofs.KeptLists.{fresh_kept_lists}
use Rattle.pb_layout.specs.Covers.{HasNoSync, IsCoveredBy}
use Rattle.pb_layout.specs.Damage.{HasRegion}
use Rattle.pb_layout.specs.Exits.{empty_for}
use Rattle.pb_layout.specs.LogHistory.{LoggedRound, AreUnsealed, history_of, rounds_in}
use Rattle.pb_layout.specs.Once.{numbers_of}
use Rattle.pb_layout.specs.Recovered.{Represents}
use Rattle.pb_layout.specs.RegionOps.{settle_to}
use Rattle.pb_layout.specs.Represents.{header_for}
use Rattle.pb_layout.specs.ToldExits.{IsCoveredExit, contents_of}
use Rattle.pb_layout.proofs.KeptLists.{region_keeps_lists}
use Rattle.pb_layout.proofs.LegalHistories.{KeepsAll, after_entries-keeps, rounds_are_few}
use Rattle.pb_layout.proofs.OneRecovery.{has_region, represents_one}
use Rattle.pb_layout_laws.proofs.Histories.{rounds_in-append, state_after-append}
use Rattle.pb_engine.specs.Good.{sync_count}
use Rattle.pb_engine.proofs.Costs.{settling_syncs, syncs-append}
use Rattle.pb_report.specs.declared.outcome.Outcome.{Outcome}
use Rattle.pb_script.specs.Command.{command_of}
use Rattle.pb_broker.specs.Chain.{Point, Called, Step, handed, crashed, Steps, IsHandedBack, IsCrashed, IsBehind, HasRequests, begun_by, first_behind, rounds_behind}
use Rattle.pb_broker.specs.Ending.{Ending, Stopped, Served, Drilled, Reported, Replayed}
use Rattle.pb_broker.specs.Running.{IsLogged, empty_record, making_ops}
use Rattle.pb_broker.proofs.Behind.{images_at, after_is, rounds_are}
use Rattle.pb_broker.proofs.Cases.{case_of, Made, Ran, same, made, failed, ran, cut}
use Rattle.pb_broker.proofs.Making.{making_syncs}
use Rattle.pb_broker.proofs.Points.{IsLeft, IsRegionPoint, IsSound, legal_behind, legal_front}
use Rattle.pb_broker.proofs.Steps.{step_sound, found_is, no_region_found, region_found, empty_keeps, first_same, same_rounds, same_image, same_tale}

-- a crash leaves a region, and first rounds that this holds of
abbrev pub IsHeldIn : (History → Type 0) → Standing → History → List Line → Type 0
IsHeldIn Holds s rounds image = IsLeft ⊥ Holds s rounds image

-- it goes on holding where legal rounds follow
abbrev pub Stays : (History → Type 0) → Standing → Type 0
Stays Holds s = (first more : History) → KeepsAll s → IsLegal s (first ++ more) → Holds first → Holds (first ++ more)

-- it holds of the rounds at a point, whatever crashes
pub record IsHeld (Holds : History → Type 0) (s : Standing) (point : Point) : Type 0 where
  pub first : point.first ≡ Some s
  pub now : Holds point.rounds
  pub images : (image : List Line) → IsCrashImage point.tale.base point.tale.log image → IsHeldIn Holds s point.rounds image

-- .. behind a call
pub record IsHeldAt (Holds : History → Type 0) (s : Standing) (before : Point) (called : Called before.tale) (moment : ℕ) : Type 0 where
  pub first : first_behind before called ≡ Some s
  pub keeps : KeepsAll s
  pub legal : IsLegal s (rounds_behind before called)
  pub now : Holds (rounds_behind before called)
  pub images : (image : List Line) → IsCrashImageAt called.after.base called.after.log moment image → IsHeldIn Holds s (rounds_behind before called) image

-- The first rounds of a legal history are told apart by the standings after them

grown : (s : Standing) (round : Round) (more : History) → KeepsAll s → IsLegal s (round ∷ more) → s ≡ state_after s (round ∷ more) → ⊥
grown s round more keeps legal is =
    let few = rounds_are_few s (round ∷ more) keeps legal in
    omega (arith, few, ap numbers_of is)

first_round : {a b : Round} {first second : History} → (a ∷ first) ≡ (b ∷ second) → a ≡ b
first_round is = cc (is)

other_rounds : {a b : Round} {first second : History} → (a ∷ first) ≡ (b ∷ second) → first ≡ second
other_rounds is = cc (is)

same_front : (s : Standing) (first lost second more : History) → KeepsAll s → IsLegal s (first ++ lost) → first ++ lost ≡ second ++ more → state_after s first ≡ state_after s second → first ≡ second
same_front s [] lost [] more keeps legal whole is = refl
same_front s [] lost (round ∷ second) more keeps legal whole is =
    absurd (grown s round second keeps (legal_front s (round ∷ second) more (subst (IsLegal s) whole legal)) is)
same_front s (round ∷ first) lost [] more keeps legal whole is = absurd (grown s round first keeps (legal_front s (round ∷ first) lost legal) (sym is))
same_front s (round ∷ first) lost (other ∷ second) more keeps legal whole is =
    let round_is : round ≡ other = first_round whole in
    let rest : first ≡ second = same_front (after_round s round) first lost second more (after_entries-keeps s round.entries keeps) legal.1 (other_rounds whole) (is ∙ ap (λ (r : Round). state_after (after_round s r) second) (sym round_is)) in
    ap (λ (r : Round). r ∷ first) round_is ∙ ap (λ (h : History). other ∷ h) rest

-- The point behind a call

held_region : {Holds : History → Type 0} {s : Standing} {rounds : History} (image : List Line) → IsHeldIn Holds s rounds image → HasRegion image
held_region image (inl bare) = absurd bare.0
held_region {Holds} {s} image (inr prefix) = has_region image (state_after s prefix.kept) prefix.stands

some_standing : {a b : Standing} → Some a ≡ Some b → a ≡ b
some_standing is = cc (is)

held_handed : (Holds : History → Type 0) (s : Standing) (before next : Point) (called : Called before.tale) → IsHeldAt Holds s before called (length called.after.log) → IsHandedBack before called next → IsHeld Holds s next
held_handed Holds s before next called held back = elim back.found [
  | inl there ↦ record {
    first = there.1 ∙ held.first;
    now = subst Holds (sym there.2) held.now;
    images = subst (λ (h : History). (image : List Line) → IsCrashImage next.tale.base next.tale.log image → IsHeldIn Holds s h image) (sym there.2)
        (subst (λ (t : Tale). (image : List Line) → IsCrashImage t.base t.log image → IsHeldIn Holds s (rounds_behind before called) image) (sym back.tale) behind);
  }
  | inr none ↦ absurd (none.0 (held_region (contents_of called.after) (behind (contents_of called.after) (IsCrashImage-contents called.after.base called.after.log))))
]
  where
    behind : (image : List Line) → IsCrashImage called.after.base called.after.log image → IsHeldIn Holds s (rounds_behind before called) image
    behind image crash = held.images image (subst (λ (log : List LogOp). IsCrashImage called.after.base log image) (sym (take_all (length called.after.log) called.after.log (omega arith))) crash)

held_crashed : (Holds : History → Type 0) (s : Standing) (before next : Point) (called : Called before.tale) (moment : ℕ) (image : List Line) → IsHeldAt Holds s before called moment → IsCrashed before called moment image next → IsHeld Holds s next
held_crashed Holds s before next called moment image held crash = elim crash.found [
  | inr none ↦ absurd (none.0 (held_region image (held.images image crash.left)))
  | inl there ↦ go there (held.images image crash.left)
]
  where
    go : HasRegion image × (next.first ≡ first_behind before called) × (next.rounds ≡ crash.kept) → IsHeldIn Holds s (rounds_behind before called) image → IsHeld Holds s next
    go there (inl bare) = absurd bare.0
    go there (inr prefix) =
        let stands : Represents image (state_after s crash.kept) = subst (λ (f : Option Standing). IfSome f (λ t. Represents image (state_after t crash.kept))) held.first (crash.stands there.0) in
        let kept : Holds crash.kept = subst Holds (same_front s prefix.kept prefix.lost crash.kept crash.lost held.keeps (subst (IsLegal s) prefix.whole held.legal) (sym prefix.whole ∙ crash.whole) (represents_one image (state_after s prefix.kept) (state_after s crash.kept) prefix.stands stands)) prefix.fine in
        record {
          first = there.1 ∙ held.first;
          now = subst Holds (sym there.2) kept;
          images = subst (λ (t : Tale). (other : List Line) → IsCrashImage t.base t.log other → IsHeldIn Holds s next.rounds other) (sym crash.tale)
              (λ other left. inr (record {
                kept = crash.kept;
                lost = [];
                whole = there.2 ∙ sym (append-nil crash.kept);
                stands = subst (λ (lines : List Line). Represents lines (state_after s crash.kept)) (sym ((IsAtRest-none image).alone other left ∙ contents-none image)) stands;
                fine = kept;
              }));
        }

-- What was held before a call is held at each moment of it

module _ (Holds : History → Type 0) (s : Standing) (before : Point) (called : Called before.tale) (is : IsRegionPoint s before) (lasts : Stays Holds s) (held : IsHeld Holds s before) where
  held_same : called.call.after.told ≡ called.call.before.told → (moment : ℕ) → length before.tale.log ≤ moment → IsHeldAt Holds s before called moment
  held_same stays moment low = record {
    first = first_same (command_of called.words) before.first s is.first;
    keeps = is.region.keeps;
    legal = subst (IsLegal s) (sym (same_rounds before called stays)) is.region.legal;
    now = subst Holds (sym (same_rounds before called stays)) held.now;
    images = λ image crash. subst (λ (h : History). IsHeldIn Holds s h image) (sym (same_rounds before called stays)) (held.images image (same_image before called stays moment image low crash));
  }

  held_covered : (history : List LoggedRound) (members : List (Option Standing)) → IsCoveredExit before.tale called.call.after (state_after s before.rounds) history members → IsLegal (state_after s before.rounds) (rounds_in history) → (moment : ℕ) → length before.tale.log ≤ moment → moment ≤ length called.after.log → IsHeldAt Holds s before called moment
  held_covered history members left legal moment low high = record {
    first = first_same (command_of called.words) before.first s is.first;
    keeps = is.region.keeps;
    legal = subst (IsLegal s) (sym told) whole_legal;
    now = subst Holds (sym told) (more_rounds (rounds_in history) [] (sym (append-nil (rounds_in history))));
    images = λ image crash. subst (λ (h : History). IsHeldIn Holds s h image) (sym told)
        (images_at before.tale called.after s before.rounds history members called.call.after called.ends left ⊥ Holds more_rounds held.images moment low high image crash);
  }
    where
      told : rounds_behind before called ≡ before.rounds ++ rounds_in history
      told = ap (λ (h : History). before.rounds ++ h) (rounds_are before.tale called.after s before.rounds history members called.call.after called.ends left)

      whole_legal : IsLegal s (before.rounds ++ rounds_in history)
      whole_legal = legal_behind s before.rounds (rounds_in history) is.region.legal legal

      more_rounds : (more lost : History) → rounds_in history ≡ more ++ lost → Holds (before.rounds ++ more)
      more_rounds more lost whole =
          lasts before.rounds more is.region.keeps (legal_front s (before.rounds ++ more) lost (subst (IsLegal s) (ap (λ (h : History). before.rounds ++ h) whole ∙ sym (append_assoc before.rounds more lost)) whole_legal)) held.now

  grows : (history : List LoggedRound) (members : List (Option Standing)) (t : Standing) → IsCoveredExit before.tale called.call.after t history members → length before.tale.log ≤ length called.after.log
  grows history members t left =
      subst (λ (a : Tale). length before.tale.log ≤ length a.log) (after_is before.tale called.after t [] history members called.call.after called.ends left) (omega (arith, length-append before.tale.log left.ops))

  pub log_grows : length before.tale.log ≤ length called.after.log
  log_grows = elim (case_of (command_of called.words) called.call called.answered.ending called.answered.comes) [
    | same stays idle ↦ subst (λ (a : Tale). length before.tale.log ≤ length a.log) (same_tale before called stays) (omega arith)
    | made was ↦ absurd (no_region_found before called s is was.serves.none)
    | failed was idle ↦ elim was.cut.none [
      | inl stays ↦ subst (λ (a : Tale). length before.tale.log ≤ length a.log) (same_tale before called stays) (omega arith)
      | inr none ↦ absurd (no_region_found before called s is none)
    ]
    | ran was ↦
        let logged = was.serves.run.logged before.tale called.begins is.region.ready in
        grows logged.history logged.members was.serves.standing logged.left
    | cut was idle ↦ grows [] is.region.ready.0 was.standing (was.left before.tale is.region.ready.0 called.begins is.region.ready.1)
  ]

  pub held_call : (moment : ℕ) → length before.tale.log ≤ moment → moment ≤ length called.after.log → IsHeldAt Holds s before called moment
  held_call moment low high = elim (case_of (command_of called.words) called.call called.answered.ending called.answered.comes) [
    | same stays idle ↦ held_same stays moment low
    | made was ↦ absurd (no_region_found before called s is was.serves.none)
    | failed was idle ↦ elim was.cut.none [
      | inl stays ↦ held_same stays moment low
      | inr none ↦ absurd (no_region_found before called s is none)
    ]
    | ran was ↦
        let logged = was.serves.run.logged before.tale called.begins is.region.ready in
        let found = found_is before called s was.serves.standing is was.serves.stands in
        held_covered logged.history logged.members
        (subst (λ (t : Standing). IsCoveredExit before.tale called.call.after t logged.history logged.members) found logged.left)
        (subst (λ (t : Standing). IsLegal t (rounds_in logged.history)) found logged.explained.legal) moment low high
    | cut was idle ↦
        let found = found_is before called s was.standing is was.stands in
        held_covered [] is.region.ready.0
        (subst (λ (t : Standing). IsCoveredExit before.tale called.call.after t [] is.region.ready.0) found (was.left before.tale is.region.ready.0 called.begins is.region.ready.1))
        tt moment low high
  ]

-- the region of a point that holds
pub held_point : (Holds : History → Type 0) (s : Standing) (point : Point) → IsSound point → IsHeld Holds s point → IsRegionPoint s point
held_point Holds s point (inl bare) held = absurd (cc (bare.first, held.first))
held_point Holds s point (inr (t, is)) held = subst (λ (u : Standing). IsRegionPoint u point) (some_standing (sym is.first ∙ held.first)) is

held_step : (Holds : History → Type 0) (s : Standing) (before next : Point) → IsSound before → Stays Holds s → IsHeld Holds s before → Step before next → IsHeld Holds s next
held_step Holds s before next sound lasts held step = go (held_point Holds s before sound held) step
  where
    go : IsRegionPoint s before → Step before next → IsHeld Holds s next
    go is (handed called back) =
        held_handed Holds s before next called (held_call Holds s before called is lasts held (length called.after.log) (log_grows Holds s before called is lasts held) (omega arith)) back
    go is (crashed called moment image crash) =
        held_crashed Holds s before next called moment image (held_call Holds s before called is lasts held moment crash.low crash.high) crash

held_steps : (Holds : History → Type 0) (s : Standing) (count : ℕ) (before next : Point) → IsSound before → Stays Holds s → IsHeld Holds s before → Steps count before next → IsSound next × IsHeld Holds s next
held_steps Holds s zero before next sound lasts held is = (subst IsSound (sym is) sound, subst (IsHeld Holds s) (sym is) held)
held_steps Holds s (suc count) before next sound lasts held more =
    held_steps Holds s count more.0 next (step_sound before more.0 sound more.1) lasts (held_step Holds s before more.0 sound lasts held more.1) more.2

-- what holds behind a call holds at each later point
pub held_since : (Holds : History → Type 0) (s : Standing) (before next now : Point) (called : Called before.tale) (count : ℕ) → IsSound before → Stays Holds s → IsHeldAt Holds s before called (length called.after.log) → IsBehind before called next → Steps count next now → IsSound now × IsHeld Holds s now
held_since Holds s before next now called count sound lasts held (inl back) steps =
    held_steps Holds s count next now (step_sound before next sound (handed called back)) lasts (held_handed Holds s before next called held back) steps
held_since Holds s before next now called count sound lasts held (inr (image, crash)) steps =
    held_steps Holds s count next now (step_sound before next sound (crashed called (length called.after.log) image crash)) lasts
    (held_crashed Holds s before next called (length called.after.log) image held crash) steps

-- What the rounds of a served call hold

-- operations that are synced once or more
some_sync : (ops : List LogOp) → 1 ≤ sync_count ops → list_any is_sync ops ≡ true
some_sync [] some = absurd (omega (arith, some))
some_sync (Whole line to ∷ ops) some = some_sync ops some
some_sync (Word line word to ∷ ops) some = some_sync ops some
some_sync (Back line count ∷ ops) some = some_sync ops some
some_sync (Fence ∷ ops) some = some_sync ops some
some_sync (Sync ∷ ops) some = refl

-- a script's requests were run from a standing on that a region had come to
pub record IsServedIn (s t : Standing) (before : Point) (called : Called before.tale) (asks : List Ask) (list : List Outcome) : Type 1 where
  pub first : first_behind before called ≡ Some s
  pub is : t ≡ state_after s before.rounds
  pub keeps : KeepsAll s
  pub legal : IsLegal s before.rounds
  pub lists : HasKeptLists t
  pub known : History
  pub first_ops : List LogOp
  pub logged : IsLogged known t first_ops asks list before.tale called.call.after
  pub synced : sync_count first_ops ≡ 1

module _ (Holds : History → Type 0) (s t : Standing) (before : Point) (called : Called before.tale) (asks : List Ask) (list : List Outcome) (served : IsServedIn s t before called asks list) (holds : (kept lost : List LoggedRound) → served.logged.history ≡ kept ++ lost → AreUnsealed lost → Holds (before.rounds ++ rounds_in kept)) where
  has_synced : list_any is_sync served.logged.left.ops ≡ true
  has_synced =
      some_sync served.logged.left.ops (omega (arith, ap sync_count served.logged.parts, syncs-append served.first_ops served.logged.more, served.synced))

  no_sync_never : HasNoSync (length before.tale.log) (length (before.tale.log ++ served.logged.left.ops)) (before.tale.log ++ served.logged.left.ops) → ⊥
  no_sync_never none =
      false≢true (sym (subst (λ (l : List LogOp). list_any is_sync (drop (length before.tale.log) l) ≡ false) (take_all (length (before.tale.log ++ served.logged.left.ops)) (before.tale.log ++ served.logged.left.ops) (omega arith)) none) ∙ ap (list_any is_sync) behind ∙ has_synced)
    where
      behind : drop (length before.tale.log) (before.tale.log ++ served.logged.left.ops) ≡ served.logged.left.ops
      behind = drop-append-le (length before.tale.log) before.tale.log served.logged.left.ops (omega arith) ∙ ap (λ (l : List LogOp). l ++ served.logged.left.ops) (drop_all (length before.tale.log) before.tale.log (omega arith))

  covered_held : (image : List Line) → IsCoveredBy t served.logged.history image → IsHeldIn Holds s (before.rounds ++ rounds_in served.logged.history) image
  covered_held image covered = inr (record {
    kept = before.rounds ++ rounds_in covered.kept;
    lost = rounds_in covered.lost;
    whole = ap (λ (h : History). before.rounds ++ h) (ap rounds_in covered.whole ∙ rounds_in-append covered.kept covered.lost) ∙ sym (append_assoc before.rounds (rounds_in covered.kept) (rounds_in covered.lost));
    stands = subst (Represents image) (ap (λ (u : Standing). state_after u (rounds_in covered.kept)) served.is ∙ sym (state_after-append s before.rounds (rounds_in covered.kept))) covered.stands;
    fine = holds covered.kept covered.lost covered.whole covered.unsealed;
  })

  images_held : (image : List Line) → IsCrashImageAt before.tale.base (before.tale.log ++ served.logged.left.ops) (length (before.tale.log ++ served.logged.left.ops)) image → IsHeldIn Holds s (before.rounds ++ rounds_in served.logged.history) image
  images_held image crash = elim (served.logged.left.exit.covers.images (length (before.tale.log ++ served.logged.left.ops)) (omega (arith, length-append before.tale.log served.logged.left.ops)) (omega arith) image crash) [
    | inl covered ↦ covered_held image (subst (λ (h : List LoggedRound). IsCoveredBy t h image) same_history covered)
    | inr none ↦ absurd (no_sync_never none.0)
  ]
    where
      same_history : history_of before.tale.base (take (length (before.tale.log ++ served.logged.left.ops)) (before.tale.log ++ served.logged.left.ops)) (length before.tale.log) ≡ served.logged.history
      same_history = ap (λ (l : List LogOp). history_of before.tale.base l (length before.tale.log)) (take_all (length (before.tale.log ++ served.logged.left.ops)) (before.tale.log ++ served.logged.left.ops) (omega arith)) ∙ sym served.logged.left.exit.covers.told

  pub served_held : IsHeldAt Holds s before called (length called.after.log)
  served_held = record {
    first = served.first;
    keeps = served.keeps;
    legal = subst (IsLegal s) (sym told) (legal_behind s before.rounds (rounds_in served.logged.history) served.legal (subst (λ (u : Standing). IsLegal u (rounds_in served.logged.history)) served.is served.logged.explained.legal));
    now = subst Holds (sym told) (holds served.logged.history [] (sym (append-nil served.logged.history)) tt);
    images = λ image crash. subst (λ (h : History). IsHeldIn Holds s h image) (sym told) (subst (λ (a : Tale). (i : List Line) → IsCrashImageAt a.base a.log (length a.log) i → IsHeldIn Holds s (before.rounds ++ rounds_in served.logged.history) i) after_there images_held image crash);
  }
    where
      after_there : with_ops served.logged.left.ops before.tale ≡ called.after
      after_there = after_is before.tale called.after t [] served.logged.history served.logged.members called.call.after called.ends served.logged.left

      told : rounds_behind before called ≡ before.rounds ++ rounds_in served.logged.history
      told = ap (λ (h : History). before.rounds ++ h) (rounds_are before.tale called.after t [] served.logged.history served.logged.members called.call.after called.ends served.logged.left)

as_run : {a asks other_asks : List Ask} {l list other_list : List Outcome} {line : Ask × Outcome} → (a ≡ asks) × (l ≡ list) → (a ≡ other_asks) × (l ≡ other_list) → Contains (zip other_asks other_list) line → Contains (zip asks list) line
as_run {a} {asks} {other_asks} {l} {list} {other_list} {line} has other there =
    subst (λ (m : List Outcome). Contains (zip asks m) line) (sym other.1 ∙ has.1) (subst (λ (b : List Ask). Contains (zip b other_list) line) (sym other.0 ∙ has.0) there)

-- a line of the script that was run
pub same_line : (ending : Ending) (asks other_asks : List Ask) (list other_list : List Outcome) (line : Ask × Outcome) → HasRequests ending asks list → HasRequests ending other_asks other_list → Contains (zip other_asks other_list) line → Contains (zip asks list) line
same_line (Stopped stop) asks other_asks list other_list line has other there = absurd has
same_line (Served a l) asks other_asks list other_list line has other there = as_run has other there
same_line (Drilled a l versions) asks other_asks list other_list line has other there = as_run has other there
same_line (Reported s) asks other_asks list other_list line has other there = absurd has
same_line (Replayed answers s) asks other_asks list other_list line has other there = absurd has

-- a call that ran requests
pub record IsServing (before : Point) (called : Called before.tale) : Type 1 where
  pub asks : List Ask
  pub list : List Outcome
  pub ending : HasRequests called.answered.ending asks list
  pub s : Standing
  pub t : Standing
  pub served : IsServedIn s t before called asks list

module _ (before : Point) (called : Called before.tale) where
  made_serves : IsSound before → (was : Made (command_of called.words) called.call called.answered.ending) → HasRequests called.answered.ending was.asks was.list → IsServing before called
  made_serves (inr (s, is)) was some = absurd (no_region_found before called s is was.serves.none)
  made_serves (inl is) was some = record {
    asks = was.asks;
    list = was.list;
    ending = some;
    s = empty_for was.head;
    t = empty_for was.head;
    served = record {
      first = ap (begun_by (command_of called.words)) is.first ∙ was.is;
      is = sym (ap (state_after (empty_for was.head)) is.rounds);
      keeps = empty_keeps was.head;
      legal = subst (IsLegal (empty_for was.head)) (sym is.rounds) tt;
      lists = fresh_kept_lists was.head.kind was.head.clients was.head.size;
      known = was.serves.run.history;
      first_ops = making_ops was.head;
      logged = was.serves.run.logged before.tale called.begins is.ready;
      synced = making_syncs was.head (empty_record was.head) (if side_count was.head.kind == 2 then empty_record was.head else []);
    };
  }

  ran_serves : IsSound before → (was : Ran called.call called.answered.ending) → HasRequests called.answered.ending was.asks was.list → IsServing before called
  ran_serves (inl is) was some = absurd (region_found before called was.serves.standing is was.serves.stands)
  ran_serves (inr (s, is)) was some =
      let found = found_is before called s was.serves.standing is was.serves.stands in
      record {
        asks = was.asks;
        list = was.list;
        ending = some;
        s = s;
        t = was.serves.standing;
        served = record {
          first = first_same (command_of called.words) before.first s is.first;
          is = found;
          keeps = is.region.keeps;
          legal = is.region.legal;
          lists = region_keeps_lists (contents_of before.tale) was.serves.standing (subst (Represents (contents_of before.tale)) (sym found) is.region.holds);
          known = was.serves.run.history;
          first_ops = settle_to (header_for was.serves.standing) was.serves.standing;
          logged = was.serves.run.logged before.tale called.begins is.region.ready;
          synced = settling_syncs (header_for was.serves.standing) (rounds_of was.serves.standing 0) (rounds_of was.serves.standing 1);
        };
      }

  these : (asks : List Ask) (list : List Outcome) (own : List Ask) (own_list : List Outcome) → HasRequests called.answered.ending asks list → (asks ≡ own) × (list ≡ own_list) → HasRequests called.answered.ending own own_list
  these asks list own own_list some are =
      subst (HasRequests called.answered.ending own) are.1 (subst (λ (a : List Ask). HasRequests called.answered.ending a list) are.0 some)

  pub serving : (asks : List Ask) (list : List Outcome) → IsSound before → HasRequests called.answered.ending asks list → IsServing before called
  serving asks list sound some = elim (case_of (command_of called.words) called.call called.answered.ending called.answered.comes) [
    | same stays idle ↦ absurd (idle asks list some)
    | made was ↦ made_serves sound was (these asks list was.asks was.list some (was.tells asks list some))
    | failed was idle ↦ absurd (idle asks list some)
    | ran was ↦ ran_serves sound was (these asks list was.asks was.list some (was.tells asks list some))
    | cut was idle ↦ absurd (idle asks list some)
  ]
