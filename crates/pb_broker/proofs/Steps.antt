-- Each point of a chain is sound, and so is each behind a call or a crash.
use Rattle.std.proofs.Common.{◌≡◌, ◌⊎◌, ℕ, zero, suc, ◌≤◌, Bool, true, false, List, [], ◌∷◌, ◌++◌, length, Option, Some, None, refl, sym, ap, subst, ◌∙◌, inl, inr, IfSome}
use Rattle.std.proofs.lemmas.Bool.{cases_eq}
use Rattle.std.proofs.lemmas.List.{append-nil, take_all, length-replicate}
use Rattle.pb_pmem.specs.declared.line.Line.{Line}
use Rattle.pb_pmem.specs.declared.log.LogOp.{LogOp}
use Rattle.pb_pmem.specs.Crash.{IsCrashImage, IsCrashImageAt}
use Rattle.pb_pmem.specs.Device.{Tale}
use Rattle.pb_pmem.specs.Lines.{word_of}
use Rattle.pb_object.specs.History.{History, Round, IsLegal, state_after}
use Rattle.pb_object.specs.Standing.{Standing}
use Rattle.pb_layout.specs.Damage.{HasRegion}
use Rattle.pb_layout.specs.declared.header.Header.{Header}
use Rattle.pb_layout.specs.declared.header.TheConstants.{MAGIC}
use Rattle.pb_layout.specs.Exits.{empty_for}
use Rattle.pb_layout.specs.LogHistory.{LoggedRound, rounds_in}
use Rattle.pb_layout.specs.Ready.{ImageRepresentsOne}
use Rattle.pb_layout.specs.Recovered.{Represents}
use Rattle.pb_layout.specs.ToldExits.{IsCoveredExit, IsReadyWith, contents_of}
use Rattle.pb_layout.proofs.LegalHistories.{KeepsAll}
use Rattle.pb_layout.proofs.OneRecovery.{has_region, represents_one}
use Rattle.pb_layout_laws.proofs.ToldCalls.{from_told}
use Rattle.pb_engine.specs.View.{DeviceRepresents, FailedRound}
use Rattle.pb_script.specs.declared.command.Command.{Command}
use Rattle.pb_script.specs.Command.{command_of}
use Rattle.pb_broker.specs.Comes.{SettlingIsCutOff}
use Rattle.pb_broker.specs.Chain.{Point, Called, Step, handed, crashed, Steps, Chain, IsFound, IsHandedBack, IsReadyAgain, IsCrashed, begun_by, first_behind, rounds_behind}
use Rattle.pb_broker.specs.Running.{AreAround, AreAroundDoubt}
use Rattle.pb_broker.proofs.Behind.{no_rounds, rounds_since, rounds_are, images_at, ends_as, goes_on, after_is}
use Rattle.pb_broker.proofs.Cases.{Made, FailedToMake, Ran, same, made, failed, ran, cut, case_of}
use Rattle.pb_broker.proofs.Points.{HasNone, IsSomeOf, AnyRounds, IsPrefixIn, IsRegion, IsRegionPoint, IsBarePoint, IsSound, bare_contents, bare_images, lines_with, lines_without, legal_front, legal_behind, sound_ready, start_sound}

-- What a call leaves

-- the region behind a call
pub record IsRegionBehind (before : Point) (called : Called before.tale) : Type 0 where
  pub s : Standing
  pub first : first_behind before called ≡ Some s
  pub region : IsRegion s called.after (rounds_behind before called)

-- what a crash may leave at a moment of the call
pub record IsSomeBehind (before : Point) (called : Called before.tale) (image : List Line) : Type 0 where
  pub s : Standing
  pub first : first_behind before called ≡ Some s
  pub keeps : KeepsAll s
  pub legal : IsLegal s (rounds_behind before called)
  pub prefix : IsPrefixIn AnyRounds s (rounds_behind before called) image

pub record IsCallSound (before : Point) (called : Called before.tale) : Type 0 where
  pub region : HasRegion (contents_of called.after) → IsRegionBehind before called
  pub bare : ¬ HasRegion (contents_of called.after) → HasNone called.after
  pub images : (moment : ℕ) → length before.tale.log ≤ moment → moment ≤ length called.after.log → (image : List Line)
      → IsCrashImageAt called.after.base called.after.log moment image → (¬ HasRegion image) ⊎ IsSomeBehind before called image

pub first_same : (command : Option Command) (first : Option Standing) (s : Standing) → first ≡ Some s → begun_by command first ≡ Some s
first_same command first s is = ap (begun_by command) is

some_tale : {a b : Tale} → Some a ≡ Some b → a ≡ b
some_tale is = cc (is)

-- what the device holds before a call is what it tells
pub lines_before : (before : Point) (called : Called before.tale) → called.call.before.now ≡ Some (contents_of before.tale)
lines_before before called = from_told (λ (t : Tale). called.call.before.now ≡ Some (contents_of t)) called.call.before.told before.tale called.begins called.replay

pub if_lines : (P : List Line → Type 0) (now : Option (List Line)) (lines : List Line) → now ≡ Some lines → IfSome now P → P lines
if_lines P now lines is holds = subst (λ (o : Option (List Line)). IfSome o P) is holds

-- Nothing was done

module _ (before : Point) (called : Called before.tale) (stays : called.call.after.told ≡ called.call.before.told) where
  pub same_tale : before.tale ≡ called.after
  same_tale = some_tale (sym called.begins ∙ sym stays ∙ called.ends)

  pub same_rounds : rounds_behind before called ≡ before.rounds
  same_rounds = ap (λ (h : History). before.rounds ++ h) (subst (λ (t : Tale). rounds_since t (length before.tale.log) ≡ []) same_tale (no_rounds before.tale)) ∙ append-nil before.rounds

  pub same_image : (moment : ℕ) (image : List Line) → length before.tale.log ≤ moment → IsCrashImageAt called.after.base called.after.log moment image → IsCrashImage before.tale.base before.tale.log image
  same_image moment image low crash =
      subst (λ (log : List LogOp). IsCrashImage before.tale.base log image) (take_all moment before.tale.log low)
      (subst (λ (t : Tale). IsCrashImageAt t.base t.log moment image) (sym same_tale) crash)

  same_bare : IsBarePoint before → IsCallSound before called
  same_bare is = record {
    region = λ region. absurd (bare_contents before.tale is.ready (subst (λ (t : Tale). HasRegion (contents_of t)) (sym same_tale) region));
    bare = λ none. subst HasNone same_tale is.ready;
    images = λ moment low high image crash. inl (bare_images before.tale is.ready image (same_image moment image low crash));
  }

  same_region : (s : Standing) → IsRegionPoint s before → IsCallSound before called
  same_region s is = record {
    region = λ region. record { s = s; first = first; region = region_there };
    bare = λ none. absurd (none (has_region (contents_of called.after) (state_after s (rounds_behind before called)) region_there.holds));
    images = λ moment low high image crash. elim (is.region.images image (same_image moment image low crash)) [
      | inl bare ↦ inl bare.1
      | inr prefix ↦ inr (record {
        s = s;
        first = first;
        keeps = is.region.keeps;
        legal = region_there.legal;
        prefix = subst (λ (h : History). IsPrefixIn AnyRounds s h image) (sym same_rounds) prefix;
      })
    ];
  }
    where
      first : first_behind before called ≡ Some s
      first = first_same (command_of called.words) before.first s is.first

      region_there : IsRegion s called.after (rounds_behind before called)
      region_there = subst (λ (t : Tale). IsRegion s t (rounds_behind before called)) same_tale (subst (IsRegion s before.tale) (sym same_rounds) is.region)

-- A covered call

module _ (before : Point) (called : Called before.tale) (s : Standing) (first : first_behind before called ≡ Some s) (keeps : KeepsAll s) (history : List LoggedRound) (members : List (Option Standing)) (left : IsCoveredExit before.tale called.call.after (state_after s before.rounds) history members) (legal : IsLegal s (before.rounds ++ rounds_in history)) (images : (image : List Line) → IsCrashImage before.tale.base before.tale.log image → IsSomeOf s before.rounds image) (bare : ¬ HasRegion (contents_of called.after) → HasNone called.after) where
  told_are : rounds_behind before called ≡ before.rounds ++ rounds_in history
  told_are = ap (λ (h : History). before.rounds ++ h) (rounds_are before.tale called.after s before.rounds history members called.call.after called.ends left)

  covered_region : HasRegion (contents_of called.after) → IsRegion s called.after (before.rounds ++ rounds_in history)
  covered_region region = elim (ends_as before.tale called.after s before.rounds history members called.call.after called.ends left) [
    | inl holds ↦ goes_on before.tale called.after s before.rounds history members called.call.after called.ends left keeps legal images holds
    | inr none ↦ absurd (none.1 region)
  ]

  pub covered_sound : IsCallSound before called
  covered_sound = record {
    region = λ region. record { s = s; first = first; region = subst (IsRegion s called.after) (sym told_are) (covered_region region) };
    bare = bare;
    images = λ moment low high image crash. elim (images_at before.tale called.after s before.rounds history members called.call.after called.ends left (Unit {0}) AnyRounds (λ more lost is. tt) images moment low high image crash) [
      | inl bare ↦ inl bare.1
      | inr prefix ↦ inr (record {
        s = s;
        first = first;
        keeps = keeps;
        legal = subst (IsLegal s) (sym told_are) legal;
        prefix = subst (λ (h : History). IsPrefixIn AnyRounds s h image) (sym told_are) prefix;
      })
    ];
  }

-- .. from a region
region_sound : (before : Point) (called : Called before.tale) (s : Standing) (is : IsRegionPoint s before) (history : List LoggedRound) (members : List (Option Standing)) → IsCoveredExit before.tale called.call.after (state_after s before.rounds) history members → IsLegal (state_after s before.rounds) (rounds_in history) → IsCallSound before called
region_sound before called s is history members left legal =
    covered_sound before called s (first_same (command_of called.words) before.first s is.first) is.region.keeps history members left (legal_behind s before.rounds (rounds_in history) is.region.legal legal) is.region.images
    (λ none. absurd (bare_no_more none))
  where
    bare_no_more : ¬ HasRegion (contents_of called.after) → ⊥
    bare_no_more none = elim (ends_as before.tale called.after s before.rounds history members called.call.after called.ends left) [
      | inl holds ↦ none (has_region (contents_of called.after) (state_after s (before.rounds ++ rounds_in history)) holds)
      | inr still ↦ still.0 (has_region (contents_of before.tale) (state_after s before.rounds) is.region.holds)
    ]

-- .. from no region
pub empty_keeps : (head : Header) → KeepsAll (empty_for head)
empty_keeps head = length-replicate head.clients []

bare_sound : (before : Point) (called : Called before.tale) (is : IsBarePoint before) (head : Header) → begun_by (command_of called.words) None ≡ Some (empty_for head) → (history : List LoggedRound) (members : List (Option Standing)) → IsCoveredExit before.tale called.call.after (empty_for head) history members → IsLegal (empty_for head) (rounds_in history) → (¬ HasRegion (contents_of called.after) → HasNone called.after) → IsCallSound before called
bare_sound before called is head command history members left legal bare =
    covered_sound before called (empty_for head) first (empty_keeps head) history members
    (subst (λ (h : History). IsCoveredExit before.tale called.call.after (state_after (empty_for head) h) history members) (sym is.rounds) left)
    (subst (λ (h : History). IsLegal (empty_for head) (h ++ rounds_in history)) (sym is.rounds) legal)
    (λ image crash. inl (tt, bare_images before.tale is.ready image crash)) bare
  where
    first : first_behind before called ≡ Some (empty_for head)
    first = ap (begun_by (command_of called.words)) is.first ∙ command

-- By what the call came to

pub no_region_found : (before : Point) (called : Called before.tale) (s : Standing) → IsRegionPoint s before → IfSome called.call.before.now (λ image. ¬ HasRegion image) → ⊥
no_region_found before called s is none =
    if_lines (λ image. ¬ HasRegion image) called.call.before.now (contents_of before.tale) (lines_before before called) none (has_region (contents_of before.tale) (state_after s before.rounds) is.region.holds)

pub region_found : (before : Point) (called : Called before.tale) (t : Standing) → IsBarePoint before → DeviceRepresents t called.call.before → ⊥
region_found before called t is stands =
    bare_contents before.tale is.ready (has_region (contents_of before.tale) t (if_lines (λ image. Represents image t) called.call.before.now (contents_of before.tale) (lines_before before called) stands))

pub found_is : (before : Point) (called : Called before.tale) (s t : Standing) → IsRegionPoint s before → DeviceRepresents t called.call.before → t ≡ state_after s before.rounds
found_is before called s t is stands =
    represents_one (contents_of before.tale) t (state_after s before.rounds) (if_lines (λ image. Represents image t) called.call.before.now (contents_of before.tale) (lines_before before called) stands) is.region.holds

-- a device that is ready with standings alone has a region
alone_has_region : (s : Standing) (members : List (Option Standing)) (tale : Tale) → members ≡ Some s ∷ [] → IsReadyWith members tale → HasRegion (contents_of tale)
alone_has_region s members tale alone ready =
    elim (subst (λ (m : List (Option Standing)). ImageRepresentsOne (contents_of tale) m) alone ready.holds) [
      | inl stands ↦ has_region (contents_of tale) s stands
      | inr never ↦ absurd never
    ]

doubt_has_region : (s : Standing) (known : History) (called : Bool) (round : Round) (told : History) (members : List (Option Standing)) (tale : Tale) → AreAroundDoubt s known called round told members → IsReadyWith members tale → HasRegion (contents_of tale)
doubt_has_region s known false round told members tale alone ready = alone_has_region (state_after s known) members tale alone.1 ready
doubt_has_region s known true round told members tale either ready =
    elim (subst (λ (m : List (Option Standing)). ImageRepresentsOne (contents_of tale) m) either.1 ready.holds) [
      | inl stands ↦ has_region (contents_of tale) _ stands
      | inr rest ↦ elim rest [ inl stands ↦ has_region (contents_of tale) _ stands | inr never ↦ absurd never ]
    ]

pub around_has_region : (s : Standing) (known : History) (doubt : Option FailedRound) (told : History) (members : List (Option Standing)) (tale : Tale) → AreAround s known doubt told members → IsReadyWith members tale → HasRegion (contents_of tale)
around_has_region s known None told members tale alone ready = alone_has_region (state_after s known) members tale alone.1 ready
around_has_region s known (Some one) told members tale around ready = doubt_has_region s known one.called one.round told members tale around ready

made_sound : (before : Point) → IsSound before → (called : Called before.tale) → Made (command_of called.words) called.call called.answered.ending → IsCallSound before called
made_sound before (inr (s, is)) called was = absurd (no_region_found before called s is was.serves.none)
made_sound before (inl is) called was =
    let logged = was.serves.run.logged before.tale called.begins is.ready in
    bare_sound before called is was.head was.is logged.history logged.members logged.left logged.explained.legal
    (λ none. absurd (none (around_has_region (empty_for was.head) was.serves.run.history logged.doubt (rounds_in logged.history) logged.members called.after logged.around
    (subst (IsReadyWith logged.members) (after_is before.tale called.after (empty_for was.head) [] logged.history logged.members called.call.after called.ends logged.left) logged.left.exit.ready))))

failed_sound : (before : Point) → IsSound before → (called : Called before.tale) → FailedToMake (command_of called.words) called.call → IsCallSound before called
failed_sound before (inr (s, is)) called was = elim was.cut.none [
  | inl stays ↦ same_region before called stays s is
  | inr none ↦ absurd (no_region_found before called s is none)
]
failed_sound before (inl is) called was = elim (was.cut.left before.tale called.begins is.ready) [
  | inl left ↦ bare_sound before called is was.head was.is [] (None ∷ []) left tt
      (λ none. subst HasNone (after_is before.tale called.after (empty_for was.head) [] [] (None ∷ []) called.call.after called.ends left) left.exit.ready)
  | inr published ↦ bare_sound before called is was.head was.is [] (None ∷ Some (empty_for was.head) ∷ []) published.left tt
      (λ none. absurd (none (has_region (contents_of called.after) (empty_for was.head) (from_told (λ (t : Tale). Represents (contents_of t) (empty_for was.head)) called.call.after.told called.after called.ends published.holds))))
]

ran_sound : (before : Point) → IsSound before → (called : Called before.tale) → Ran called.call called.answered.ending → IsCallSound before called
ran_sound before (inl is) called was = absurd (region_found before called was.serves.standing is was.serves.stands)
ran_sound before (inr (s, is)) called was =
    let logged = was.serves.run.logged before.tale called.begins is.region.ready in
    let found = found_is before called s was.serves.standing is was.serves.stands in
    region_sound before called s is logged.history logged.members
    (subst (λ (t : Standing). IsCoveredExit before.tale called.call.after t logged.history logged.members) found logged.left)
    (subst (λ (t : Standing). IsLegal t (rounds_in logged.history)) found logged.explained.legal)

cut_sound : (before : Point) → IsSound before → (called : Called before.tale) → SettlingIsCutOff called.call → IsCallSound before called
cut_sound before (inl is) called fails = absurd (region_found before called fails.standing is fails.stands)
cut_sound before (inr (s, is)) called fails =
    let found = found_is before called s fails.standing is fails.stands in
    region_sound before called s is [] is.region.ready.0
    (subst (λ (t : Standing). IsCoveredExit before.tale called.call.after t [] is.region.ready.0) found (fails.left before.tale is.region.ready.0 called.begins is.region.ready.1))
    tt

same_sound : (before : Point) → IsSound before → (called : Called before.tale) → called.call.after.told ≡ called.call.before.told → IsCallSound before called
same_sound before (inl is) called stays = same_bare before called stays is
same_sound before (inr (s, is)) called stays = same_region before called stays s is

pub call_sound : (before : Point) → IsSound before → (called : Called before.tale) → IsCallSound before called
call_sound before sound called = elim (case_of (command_of called.words) called.call called.answered.ending called.answered.comes) [
  | same stays idle ↦ same_sound before sound called stays
  | made was ↦ made_sound before sound called was
  | failed was idle ↦ failed_sound before sound called was
  | ran was ↦ ran_sound before sound called was
  | cut was idle ↦ cut_sound before sound called was
]

-- Points behind

handed_sound : (before next : Point) (called : Called before.tale) → IsSound before → IsHandedBack before called next → IsSound next
handed_sound before next called sound back =
    let behind = call_sound before sound called in
    elim back.found [
      | inl there ↦
          let region = behind.region there.0 in
          inr (
            region.s,
            record {
              first = there.1 ∙ region.first;
              region = subst (λ (t : Tale). IsRegion region.s t next.rounds) (sym back.tale) (subst (IsRegion region.s called.after) (sym there.2) region.region);
            },
          )
      | inr none ↦ inl (record { first = none.1; rounds = none.2; ready = subst HasNone (sym back.tale) (behind.bare none.0) })
    ]

crashed_sound : (before next : Point) (called : Called before.tale) (moment : ℕ) (image : List Line) → IsSound before → IsCrashed before called moment image next → IsSound next
crashed_sound before next called moment image sound crash =
    elim crash.found [
      | inl there ↦ go there (behind.images moment crash.low crash.high image crash.left)
      | inr none ↦ inl (record { first = none.1; rounds = none.2; ready = subst HasNone (sym crash.tale) (lines_without image none.0) })
    ]
  where
    behind : IsCallSound before called
    behind = call_sound before sound called

    go : HasRegion image × (next.first ≡ first_behind before called) × (next.rounds ≡ crash.kept) → (¬ HasRegion image) ⊎ IsSomeBehind before called image → IsSound next
    go there (inl none) = absurd (none there.0)
    go there (inr some) = inr (
      some.s,
      record {
        first = there.1 ∙ some.first;
        region = subst (λ (t : Tale). IsRegion some.s t next.rounds) (sym crash.tale) (subst (IsRegion some.s (record { base = image; log = [] })) (sym there.2)
            (lines_with some.s crash.kept image some.keeps (legal_front some.s crash.kept crash.lost (subst (IsLegal some.s) crash.whole some.legal))
            (subst (λ (f : Option Standing). IfSome f (λ s. Represents image (state_after s crash.kept))) some.first (crash.stands there.0))));
      },
    )

pub step_sound : (before next : Point) → IsSound before → Step before next → IsSound next
step_sound before next sound (handed called back) = handed_sound before next called sound back
step_sound before next sound (crashed called moment image crash) = crashed_sound before next called moment image sound crash

steps_sound : (count : ℕ) (before next : Point) → IsSound before → Steps count before next → IsSound next
steps_sound zero before next sound is = subst IsSound (sym is) sound
steps_sound (suc count) before next sound more = steps_sound count more.0 next (step_sound before more.0 sound more.1) more.2

pub chain_sound : (now : Point) → Chain now → IsSound now
chain_sound now chain = steps_sound chain.count chain.start now (start_sound chain.start chain.begins) chain.steps

-- A chain goes on

has_or_not : (image : List Line) → HasRegion image ⊎ (¬ HasRegion image)
has_or_not image = cases_eq (word_of image 0 0) MAGIC

found_so : (tale : Tale) (image : List Line) (first : Option Standing) (rounds : History) → HasRegion image ⊎ (¬ HasRegion image) → (next : Point) × (next.tale ≡ tale) × IsFound image first rounds next
found_so tale image first rounds (inl there) = (record { tale = tale; first = first; rounds = rounds }, refl, inl (there, refl, refl))
found_so tale image first rounds (inr none) = (record { tale = tale; first = None; rounds = [] }, refl, inr (none, refl, refl))

pub goes_on_behind : (now : Point) → Chain now → (called : Called now.tale) → (next : Point) × IsHandedBack now called next × IsReadyAgain next.tale
goes_on_behind now chain called =
    let next = found_so called.after (contents_of called.after) (first_behind now called) (rounds_behind now called) (has_or_not (contents_of called.after)) in
    let back : IsHandedBack now called next.0 = record { tale = next.1; found = next.2 } in
    (next.0, back, sound_ready next.0 (step_sound now next.0 (chain_sound now chain) (handed called back)))

pub crash_cuts : (now : Point) (called : Called now.tale) (moment : ℕ) (image : List Line) → Chain now → length now.tale.log ≤ moment → moment ≤ length called.after.log → IsCrashImageAt called.after.base called.after.log moment image → (next : Point) × IsCrashed now called moment image next × IsReadyAgain next.tale
crash_cuts now called moment image chain low high left =
    let next = go ((call_sound now (chain_sound now chain) called).images moment low high image left) in
    (next.0, next.1, sound_ready next.0 (step_sound now next.0 (chain_sound now chain) (crashed called moment image next.1)))
  where
    go : (¬ HasRegion image) ⊎ IsSomeBehind now called image → (next : Point) × IsCrashed now called moment image next
    go (inl none) = (
      record { tale = record { base = image; log = [] }; first = None; rounds = [] },
      record {
        low = low;
        high = high;
        left = left;
        tale = refl;
        kept = [];
        lost = rounds_behind now called;
        whole = refl;
        stands = λ there. absurd (none there);
        found = inr (none, refl, refl);
      },
    )
    go (inr some) = (
      record { tale = record { base = image; log = [] }; first = first_behind now called; rounds = some.prefix.kept },
      record {
        low = low;
        high = high;
        left = left;
        tale = refl;
        kept = some.prefix.kept;
        lost = some.prefix.lost;
        whole = some.prefix.whole;
        stands = λ there. subst (λ (f : Option Standing). IfSome f (λ s. Represents image (state_after s some.prefix.kept))) (sym some.first) some.prefix.stands;
        found = inl (has_region image (state_after some.s some.prefix.kept) some.prefix.stands, refl, refl);
      },
    )
