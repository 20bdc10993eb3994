-- What is played is determined: an event makes one world, with one answer.
use Rattle.std.proofs.Common.{◌≡◌, ℕ, suc, ◌+◌, List, [], ◌∷◌, ◌++◌, Option, Some, None, length, refl, sym, ap, subst, ◌∙◌, inl, inr, arith}
use Rattle.std.proofs.lemmas.List.{length-append}
use Rattle.pb_crash.specs.declared.leaves.Leaves.{Leaves}
use Rattle.pb_crash.specs.Picked.{picked}
use Rattle.pb_pmem.specs.declared.line.Line.{Line}
use Rattle.pb_pmem.specs.declared.log.LogOp.{LogOp}
use Rattle.pb_pmem.specs.Contents.{contents}
use Rattle.pb_pmem.specs.Device.{Tale, with_op}
use Rattle.pb_object.specs.declared.request.Ask.{Ask}
use Rattle.pb_object.specs.History.{Round, History, IsLegal, state_after}
use Rattle.pb_object.specs.Standing.{Standing, rounds_of}
use Rattle.pb_layout.specs.Recovered.{Represents}
use Rattle.pb_layout.specs.RegionOps.{store_over, settle_to}
use Rattle.pb_layout.specs.ToldExits.{contents_of}
use Rattle.pb_layout.specs.Represents.{header_for, record_in_use, record_of_side}
use Rattle.pb_layout.proofs.OneRecovery.{parts, represents_one}
use Rattle.pb_layout_laws.proofs.Rounds.{after_entries-kind_of, after_entries-size_of}
use Rattle.pb_events.specs.declared.event.Event.{Event}
use Rattle.pb_events.specs.declared.event.Event.TheVariants.{Ask as AskEvent, Step, Fail, Crash, Reopen, ReopenFail}
use Rattle.pb_events.specs.declared.event.Stepped.{Stepped}
use Rattle.pb_events.specs.declared.event.Stepped.TheVariants.{Impossible}
use Rattle.pb_core.specs.Client.{Stage}
use Rattle.pb_core.specs.DeviceParts.{IsSteady, IsWorld, opened_state}
use Rattle.pb_core.specs.HolderMoves.{round_by}
use Rattle.pb_core.specs.Laws.{IsCaused}
use Rattle.pb_core.specs.Memory.{Owner, Free, Held, Closed, Part, AtNumber, Work, NoWork, Settling, Scanning, Calling, Filling, Noting, GivingUp, Engine, Resting, Recorded, Writing, Doubtful, Memory, clients_of, known_standing, known_by, shown, memory_at_opening}
use Rattle.pb_core.specs.Play.{IsPlayedPlan, IsPlayedMove, IsCalling, one_more, ComesBefore, at_once, silently, PlaysMove, NextPlayed, Play}
use Rattle.pb_core.specs.World.{CallProgress, NoCall, InCall, World, ops_of_puts, puts_of}
use Rattle.pb_core.specs.WorldMoves.{Silent, begins_calls, ends_calls, begins_settling, ends_settling_none, ends_settling_round, opens, settling_plan, StepsWord, failed, FailsToSettle, FailsToStage, FailsToCommit, Crashes, ReadsRegion, FailsToReopen, last_calls, Moves}
use Rattle.pb_core.proofs.Causes.{holder_at, caused-word}
use Rattle.pb_core.proofs.Crashes.{one_prefix, all_legal}
use Rattle.pb_core.proofs.Devices.{steady_holds}
use Rattle.pb_core.proofs.OneRecord.{one_record}
use Rattle.pb_core.proofs.OneStep.{Made, works, makes, word_makes}
use Rattle.pb_core.proofs.Plays.{keeps_before, next_of}
use Rattle.pb_core.proofs.Turns.{work_suits}
use Rattle.pb_core.proofs.Worlds.{fits_in, shown_is, keeps-event}

-- The calls of a round

one_plan : {tale : Tale} {s : Standing} {round : Round} {a b : List LogOp} → Represents (contents tale.base tale.log) s → IsPlayedPlan tale s round a → IsPlayedPlan tale s round b → a ≡ b
one_plan {tale} {s} {round} stands left right =
    left.is ∙ (ap (λ (lines : List Line). ops_of_puts (header_for s) (puts_of s round) ++ store_over (header_for s) round.side (rounds_of s round.side) (Some (record_in_use (contents tale.base tale.log) (header_for s) round.side (rounds_of s round.side + 1))) lines)
    (one_record (record_of_side (contents tale.base tale.log) s) s round left.lines right.lines (after_entries-kind_of s round.entries ∙ (parts (contents tale.base tale.log) s stands).kind) (after_entries-size_of s round.entries ∙ (parts (contents tale.base tale.log) s stands).size) left.next right.next left.listed right.listed)
    ∙ sym right.is)

-- Moves that nobody sees

abbrev settles_by : Option Round → World → World
settles_by None w = record { memory = record (w.memory) { work = Scanning 0 AtNumber []; engine = Resting }; tale = w.tale; progress = NoCall }
settles_by (Some round) w = record { memory = record (w.memory) { work = Filling 0; engine = Recorded }; tale = w.tale; progress = NoCall }

abbrev settles : CallProgress → World → World
settles NoCall w = record w { progress = InCall w.tale.log [] (settling_plan w.memory) }
settles (InCall entry made left) w = settles_by w.memory.ahead w

abbrev goes_at : Work → ℕ → World → List LogOp → World
goes_at NoWork side w plan = w
goes_at Settling side w plan = settles w.progress w
goes_at (Scanning d part seen) side w plan = record { memory = record (w.memory) { ahead = Some (round_by side (known_standing w.memory) seen); work = Calling; engine = Writing }; tale = w.tale; progress = InCall w.tale.log [] plan }
goes_at Calling side w plan = record { memory = record (w.memory) { work = Filling 0; engine = Recorded }; tale = w.tale; progress = NoCall }
goes_at (Filling count) side w plan = w
goes_at (Noting from to) side w plan = w
goes_at (GivingUp from to) side w plan = w

abbrev goes : Owner → World → List LogOp → World
goes Free w plan = w
goes (Held c side) w plan = goes_at w.memory.work side w plan
goes Closed w plan = record { memory = record (w.memory) { owner = Free; engine = Resting }; tale = w.tale; progress = NoCall }

-- what the calls are that begin
abbrev IsPlanAt : Work → ℕ → World → List LogOp → Type 0
IsPlanAt NoWork side w plan = Unit {0}
IsPlanAt Settling side w plan = Unit {0}
IsPlanAt (Scanning d part seen) side w plan =
    (d ≡ clients_of w.memory) × (part ≡ AtNumber) × IsPlayedPlan w.tale (known_standing w.memory) (round_by side (known_standing w.memory) seen) plan
IsPlanAt Calling side w plan = Unit {0}
IsPlanAt (Filling count) side w plan = Unit {0}
IsPlanAt (Noting from to) side w plan = Unit {0}
IsPlanAt (GivingUp from to) side w plan = Unit {0}

abbrev IsPlan : Owner → World → List LogOp → Type 0
IsPlan Free w plan = Unit {0}
IsPlan (Held c side) w plan = IsPlanAt w.memory.work side w plan
IsPlan Closed w plan = Unit {0}

-- a move that nobody sees makes this of a world
record Goes (old new : World) : Type 0 where
  plan : List LogOp
  planned : IsPlan old.memory.owner old plan
  is : new ≡ goes old.memory.owner old plan

goes_held : {old new : World} (c side : ℕ) (work : Work) (plan : List LogOp) → old.memory.owner ≡ Held c side → old.memory.work ≡ work → IsPlanAt work side old plan → new ≡ goes_at work side old plan → Goes old new
goes_held {old} {new} c side work plan holds at planned is = record {
  plan = plan;
  planned = subst (λ (o : Owner). IsPlan o old plan) (sym holds) (subst (λ (x : Work). IsPlanAt x side old plan) (sym at) planned);
  is = is ∙ (sym (ap (λ (x : Work). goes_at x side old plan) at) ∙ sym (ap (λ (o : Owner). goes o old plan) holds));
}

silent_goes : {old new : World} (move : Silent old new) → IsPlayedMove old new move → Goes old new
silent_goes {old} {new} (begins_calls step) played =
    goes_held step.client step.move.side (Scanning (clients_of old.memory) AtNumber step.move.seen) step.plan step.move.holds step.move.at (refl, refl, played)
    (step.is ∙ ap (λ (m : Memory). record { memory = m; tale = old.tale; progress = InCall old.tale.log [] step.plan }) step.move.is)
silent_goes {old} {new} (ends_calls step) played =
    goes_held step.client step.move.side Calling [] step.move.holds step.move.at tt
    (step.is ∙ ap (λ (m : Memory). record { memory = m; tale = old.tale; progress = NoCall }) step.move.is)
silent_goes {old} {new} (begins_settling step) played =
    goes_held step.client step.side Settling [] step.holds step.at tt (step.is ∙ sym (ap (λ (p : CallProgress). settles p old) step.idle))
silent_goes {old} {new} (ends_settling_none step) played =
    goes_held step.client step.move.side Settling [] step.move.holds step.move.at tt
    (step.is ∙ (ap (λ (m : Memory). record { memory = m; tale = old.tale; progress = NoCall }) step.move.is ∙ (sym (ap (λ (a : Option Round). settles_by a old) step.move.none) ∙ sym (ap (λ (p : CallProgress). settles p old) step.at))))
silent_goes {old} {new} (ends_settling_round step) played =
    goes_held step.client step.move.side Settling [] step.move.holds step.move.at tt
    (step.is ∙ (ap (λ (m : Memory). record { memory = m; tale = old.tale; progress = NoCall }) step.move.is ∙ (sym (ap (λ (a : Option Round). settles_by a old) step.move.some) ∙ sym (ap (λ (p : CallProgress). settles p old) step.at))))
silent_goes {old} {new} (opens step) played = record {
  plan = [];
  planned = subst (λ (o : Owner). IsPlan o old []) (sym step.closed) tt;
  is = step.is ∙ sym (ap (λ (o : Owner). goes o old []) step.closed);
}

-- a scan that is over is in a region that represents what is known_standing
known_stands : (w : World) (c side d : ℕ) (part : Part) (seen : List Ask) → IsWorld w → w.memory.owner ≡ Held c side → w.memory.work ≡ Scanning d part seen → (p : CallProgress) → w.progress ≡ p → Represents (contents w.tale.base w.tale.log) (known_standing w.memory)
known_stands w c side d part seen is holds at NoCall idle =
    let resting = (work_suits (Scanning d part seen) is.memory_is holds at).0 in
    let steady : IsSteady w.tale (opened_state w.memory) w.memory.published = fits_in w Resting NoCall idle resting is in
    subst (λ (e : Engine). Represents (contents w.tale.base w.tale.log) (known_by e w.memory.ahead (shown w.memory))) (sym resting) (subst (Represents (contents w.tale.base w.tale.log)) (sym (shown_is w.memory)) (steady_holds steady))
known_stands w c side d part seen is holds at (InCall entry made left) going =
    absurd (fits_in w Resting (InCall entry made left) going (work_suits (Scanning d part seen) is.memory_is holds at).0 is)

-- the same calls make the same world
goes_one : (w : World) → IsWorld w → (owner : Owner) (work : Work) (a b : List LogOp) → w.memory.owner ≡ owner → w.memory.work ≡ work → IsPlan owner w a → IsPlan owner w b → goes owner w a ≡ goes owner w b
goes_one w is Free work a b at does left right = refl
goes_one w is Closed work a b at does left right = refl
goes_one w is (Held c side) work a b at does left right =
    ap (λ (x : Work). goes_at x side w a) does ∙ (go work does (subst (λ (x : Work). IsPlanAt x side w a) does left) (subst (λ (x : Work). IsPlanAt x side w b) does right) ∙ sym (ap (λ (x : Work). goes_at x side w b) does))
  where
    go : (x : Work) → w.memory.work ≡ x → IsPlanAt x side w a → IsPlanAt x side w b → goes_at x side w a ≡ goes_at x side w b
    go NoWork it one other = refl
    go Settling it one other = refl
    go (Scanning d part seen) it one other =
        ap (λ (plan : List LogOp). goes_at (Scanning d part seen) side w plan) (one_plan (known_stands w c side d part seen is at it w.progress refl) one.2 other.2)
    go Calling it one other = refl
    go (Filling count) it one other = refl
    go (Noting from to) it one other = refl
    go (GivingUp from to) it one other = refl

before_one : {now : Type 0} {old a b : World} → IsWorld old → ComesBefore now old a → ComesBefore now old b → a ≡ b
before_one is (at_once here same) (at_once there other) = same ∙ sym other
before_one is (at_once here same) (silently later move played) = absurd (later here)
before_one is (silently later move played) (at_once here same) = absurd (later here)
before_one {now} {old} is (silently later move played) (silently late other plays) =
    let one = silent_goes move played in
    let two = silent_goes other plays in
    one.is ∙ (goes_one old is old.memory.owner old.memory.work one.plan two.plan refl refl one.planned two.planned ∙ sym two.is)

-- Calls

abbrev IsOne : World → World → Stepped → Stepped → Type 0
IsOne a b said says = (a ≡ b) × (said ≡ says)

calls_by : CallProgress → World → World
calls_by NoCall w = w
calls_by (InCall entry made []) w = w
calls_by (InCall entry made (op ∷ left)) w = record w { tale = with_op op w.tale; progress = InCall entry (made ++ op ∷ []) left }

call_one : (old : World) {a b : World} {entry made left entry2 made2 left2 : List LogOp} {op op2 : LogOp} → old.progress ≡ InCall entry made (op ∷ left) → old.progress ≡ InCall entry2 made2 (op2 ∷ left2) → a ≡ record old { tale = with_op op old.tale; progress = InCall entry (made ++ op ∷ []) left } → b ≡ record old { tale = with_op op2 old.tale; progress = InCall entry2 (made2 ++ op2 ∷ []) left2 } → a ≡ b
unfolding calls_by
call_one old at also one other = one ∙ (sym (ap (λ (p : CallProgress). calls_by p old) at) ∙ (ap (λ (p : CallProgress). calls_by p old) also ∙ sym other))

-- a step on a word isn't one at which a call is made
no_word_step : {old new : World} {c side : ℕ} {answer : Stepped} → IsWorld old → StepsWord old c new answer → old.memory.owner ≡ Held c side → IsCalling old.memory.work → ⊥
no_word_step {old} {new} {c} {side} {answer} is step holds calling = go old.memory.work refl calling
  where
    made : (step.next, answer) ≡ works old.memory.work old.memory c
    made = word_makes is.memory_is step.move.there step.move.move ∙ ap (λ (s : Stage). makes s old.memory c) (holder_at is.memory_is step.move.there holds)

    never : (after : Made) → (step.next, answer) ≡ after → after.1 ≡ Impossible → ⊥
    never after same none =
        subst (λ (a : Stepped). IsCaused a old.memory step.next) (ap (λ (m : Made). m.1) same ∙ none) (caused-word is.memory_is step.move.there step.move.move)

    go : (x : Work) → old.memory.work ≡ x → IsCalling x → ⊥
    go NoWork at it = it
    go Settling at it = never (works Settling old.memory c) (made ∙ ap (λ (w : Work). works w old.memory c) at) refl
    go (Scanning d part seen) at it = it
    go Calling at it = never (works Calling old.memory c) (made ∙ ap (λ (w : Work). works w old.memory c) at) refl
    go (Filling count) at it = it
    go (Noting from to) at it = it
    go (GivingUp from to) at it = it

steps_one : {old a b : World} {c : ℕ} {said says : Stepped} → IsWorld old → StepsWord old c a said → StepsWord old c b says → IsOne a b said says
steps_one {old} {a} {b} {c} {said} {says} is left right =
    let same = word_makes is.memory_is left.move.there left.move.move ∙ sym (word_makes is.memory_is right.move.there right.move.move) in
    (left.is ∙ (ap (λ (m : Made). record old { memory = m.0 }) same ∙ sym right.is), ap (λ (m : Made). m.1) same)

-- Failures

abbrev fails_at : CallProgress → Leaves → Tale → Tale
fails_at NoCall how tale = tale
fails_at (InCall entry made []) how tale = tale
fails_at (InCall entry made (op ∷ left)) how tale = failed how op tale

abbrev left_count : CallProgress → ℕ
left_count NoCall = 0
left_count (InCall entry made left) = length left

abbrev fails_to : World → Leaves → Memory → World
fails_to w how m = record { memory = m; tale = fails_at w.progress how w.tale; progress = NoCall }

-- what a call of settling leaves where it fails, a call before the index word, and one from there on
abbrev settling_noted : Memory → ℕ → Memory
settling_noted m to = record m { count = to; work = Noting m.count to }

abbrev dropped : Memory → ℕ → Memory
dropped m to = record m { count = to; work = Noting m.count to; ahead = None; engine = Doubtful }

abbrev doubted : Memory → ℕ → Memory
doubted m to = record m { count = to; work = Noting m.count to; engine = Doubtful }

fails_is : (old : World) {new : World} (how : Leaves) (entry made : List LogOp) (op : LogOp) (left : List LogOp) (after : ℕ → Memory) (to : ℕ) {next : Memory} → old.progress ≡ InCall entry made (op ∷ left) → new ≡ record { memory = next; tale = failed how op old.tale; progress = NoCall } → next ≡ after to → ((n : ℕ) → (after n).count ≡ n) → new.memory.count ≡ one_more old.memory.count → new ≡ fails_to old how (after (one_more old.memory.count))
fails_is old {new} how entry made op left after to at is next_is counts count =
    let to_is : to ≡ one_more old.memory.count = sym (ap (λ (w : World). w.memory.count) is ∙ (ap (λ (m : Memory). m.count) next_is ∙ counts to)) ∙ count in
    is ∙ (λ i. record { memory = (next_is ∙ ap after to_is) i; tale = fails_at (sym at i) how old.tale; progress = NoCall })

settle_fails : {old new : World} {c : ℕ} {how : Leaves} {answer : Stepped} (step : FailsToSettle old c how new answer) → new.memory.count ≡ one_more old.memory.count → new ≡ fails_to old how (settling_noted old.memory (one_more old.memory.count))
settle_fails {old} {how = how} step count =
    fails_is old how step.entry step.made step.op step.left (settling_noted old.memory) step.move.to step.at step.is step.move.is (λ n. refl) count

stage_fails : {old new : World} {c : ℕ} {how : Leaves} {answer : Stepped} (step : FailsToStage old c how new answer) → new.memory.count ≡ one_more old.memory.count → new ≡ fails_to old how (dropped old.memory (one_more old.memory.count))
stage_fails {old} {how = how} step count =
    fails_is old how step.entry step.made step.op (step.more ++ last_calls (shown old.memory) step.round) (dropped old.memory) step.move.to step.at step.is step.move.is (λ n. refl) count

commit_fails : {old new : World} {c : ℕ} {how : Leaves} {answer : Stepped} (step : FailsToCommit old c how new answer) → new.memory.count ≡ one_more old.memory.count → new ≡ fails_to old how (doubted old.memory (one_more old.memory.count))
commit_fails {old} {how = how} step count =
    fails_is old how step.entry step.made step.op step.left (doubted old.memory) step.move.to step.at step.is step.move.is (λ n. refl) count

other_work : (w : World) → w.memory.work ≡ Settling → w.memory.work ≡ Calling → ⊥
other_work w settling calling = let same : Settling ≡ Calling = sym settling ∙ calling in cc

-- the index word is still to be called, or it was
other_cut : {old a b : World} {c : ℕ} {how : Leaves} {said says : Stepped} → FailsToStage old c how a said → FailsToCommit old c how b says → ⊥
other_cut {old} stage commit =
    let last = last_calls (shown old.memory) stage.round in
    let same : suc (length (stage.more ++ last)) ≡ suc (length commit.left) = sym (ap left_count stage.at) ∙ ap left_count commit.at in
    omega (arith, same, length-append stage.more last, ap length commit.last, length-append commit.before (commit.op ∷ commit.left))

abbrev Fails : World → ℕ → Leaves → World → Stepped → Type 0
Fails old c how new answer = Moves old (Fail c how) new answer

fails_one : {old a b : World} {c : ℕ} {how : Leaves} {said says : Stepped} → (a.memory.count ≡ one_more old.memory.count) → Fails old c how a said → (b.memory.count ≡ one_more old.memory.count) → Fails old c how b says → IsOne a b said says
fails_one count (inl one) counts (inl two) = (settle_fails one count ∙ sym (settle_fails two counts), one.says ∙ sym two.says)
fails_one {old} count (inl one) counts (inr (inl two)) = absurd (other_work old one.move.at two.move.at)
fails_one {old} count (inl one) counts (inr (inr two)) = absurd (other_work old one.move.at two.move.at)
fails_one {old} count (inr (inl one)) counts (inl two) = absurd (other_work old two.move.at one.move.at)
fails_one count (inr (inl one)) counts (inr (inl two)) = (stage_fails one count ∙ sym (stage_fails two counts), one.says ∙ sym two.says)
fails_one count (inr (inl one)) counts (inr (inr two)) = absurd (other_cut one two)
fails_one {old} count (inr (inr one)) counts (inl two) = absurd (other_work old two.move.at one.move.at)
fails_one count (inr (inr one)) counts (inr (inl two)) = absurd (other_cut two one)
fails_one count (inr (inr one)) counts (inr (inr two)) = (commit_fails one count ∙ sym (commit_fails two counts), one.says ∙ sym two.says)

-- Crashes

crashes_one : {old a b : World} {cut pick : ℕ} {said says : Stepped} → IsWorld old → Crashes old cut pick a said → Crashes old cut pick b says → IsOne a b said says
crashes_one {old} {a} {b} {cut} {pick} is one two = (
  one.is ∙ (ap (λ (kept : History). record { memory = memory_at_opening old.memory.start kept old.memory.answers; tale = record { base = image; log = [] }; progress = NoCall }) kept ∙ sym two.is),
  one.says ∙ sym two.says,
)
  where
    image : List Line
    image = picked old.tale.base old.tale.log cut pick

    kept : one.kept ≡ two.kept
    kept =
        one_prefix old.memory.start one.kept one.lost two.kept two.lost is.memory_is.history.keeps (subst (IsLegal old.memory.start) one.whole (all_legal is.memory_is)) (sym one.whole ∙ two.whole)
        (represents_one image (state_after old.memory.start one.kept) (state_after old.memory.start two.kept) one.stands two.stands)

-- Opening the region again

idle_or_calling : {p : CallProgress} {entry made left : List LogOp} → p ≡ NoCall → p ≡ InCall entry made left → ⊥
idle_or_calling {p} {entry} {made} {left} idle at = let same : NoCall ≡ InCall entry made left = sym idle ∙ at in cc

reads_one : {old a b : World} {said says : Stepped} → ReadsRegion old a said → ReadsRegion old b says → IsOne a b said says
reads_one {old} one two = (
  one.is ∙ (ap (λ (s : Standing). record old { progress = InCall old.tale.log [] (settle_to (header_for s) s) }) (represents_one (contents_of old.tale) one.standing two.standing one.stands two.stands) ∙ sym two.is),
  one.says ∙ sym two.says,
)

reopens_one : {old a b : World} {said says : Stepped} → Moves old Reopen a said → Moves old Reopen b says → IsOne a b said says
reopens_one (inl one) (inl two) = reads_one one two
reopens_one (inl one) (inr two) = absurd (idle_or_calling one.idle two.at)
reopens_one (inr one) (inl two) = absurd (idle_or_calling two.idle one.at)
reopens_one {old} (inr one) (inr two) = (call_one old one.at two.at one.is two.is, one.says ∙ sym two.says)

abbrev reopening_fails : World → Leaves → World
reopening_fails w how = record w { tale = fails_at w.progress how w.tale; progress = NoCall }

reopens_not : {old new : World} {how : Leaves} {answer : Stepped} (step : FailsToReopen old how new answer) → new ≡ reopening_fails old how
reopens_not {old} {how = how} step = step.is ∙ (λ i. record old { tale = fails_at (sym step.at i) how old.tale; progress = NoCall })

reopen_fails_one : {old a b : World} {how : Leaves} {said says : Stepped} → Moves old (ReopenFail how) a said → Moves old (ReopenFail how) b says → IsOne a b said says
reopen_fails_one (inl one) (inl two) = (one.is ∙ sym two.is, one.says ∙ sym two.says)
reopen_fails_one (inl one) (inr two) = absurd (idle_or_calling one.idle two.at)
reopen_fails_one (inr one) (inl two) = absurd (idle_or_calling two.idle one.at)
reopen_fails_one (inr one) (inr two) = (reopens_not one ∙ sym (reopens_not two), one.says ∙ sym two.says)

-- Events

moves_one : {old a b : World} (event : Event) {said says : Stepped} → IsWorld old → PlaysMove old event a said → PlaysMove old event b says → IsOne a b said says
moves_one {old} (AskEvent ask) is one two = (one.is ∙ (ap (λ (m : Memory). record old { memory = m }) (one.move.is ∙ sym two.move.is) ∙ sym two.is), one.says ∙ sym two.says)
moves_one (Step c) is (inl one) (inl two) = steps_one is one two
moves_one (Step c) is (inl one) (inr (calling, two)) = absurd (no_word_step is one two.holds calling)
moves_one (Step c) is (inr (calling, one)) (inl two) = absurd (no_word_step is two one.holds calling)
moves_one {old} (Step c) is (inr (calling, one)) (inr (also, two)) = (call_one old one.at two.at one.is two.is, one.says ∙ sym two.says)
moves_one (Fail c how) is (count, one) (counts, two) = fails_one count one counts two
moves_one (Crash cut pick) is one two = crashes_one is one two
moves_one Reopen is one two = reopens_one one two
moves_one (ReopenFail how) is one two = reopen_fails_one one two

pub event_one : {old a b : World} {event : Event} {said says : Stepped} → IsWorld old → NextPlayed old event a said → NextPlayed old event b says → IsOne a b said says
event_one {old} {a} {b} {event} {said} {says} is one two =
    moves_one event (keeps_before is one.before) one.move
    (subst (λ (w : World). PlaysMove w event b says) (before_one is two.before one.before) two.move)

abbrev IsOnePlay : World → World → List Stepped → List Stepped → Type 0
IsOnePlay a b said says = (a ≡ b) × (said ≡ says)

pub play_one : (old : World) (events : List Event) (said says : List Stepped) (a b : World) → IsWorld old → Play old events said a → Play old events says b → IsOnePlay a b said says
play_one old [] said says a b is (none, same) (also, other) = (same ∙ sym other, none ∙ sym also)
play_one old (event ∷ events) said says a b is (middle, answer, rest, all, next, play) (between, reply, more, whole, step, plays) =
    let one = event_one is next step in
    let others = play_one middle events rest more a b (keeps-event old event middle answer is (next_of next)) play (subst (λ (w : World). Play w events more b) (sym one.0) plays) in
    (others.0, all ∙ ((λ i. one.1 i ∷ others.1 i) ∙ sym whole))
