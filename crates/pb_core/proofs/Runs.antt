-- What holds of every run.
use Rattle.std.proofs.Common.{◌≡◌, ◌⊎◌, ℕ, zero, suc, ◌≤◌, List, [], ◌∷◌, ◌++◌, Option, Some, None, length, take, ap, subst, sym, refl, ◌∙◌, inl, inr}
use Rattle.std.proofs.Math.Seq.{take-append_seam}
use Rattle.std.proofs.lemmas.List.{append-nil, append_assoc, length-map, length-replicate}
use Rattle.pb_crash.specs.Picked.{picked}
use Rattle.pb_crash.proofs.Crashed.{IsCrashImageAtCut-picked}
use Rattle.pb_pmem.specs.declared.line.Line.{Line}
use Rattle.pb_pmem.specs.Contents.{contents}
use Rattle.pb_pmem.specs.Crash.{IsCrashImage, least_cut, greatest_cut}
use Rattle.pb_object.specs.declared.request.Kept.{Kept}
use Rattle.pb_pmem.specs.declared.log.LogOp.{LogOp}
use Rattle.pb_object.specs.History.{Entry, Round, History, after_round, state_after, IsLegal}
use Rattle.pb_object.specs.Standing.{Standing}
use Rattle.pb_layout.specs.declared.header.Header.{Header}
use Rattle.pb_layout.specs.Covers.{Covers}
use Rattle.pb_layout.specs.Doubt.{either_state}
use Rattle.pb_layout.specs.Exits.{IsExit, empty_for}
use Rattle.pb_layout.specs.LogHistory.{LoggedRound, round_of, rounds_in, AreSealed, history_of}
use Rattle.pb_layout.specs.Ready.{IsReady}
use Rattle.pb_layout.specs.Recovered.{Represents}
use Rattle.pb_layout.specs.RegionOps.{format_ops}
use Rattle.pb_layout.proofs.LegalHistories.{numbers_stand_once}
use Rattle.pb_layout_laws.proofs.Formatting.{makes_a_region}
use Rattle.pb_layout_laws.proofs.Fresh.{fresh_is_ready}
use Rattle.pb_layout_laws.proofs.Histories.{rounds_in-append, state_after-append}
use Rattle.pb_layout_laws.proofs.ReadyWithOne.{only_member}
use Rattle.pb_events.specs.declared.event.Event.{Event}
use Rattle.pb_events.specs.declared.event.Event.TheVariants.{Ask as AskEvent, Step, Fail, Crash, Reopen, ReopenFail}
use Rattle.pb_events.specs.declared.event.Stepped.{Stepped}
use Rattle.pb_events.specs.declared.event.Stepped.TheVariants.{Went}
use Rattle.pb_core.specs.DeviceParts.{IsSteady, IsInDoubtAfter, IsUnsettled, IsWriting, Fits, opened_state, IsWorld}
use Rattle.pb_core.specs.Fresh.{IsFreshWorld}
use Rattle.pb_core.specs.Laws.{done_of, all_done, history, IsKeptBy, IsOneHistory, IsToldByLog, members_by}
use Rattle.pb_core.specs.Memory.{Engine, Resting, Recorded, Writing, Doubtful, Memory, coming, memory_at_opening}
use Rattle.pb_core.specs.MemoryParts.{AreAnswered}
use Rattle.pb_core.specs.WordMoves.{WordMove, storing, announcing, looking, matching, lacking_held, lacking_free, loading_code, loading_value, loading_extra, confirming, finding_new, finding_held, taking_sure, taking_unsure, missing, passing_over, meeting, scanning_code, scanning_first, scanning_second, scanning_own, scanning_other, filling, publishing_own, publishing_others, noting, giving_up}
use Rattle.pb_core.specs.World.{CallProgress, NoCall, InCall, World}
use Rattle.pb_core.specs.WorldMoves.{Silent, begins_calls, ends_calls, begins_settling, ends_settling_none, ends_settling_round, opens, Silents, all_rounds, Crashes, Moves, Next, Run}
use Rattle.pb_core.proofs.Calls.{HasReached, before_it, in_doubt, behind_it, writing_reached, settling_reached}
use Rattle.pb_core.proofs.Crashes.{IsLeft, without, with_it, left_of, all_legal, opened_memory, new_steady}
use Rattle.pb_core.proofs.Devices.{steady_then}
use Rattle.pb_core.proofs.Entries.{answered-more}
use Rattle.pb_core.proofs.Members.{fits_ready}
use Rattle.pb_core.proofs.Worlds.{keeps-event, opens_memory}

-- The first world

fresh-represents : {head : Header} {w : World} (fresh : IsFreshWorld head w) → Represents (contents fresh.zeros (format_ops head fresh.first fresh.second)) (empty_for head)
fresh-represents {head} fresh =
    only_member (contents fresh.zeros (format_ops head fresh.first fresh.second)) (empty_for head) (makes_a_region fresh.zeros [] head fresh.first fresh.second fresh.valid fresh.long fresh.records (fresh_is_ready fresh.zeros fresh.all_zero)).ready.holds

pub fresh_is_world : {head : Header} {w : World} → IsFreshWorld head w → IsWorld w
fresh_is_world {head} {w} fresh =
    let stands = fresh-represents fresh in
    subst IsWorld (sym fresh.is) (record {
      memory_is = opens_memory (opened_memory (empty_for head) [] [] (length-replicate {A = List Kept} head.clients []) tt tt) refl;
      holder = tt;
      base = stands;
      fits = new_steady (contents fresh.zeros (format_ops head fresh.first fresh.second)) (empty_for head) stands;
    })

-- Answers

-- memory notes each answered request, and no other
abbrev Notes : Memory → Stepped → Memory → Type 0
Notes old answer new = new.answers ≡ old.answers ++ done_of answer

abbrev answers_in : Memory → List Entry
answers_in m = m.answers

nothing : {before after done : List Entry} → after ≡ before → done ≡ [] → after ≡ before ++ done
nothing {before} same none =
    same ∙ (sym (append-nil before) ∙ ap (λ (l : List Entry). before ++ l) (sym none))

one : (before : List Entry) {after done : List Entry} {entry : Entry} → after ≡ before ++ entry ∷ [] → done ≡ entry ∷ [] → after ≡ before ++ done
one before more is = more ∙ ap (λ (l : List Entry). before ++ l) (sym is)

notes-word : {old new : Memory} {c : ℕ} {answer : Stepped} → WordMove old c new answer → Notes old answer new
notes-word (storing move) = nothing (ap answers_in move.is) (ap done_of move.says)
notes-word (announcing move) = nothing (ap answers_in move.is) (ap done_of move.says)
notes-word (looking move) = nothing (ap answers_in move.is) (ap done_of move.says)
notes-word (matching move) = nothing (ap answers_in move.is) (ap done_of move.says)
notes-word (lacking_held move) = nothing (ap answers_in move.is) (ap done_of move.says)
notes-word (lacking_free move) = nothing (ap answers_in move.is) (ap done_of move.says)
notes-word (loading_code move) = nothing (ap answers_in move.is) (ap done_of move.says)
notes-word (loading_value move) = nothing (ap answers_in move.is) (ap done_of move.says)
notes-word (loading_extra move) = nothing (ap answers_in move.is) (ap done_of move.says)
notes-word {old} (confirming move) = one old.answers (ap answers_in move.is) (ap done_of move.says)
notes-word (finding_new move) = nothing (ap answers_in move.is) (ap done_of move.says)
notes-word (finding_held move) = nothing (ap answers_in move.is) (ap done_of move.says)
notes-word (taking_sure move) = nothing (ap answers_in move.is) (ap done_of move.says)
notes-word (taking_unsure move) = nothing (ap answers_in move.is) (ap done_of move.says)
notes-word (missing move) = nothing (ap answers_in move.is) (ap done_of move.says)
notes-word (passing_over move) = nothing (ap answers_in move.is) (ap done_of move.says)
notes-word (meeting move) = nothing (ap answers_in move.is) (ap done_of move.says)
notes-word (scanning_code move) = nothing (ap answers_in move.is) (ap done_of move.says)
notes-word (scanning_first move) = nothing (ap answers_in move.is) (ap done_of move.says)
notes-word (scanning_second move) = nothing (ap answers_in move.is) (ap done_of move.says)
notes-word (scanning_own move) = nothing (ap answers_in move.is) (ap done_of move.says)
notes-word (scanning_other move) = nothing (ap answers_in move.is) (ap done_of move.says)
notes-word (filling move) = nothing (ap answers_in move.is) (ap done_of move.says)
notes-word {old} (publishing_own move) = one old.answers (ap answers_in move.is) (ap done_of move.says)
notes-word (publishing_others move) = nothing (ap answers_in move.is) (ap done_of move.says)
notes-word (noting move) = nothing (ap answers_in move.is) (ap done_of move.says)
notes-word (giving_up move) = nothing (ap answers_in move.is) (ap done_of move.says)

abbrev answers_of : World → List Entry
answers_of w = w.memory.answers

notes-silent : {old new : World} → Silent old new → answers_of new ≡ answers_of old
notes-silent (begins_calls step) = ap answers_of step.is ∙ ap answers_in step.move.is
notes-silent (ends_calls step) = ap answers_of step.is ∙ ap answers_in step.move.is
notes-silent (begins_settling step) = ap answers_of step.is
notes-silent (ends_settling_none step) = ap answers_of step.is ∙ ap answers_in step.move.is
notes-silent (ends_settling_round step) = ap answers_of step.is ∙ ap answers_in step.move.is
notes-silent (opens step) = ap answers_of step.is

notes-silents : (count : ℕ) (old new : World) → Silents count old new → answers_of new ≡ answers_of old
notes-silents zero old new same = ap answers_of same
notes-silents (suc count) old new (middle, first, more) = notes-silents count middle new more ∙ notes-silent first

notes-moves : (old : World) (event : Event) (new : World) (answer : Stepped) → Moves old event new answer → Notes old.memory answer new.memory
notes-moves old (AskEvent ask) new answer step =
    nothing (ap answers_of step.is ∙ ap answers_in step.move.is) (ap done_of step.says)
notes-moves old (Step client) new answer (inl step) = ap answers_of step.is ∙ notes-word step.move.move
notes-moves old (Step client) new answer (inr step) =
    nothing (ap answers_of step.is) (ap done_of step.says)
notes-moves old (Fail client how) new answer (inl step) =
    nothing (ap answers_of step.is ∙ ap answers_in step.move.is) (ap done_of step.says)
notes-moves old (Fail client how) new answer (inr (inl step)) =
    nothing (ap answers_of step.is ∙ ap answers_in step.move.is) (ap done_of step.says)
notes-moves old (Fail client how) new answer (inr (inr step)) =
    nothing (ap answers_of step.is ∙ ap answers_in step.move.is) (ap done_of step.says)
notes-moves old (Crash cut pick) new answer step =
    nothing (ap answers_of step.is) (ap done_of step.says)
notes-moves old Reopen new answer (inl step) = nothing (ap answers_of step.is) (ap done_of step.says)
notes-moves old Reopen new answer (inr step) = nothing (ap answers_of step.is) (ap done_of step.says)
notes-moves old (ReopenFail how) new answer (inl step) =
    nothing (ap answers_of step.is) (ap done_of step.says)
notes-moves old (ReopenFail how) new answer (inr step) =
    nothing (ap answers_of step.is) (ap done_of step.says)

notes-event : (old : World) (event : Event) (new : World) (answer : Stepped) → Next old event new answer → Notes old.memory answer new.memory
notes-event old event new answer next =
    notes-moves next.middle event new answer next.move ∙ ap (λ (l : List Entry). l ++ done_of answer) (notes-silents next.silent old next.middle next.silents)

-- Runs

-- after a run what holds at first holds, and all that was answered is noted
pub record HasRun (old : World) (answers : List Stepped) (new : World) : Type 0 where
  pub world : IsWorld new
  pub noted : answers_of new ≡ answers_of old ++ all_done answers

pub run_keeps : (old : World) (events : List Event) (answers : List Stepped) (new : World) → IsWorld old → Run old events answers new → HasRun old answers new
run_keeps old [] answers new is (none, same) = record {
  world = subst IsWorld (sym same) is;
  noted = ap answers_of same ∙ (sym (append-nil (answers_of old)) ∙ ap (λ (l : List Stepped). answers_of old ++ all_done l) (sym none));
}
run_keeps old (event ∷ events) answers new is (middle, answer, rest, all, next, run) =
    let more : HasRun middle rest new = run_keeps middle events rest new (keeps-event old event middle answer is next) run in
    record {
      world = more.world;
      noted = more.noted ∙ (ap (λ (l : List Entry). l ++ all_done rest) (notes-event old event middle answer next) ∙ (append_assoc (answers_of old) (done_of answer) (all_done rest) ∙ ap (λ (l : List Stepped). answers_of old ++ all_done l) (sym all)));
    }

-- the rounds that an image represents
record IsKept (w : World) (image : List Line) : Type 0 where
  kept : History
  lost : History
  whole : all_rounds w.memory ≡ kept ++ lost
  stands : Represents image (state_after w.memory.start kept)

kept_rounds : (w : World) (image : List Line) → IsWorld w → IsCrashImage w.tale.base w.tale.log image → IsKept w image
kept_rounds w image is left = elim (left_of w image is left) [
  | without stands ↦ record {
    kept = w.memory.past ++ w.memory.published;
    lost = coming w.memory.ahead;
    whole = sym (append_assoc w.memory.past w.memory.published (coming w.memory.ahead));
    stands = subst (Represents image) (sym (state_after-append w.memory.start w.memory.past w.memory.published)) stands;
  }
  | with_it stands ↦ record {
    kept = all_rounds w.memory;
    lost = [];
    whole = sym (append-nil (all_rounds w.memory));
    stands = subst (Represents image) (sym (state_after-append w.memory.start w.memory.past (w.memory.published ++ coming w.memory.ahead))) stands;
  }
]

-- what a crash keeps
kept_images : (w : World) (answers : List Stepped) → IsWorld w → answers_of w ≡ all_done answers → (image : List Line) → IsCrashImage w.tale.base w.tale.log image → IsKeptBy w answers image
kept_images w answers is noted image left = go (left_of w image is left)
  where
    m : Memory
    m = w.memory

    answered : AreAnswered (m.past ++ m.published) (all_done answers)
    answered = subst (AreAnswered (m.past ++ m.published)) noted is.memory_is.answers_are

    go : IsLeft image (opened_state m) m.published m.ahead → IsKeptBy w answers image
    go (without stands) = record {
      kept = m.past ++ m.published;
      lost = coming m.ahead;
      whole = sym (append_assoc m.past m.published (coming m.ahead));
      stands = subst (Represents image) (sym (state_after-append m.start m.past m.published)) stands;
      answered = answered;
    }
    go (with_it stands) = record {
      kept = all_rounds m;
      lost = [];
      whole = sym (append-nil (all_rounds m));
      stands = subst (Represents image) (sym (state_after-append m.start m.past (m.published ++ coming m.ahead))) stands;
      answered = subst (λ (h : History). AreAnswered h (all_done answers)) (append_assoc m.past m.published (coming m.ahead)) (answered-more (m.past ++ m.published) (coming m.ahead) (all_done answers) answered);
    }

-- The standing in which all began stays

abbrev start_of : World → Standing
start_of w = w.memory.start

abbrev start_in : Memory → Standing
start_in m = m.start

starts-word : {old new : Memory} {c : ℕ} {answer : Stepped} → WordMove old c new answer → start_in new ≡ start_in old
starts-word (storing move) = ap start_in move.is
starts-word (announcing move) = ap start_in move.is
starts-word (looking move) = ap start_in move.is
starts-word (matching move) = ap start_in move.is
starts-word (lacking_held move) = ap start_in move.is
starts-word (lacking_free move) = ap start_in move.is
starts-word (loading_code move) = ap start_in move.is
starts-word (loading_value move) = ap start_in move.is
starts-word (loading_extra move) = ap start_in move.is
starts-word (confirming move) = ap start_in move.is
starts-word (finding_new move) = ap start_in move.is
starts-word (finding_held move) = ap start_in move.is
starts-word (taking_sure move) = ap start_in move.is
starts-word (taking_unsure move) = ap start_in move.is
starts-word (missing move) = ap start_in move.is
starts-word (passing_over move) = ap start_in move.is
starts-word (meeting move) = ap start_in move.is
starts-word (scanning_code move) = ap start_in move.is
starts-word (scanning_first move) = ap start_in move.is
starts-word (scanning_second move) = ap start_in move.is
starts-word (scanning_own move) = ap start_in move.is
starts-word (scanning_other move) = ap start_in move.is
starts-word (filling move) = ap start_in move.is
starts-word (publishing_own move) = ap start_in move.is
starts-word (publishing_others move) = ap start_in move.is
starts-word (noting move) = ap start_in move.is
starts-word (giving_up move) = ap start_in move.is

starts-silent : {old new : World} → Silent old new → start_of new ≡ start_of old
starts-silent (begins_calls step) = ap start_of step.is ∙ ap start_in step.move.is
starts-silent (ends_calls step) = ap start_of step.is ∙ ap start_in step.move.is
starts-silent (begins_settling step) = ap start_of step.is
starts-silent (ends_settling_none step) = ap start_of step.is ∙ ap start_in step.move.is
starts-silent (ends_settling_round step) = ap start_of step.is ∙ ap start_in step.move.is
starts-silent (opens step) = ap start_of step.is

starts-silents : (count : ℕ) (old new : World) → Silents count old new → start_of new ≡ start_of old
starts-silents zero old new same = ap start_of same
starts-silents (suc count) old new (middle, first, more) = starts-silents count middle new more ∙ starts-silent first

starts-moves : (old : World) (event : Event) (new : World) (answer : Stepped) → Moves old event new answer → start_of new ≡ start_of old
starts-moves old (AskEvent ask) new answer step = ap start_of step.is ∙ ap start_in step.move.is
starts-moves old (Step client) new answer (inl step) = ap start_of step.is ∙ starts-word step.move.move
starts-moves old (Step client) new answer (inr step) = ap start_of step.is
starts-moves old (Fail client how) new answer (inl step) = ap start_of step.is ∙ ap start_in step.move.is
starts-moves old (Fail client how) new answer (inr (inl step)) = ap start_of step.is ∙ ap start_in step.move.is
starts-moves old (Fail client how) new answer (inr (inr step)) = ap start_of step.is ∙ ap start_in step.move.is
starts-moves old (Crash cut pick) new answer step = ap start_of step.is
starts-moves old Reopen new answer (inl step) = ap start_of step.is
starts-moves old Reopen new answer (inr step) = ap start_of step.is
starts-moves old (ReopenFail how) new answer (inl step) = ap start_of step.is
starts-moves old (ReopenFail how) new answer (inr step) = ap start_of step.is

pub run_starts : (old : World) (events : List Event) (answers : List Stepped) (new : World) → Run old events answers new → start_of new ≡ start_of old
run_starts old [] answers new (none, same) = ap start_of same
run_starts old (event ∷ events) answers new (middle, answer, rest, all, next, run) =
    run_starts middle events rest new run ∙ (starts-moves next.middle event middle answer next.move ∙ starts-silents next.silent old next.middle next.silents)

pub one_history : (head : Header) (first last : World) (events : List Event) (answers : List Stepped) → IsFreshWorld head first → Run first events answers last → IsOneHistory head last answers
one_history head first last events answers fresh run = record {
  start = run_starts first events answers last run ∙ ap start_of fresh.is;
  legal = is.memory_is.history.legal;
  once = numbers_stand_once last.memory.start (history last.memory) is.memory_is.history.keeps is.memory_is.history.legal;
  answered = subst (AreAnswered (history last.memory)) noted is.memory_is.answers_are;
  images = kept_images last answers is noted;
}
  where
    ran : HasRun first answers last
    ran = run_keeps first events answers last (fresh_is_world fresh) run

    is : IsWorld last
    is = ran.world

    noted : answers_of last ≡ all_done answers
    noted = ran.noted ∙ ap (λ (w : World). answers_of w ++ all_done answers) fresh.is

-- What the log tells

-- the first of sealed rounds are
AreSealed-take : (count : ℕ) (rounds : List LoggedRound) → AreSealed rounds → AreSealed (take count rounds)
AreSealed-take zero rounds sealed = tt
AreSealed-take (suc count) [] sealed = tt
AreSealed-take (suc count) (logged ∷ rounds) sealed =
    (sealed.0, AreSealed-take count rounds sealed.1)

-- its rounds, with a covering
record Tells (w : World) : Type 0 where
  told : List LoggedRound
  its : told ≡ history_of w.tale.base w.tale.log 0
  covers : Covers w.tale.base w.tale.log 0 (opened_state w.memory) told
  rounds : (rounds_in told ≡ w.memory.published) ⊎ (rounds_in told ≡ w.memory.published ++ coming w.memory.ahead)
  sealed : AreSealed (take (length w.memory.published) told)

tells_steady : {w : World} {rounds : History} → IsSteady w.tale (opened_state w.memory) rounds → (rounds ≡ w.memory.published) ⊎ (rounds ≡ w.memory.published ++ coming w.memory.ahead) → Tells w
tells_steady {w} steady which = record {
  told = steady.history;
  its = steady.exit.covers.told;
  covers = steady.exit.covers;
  sealed = AreSealed-take (length w.memory.published) steady.history steady.sealed;
  rounds = elim which [
    | inl same ↦ inl (steady.told ∙ same)
    | inr same ↦ inr (steady.told ∙ same)
  ];
}

tells_doubt : {w : World} {round : Round} → w.memory.ahead ≡ Some round → IsInDoubtAfter w.tale (opened_state w.memory) w.memory.published round → Tells w
tells_doubt {w} {round} ahead doubt = record {
  told = told;
  its = exit.covers.told;
  covers = exit.covers;
  sealed = subst AreSealed (sym first) doubt.begun.sealed;
  rounds = elim doubt.doubt.rounds [
    | inl (none, still) ↦
        inl (rounds_in-append doubt.begun.history doubt.doubt.history ∙ ((λ i. doubt.begun.told i ++ rounds_in (none i)) ∙ append-nil w.memory.published))
    | inr (more, landed) ↦
        inr (rounds_in-append doubt.begun.history doubt.doubt.history ∙ ((λ i. doubt.begun.told i ++ more i) ∙ ap (λ (a : Option Round). w.memory.published ++ coming a) (sym ahead)))
  ];
}
  where
    told : List LoggedRound
    told = doubt.begun.history ++ doubt.doubt.history

    exit : IsExit w.tale.base [] w.tale.log (opened_state w.memory) told (Some (state_after (opened_state w.memory) w.memory.published) ∷ Some (after_round (state_after (opened_state w.memory) w.memory.published) round) ∷ [])
    exit = subst (λ (l : List LogOp). IsExit w.tale.base [] l (opened_state w.memory) told (either_state (state_after (opened_state w.memory) w.memory.published) round)) (sym doubt.log) (steady_then doubt.begun doubt.doubt.exit)

    long : length w.memory.published ≡ length doubt.begun.history
    long =
        ap (λ (h : History). length h) (sym doubt.begun.told) ∙ length-map doubt.begun.history round_of

    first : take (length w.memory.published) told ≡ doubt.begun.history
    first =
        ap (λ (n : ℕ). take n told) long ∙ take-append_seam doubt.begun.history doubt.doubt.history

tells_unsettled : (w : World) (ahead : Option Round) → w.memory.ahead ≡ ahead → IsUnsettled w.tale (opened_state w.memory) w.memory.published ahead → Tells w
tells_unsettled w None same steady = tells_steady steady (inl refl)
tells_unsettled w (Some round) same doubt = tells_doubt same doubt

tells_writing : {w : World} {entry made left : List LogOp} → IsWriting w.tale (opened_state w.memory) w.memory.published w.memory.ahead entry made left → Tells w
tells_writing {w} writing = go (writing_reached writing)
  where
    go : HasReached w.tale (opened_state w.memory) w.memory.published writing.round → Tells w
    go (before_it steady) = tells_steady steady (inl refl)
    go (in_doubt doubt) = tells_doubt writing.ahead_is doubt
    go (behind_it steady) =
        tells_steady steady (inr (ap (λ (a : Option Round). w.memory.published ++ coming a) (sym writing.ahead_is)))

tells_fits : (w : World) (engine : Engine) (progress : CallProgress) → Fits engine progress w.tale (opened_state w.memory) w.memory.published w.memory.ahead → Tells w
tells_fits w Resting NoCall fits = tells_steady fits (inl refl)
tells_fits w Resting (InCall entry made calls) fits = absurd fits
tells_fits w Recorded NoCall fits = tells_steady fits (inr refl)
tells_fits w Recorded (InCall entry made calls) fits = absurd fits
tells_fits w Writing NoCall fits = absurd fits
tells_fits w Writing (InCall entry made calls) fits = tells_writing fits
tells_fits w Doubtful NoCall fits = tells_unsettled w w.memory.ahead refl fits
tells_fits w Doubtful (InCall entry made calls) fits =
    elim (settling_reached fits) [
      | inl unsettled ↦ tells_unsettled w w.memory.ahead refl unsettled
      | inr steady ↦ tells_steady steady (inr refl)
    ]

pub told_by_log : {w : World} → IsWorld w → IsToldByLog w
told_by_log {w} is = record {
  rounds = rounds;
  legal = legal rounds;
  covers = subst (Covers w.tale.base w.tale.log 0 (opened_state w.memory)) tells.its tells.covers;
  sealed = subst (λ (l : List LoggedRound). AreSealed (take (length m.published) l)) tells.its tells.sealed;
  ready = subst (λ (s : Standing). IsReady w.tale.base w.tale.log (members_by m.engine w.progress m.ahead s)) (sym (state_after-append m.start m.past m.published)) (fits_ready w.tale (opened_state m) m.published m.ahead m.engine w.progress is.fits);
}
  where
    m : Memory
    m = w.memory

    tells : Tells w
    tells = tells_fits w m.engine w.progress is.fits

    its : History
    its = rounds_in (history_of w.tale.base w.tale.log 0)

    rounds : (its ≡ m.published) ⊎ (its ≡ m.published ++ coming m.ahead)
    rounds = subst (λ (l : List LoggedRound). (rounds_in l ≡ m.published) ⊎ (rounds_in l ≡ m.published ++ coming m.ahead)) tells.its tells.rounds

    legal : (its ≡ m.published) ⊎ (its ≡ m.published ++ coming m.ahead) → IsLegal m.start (m.past ++ its)
    legal (inl same) =
        subst (λ (h : History). IsLegal m.start (m.past ++ h)) (sym same) is.memory_is.history.legal
    legal (inr same) = subst (λ (h : History). IsLegal m.start (m.past ++ h)) (sym same) (all_legal is.memory_is)

-- Crashes can come

pub can_crash : {w : World} → IsWorld w → (cut pick : ℕ) → least_cut w.tale.log ≤ cut → cut ≤ greatest_cut w.tale.log → (new : World) × Crashes w cut pick new Went
can_crash {w} is cut pick low high = (
  new,
  record {
    low = low;
    high = high;
    kept = kept.kept;
    lost = kept.lost;
    whole = kept.whole;
    stands = kept.stands;
    is = refl;
    says = refl;
  },
)
  where
    image : List Line
    image = picked w.tale.base w.tale.log cut pick

    kept : IsKept w image
    kept = kept_rounds w image is (record { cut = cut; low = low; high = high; left = IsCrashImageAtCut-picked w.tale.base w.tale.log cut pick })

    new : World
    new = record { memory = memory_at_opening w.memory.start kept.kept w.memory.answers; tale = record { base = image; log = [] }; progress = NoCall }
