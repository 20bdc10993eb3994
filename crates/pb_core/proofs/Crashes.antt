-- A crash: what it leaves of the rounds, and memory that is made anew.
use Rattle.std.proofs.Common.{◌≡◌, ◌⊎◌, ℕ, ◌+◌, ◌≤◌, List, [], ◌∷◌, ◌++◌, length, Option, Some, None, ap, subst, sym, refl, ◌∙◌, inl, inr, arith}
use Rattle.std.proofs.lemmas.Bool.{false≢true, true≢false}
use Rattle.std.proofs.lemmas.List.{append-nil, append_assoc}
use Rattle.pb_crash.specs.Picked.{picked}
use Rattle.pb_crash.proofs.Crashed.{IsCrashImageAtCut-picked}
use Rattle.pb_pmem.specs.declared.line.Line.{Line}
use Rattle.pb_pmem.specs.declared.log.LogOp.{LogOp}
use Rattle.pb_pmem.specs.Crash.{IsCrashImage}
use Rattle.pb_pmem.specs.Device.{Tale}
use Rattle.pb_pmem.proofs.CrashLaws.{IsAtRest-none}
use Rattle.pb_pmem.proofs.Lines.{contents-none}
use Rattle.pb_object.specs.History.{Entry, Round, History, state_after, IsLegal}
use Rattle.pb_object.specs.Standing.{Standing, kept_list_of, newest_of}
use Rattle.pb_layout.specs.Doubt.{either_state}
use Rattle.pb_layout.specs.Once.{numbers_of}
use Rattle.pb_layout.specs.Ready.{ImageRepresentsOne}
use Rattle.pb_layout.specs.Recovered.{Represents}
use Rattle.pb_layout.proofs.LegalHistories.{rounds_are_few}
use Rattle.pb_layout.proofs.OneRecovery.{represents_one}
use Rattle.pb_layout_laws.proofs.Calls.{nothing_done}
use Rattle.pb_layout_laws.proofs.Histories.{state_after-append}
use Rattle.pb_layout_laws.proofs.ReadyWithOne.{one_from_images, images_from_one}
use Rattle.pb_layout_laws.proofs.Settling.{member_left}
use Rattle.pb_events.specs.declared.event.Stepped.{Stepped}
use Rattle.pb_core.specs.Client.{row_word, fresh_client}
use Rattle.pb_core.specs.DeviceParts.{IsSteady, IsWriting, IsInDoubtAfter, IsUnsettled, Fits, opened_state, IsWorld}
use Rattle.pb_core.specs.Memory.{Held, Closed, Engine, Resting, Recorded, Writing, Doubtful, Memory, coming, memory_at_opening}
use Rattle.pb_core.specs.MemoryParts.{IsClient, IsMemory, AreAnswered, HasHistory}
use Rattle.pb_core.specs.World.{CallProgress, NoCall, InCall, World}
use Rattle.pb_core.specs.WorldMoves.{all_rounds, Crashes}
use Rattle.pb_core.proofs.Calls.{HasReached, before_it, in_doubt, behind_it, writing_reached, settling_reached}
use Rattle.pb_core.proofs.Entries.{answered-more}
use Rattle.pb_core.proofs.Histories.{HasShape, shape_after, legal-push, legal-front, legal-back}
use Rattle.pb_core.proofs.Lists.{IsBefore, two_cuts}

-- What a crash leaves

-- an image that represents the published rounds, or these and the one ahead
pub data IsLeft (image : List Line) (s : Standing) (rounds : History) (ahead : Option Round) : Type 0 where
  without : Represents image (state_after s rounds) → IsLeft image s rounds ahead
  with_it : Represents image (state_after s (rounds ++ coming ahead)) → IsLeft image s rounds ahead

left_steady : {tale : Tale} {s : Standing} {rounds : History} (image : List Line) → IsCrashImage tale.base tale.log image → IsSteady tale s rounds → Represents image (state_after s rounds)
left_steady {tale} {s} {rounds} image left steady =
    images_from_one tale.base tale.log (state_after s rounds) steady.exit.ready image left

left_doubt : {tale : Tale} {s : Standing} {rounds : History} {round : Round} (image : List Line) → IsCrashImage tale.base tale.log image → IsInDoubtAfter tale s rounds round → IsLeft image s rounds (Some round)
left_doubt {tale} {s} {rounds} {round} image left doubt =
    go (member_left tale.base (doubt.entry ++ doubt.made) (either_state (state_after s rounds) round) doubt.doubt.exit.ready image (subst (λ (l : List LogOp). IsCrashImage tale.base l image) doubt.log left))
  where
    go : ImageRepresentsOne image (either_state (state_after s rounds) round) → IsLeft image s rounds (Some round)
    go (inl stands) = without stands
    go (inr (inl stands)) =
        with_it (subst (Represents image) (sym (state_after-append s rounds (round ∷ []))) stands)
    go (inr (inr never)) = absurd never

left_unsettled : (tale : Tale) (s : Standing) (rounds : History) (ahead : Option Round) (image : List Line) → IsCrashImage tale.base tale.log image → IsUnsettled tale s rounds ahead → IsLeft image s rounds ahead
left_unsettled tale s rounds None image left steady = without (left_steady image left steady)
left_unsettled tale s rounds (Some round) image left doubt = left_doubt image left doubt

left_writing : {tale : Tale} {s : Standing} {rounds : History} {ahead : Option Round} {entry made calls : List LogOp} (image : List Line) → IsCrashImage tale.base tale.log image → IsWriting tale s rounds ahead entry made calls → IsLeft image s rounds ahead
left_writing {tale} {s} {rounds} {ahead} image left writing =
    subst (IsLeft image s rounds) (sym writing.ahead_is) (go (writing_reached writing))
  where
    go : HasReached tale s rounds writing.round → IsLeft image s rounds (Some writing.round)
    go (before_it steady) = without (left_steady image left steady)
    go (in_doubt doubt) = left_doubt image left doubt
    go (behind_it steady) = with_it (left_steady image left steady)

left_fits : (engine : Engine) (progress : CallProgress) (tale : Tale) (s : Standing) (rounds : History) (ahead : Option Round) (image : List Line) → IsCrashImage tale.base tale.log image → Fits engine progress tale s rounds ahead → IsLeft image s rounds ahead
left_fits Resting NoCall tale s rounds ahead image left fits = without (left_steady image left fits)
left_fits Resting (InCall entry made calls) tale s rounds ahead image left fits = absurd fits
left_fits Recorded NoCall tale s rounds ahead image left fits = with_it (left_steady image left fits)
left_fits Recorded (InCall entry made calls) tale s rounds ahead image left fits = absurd fits
left_fits Writing NoCall tale s rounds ahead image left fits = absurd fits
left_fits Writing (InCall entry made calls) tale s rounds ahead image left fits = left_writing image left fits
left_fits Doubtful NoCall tale s rounds ahead image left fits = left_unsettled tale s rounds ahead image left fits
left_fits Doubtful (InCall entry made calls) tale s rounds ahead image left fits =
    elim (settling_reached fits) [
      | inl unsettled ↦ left_unsettled tale s rounds ahead image left unsettled
      | inr steady ↦ with_it (left_steady image left steady)
    ]

-- each image that a crash may leave of a world
pub left_of : (w : World) (image : List Line) → IsWorld w → IsCrashImage w.tale.base w.tale.log image → IsLeft image (opened_state w.memory) w.memory.published w.memory.ahead
left_of w image is left =
    left_fits w.memory.engine w.progress w.tale (opened_state w.memory) w.memory.published w.memory.ahead image left is.fits

-- One prefix alone

-- all rounds are legal
pub all_legal : {m : Memory} → IsMemory m → IsLegal m.start (all_rounds m)
all_legal {m} is = go m.ahead is.history
  where
    go : (ahead : Option Round) → HasHistory m.start m.past m.published ahead → IsLegal m.start (m.past ++ (m.published ++ coming ahead))
    go None history =
        subst (λ (h : History). IsLegal m.start (m.past ++ h)) (sym (append-nil m.published)) history.legal
    go (Some round) history =
        subst (IsLegal m.start) (append_assoc m.past m.published (round ∷ [])) (legal-push m.start (m.past ++ m.published) round history.legal history.next)

none_more : (s : Standing) (a more : History) → length s.kept ≡ s.clients → IsLegal s (a ++ more) → numbers_of (state_after s (a ++ more)) ≡ numbers_of (state_after s a) → more ≡ []
none_more s a [] keeps legal same = refl
none_more s a (round ∷ more) keeps legal same =
    let shape : HasShape s (state_after s a) = shape_after s a in
    let whole : state_after s (a ++ round ∷ more) ≡ state_after (state_after s a) (round ∷ more) = state_after-append s a (round ∷ more) in
    let few : length (round ∷ more) + numbers_of (state_after s a) ≤ numbers_of (state_after (state_after s a) (round ∷ more)) = rounds_are_few (state_after s a) (round ∷ more) (shape.lists ∙ (keeps ∙ sym shape.clients)) (legal-back s a (round ∷ more) legal) in
    absurd (omega (arith, few, same, ap numbers_of whole))

-- two prefixes of a legal history after which the standing is the same are the same
pub one_prefix : (s : Standing) (a b c d : History) → length s.kept ≡ s.clients → IsLegal s (a ++ b) → a ++ b ≡ c ++ d → state_after s a ≡ state_after s c → a ≡ c
one_prefix s a b c d keeps legal whole same = go (two_cuts a b c d whole)
  where
    go : IsBefore a b c d ⊎ IsBefore c d a b → a ≡ c
    go (inl before) =
        let front : IsLegal s (a ++ before.more) = subst (IsLegal s) before.first (legal-front s c d (subst (IsLegal s) whole legal)) in
        let none : before.more ≡ [] = none_more s a before.more keeps front (ap numbers_of (ap (state_after s) (sym before.first) ∙ sym same)) in
        sym (before.first ∙ (ap (λ (h : History). a ++ h) none ∙ append-nil a))
    go (inr before) =
        let front : IsLegal s (c ++ before.more) = subst (IsLegal s) before.first (legal-front s a b legal) in
        let none : before.more ≡ [] = none_more s c before.more keeps front (ap numbers_of (ap (state_after s) (sym before.first) ∙ same)) in
        before.first ∙ (ap (λ (h : History). c ++ h) none ∙ append-nil c)

-- Memory that is made anew

opened_client : (start : Standing) (past : History) (c : ℕ) → IsClient start.kind (kept_list_of (state_after start (past ++ [])) c) [] None Closed (λ place. 0) c (fresh_client (kept_list_of (state_after start past) c))
opened_client start past c = record {
  holding = λ e. absurd (false≢true e);
  holder = λ side e. absurd (closed≢held c side e);
  rests = λ _. refl;
  asking = λ e. absurd (true≢false e);
  has_words = record {
    stored = λ place some few. absurd (omega arith);
    announced = λ e. absurd (false≢true e);
    quiet = λ _. omega arith;
  };
  front = omega arith;
  read = tt;
  entries = inl (record { told = refl; none = refl; kept = ap (λ (h : History). kept_list_of (state_after start h) c) (append-nil past) });
  dates = tt;
}
  where
    closed≢held : (c side : ℕ) → ¬ (Closed ≡ Held c side)
    closed≢held c side e = cc

pub opened_memory : (start : Standing) (past : History) (answers : List Entry) → length start.kept ≡ start.clients → IsLegal start past → AreAnswered past answers → IsMemory (memory_at_opening start past answers)
opened_memory start past answers keeps legal answered = record {
  history = record { keeps = keeps; legal = subst (IsLegal start) (sym (append-nil past)) legal; next = tt };
  turn = omega arith;
  suits = (refl, refl, refl);
  low = omega arith;
  cause = tt;
  clients = λ c inside. opened_client start past c;
  rows = λ c place inside few. ap (λ (h : History). row_word (newest_of (state_after start h) c) place) (sym (append-nil past));
  filled = tt;
  scan = tt;
  answers_are = subst (λ (h : History). AreAnswered h answers) (sym (append-nil past)) answered;
}

-- A device to which nothing was done

pub new_steady : (base : List Line) (s : Standing) → Represents base s → IsSteady (record { base = base; log = [] }) s []
new_steady base s stands = record {
  history = [];
  exit = nothing_done base [] s (one_from_images base [] s (λ image left. subst (λ (i : List Line). Represents i s) (sym ((IsAtRest-none base).alone image left ∙ contents-none base)) stands));
  sealed = tt;
  told = refl;
}

-- The crash

-- what it keeps: the rounds of the past and those published, and perhaps the one ahead
kept_by_crash : {old new : World} {cut pick : ℕ} {answer : Stepped} → IsWorld old → (crash : Crashes old cut pick new answer) → (crash.kept ≡ old.memory.past ++ old.memory.published) ⊎ (crash.kept ≡ all_rounds old.memory)
kept_by_crash {old} {new} {cut} {pick} is crash = go (left_of old image is left)
  where
    m : Memory
    m = old.memory

    image : List Line
    image = picked old.tale.base old.tale.log cut pick

    left : IsCrashImage old.tale.base old.tale.log image
    left = record { cut = cut; low = crash.low; high = crash.high; left = IsCrashImageAtCut-picked old.tale.base old.tale.log cut pick }

    same : (rounds rest : History) → all_rounds m ≡ (m.past ++ rounds) ++ rest → Represents image (state_after (opened_state m) rounds) → crash.kept ≡ m.past ++ rounds
    same rounds rest whole stands =
        one_prefix m.start crash.kept crash.lost (m.past ++ rounds) rest is.memory_is.history.keeps (subst (IsLegal m.start) crash.whole (all_legal is.memory_is)) (sym crash.whole ∙ whole) (represents_one image (state_after m.start crash.kept) (state_after (opened_state m) rounds) crash.stands stands ∙ sym (state_after-append m.start m.past rounds))

    go : IsLeft image (opened_state m) m.published m.ahead → (crash.kept ≡ m.past ++ m.published) ⊎ (crash.kept ≡ all_rounds m)
    go (without stands) =
        inl (same m.published (coming m.ahead) (sym (append_assoc m.past m.published (coming m.ahead))) stands)
    go (with_it stands) =
        inr (same (m.published ++ coming m.ahead) [] (sym (append-nil (m.past ++ (m.published ++ coming m.ahead)))) stands)

pub keeps-crash : {old new : World} {cut pick : ℕ} {answer : Stepped} → IsWorld old → Crashes old cut pick new answer → IsWorld new
keeps-crash {old} {new} {cut} {pick} is crash = subst IsWorld (sym crash.is) (record {
  memory_is = opened_memory m.start crash.kept m.answers is.memory_is.history.keeps (legal-front m.start crash.kept crash.lost (subst (IsLegal m.start) crash.whole (all_legal is.memory_is))) answered;
  holder = tt;
  base = crash.stands;
  fits = new_steady (picked old.tale.base old.tale.log cut pick) (state_after m.start crash.kept) crash.stands;
})
  where
    m : Memory
    m = old.memory

    answered : AreAnswered crash.kept m.answers
    answered = elim (kept_by_crash is crash) [
      | inl kept ↦ subst (λ (h : History). AreAnswered h m.answers) (sym kept) is.memory_is.answers_are
      | inr kept ↦
          subst (λ (h : History). AreAnswered h m.answers) (sym kept) (subst (λ (h : History). AreAnswered h m.answers) (append_assoc m.past m.published (coming m.ahead)) (answered-more (m.past ++ m.published) (coming m.ahead) m.answers is.memory_is.answers_are))
    ]
