-- Each move keeps what holds of the world.
use Rattle.std.proofs.Common.{◌≡◌, ℕ, zero, suc, ◌+◌, ◌*◌, List, [], ◌∷◌, ◌++◌, length, Option, Some, None, ap, subst, sym, refl, ◌∙◌, inl, inr, ◌<◌}
use Rattle.std.proofs.lemmas.List.{append-nil, append_assoc}
use Rattle.pb_crash.specs.declared.leaves.Leaves.{Leaves}
use Rattle.pb_pmem.specs.declared.log.LogOp.{LogOp}
use Rattle.pb_pmem.specs.Device.{Tale, with_op}
use Rattle.pb_object.specs.declared.request.Ask.{Ask}
use Rattle.pb_object.specs.History.{Round, History, state_after}
use Rattle.pb_object.specs.Standing.{Standing}
use Rattle.pb_layout.specs.Recovered.{Represents}
use Rattle.pb_layout.specs.RegionOps.{settle_to}
use Rattle.pb_layout.specs.Represents.{header_for}
use Rattle.pb_layout.specs.ToldExits.{contents_of}
use Rattle.pb_layout.proofs.OneRecovery.{represents_one}
use Rattle.pb_layout_laws.proofs.Histories.{state_after-append}
use Rattle.pb_events.specs.declared.event.Event.{Event}
use Rattle.pb_events.specs.declared.event.Event.TheVariants.{Ask as AskEvent, Step, Fail, Crash, Reopen, ReopenFail}
use Rattle.pb_events.specs.declared.event.Stepped.{Stepped}
use Rattle.pb_core.specs.DeviceParts.{HoldsAsClient, with_log, IsSteady, IsUnsettled, Fits, opened_state, IsWorld}
use Rattle.pb_core.specs.HolderMoves.{round_by, beginning, recording, settling_none, settling_round, failing_settling, failing_before, failing_after}
use Rattle.pb_core.specs.Memory.{Owner, Free, Held, Closed, Work, NoWork, Settling, Scanning, Calling, Filling, AtNumber, Engine, Resting, Recorded, Writing, Doubtful, Memory, clients_of, shown, known_standing, known_by, with_round_ahead, coming}
use Rattle.pb_core.specs.MemoryParts.{IsMemory, Suits, SuitsWork, HasFilled, held_count}
use Rattle.pb_core.specs.WordMoves.{WordMove, storing, announcing, looking, matching, lacking_held, lacking_free, loading_code, loading_value, loading_extra, confirming, finding_new, finding_held, taking_sure, taking_unsure, missing, passing_over, meeting, scanning_code, scanning_first, scanning_second, scanning_own, scanning_other, filling, publishing_own, publishing_others, noting, giving_up}
use Rattle.pb_core.specs.World.{CallProgress, NoCall, InCall, World, IsRoundPlan}
use Rattle.pb_core.specs.WorldMoves.{BeginsCalls, EndsCalls, BeginsSettling, EndsSettlingNone, EndsSettlingRound, Opens, Silent, begins_calls, ends_calls, begins_settling, ends_settling_none, ends_settling_round, opens, Silents, AsksWorld, StepsWord, failed, FailsToSettle, last_calls, FailsToStage, FailsToCommit, ReadsRegion, FailsToReopen, Moves, Next, settling_plan}
use Rattle.pb_core.proofs.Asking.{keeps-asking}
use Rattle.pb_core.proofs.Calls.{writing_ends, staging_fails, committing_fails, settling_ends, settling_fails}
use Rattle.pb_core.proofs.Crashes.{keeps-crash}
use Rattle.pb_core.proofs.Devices.{steady_holds}
use Rattle.pb_core.proofs.Holding.{keeps-holder}
use Rattle.pb_core.proofs.Lists.{cut_on}
use Rattle.pb_core.proofs.Turns.{work_suits, other_owner, free≢held, free≢closed}
use Rattle.pb_core.proofs.Words.{keeps-word}

-- the standing that is shown, from where the region was opened
pub shown_is : (m : Memory) → shown m ≡ state_after (opened_state m) m.published
shown_is m = state_after-append m.start m.past m.published

-- what fits memory
abbrev FitsMemory : CallProgress → Tale → Memory → Type 0
FitsMemory progress tale m = Fits m.engine progress tale (opened_state m) m.published m.ahead

-- Words

-- publishing makes of a recorded round a published one
fits-published : (progress : CallProgress) (tale : Tale) (s : Standing) (rounds : History) (round : Round) → Fits Recorded progress tale s rounds (Some round) → Fits Resting progress tale s (rounds ++ round ∷ []) None
fits-published NoCall tale s rounds round fits = fits
fits-published (InCall entry made left) tale s rounds round fits = fits

fits-publishing : {m : Memory} {c side : ℕ} (count : ℕ) (round : Round) (progress : CallProgress) (tale : Tale) → IsMemory m → m.owner ≡ Held c side → m.work ≡ Filling count → m.ahead ≡ Some round → FitsMemory progress tale m → Fits Resting progress tale (opened_state m) (m.published ++ round ∷ []) None
fits-publishing {m} count round progress tale is holds at ahead fits =
    fits-published progress tale (opened_state m) m.published round (subst (λ (a : Option Round). Fits Recorded progress tale (opened_state m) m.published a) ahead (subst (λ (e : Engine). Fits e progress tale (opened_state m) m.published m.ahead) (work_suits (Filling count) is holds at).0 fits))

fits-word : {old new : Memory} {c : ℕ} {answer : Stepped} (progress : CallProgress) (tale : Tale) → IsMemory old → WordMove old c new answer → FitsMemory progress tale old → FitsMemory progress tale new
fits-word progress tale is (storing move) fits = subst (FitsMemory progress tale) (sym move.is) fits
fits-word progress tale is (announcing move) fits = subst (FitsMemory progress tale) (sym move.is) fits
fits-word progress tale is (looking move) fits = subst (FitsMemory progress tale) (sym move.is) fits
fits-word progress tale is (matching move) fits = subst (FitsMemory progress tale) (sym move.is) fits
fits-word progress tale is (lacking_held move) fits = subst (FitsMemory progress tale) (sym move.is) fits
fits-word progress tale is (lacking_free move) fits = subst (FitsMemory progress tale) (sym move.is) fits
fits-word progress tale is (loading_code move) fits = subst (FitsMemory progress tale) (sym move.is) fits
fits-word progress tale is (loading_value move) fits = subst (FitsMemory progress tale) (sym move.is) fits
fits-word progress tale is (loading_extra move) fits = subst (FitsMemory progress tale) (sym move.is) fits
fits-word progress tale is (confirming move) fits = subst (FitsMemory progress tale) (sym move.is) fits
fits-word progress tale is (finding_new move) fits = subst (FitsMemory progress tale) (sym move.is) fits
fits-word progress tale is (finding_held move) fits = subst (FitsMemory progress tale) (sym move.is) fits
fits-word progress tale is (taking_sure move) fits = subst (FitsMemory progress tale) (sym move.is) fits
fits-word progress tale is (taking_unsure move) fits = subst (FitsMemory progress tale) (sym move.is) fits
fits-word progress tale is (missing move) fits = subst (FitsMemory progress tale) (sym move.is) fits
fits-word progress tale is (passing_over move) fits = subst (FitsMemory progress tale) (sym move.is) fits
fits-word progress tale is (meeting move) fits = subst (FitsMemory progress tale) (sym move.is) fits
fits-word progress tale is (scanning_code move) fits = subst (FitsMemory progress tale) (sym move.is) fits
fits-word progress tale is (scanning_first move) fits = subst (FitsMemory progress tale) (sym move.is) fits
fits-word progress tale is (scanning_second move) fits = subst (FitsMemory progress tale) (sym move.is) fits
fits-word progress tale is (scanning_own move) fits = subst (FitsMemory progress tale) (sym move.is) fits
fits-word progress tale is (scanning_other move) fits = subst (FitsMemory progress tale) (sym move.is) fits
fits-word progress tale is (filling move) fits = subst (FitsMemory progress tale) (sym move.is) fits
fits-word {old} progress tale is (publishing_own move) fits =
    subst (FitsMemory progress tale) (sym move.is) (fits-publishing (4 * clients_of old) move.round progress tale is move.holds move.at move.ahead fits)
fits-word {old} progress tale is (publishing_others move) fits =
    subst (FitsMemory progress tale) (sym move.is) (fits-publishing (4 * clients_of old) move.round progress tale is move.holds move.at move.ahead fits)
fits-word progress tale is (noting move) fits = subst (FitsMemory progress tale) (sym move.is) fits
fits-word progress tale is (giving_up move) fits = subst (FitsMemory progress tale) (sym move.is) fits

-- what was opened stays
opened-word : {old new : Memory} {c : ℕ} {answer : Stepped} → WordMove old c new answer → opened_state new ≡ opened_state old
opened-word (storing move) = ap opened_state move.is
opened-word (announcing move) = ap opened_state move.is
opened-word (looking move) = ap opened_state move.is
opened-word (matching move) = ap opened_state move.is
opened-word (lacking_held move) = ap opened_state move.is
opened-word (lacking_free move) = ap opened_state move.is
opened-word (loading_code move) = ap opened_state move.is
opened-word (loading_value move) = ap opened_state move.is
opened-word (loading_extra move) = ap opened_state move.is
opened-word (confirming move) = ap opened_state move.is
opened-word (finding_new move) = ap opened_state move.is
opened-word (finding_held move) = ap opened_state move.is
opened-word (taking_sure move) = ap opened_state move.is
opened-word (taking_unsure move) = ap opened_state move.is
opened-word (missing move) = ap opened_state move.is
opened-word (passing_over move) = ap opened_state move.is
opened-word (meeting move) = ap opened_state move.is
opened-word (scanning_code move) = ap opened_state move.is
opened-word (scanning_first move) = ap opened_state move.is
opened-word (scanning_second move) = ap opened_state move.is
opened-word (scanning_own move) = ap opened_state move.is
opened-word (scanning_other move) = ap opened_state move.is
opened-word (filling move) = ap opened_state move.is
opened-word (publishing_own move) = ap opened_state move.is
opened-word (publishing_others move) = ap opened_state move.is
opened-word (noting move) = ap opened_state move.is
opened-word (giving_up move) = ap opened_state move.is

-- the holder stays a client
abbrev IsHeldAsClient : Memory → Type 0
IsHeldAsClient m = HoldsAsClient m.owner (clients_of m)

holder-word : {old new : Memory} {c : ℕ} {answer : Stepped} → c < clients_of old → WordMove old c new answer → IsHeldAsClient old → IsHeldAsClient new
holder-word there (storing move) is = subst IsHeldAsClient (sym move.is) is
holder-word there (announcing move) is = subst IsHeldAsClient (sym move.is) is
holder-word there (looking move) is = subst IsHeldAsClient (sym move.is) is
holder-word there (matching move) is = subst IsHeldAsClient (sym move.is) is
holder-word there (lacking_held move) is = subst IsHeldAsClient (sym move.is) is
holder-word there (lacking_free move) is = subst IsHeldAsClient (sym move.is) is
holder-word there (loading_code move) is = subst IsHeldAsClient (sym move.is) is
holder-word there (loading_value move) is = subst IsHeldAsClient (sym move.is) is
holder-word there (loading_extra move) is = subst IsHeldAsClient (sym move.is) is
holder-word there (confirming move) is = subst IsHeldAsClient (sym move.is) is
holder-word there (finding_new move) is = subst IsHeldAsClient (sym move.is) is
holder-word there (finding_held move) is = subst IsHeldAsClient (sym move.is) is
holder-word there (taking_sure move) is = subst IsHeldAsClient (sym move.is) there
holder-word there (taking_unsure move) is = subst IsHeldAsClient (sym move.is) there
holder-word there (missing move) is = subst IsHeldAsClient (sym move.is) is
holder-word there (passing_over move) is = subst IsHeldAsClient (sym move.is) is
holder-word there (meeting move) is = subst IsHeldAsClient (sym move.is) is
holder-word there (scanning_code move) is = subst IsHeldAsClient (sym move.is) is
holder-word there (scanning_first move) is = subst IsHeldAsClient (sym move.is) is
holder-word there (scanning_second move) is = subst IsHeldAsClient (sym move.is) is
holder-word there (scanning_own move) is = subst IsHeldAsClient (sym move.is) is
holder-word there (scanning_other move) is = subst IsHeldAsClient (sym move.is) is
holder-word there (filling move) is = subst IsHeldAsClient (sym move.is) is
holder-word there (publishing_own move) is = subst IsHeldAsClient (sym move.is) tt
holder-word there (publishing_others move) is = subst IsHeldAsClient (sym move.is) tt
holder-word there (noting move) is = subst IsHeldAsClient (sym move.is) is
holder-word there (giving_up move) is = subst IsHeldAsClient (sym move.is) tt

keeps-stepping : {old new : World} {c : ℕ} {answer : Stepped} → IsWorld old → StepsWord old c new answer → IsWorld new
keeps-stepping {old} {new} {c} is step = subst IsWorld (sym step.is) (record {
  memory_is = keeps-word is.memory_is step.move;
  holder = holder-word step.move.there step.move.move is.holder;
  base = subst (Represents old.tale.base) (sym (opened-word step.move.move)) is.base;
  fits = fits-word old.progress old.tale is.memory_is step.move.move is.fits;
})

keeps-asking_world : {old new : World} {ask : Ask} {answer : Stepped} → IsWorld old → AsksWorld old ask new answer → IsWorld new
keeps-asking_world {old} {new} {ask} is step = subst IsWorld (sym step.is) (record {
  memory_is = keeps-asking is.memory_is step.move;
  holder = subst IsHeldAsClient (sym step.move.is) is.holder;
  base = subst (λ (m : Memory). Represents old.tale.base (opened_state m)) (sym step.move.is) is.base;
  fits = subst (FitsMemory old.progress old.tale) (sym step.move.is) is.fits;
})

-- Calls that begin and end

-- what fits, where what is known_standing of the device, and which calls are being made
pub fits_in : (w : World) (engine : Engine) (now : CallProgress) → w.progress ≡ now → w.memory.engine ≡ engine → IsWorld w → Fits engine now w.tale (opened_state w.memory) w.memory.published w.memory.ahead
fits_in w engine now at known_at is =
    subst (λ (p : CallProgress). Fits engine p w.tale (opened_state w.memory) w.memory.published w.memory.ahead) at (subst (λ (e : Engine). Fits e w.progress w.tale (opened_state w.memory) w.memory.published w.memory.ahead) known_at is.fits)

keeps-begins_calls : {old new : World} → IsWorld old → BeginsCalls old new → IsWorld new
keeps-begins_calls {old} {new} is step = subst IsWorld (sym step.is) (record {
  memory_is = keeps-holder is.memory_is step.there (beginning step.move);
  holder = subst IsHeldAsClient (sym step.move.is) is.holder;
  base = subst (λ (m : Memory). Represents old.tale.base (opened_state m)) (sym step.move.is) is.base;
  fits = subst (FitsMemory (InCall old.tale.log [] step.plan) old.tale) (sym step.move.is) (record {
    round = round;
    ahead_is = refl;
    log = sym (append-nil old.tale.log);
    begun = steady;
    planned = subst (λ (s : Standing). IsRoundPlan old.tale s round step.plan) (known_is ∙ shown_is m) step.planned;
  });
})
  where
    m : Memory
    m = old.memory

    round : Round
    round = round_by step.move.side (known_standing m) step.move.seen

    suits : SuitsWork (Scanning (clients_of m) AtNumber step.move.seen) m.engine m.ahead
    suits = work_suits (Scanning (clients_of m) AtNumber step.move.seen) is.memory_is step.move.holds step.move.at

    known_is : known_standing m ≡ shown m
    known_is = ap (λ (e : Engine). known_by e m.ahead (shown m)) suits.0

    steady : IsSteady old.tale (opened_state m) m.published
    steady = fits_in old Resting NoCall step.idle suits.0 is

keeps-ends_calls : {old new : World} → IsWorld old → EndsCalls old new → IsWorld new
keeps-ends_calls {old} {new} is step = subst IsWorld (sym step.is) (record {
  memory_is = keeps-holder is.memory_is step.there (recording step.move);
  holder = subst IsHeldAsClient (sym step.move.is) is.holder;
  base = subst (λ (m : Memory). Represents old.tale.base (opened_state m)) (sym step.move.is) is.base;
  fits = subst (FitsMemory NoCall old.tale) (sym step.move.is) (writing_ends (fits_in old Writing (InCall step.entry step.made []) step.at (work_suits Calling is.memory_is step.move.holds step.move.at).0 is));
})

keeps-begins_settling : {old new : World} → IsWorld old → BeginsSettling old new → IsWorld new
keeps-begins_settling {old} {new} is step = subst IsWorld (sym step.is) (record {
  memory_is = is.memory_is;
  holder = is.holder;
  base = is.base;
  fits = subst (λ (e : Engine). Fits e (InCall old.tale.log [] (settling_plan m)) old.tale (opened_state m) m.published m.ahead) (sym doubtful) (record {
    log = sym (append-nil old.tale.log);
    begun = fits_in old Doubtful NoCall step.idle doubtful is;
    planned = ap (λ (s : Standing). settle_to (header_for s) (with_round_ahead m.ahead s)) (known_is ∙ shown_is m);
  });
})
  where
    m : Memory
    m = old.memory

    doubtful : m.engine ≡ Doubtful
    doubtful = work_suits Settling is.memory_is step.holds step.at

    known_is : known_standing m ≡ shown m
    known_is = ap (λ (e : Engine). known_by e m.ahead (shown m)) doubtful

settled : {w : World} {entry made : List LogOp} → IsWorld w → w.progress ≡ InCall entry made [] → w.memory.engine ≡ Doubtful → IsSteady w.tale (opened_state w.memory) (w.memory.published ++ coming w.memory.ahead)
settled {w} {entry} {made} is at doubtful =
    settling_ends (fits_in w Doubtful (InCall entry made []) at doubtful is)

-- nothing was in doubt
settled_none : {w : World} {entry made : List LogOp} → IsWorld w → w.progress ≡ InCall entry made [] → w.memory.engine ≡ Doubtful → w.memory.ahead ≡ None → IsSteady w.tale (opened_state w.memory) w.memory.published
settled_none {w} is at doubtful none =
    subst (IsSteady w.tale (opened_state w.memory)) (ap (λ (a : Option Round). w.memory.published ++ coming a) none ∙ append-nil w.memory.published) (settled is at doubtful)

keeps-ends_settling_none : {old new : World} → IsWorld old → EndsSettlingNone old new → IsWorld new
keeps-ends_settling_none {old} {new} is step = subst IsWorld (sym step.is) (record {
  memory_is = keeps-holder is.memory_is step.there (settling_none step.move);
  holder = subst IsHeldAsClient (sym step.move.is) is.holder;
  base = subst (λ (m : Memory). Represents old.tale.base (opened_state m)) (sym step.move.is) is.base;
  fits = subst (FitsMemory NoCall old.tale) (sym step.move.is) (settled_none is step.at (work_suits Settling is.memory_is step.move.holds step.move.at) step.move.none);
})

keeps-ends_settling_round : {old new : World} → IsWorld old → EndsSettlingRound old new → IsWorld new
keeps-ends_settling_round {old} {new} is step = subst IsWorld (sym step.is) (record {
  memory_is = keeps-holder is.memory_is step.there (settling_round step.move);
  holder = subst IsHeldAsClient (sym step.move.is) is.holder;
  base = subst (λ (m : Memory). Represents old.tale.base (opened_state m)) (sym step.move.is) is.base;
  fits = subst (FitsMemory NoCall old.tale) (sym step.move.is) (settled is step.at (work_suits Settling is.memory_is step.move.holds step.move.at));
})

-- Opening the region again

pub closed_suits : {m : Memory} → IsMemory m → m.owner ≡ Closed → (m.work ≡ NoWork) × (m.engine ≡ Doubtful) × (m.ahead ≡ None)
closed_suits {m} is closed =
    subst (λ (o : Owner). Suits o m.work m.engine m.ahead) closed is.suits

pub opens_memory : {m : Memory} → IsMemory m → m.owner ≡ Closed → IsMemory (record m { owner = Free; engine = Resting })
opens_memory {m} is closed = record {
  history = is.history;
  turn = is.turn ∙ ap (λ (o : Owner). 2 * length m.published + held_count o) closed;
  suits = (suits.0, inl (refl, suits.2));
  low = is.low;
  cause = is.cause;
  clients = λ c inside. other_owner Free (λ side e. closed≢held c side (sym closed ∙ e)) (λ side e. free≢held c side e) free≢closed (is.clients c inside);
  rows = is.rows;
  filled = subst (λ (w : Work). HasFilled w (known_standing (record m { owner = Free; engine = Resting })) m.start.clients (length m.published) m.rows) (sym suits.0) tt;
  scan = tt;
  answers_are = is.answers_are;
}
  where
    suits : (m.work ≡ NoWork) × (m.engine ≡ Doubtful) × (m.ahead ≡ None)
    suits = closed_suits is closed

    closed≢held : (c side : ℕ) → ¬ (Closed ≡ Held c side)
    closed≢held c side e = cc

keeps-opens : {old new : World} → IsWorld old → Opens old new → IsWorld new
keeps-opens {old} {new} is step = subst IsWorld (sym step.is) (record {
  memory_is = opens_memory is.memory_is step.closed;
  holder = tt;
  base = is.base;
  fits = settled_none is step.at suits.1 suits.2;
})
  where
    suits : (old.memory.work ≡ NoWork) × (old.memory.engine ≡ Doubtful) × (old.memory.ahead ≡ None)
    suits = closed_suits is.memory_is step.closed

pub keeps-silent : {old new : World} → IsWorld old → Silent old new → IsWorld new
keeps-silent is (begins_calls step) = keeps-begins_calls is step
keeps-silent is (ends_calls step) = keeps-ends_calls is step
keeps-silent is (begins_settling step) = keeps-begins_settling is step
keeps-silent is (ends_settling_none step) = keeps-ends_settling_none is step
keeps-silent is (ends_settling_round step) = keeps-ends_settling_round is step
keeps-silent is (opens step) = keeps-opens is step

pub keeps-silents : (count : ℕ) (old new : World) → IsWorld old → Silents count old new → IsWorld new
keeps-silents zero old new is same = subst IsWorld (sym same) is
keeps-silents (suc count) old new is (middle, first, more) =
    keeps-silents count middle new (keeps-silent is first) more

-- Calls

-- one more call is made
fits-call : (engine : Engine) (tale : Tale) (s : Standing) (rounds : History) (ahead : Option Round) (entry made left : List LogOp) (op : LogOp) → Fits engine (InCall entry made (op ∷ left)) tale s rounds ahead → Fits engine (InCall entry (made ++ op ∷ []) left) (with_op op tale) s rounds ahead
fits-call Resting tale s rounds ahead entry made left op fits = fits
fits-call Recorded tale s rounds ahead entry made left op fits = fits
fits-call Writing tale s rounds ahead entry made left op fits = record {
  round = fits.round;
  ahead_is = fits.ahead_is;
  log = ap (λ (l : List LogOp). l ++ op ∷ []) fits.log ∙ append_assoc entry made (op ∷ []);
  begun = fits.begun;
  planned = subst (IsRoundPlan (with_log tale entry) (state_after s rounds) fits.round) (sym (cut_on made op left)) fits.planned;
}
fits-call Doubtful tale s rounds ahead entry made left op fits = record {
  log = ap (λ (l : List LogOp). l ++ op ∷ []) fits.log ∙ append_assoc entry made (op ∷ []);
  begun = fits.begun;
  planned = cut_on made op left ∙ fits.planned;
}

call_made : {w : World} (entry made : List LogOp) (op : LogOp) (left : List LogOp) → IsWorld w → w.progress ≡ InCall entry made (op ∷ left) → IsWorld (record w { tale = with_op op w.tale; progress = InCall entry (made ++ op ∷ []) left })
call_made {w} entry made op left is at = record {
  memory_is = is.memory_is;
  holder = is.holder;
  base = is.base;
  fits = fits-call w.memory.engine w.tale (opened_state w.memory) w.memory.published w.memory.ahead entry made left op (subst (λ (p : CallProgress). FitsMemory p w.tale w.memory) at is.fits);
}

-- Failures

keeps-fails_to_settle : {old new : World} {c : ℕ} {how : Leaves} {answer : Stepped} → IsWorld old → FailsToSettle old c how new answer → IsWorld new
keeps-fails_to_settle {old} {new} {c} {how} is step = subst IsWorld (sym step.is) (record {
  memory_is = keeps-holder is.memory_is step.there (failing_settling step.move);
  holder = subst IsHeldAsClient (sym step.move.is) is.holder;
  base = subst (λ (m : Memory). Represents old.tale.base (opened_state m)) (sym step.move.is) is.base;
  fits = subst (FitsMemory NoCall (failed how step.op old.tale)) (sym step.move.is) (subst (λ (e : Engine). Fits e NoCall (failed how step.op old.tale) (opened_state old.memory) old.memory.published old.memory.ahead) (sym doubtful) (settling_fails how step.op (fits_in old Doubtful (InCall step.entry step.made (step.op ∷ step.left)) step.at doubtful is)));
})
  where
    doubtful : old.memory.engine ≡ Doubtful
    doubtful = work_suits Settling is.memory_is step.move.holds step.move.at

keeps-fails_to_stage : {old new : World} {c : ℕ} {how : Leaves} {answer : Stepped} → IsWorld old → FailsToStage old c how new answer → IsWorld new
keeps-fails_to_stage {old} {new} {c} {how} is step = subst IsWorld (sym step.is) (record {
  memory_is = keeps-holder is.memory_is step.there (failing_before step.move);
  holder = subst IsHeldAsClient (sym step.move.is) is.holder;
  base = subst (λ (m : Memory). Represents old.tale.base (opened_state m)) (sym step.move.is) is.base;
  fits = subst (FitsMemory NoCall (failed how step.op old.tale)) (sym step.move.is) (staging_fails how step.op step.more step.round step.ahead (fits_in old Writing (InCall step.entry step.made (step.op ∷ (step.more ++ last_calls (state_after (opened_state old.memory) old.memory.published) step.round))) at (work_suits Calling is.memory_is step.move.holds step.move.at).0 is));
})
  where
    at : old.progress ≡ InCall step.entry step.made (step.op ∷ (step.more ++ last_calls (state_after (opened_state old.memory) old.memory.published) step.round))
    at =
        step.at ∙ ap (λ (s : Standing). InCall step.entry step.made (step.op ∷ (step.more ++ last_calls s step.round))) (shown_is old.memory)

keeps-fails_to_commit : {old new : World} {c : ℕ} {how : Leaves} {answer : Stepped} → IsWorld old → FailsToCommit old c how new answer → IsWorld new
keeps-fails_to_commit {old} {new} {c} {how} is step = subst IsWorld (sym step.is) (record {
  memory_is = keeps-holder is.memory_is step.there (failing_after step.move);
  holder = subst IsHeldAsClient (sym step.move.is) is.holder;
  base = subst (λ (m : Memory). Represents old.tale.base (opened_state m)) (sym step.move.is) is.base;
  fits = subst (FitsMemory NoCall (failed how step.op old.tale)) (sym step.move.is) (subst (λ (a : Option Round). IsUnsettled (failed how step.op old.tale) (opened_state old.memory) old.memory.published a) (sym step.ahead) (committing_fails how step.op step.before step.left step.round step.ahead (ap (λ (s : Standing). last_calls s step.round) (sym (shown_is old.memory)) ∙ step.last) (fits_in old Writing (InCall step.entry step.made (step.op ∷ step.left)) step.at (work_suits Calling is.memory_is step.move.holds step.move.at).0 is)));
})

-- Reopening

keeps-reads_region : {old new : World} {answer : Stepped} → IsWorld old → ReadsRegion old new answer → IsWorld new
keeps-reads_region {old} {new} is step = subst IsWorld (sym step.is) (record {
  memory_is = is.memory_is;
  holder = is.holder;
  base = is.base;
  fits = subst (λ (e : Engine). Fits e (InCall old.tale.log [] (settle_to (header_for step.standing) step.standing)) old.tale (opened_state m) m.published m.ahead) (sym suits.1) (record {
    log = sym (append-nil old.tale.log);
    begun = unsettled;
    planned = plan;
  });
})
  where
    m : Memory
    m = old.memory

    suits : (m.work ≡ NoWork) × (m.engine ≡ Doubtful) × (m.ahead ≡ None)
    suits = closed_suits is.memory_is step.closed

    unsettled : IsUnsettled old.tale (opened_state m) m.published m.ahead
    unsettled = fits_in old Doubtful NoCall step.idle suits.1 is

    steady : IsSteady old.tale (opened_state m) m.published
    steady = subst (IsUnsettled old.tale (opened_state m) m.published) suits.2 unsettled

    same : step.standing ≡ state_after (opened_state m) m.published
    same =
        represents_one (contents_of old.tale) step.standing (state_after (opened_state m) m.published) step.stands (steady_holds steady)

    plan : settle_to (header_for step.standing) step.standing ≡ settle_to (header_for (state_after (opened_state m) m.published)) (with_round_ahead m.ahead (state_after (opened_state m) m.published))
    plan =
        ap (λ (s : Standing). settle_to (header_for s) s) same ∙ ap (λ (a : Option Round). settle_to (header_for (state_after (opened_state m) m.published)) (with_round_ahead a (state_after (opened_state m) m.published))) (sym suits.2)

keeps-fails_to_reopen : {old new : World} {how : Leaves} {answer : Stepped} → IsWorld old → FailsToReopen old how new answer → IsWorld new
keeps-fails_to_reopen {old} {new} {how} is step = subst IsWorld (sym step.is) (record {
  memory_is = is.memory_is;
  holder = is.holder;
  base = is.base;
  fits = subst (λ (e : Engine). Fits e NoCall (failed how step.op old.tale) (opened_state old.memory) old.memory.published old.memory.ahead) (sym suits.1) (settling_fails how step.op (fits_in old Doubtful (InCall step.entry step.made (step.op ∷ step.left)) step.at suits.1 is));
})
  where
    suits : (old.memory.work ≡ NoWork) × (old.memory.engine ≡ Doubtful) × (old.memory.ahead ≡ None)
    suits = closed_suits is.memory_is step.closed

-- Events

keeps-moves : (old : World) (event : Event) (new : World) (answer : Stepped) → IsWorld old → Moves old event new answer → IsWorld new
keeps-moves old (AskEvent ask) new answer is step = keeps-asking_world is step
keeps-moves old (Step client) new answer is (inl step) = keeps-stepping is step
keeps-moves old (Step client) new answer is (inr step) =
    subst IsWorld (sym step.is) (call_made step.entry step.made step.op step.left is step.at)
keeps-moves old (Fail client how) new answer is (inl step) = keeps-fails_to_settle is step
keeps-moves old (Fail client how) new answer is (inr (inl step)) = keeps-fails_to_stage is step
keeps-moves old (Fail client how) new answer is (inr (inr step)) = keeps-fails_to_commit is step
keeps-moves old (Crash cut pick) new answer is step = keeps-crash is step
keeps-moves old Reopen new answer is (inl step) = keeps-reads_region is step
keeps-moves old Reopen new answer is (inr step) =
    subst IsWorld (sym step.is) (call_made step.entry step.made step.op step.left is step.at)
keeps-moves old (ReopenFail how) new answer is (inl step) = subst IsWorld (sym step.is) is
keeps-moves old (ReopenFail how) new answer is (inr step) = keeps-fails_to_reopen is step

pub keeps-event : (old : World) (event : Event) (new : World) (answer : Stepped) → IsWorld old → Next old event new answer → IsWorld new
keeps-event old event new answer is next =
    keeps-moves next.middle event new answer (keeps-silents next.silent old next.middle is next.silents) next.move
