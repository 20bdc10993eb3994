-- Each answer without a reply has its cause.
use Rattle.std.proofs.Common.{◌≡◌, ◌≢◌, ◌⊎◌, ℕ, zero, suc, ◌+◌, ◌-◌, ◌*◌, ◌%◌, ◌<◌, true, false, [], length, refl, ap, subst, sym, ◌∙◌, inl, inr, arith}
use Rattle.std.proofs.lemmas.Bool.{cases_eq, false≢true}
use Rattle.pb_crash.specs.declared.leaves.Leaves.{Leaves}
use Rattle.pb_pmem.specs.Count.{Rose}
use Rattle.pb_object.specs.declared.request.Ask.{Ask}
use Rattle.pb_object.specs.Standing.{Standing}
use Rattle.pb_events.specs.declared.event.Event.{Event}
use Rattle.pb_events.specs.declared.event.Event.TheVariants.{Ask as AskEvent, Step, Fail, Crash, Reopen, ReopenFail}
use Rattle.pb_events.specs.declared.event.Stepped.{Stepped}
use Rattle.pb_events.specs.declared.event.Stepped.TheVariants.{Went, Done, Busy, Fault, Impossible}
use Rattle.pb_core.specs.Client.{Stage, Idle, Storing, Looking, LoadsNumber, LoadsCode, LoadsValue, LoadsExtra, Confirming, Lacking, Taking, Holding, Client, is_idle, is_announced, is_holding}
use Rattle.pb_core.specs.DeviceParts.{IsWorld}
use Rattle.pb_core.specs.Laws.{HasMet, IsCaused, HasRaised, IsNoted, IsStepOfAsker, IsToAsker}
use Rattle.pb_core.specs.Memory.{Owner, Held, Closed, AtNumber, Work, NoWork, Settling, Scanning, Calling, Filling, Noting, GivingUp, Memory, clients_of, round_of_turn}
use Rattle.pb_core.specs.MemoryParts.{IsMemory, Suits, HasCause, held_count}
use Rattle.pb_core.specs.WordMoves.{WordMove, storing, announcing, looking, matching, lacking_held, lacking_free, loading_code, loading_value, loading_extra, confirming, finding_new, finding_held, taking_sure, taking_unsure, missing, passing_over, meeting, scanning_code, scanning_first, scanning_second, scanning_own, scanning_other, filling, publishing_own, publishing_others, noting, giving_up}
use Rattle.pb_core.specs.World.{World}
use Rattle.pb_core.specs.WorldMoves.{Silent, begins_calls, ends_calls, begins_settling, ends_settling_none, ends_settling_round, opens, Silents, Moves, Next}
use Rattle.pb_core.proofs.Waiting.{read_at}
use Rattle.pb_core.proofs.Worlds.{keeps-silent, keeps-silents}

-- an answer of this kind
says : {answer : Stepped} (old new : Memory) (known : Stepped) → answer ≡ known → IsCaused known old new → IsCaused answer old new
says old new known is cause = subst (λ (a : Stepped). IsCaused a old new) (sym is) cause

-- a word that was found while the turn was held, and another
held_or_other : (from to : ℕ) → from % 2 ≡ 1 → (from ≢ to) ⊎ (to % 2 ≡ 1)
held_or_other from to odd = elim (cases_eq from to) [
  | inl same ↦ inr (omega (arith, odd, same))
  | inr apart ↦ inl apart
]

-- a client that has a request is the one that it names
asker : {m : Memory} {c : ℕ} (stage : Stage) → IsMemory m → c < m.start.clients → (m.book c).stage ≡ stage → is_idle stage ≡ false → (m.book c).ask.client ≡ c
asker {m} {c} stage is there at busy = ((is.clients c there).asking (ap is_idle at ∙ busy)).client

-- a client that met a word, at this stage
met_at : {m : Memory} {c : ℕ} (stage : Stage) (from : ℕ) → IsMemory m → c < m.start.clients → (m.book c).stage ≡ stage → is_idle stage ≡ false → HasMet stage from m.turn → HasMet (m.book (m.book c).ask.client).stage from m.turn
met_at {m} {c} stage from is there at busy met =
    subst (λ (d : ℕ). HasMet (m.book d).stage from m.turn) (sym (asker stage is there at busy)) (subst (λ (s : Stage). HasMet s from m.turn) (sym at) met)

-- the holder is at a stage of its own
holding_is : (stage : Stage) → is_holding stage ≡ true → stage ≡ Holding
holding_is Idle h = absurd (false≢true h)
holding_is (Storing count) h = absurd (false≢true h)
holding_is Looking h = absurd (false≢true h)
holding_is (LoadsNumber turn) h = absurd (false≢true h)
holding_is (LoadsCode turn) h = absurd (false≢true h)
holding_is (LoadsValue turn code) h = absurd (false≢true h)
holding_is (LoadsExtra turn code value) h = absurd (false≢true h)
holding_is (Confirming turn reply) h = absurd (false≢true h)
holding_is (Lacking turn found) h = absurd (false≢true h)
holding_is (Taking turn found) h = absurd (false≢true h)
holding_is Holding h = refl

pub holder_at : {m : Memory} {c side : ℕ} → IsMemory m → c < m.start.clients → m.owner ≡ Held c side → (m.book c).stage ≡ Holding
holder_at {m} {c} {side} is there holds =
    holding_is (m.book c).stage ((is.clients c there).holder side holds)

pub caused-word : {old new : Memory} {c : ℕ} {answer : Stepped} → IsMemory old → c < old.start.clients → WordMove old c new answer → IsCaused answer old new
caused-word {old} {new} is there (storing move) = says old new Went move.says tt
caused-word {old} {new} is there (announcing move) = says old new Went move.says tt
caused-word {old} {new} is there (looking move) = says old new Went move.says tt
caused-word {old} {new} is there (matching move) = says old new Went move.says tt
caused-word {old} {new} is there (lacking_held move) = says old new Went move.says tt
caused-word {old} {new} is there (lacking_free move) = says old new Went move.says tt
caused-word {old} {new} is there (loading_code move) = says old new Went move.says tt
caused-word {old} {new} is there (loading_value move) = says old new Went move.says tt
caused-word {old} {new} is there (loading_extra move) = says old new Went move.says tt
caused-word {old} {new} is there (confirming move) = says old new _ move.says tt
caused-word {old} {new} is there (finding_new move) =
    says old new _ move.says (met_at (Confirming move.turn move.reply) move.turn is there move.at refl refl, ap (λ (m : Memory). m.turn) (sym move.is), inl (λ e. move.other (ap round_of_turn (sym e))))
caused-word {old} {new} {c} is there (finding_held move) =
    says old new _ move.says (met_at (Lacking move.turn move.found) move.turn is there move.at refl refl, ap (λ (m : Memory). m.turn) (sym move.is), held_or_other move.turn old.turn (read_at old c (Lacking move.turn move.found) (is.clients c there) move.at).2)
caused-word {old} {new} is there (taking_sure move) = says old new Went move.says tt
caused-word {old} {new} is there (taking_unsure move) = says old new Went move.says tt
caused-word {old} {new} is there (missing move) =
    says old new _ move.says (met_at (Taking move.turn move.found) move.turn is there move.at refl refl, ap (λ (m : Memory). m.turn) (sym move.is), inl (λ e. move.other (sym e)))
caused-word {old} {new} is there (passing_over move) = says old new Went move.says tt
caused-word {old} {new} is there (meeting move) = says old new Went move.says tt
caused-word {old} {new} is there (scanning_code move) = says old new Went move.says tt
caused-word {old} {new} is there (scanning_first move) = says old new Went move.says tt
caused-word {old} {new} is there (scanning_second move) = says old new Went move.says tt
caused-word {old} {new} is there (scanning_own move) = says old new Went move.says tt
caused-word {old} {new} is there (scanning_other move) = says old new Went move.says tt
caused-word {old} {new} is there (filling move) = says old new Went move.says tt
caused-word {old} {new} is there (publishing_own move) = says old new _ move.says tt
caused-word {old} {new} is there (publishing_others move) =
    let taken : old.turn ≡ 2 * length old.published + 1 = is.turn ∙ ap (λ (o : Owner). 2 * length old.published + held_count o) move.holds in
    let took : old.turn ≡ old.turn - 1 + 1 = omega (arith, taken) in
    says old new _ move.says (met_at Holding (old.turn - 1) is there (holder_at is there move.holds) refl took, ap (λ (m : Memory). m.turn) (sym move.is), inl (λ e. omega (arith, e)))
caused-word {old} {new} is there (noting move) = says old new Went move.says tt
caused-word {old} {new} is there (giving_up move) =
    let cause : HasCause (GivingUp move.from move.to) old.noted old.count = subst (λ (w : Work). HasCause w old.noted old.count) move.at is.cause in
    let at = holder_at is there move.holds in
    says old new _ move.says (ap (λ (d : ℕ). is_holding (old.book d).stage) (asker Holding is there at refl) ∙ ap is_holding at, move.at, cause.0, ap (λ (m : Memory). m.count) move.is ∙ sym cause.2)

caused-moves : (old : World) (event : Event) (new : World) (answer : Stepped) → IsWorld old → Moves old event new answer → IsCaused answer old.memory new.memory
caused-moves old (AskEvent ask) new answer is step = says old.memory new.memory Went step.says tt
caused-moves old (Step client) new answer is (inl step) =
    subst (λ (w : World). IsCaused answer old.memory w.memory) (sym step.is) (caused-word is.memory_is step.move.there step.move.move)
caused-moves old (Step client) new answer is (inr step) = says old.memory new.memory Went step.says tt
caused-moves old (Fail client how) new answer is (inl step) = says old.memory new.memory Went step.says tt
caused-moves old (Fail client how) new answer is (inr (inl step)) = says old.memory new.memory Went step.says tt
caused-moves old (Fail client how) new answer is (inr (inr step)) = says old.memory new.memory Went step.says tt
caused-moves old (Crash cut pick) new answer is step = says old.memory new.memory Went step.says tt
caused-moves old Reopen new answer is (inl step) = says old.memory new.memory Went step.says tt
caused-moves old Reopen new answer is (inr step) = says old.memory new.memory Went step.says tt
caused-moves old (ReopenFail how) new answer is (inl step) = says old.memory new.memory Went step.says tt
caused-moves old (ReopenFail how) new answer is (inr step) = says old.memory new.memory Went step.says tt

-- Moves that nobody sees change no client and not the turn, and give nothing up
record KeepsMet (old new : Memory) : Type 0 where
  start : new.start ≡ old.start
  book : new.book ≡ old.book
  turn : new.turn ≡ old.turn
  count : new.count ≡ old.count
  work : (from to : ℕ) → new.work ≡ GivingUp from to → (old.work ≡ GivingUp from to) × (old.owner ≡ new.owner)
  noting : (from to : ℕ) → new.work ≡ Noting from to → (old.work ≡ Noting from to) × (old.owner ≡ new.owner)

abbrev work_of : Memory → Work
work_of m = m.work

abbrev owner_of : Memory → Owner
owner_of m = m.owner

-- nobody is at work while the region is being opened
closed_rests : {w : World} → IsWorld w → w.memory.owner ≡ Closed → w.memory.work ≡ NoWork
closed_rests {w} is closed =
    (subst (λ (o : Owner). Suits o w.memory.work w.memory.engine w.memory.ahead) closed is.memory_is.suits).0

silent_keeps : {old new : World} → IsWorld old → Silent old new → KeepsMet old.memory new.memory
silent_keeps {old} is (begins_calls step) = record {
  start = ap (λ (w : World). w.memory.start) step.is ∙ ap (λ (m : Memory). m.start) step.move.is;
  book = ap (λ (w : World). w.memory.book) step.is ∙ ap (λ (m : Memory). m.book) step.move.is;
  turn = ap (λ (w : World). w.memory.turn) step.is ∙ ap (λ (m : Memory). m.turn) step.move.is;
  count = ap (λ (w : World). w.memory.count) step.is ∙ ap (λ (m : Memory). m.count) step.move.is;
  work = λ from to at. let now : Calling ≡ GivingUp from to = sym (ap (λ (w : World). w.memory.work) step.is ∙ ap work_of step.move.is) ∙ at in absurd cc;
  noting = λ from to at. let now : Calling ≡ Noting from to = sym (ap (λ (w : World). w.memory.work) step.is ∙ ap work_of step.move.is) ∙ at in absurd cc;
}
silent_keeps {old} is (ends_calls step) = record {
  start = ap (λ (w : World). w.memory.start) step.is ∙ ap (λ (m : Memory). m.start) step.move.is;
  book = ap (λ (w : World). w.memory.book) step.is ∙ ap (λ (m : Memory). m.book) step.move.is;
  turn = ap (λ (w : World). w.memory.turn) step.is ∙ ap (λ (m : Memory). m.turn) step.move.is;
  count = ap (λ (w : World). w.memory.count) step.is ∙ ap (λ (m : Memory). m.count) step.move.is;
  work = λ from to at. let now : Filling 0 ≡ GivingUp from to = sym (ap (λ (w : World). w.memory.work) step.is ∙ ap work_of step.move.is) ∙ at in absurd cc;
  noting = λ from to at. let now : Filling 0 ≡ Noting from to = sym (ap (λ (w : World). w.memory.work) step.is ∙ ap work_of step.move.is) ∙ at in absurd cc;
}
silent_keeps {old} is (begins_settling step) = record {
  start = ap (λ (w : World). w.memory.start) step.is;
  book = ap (λ (w : World). w.memory.book) step.is;
  turn = ap (λ (w : World). w.memory.turn) step.is;
  count = ap (λ (w : World). w.memory.count) step.is;
  work = λ from to at. (sym (ap (λ (w : World). w.memory.work) step.is) ∙ at, sym (ap (λ (w : World). w.memory.owner) step.is));
  noting = λ from to at. (sym (ap (λ (w : World). w.memory.work) step.is) ∙ at, sym (ap (λ (w : World). w.memory.owner) step.is));
}
silent_keeps {old} is (ends_settling_none step) = record {
  start = ap (λ (w : World). w.memory.start) step.is ∙ ap (λ (m : Memory). m.start) step.move.is;
  book = ap (λ (w : World). w.memory.book) step.is ∙ ap (λ (m : Memory). m.book) step.move.is;
  turn = ap (λ (w : World). w.memory.turn) step.is ∙ ap (λ (m : Memory). m.turn) step.move.is;
  count = ap (λ (w : World). w.memory.count) step.is ∙ ap (λ (m : Memory). m.count) step.move.is;
  work = λ from to at. let now : Scanning 0 AtNumber [] ≡ GivingUp from to = sym (ap (λ (w : World). w.memory.work) step.is ∙ ap work_of step.move.is) ∙ at in absurd cc;
  noting = λ from to at. let now : Scanning 0 AtNumber [] ≡ Noting from to = sym (ap (λ (w : World). w.memory.work) step.is ∙ ap work_of step.move.is) ∙ at in absurd cc;
}
silent_keeps {old} is (ends_settling_round step) = record {
  start = ap (λ (w : World). w.memory.start) step.is ∙ ap (λ (m : Memory). m.start) step.move.is;
  book = ap (λ (w : World). w.memory.book) step.is ∙ ap (λ (m : Memory). m.book) step.move.is;
  turn = ap (λ (w : World). w.memory.turn) step.is ∙ ap (λ (m : Memory). m.turn) step.move.is;
  count = ap (λ (w : World). w.memory.count) step.is ∙ ap (λ (m : Memory). m.count) step.move.is;
  work = λ from to at. let now : Filling 0 ≡ GivingUp from to = sym (ap (λ (w : World). w.memory.work) step.is ∙ ap work_of step.move.is) ∙ at in absurd cc;
  noting = λ from to at. let now : Filling 0 ≡ Noting from to = sym (ap (λ (w : World). w.memory.work) step.is ∙ ap work_of step.move.is) ∙ at in absurd cc;
}
silent_keeps {old} is (opens step) = record {
  start = ap (λ (w : World). w.memory.start) step.is;
  book = ap (λ (w : World). w.memory.book) step.is;
  turn = ap (λ (w : World). w.memory.turn) step.is;
  count = ap (λ (w : World). w.memory.count) step.is;
  work = λ from to at. let now : NoWork ≡ GivingUp from to = sym (closed_rests is step.closed) ∙ (sym (ap (λ (w : World). w.memory.work) step.is) ∙ at) in absurd cc;
  noting = λ from to at. let now : NoWork ≡ Noting from to = sym (closed_rests is step.closed) ∙ (sym (ap (λ (w : World). w.memory.work) step.is) ∙ at) in absurd cc;
}

silents_keep : (count : ℕ) (old new : World) → IsWorld old → Silents count old new → KeepsMet old.memory new.memory
silents_keep zero old new is same = record {
  start = ap (λ (w : World). w.memory.start) same;
  book = ap (λ (w : World). w.memory.book) same;
  turn = ap (λ (w : World). w.memory.turn) same;
  count = ap (λ (w : World). w.memory.count) same;
  work = λ from to at. (sym (ap (λ (w : World). w.memory.work) same) ∙ at, sym (ap (λ (w : World). w.memory.owner) same));
  noting = λ from to at. (sym (ap (λ (w : World). w.memory.work) same) ∙ at, sym (ap (λ (w : World). w.memory.owner) same));
}
silents_keep (suc count) old new is (middle, first, more) =
    let one = silent_keeps is first in
    let others = silents_keep count middle new (keeps-silent is first) more in
    record {
      start = others.start ∙ one.start;
      book = others.book ∙ one.book;
      turn = others.turn ∙ one.turn;
      count = others.count ∙ one.count;
      work = λ from to at. let later = others.work from to at in let before = one.work from to later.0 in (before.0, before.1 ∙ later.1);
      noting = λ from to at. let later = others.noting from to at in let before = one.noting from to later.0 in (before.0, before.1 ∙ later.1);
    }

met_before : {old middle : Memory} (c from : ℕ) → KeepsMet old middle → HasMet (middle.book c).stage from middle.turn → HasMet (old.book c).stage from old.turn
met_before {old} {middle} c from keeps met =
    subst (λ (n : ℕ). HasMet (old.book c).stage from n) keeps.turn (subst (λ (b : ℕ → Client). HasMet (b c).stage from middle.turn) keeps.book met)

caused_before : (old middle : Memory) (answer : Stepped) (new : Memory) → KeepsMet old middle → IsCaused answer middle new → IsCaused answer old new
caused_before old middle Went new keeps cause = tt
caused_before old middle (Done ask reply) new keeps cause = tt
caused_before old middle (Busy ask from to) new keeps cause =
    (met_before ask.client from keeps cause.0, cause.1, cause.2)
caused_before old middle (Fault ask from to) new keeps cause =
    (subst (λ (b : ℕ → Client). is_holding (b ask.client).stage ≡ true) keeps.book cause.0, (keeps.work from to cause.1).0, cause.2, cause.3)
caused_before old middle Impossible new keeps cause = cause

pub caused-event : (old : World) (event : Event) (new : World) (answer : Stepped) → IsWorld old → Next old event new answer → IsCaused answer old.memory new.memory
caused-event old event new answer is next =
    caused_before old.memory next.middle.memory answer new.memory (silents_keep next.silent old next.middle is next.silents)
    (caused-moves next.middle event new answer (keeps-silents next.silent old next.middle is next.silents) next.move)

-- Who is answered

to_asker : {answer : Stepped} (event : Event) (old : Memory) (known : Stepped) → answer ≡ known → IsToAsker event known old → IsToAsker event answer old
to_asker event old known is to = subst (λ (a : Stepped). IsToAsker event a old) (sym is) to

asker_steps : {m : Memory} {c : ℕ} (stage : Stage) → IsMemory m → c < m.start.clients → (m.book c).stage ≡ stage → is_idle stage ≡ false → is_announced stage ≡ true → IsStepOfAsker (Step c) (m.book c).ask m
asker_steps {m} {c} stage is there at busy announced =
    let its = asker stage is there at busy in
    record {
      step = ap (λ (d : ℕ). Step d) (sym its);
      there = subst (λ (d : ℕ). d < clients_of m) (sym its) there;
      its_own = ap (λ (d : ℕ). (m.book d).ask) its;
      announced = ap (λ (d : ℕ). is_announced (m.book d).stage) its ∙ (ap is_announced at ∙ announced);
    }

to_asker-word : {old new : Memory} {c : ℕ} {answer : Stepped} → IsMemory old → c < old.start.clients → WordMove old c new answer → IsToAsker (Step c) answer old
to_asker-word {old} {new} {c} is there (storing move) = to_asker (Step c) old Went move.says tt
to_asker-word {old} {new} {c} is there (announcing move) = to_asker (Step c) old Went move.says tt
to_asker-word {old} {new} {c} is there (looking move) = to_asker (Step c) old Went move.says tt
to_asker-word {old} {new} {c} is there (matching move) = to_asker (Step c) old Went move.says tt
to_asker-word {old} {new} {c} is there (lacking_held move) = to_asker (Step c) old Went move.says tt
to_asker-word {old} {new} {c} is there (lacking_free move) = to_asker (Step c) old Went move.says tt
to_asker-word {old} {new} {c} is there (loading_code move) = to_asker (Step c) old Went move.says tt
to_asker-word {old} {new} {c} is there (loading_value move) = to_asker (Step c) old Went move.says tt
to_asker-word {old} {new} {c} is there (loading_extra move) = to_asker (Step c) old Went move.says tt
to_asker-word {old} {new} {c} is there (confirming move) =
    to_asker (Step c) old _ move.says (asker_steps (Confirming move.turn move.reply) is there move.at refl refl)
to_asker-word {old} {new} {c} is there (finding_new move) =
    to_asker (Step c) old _ move.says (asker_steps (Confirming move.turn move.reply) is there move.at refl refl)
to_asker-word {old} {new} {c} is there (finding_held move) =
    to_asker (Step c) old _ move.says (asker_steps (Lacking move.turn move.found) is there move.at refl refl)
to_asker-word {old} {new} {c} is there (taking_sure move) = to_asker (Step c) old Went move.says tt
to_asker-word {old} {new} {c} is there (taking_unsure move) = to_asker (Step c) old Went move.says tt
to_asker-word {old} {new} {c} is there (missing move) =
    to_asker (Step c) old _ move.says (asker_steps (Taking move.turn move.found) is there move.at refl refl)
to_asker-word {old} {new} {c} is there (passing_over move) = to_asker (Step c) old Went move.says tt
to_asker-word {old} {new} {c} is there (meeting move) = to_asker (Step c) old Went move.says tt
to_asker-word {old} {new} {c} is there (scanning_code move) = to_asker (Step c) old Went move.says tt
to_asker-word {old} {new} {c} is there (scanning_first move) = to_asker (Step c) old Went move.says tt
to_asker-word {old} {new} {c} is there (scanning_second move) = to_asker (Step c) old Went move.says tt
to_asker-word {old} {new} {c} is there (scanning_own move) = to_asker (Step c) old Went move.says tt
to_asker-word {old} {new} {c} is there (scanning_other move) = to_asker (Step c) old Went move.says tt
to_asker-word {old} {new} {c} is there (filling move) = to_asker (Step c) old Went move.says tt
to_asker-word {old} {new} {c} is there (publishing_own move) =
    to_asker (Step c) old _ move.says (asker_steps Holding is there (holder_at is there move.holds) refl refl)
to_asker-word {old} {new} {c} is there (publishing_others move) =
    to_asker (Step c) old _ move.says (asker_steps Holding is there (holder_at is there move.holds) refl refl)
to_asker-word {old} {new} {c} is there (noting move) = to_asker (Step c) old Went move.says tt
to_asker-word {old} {new} {c} is there (giving_up move) =
    to_asker (Step c) old _ move.says (asker_steps Holding is there (holder_at is there move.holds) refl refl)

to_asker-moves : (old : World) (event : Event) (new : World) (answer : Stepped) → IsWorld old → Moves old event new answer → IsToAsker event answer old.memory
to_asker-moves old (AskEvent ask) new answer is step = to_asker (AskEvent ask) old.memory Went step.says tt
to_asker-moves old (Step client) new answer is (inl step) =
    to_asker-word is.memory_is step.move.there step.move.move
to_asker-moves old (Step client) new answer is (inr step) = to_asker (Step client) old.memory Went step.says tt
to_asker-moves old (Fail client how) new answer is (inl step) = to_asker (Fail client how) old.memory Went step.says tt
to_asker-moves old (Fail client how) new answer is (inr (inl step)) = to_asker (Fail client how) old.memory Went step.says tt
to_asker-moves old (Fail client how) new answer is (inr (inr step)) = to_asker (Fail client how) old.memory Went step.says tt
to_asker-moves old (Crash cut pick) new answer is step = to_asker (Crash cut pick) old.memory Went step.says tt
to_asker-moves old Reopen new answer is (inl step) = to_asker Reopen old.memory Went step.says tt
to_asker-moves old Reopen new answer is (inr step) = to_asker Reopen old.memory Went step.says tt
to_asker-moves old (ReopenFail how) new answer is (inl step) = to_asker (ReopenFail how) old.memory Went step.says tt
to_asker-moves old (ReopenFail how) new answer is (inr step) = to_asker (ReopenFail how) old.memory Went step.says tt

asker_before : {old middle : Memory} (event : Event) (ask : Ask) → KeepsMet old middle → IsStepOfAsker event ask middle → IsStepOfAsker event ask old
asker_before {old} {middle} event ask keeps asker = record {
  step = asker.step;
  there = subst (λ (s : Standing). ask.client < s.clients) keeps.start asker.there;
  its_own = subst (λ (b : ℕ → Client). (b ask.client).ask ≡ ask) keeps.book asker.its_own;
  announced = subst (λ (b : ℕ → Client). is_announced (b ask.client).stage ≡ true) keeps.book asker.announced;
}

to_asker_before : (old middle : Memory) (event : Event) (answer : Stepped) → KeepsMet old middle → IsToAsker event answer middle → IsToAsker event answer old
to_asker_before old middle event Went keeps to = tt
to_asker_before old middle event (Done ask reply) keeps to = asker_before event ask keeps to
to_asker_before old middle event (Busy ask from until) keeps to = asker_before event ask keeps to
to_asker_before old middle event (Fault ask from until) keeps to = asker_before event ask keeps to
to_asker_before old middle event Impossible keeps to = to

pub to_asker-event : (old : World) (event : Event) (new : World) (answer : Stepped) → IsWorld old → Next old event new answer → IsToAsker event answer old.memory
to_asker-event old event new answer is next =
    to_asker_before old.memory next.middle.memory event answer (silents_keep next.silent old next.middle is next.silents)
    (to_asker-moves next.middle event new answer (keeps-silents next.silent old next.middle is next.silents) next.move)

-- The counts that are noted

-- a holder at this has no counts to tell
abbrev HasNone : Work → Type 0
HasNone NoWork = Unit {0}
HasNone Settling = Unit {0}
HasNone (Scanning client part seen) = Unit {0}
HasNone Calling = Unit {0}
HasNone (Filling count) = Unit {0}
HasNone (Noting from to) = ⊥
HasNone (GivingUp from to) = ⊥

-- the counts that it tells
abbrev from_of : Work → ℕ
from_of NoWork = 0
from_of Settling = 0
from_of (Scanning client part seen) = 0
from_of Calling = 0
from_of (Filling count) = 0
from_of (Noting from to) = from
from_of (GivingUp from to) = from

abbrev to_of : Work → ℕ
to_of NoWork = 0
to_of Settling = 0
to_of (Scanning client part seen) = 0
to_of Calling = 0
to_of (Filling count) = 0
to_of (Noting from to) = to
to_of (GivingUp from to) = to

noted_still : {old new : Memory} (event : Event) → new.work ≡ old.work → new.owner ≡ old.owner → IsNoted event old new
noted_still event work owner = record {
  noting = λ from to at. inl (sym work ∙ at, sym owner);
  giving_up = λ from to at. (inl (sym work ∙ at), sym owner);
}

notes_none : {new : Memory} (event : Event) (old : Memory) (work : Work) → new.work ≡ work → HasNone work → IsNoted event old new
notes_none event old work is none = record {
  noting = λ from to at. absurd (subst HasNone (sym is ∙ at) none);
  giving_up = λ from to at. absurd (subst HasNone (sym is ∙ at) none);
}

noted-word : {old new : Memory} {c : ℕ} {answer : Stepped} → WordMove old c new answer → IsNoted (Step c) old new
noted-word {old} {new} {c} (storing move) = noted_still (Step c) (ap work_of move.is) (ap owner_of move.is)
noted-word {old} {new} {c} (announcing move) = noted_still (Step c) (ap work_of move.is) (ap owner_of move.is)
noted-word {old} {new} {c} (looking move) = noted_still (Step c) (ap work_of move.is) (ap owner_of move.is)
noted-word {old} {new} {c} (matching move) = noted_still (Step c) (ap work_of move.is) (ap owner_of move.is)
noted-word {old} {new} {c} (lacking_held move) = noted_still (Step c) (ap work_of move.is) (ap owner_of move.is)
noted-word {old} {new} {c} (lacking_free move) = noted_still (Step c) (ap work_of move.is) (ap owner_of move.is)
noted-word {old} {new} {c} (loading_code move) = noted_still (Step c) (ap work_of move.is) (ap owner_of move.is)
noted-word {old} {new} {c} (loading_value move) = noted_still (Step c) (ap work_of move.is) (ap owner_of move.is)
noted-word {old} {new} {c} (loading_extra move) = noted_still (Step c) (ap work_of move.is) (ap owner_of move.is)
noted-word {old} {new} {c} (confirming move) = noted_still (Step c) (ap work_of move.is) (ap owner_of move.is)
noted-word {old} {new} {c} (finding_new move) = noted_still (Step c) (ap work_of move.is) (ap owner_of move.is)
noted-word {old} {new} {c} (finding_held move) = noted_still (Step c) (ap work_of move.is) (ap owner_of move.is)
noted-word {old} {new} {c} (taking_sure move) = notes_none (Step c) old _ (ap work_of move.is) tt
noted-word {old} {new} {c} (taking_unsure move) = notes_none (Step c) old _ (ap work_of move.is) tt
noted-word {old} {new} {c} (missing move) = noted_still (Step c) (ap work_of move.is) (ap owner_of move.is)
noted-word {old} {new} {c} (passing_over move) = notes_none (Step c) old _ (ap work_of move.is) tt
noted-word {old} {new} {c} (meeting move) = notes_none (Step c) old _ (ap work_of move.is) tt
noted-word {old} {new} {c} (scanning_code move) = notes_none (Step c) old _ (ap work_of move.is) tt
noted-word {old} {new} {c} (scanning_first move) = notes_none (Step c) old _ (ap work_of move.is) tt
noted-word {old} {new} {c} (scanning_second move) = notes_none (Step c) old _ (ap work_of move.is) tt
noted-word {old} {new} {c} (scanning_own move) = notes_none (Step c) old _ (ap work_of move.is) tt
noted-word {old} {new} {c} (scanning_other move) = notes_none (Step c) old _ (ap work_of move.is) tt
noted-word {old} {new} {c} (filling move) = notes_none (Step c) old _ (ap work_of move.is) tt
noted-word {old} {new} {c} (publishing_own move) = notes_none (Step c) old _ (ap work_of move.is) tt
noted-word {old} {new} {c} (publishing_others move) = notes_none (Step c) old _ (ap work_of move.is) tt
noted-word {old} {new} {c} (noting move) = record {
  noting = λ from to at. let now : GivingUp move.from move.to ≡ Noting from to = sym (ap work_of move.is) ∙ at in absurd cc;
  giving_up = λ from to at. let now : GivingUp move.from move.to ≡ GivingUp from to = sym (ap work_of move.is) ∙ at in (inr (move.at ∙ (λ i. Noting (from_of (now i)) (to_of (now i)))), sym (ap owner_of move.is));
}
noted-word {old} {new} {c} (giving_up move) = notes_none (Step c) old _ (ap work_of move.is) tt

-- a call of a client fails
noted-fail : {old new : Memory} (client side : ℕ) (how : Leaves) (to : ℕ) → Rose old.count to → new.work ≡ Noting old.count to → new.count ≡ to → new.owner ≡ Held client side → IsNoted (Fail client how) old new
noted-fail {old} {new} client side how to rose work count holds = record {
  noting = λ from later at. let now : Noting old.count to ≡ Noting from later = sym work ∙ at in inr (record {
    client = client;
    side = side;
    how = how;
    fails = refl;
    holds = holds;
    before = ap from_of (sym now);
    after = ap to_of (sym now) ∙ sym count;
    rose = subst (λ (w : Work). Rose (from_of w) (to_of w)) now rose;
  });
  giving_up = λ from later at. let now : Noting old.count to ≡ GivingUp from later = sym work ∙ at in absurd cc;
}

noted-moves : (old : World) (event : Event) (new : World) (answer : Stepped) → Moves old event new answer → IsNoted event old.memory new.memory
noted-moves old (AskEvent ask) new answer step =
    noted_still (AskEvent ask) (ap (λ (w : World). w.memory.work) step.is ∙ ap work_of step.move.is) (ap (λ (w : World). w.memory.owner) step.is ∙ ap owner_of step.move.is)
noted-moves old (Step client) new answer (inl step) =
    subst (λ (w : World). IsNoted (Step client) old.memory w.memory) (sym step.is) (noted-word step.move.move)
noted-moves old (Step client) new answer (inr step) =
    noted_still (Step client) (ap (λ (w : World). w.memory.work) step.is) (ap (λ (w : World). w.memory.owner) step.is)
noted-moves old (Fail client how) new answer (inl step) =
    noted-fail client step.move.side how step.move.to step.move.rose (ap (λ (w : World). w.memory.work) step.is ∙ ap work_of step.move.is) (ap (λ (w : World). w.memory.count) step.is ∙ ap (λ (m : Memory). m.count) step.move.is) (ap (λ (w : World). w.memory.owner) step.is ∙ (ap owner_of step.move.is ∙ step.move.holds))
noted-moves old (Fail client how) new answer (inr (inl step)) =
    noted-fail client step.move.side how step.move.to step.move.rose (ap (λ (w : World). w.memory.work) step.is ∙ ap work_of step.move.is) (ap (λ (w : World). w.memory.count) step.is ∙ ap (λ (m : Memory). m.count) step.move.is) (ap (λ (w : World). w.memory.owner) step.is ∙ (ap owner_of step.move.is ∙ step.move.holds))
noted-moves old (Fail client how) new answer (inr (inr step)) =
    noted-fail client step.move.side how step.move.to step.move.rose (ap (λ (w : World). w.memory.work) step.is ∙ ap work_of step.move.is) (ap (λ (w : World). w.memory.count) step.is ∙ ap (λ (m : Memory). m.count) step.move.is) (ap (λ (w : World). w.memory.owner) step.is ∙ (ap owner_of step.move.is ∙ step.move.holds))
noted-moves old (Crash cut pick) new answer step =
    notes_none (Crash cut pick) old.memory NoWork (ap (λ (w : World). w.memory.work) step.is) tt
noted-moves old Reopen new answer (inl step) = noted_still Reopen (ap (λ (w : World). w.memory.work) step.is) (ap (λ (w : World). w.memory.owner) step.is)
noted-moves old Reopen new answer (inr step) = noted_still Reopen (ap (λ (w : World). w.memory.work) step.is) (ap (λ (w : World). w.memory.owner) step.is)
noted-moves old (ReopenFail how) new answer (inl step) =
    noted_still (ReopenFail how) (ap (λ (w : World). w.memory.work) step.is) (ap (λ (w : World). w.memory.owner) step.is)
noted-moves old (ReopenFail how) new answer (inr step) =
    noted_still (ReopenFail how) (ap (λ (w : World). w.memory.work) step.is) (ap (λ (w : World). w.memory.owner) step.is)

noted_before : (old middle : Memory) (event : Event) (new : Memory) → KeepsMet old middle → IsNoted event middle new → IsNoted event old new
noted_before old middle event new keeps noted = record {
  noting = λ from to at. elim (noted.noting from to at) [
    | inl (later, owner) ↦
        let before = keeps.noting from to later in
        inl (before.0, before.1 ∙ owner)
    | inr raised ↦ inr (record {
      client = raised.client;
      side = raised.side;
      how = raised.how;
      fails = raised.fails;
      holds = raised.holds;
      before = raised.before ∙ keeps.count;
      after = raised.after;
      rose = raised.rose;
    })
  ];
  giving_up = λ from to at. let (later, owner) = noted.giving_up from to at in elim later [
    | inl gives_up ↦
        let before = keeps.work from to gives_up in
        (inl before.0, before.1 ∙ owner)
    | inr notes ↦
        let before = keeps.noting from to notes in
        (inr before.0, before.1 ∙ owner)
  ];
}

pub noted-event : (old : World) (event : Event) (new : World) (answer : Stepped) → IsWorld old → Next old event new answer → IsNoted event old.memory new.memory
noted-event old event new answer is next =
    noted_before old.memory next.middle.memory event new.memory (silents_keep next.silent old next.middle is next.silents)
    (noted-moves next.middle event new answer next.move)
