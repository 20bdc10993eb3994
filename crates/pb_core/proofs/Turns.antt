-- Taking the turn, and giving it up.
use Rattle.std.proofs.Common.{◌≡◌, ◌≢◌, ℕ, ◌+◌, ◌*◌, ◌%◌, ◌<◌, ◌⊎◌, true, List, [], length, Option, None, ap, subst, sym, refl, ◌∙◌, inl, inr, arith}
use Rattle.std.proofs.lemmas.Bool.{false≢true, true≢false}
use Rattle.pb_object.specs.declared.kind.Kind.{Kind}
use Rattle.pb_object.specs.declared.request.Kept.{Kept}
use Rattle.pb_object.specs.History.{History, Round}
use Rattle.pb_object.specs.Standing.{kept_list_of, newest, newest_of}
use Rattle.pb_events.specs.declared.event.Stepped.{Stepped}
use Rattle.pb_core.specs.Client.{Looking, Taking, Holding, is_idle, is_announced, is_holding, stored_words, Client}
use Rattle.pb_core.specs.Memory.{Owner, Free, Held, Closed, AtNumber, Work, NoWork, Settling, Scanning, Noting, GivingUp, Resting, Doubtful, Memory, with_at, with_client, shown, known_standing, side_of_operation, round_of_turn}
use Rattle.pb_core.specs.MemoryParts.{IsClient, HasEntries, HasScan, IsMemory, SuitsWork, Suits, HasCause, HasFilled, held_count}
use Rattle.pb_core.specs.WordMoves.{IsNotReopening, go_to, TakesSure, TakesUnsure, NotesFaults, GivesUp}
use Rattle.pb_core.proofs.Basics.{at_each}
use Rattle.pb_core.proofs.Movers.{OwnClient}
use Rattle.pb_core.proofs.Stages.{holding_is}
use Rattle.pb_core.proofs.Waiting.{IsWaiting, waits_at, taking_waits, turn_rounds, read_at}

-- Owners

pub free≢held : (c side : ℕ) → ¬ (Free ≡ Held c side)
free≢held c side e = cc

pub held-client : (a b s t : ℕ) → Held a s ≡ Held b t → a ≡ b
held-client a b s t e = cc

pub held-side : (a b s t : ℕ) → Held a s ≡ Held b t → s ≡ t
held-side a b s t e = cc

pub free≢closed : ¬ (Free ≡ Closed)
free≢closed e = cc

pub held≢closed : (c side : ℕ) → ¬ (Held c side ≡ Closed)
held≢closed c side e = cc

pub resting≢doubtful : ¬ (Resting ≡ Doubtful)
resting≢doubtful e = cc

-- a client that isn't the holder, under another owner
pub other_owner : {kind : Kind} {list : List Kept} {published : History} {ahead : Option Round} {owner : Owner} {words : ℕ → ℕ} {c : ℕ} {b : Client} (next : Owner) → ((side : ℕ) → ¬ (owner ≡ Held c side)) → ((side : ℕ) → ¬ (next ≡ Held c side)) → ¬ (next ≡ Closed) → IsClient kind list published ahead owner words c b → IsClient kind list published ahead next words c b
other_owner {b = b} next before after never is = record {
  holding = λ e. absurd (before (side_of_operation b.ask.op) (is.holding e));
  holder = λ side e. absurd (after side e);
  rests = λ e. absurd (never e);
  asking = is.asking;
  has_words = is.has_words;
  front = is.front;
  read = is.read;
  entries = is.entries;
  dates = is.dates;
}

-- Taking

-- a turn word that is even is free
pub even_free : (owner : Owner) (turn rounds : ℕ) → IsNotReopening owner → turn ≡ 2 * rounds + held_count owner → turn % 2 ≡ 0 → owner ≡ Free
even_free Free turn rounds running e even = refl
even_free (Held c side) turn rounds running e even = absurd (omega (arith, e, even))
even_free Closed turn rounds running e even = absurd running

-- a client that takes the turn: its request isn't published
takes_entries : {kind : Kind} {list : List Kept} {published : History} {ahead : Option Round} {owner : Owner} {words : ℕ → ℕ} {c : ℕ} {b : Client} → IsClient kind list published ahead owner words c b → ¬ ((newest list).number ≡ b.ask.number) → HasEntries c published ahead list (go_to Holding b)
takes_entries {kind} {list} {published} {ahead} {owner} {words} {c} {b} is lacks = go is.entries
  where
    go : HasEntries c published ahead list b → HasEntries c published ahead list (go_to Holding b)
    go (inl clear) = inl (record { told = clear.told; none = clear.none; kept = clear.kept })
    go (inr (inl coming)) =
        inr (inl (record { reply = coming.reply; announced = refl; told = coming.told; one = coming.one; kept = coming.kept }))
    go (inr (inr served)) = absurd (lacks (ap (λ (l : List Kept). (newest l).number) served.kept))

takes_client : {kind : Kind} {list : List Kept} {published : History} {ahead : Option Round} {owner : Owner} {words : ℕ → ℕ} {c : ℕ} {b : Client} → IsClient kind list published ahead owner words c b → IsWaiting b.stage → ¬ ((newest list).number ≡ b.ask.number) → IsClient kind list published ahead (Held c (side_of_operation b.ask.op)) words c (go_to Holding b)
takes_client {c = c} {b = b} is waiting lacks =
    let asking = is.asking waiting.busy in
    record {
      holding = λ _. refl;
      holder = λ side e. refl;
      rests = λ e. absurd (held≢closed c (side_of_operation b.ask.op) e);
      asking = λ _. record { client = asking.client; number = asking.number; few = asking.few; operation = asking.operation; after = asking.after };
      has_words = record {
        stored = λ place some few. is.has_words.stored place some (omega (arith, few, waiting.all));
        announced = λ _. is.has_words.announced waiting.announced;
        quiet = λ e. absurd (true≢false e);
      };
      front = is.front;
      read = tt;
      entries = takes_entries is lacks;
      dates = is.dates;
    }

-- the turn is taken, and the holder is at something
take_turn : {m : Memory} {c : ℕ} (turn found : ℕ) (work : Work) → IsMemory m → IsNotReopening m.owner → c < m.start.clients → (m.book c).stage ≡ Taking turn found → m.turn ≡ turn → SuitsWork work m.engine m.ahead → HasCause work m.noted m.count → HasFilled work (known_standing m) m.start.clients (length m.published) m.rows → HasScan (Held c (side_of_operation (m.book c).ask.op)) work (shown m) m.start.clients m.requests → IsMemory (record (with_client c (go_to Holding (m.book c)) m) { turn = turn + 1; owner = Held c (side_of_operation (m.book c).ask.op); work = work })
take_turn {m} {c} turn found work is running there at same suits cause filled scan = record {
  history = is.history;
  turn = omega (arith, counted, same);
  suits = suits;
  low = is.low;
  cause = cause;
  clients = λ d inside. at_each Holds c (go_to Holding b) m.book (λ _. takes_client own waiting lacks) others d inside;
  rows = is.rows;
  filled = filled;
  scan = scan;
  answers_are = is.answers_are;
}
  where
    b : Client
    b = m.book c

    own : OwnClient m c
    own = is.clients c there

    waiting : IsWaiting b.stage
    waiting = waits_at (Taking turn found) at (taking_waits turn found)

    even : m.turn % 2 ≡ 0
    even = ap (λ (t : ℕ). t % 2) same ∙ (read_at m c (Taking turn found) own at).2

    free : m.owner ≡ Free
    free = even_free m.owner m.turn (length m.published) running is.turn even

    counted : m.turn ≡ 2 * length m.published + 0
    counted = is.turn ∙ ap (λ (o : Owner). 2 * length m.published + held_count o) free

    lacks : ¬ ((newest_of (shown m) c).number ≡ b.ask.number)
    lacks e =
        let rounds : round_of_turn turn ≡ length m.published = sym (ap round_of_turn same) ∙ turn_rounds is in
        let read = read_at m c (Taking turn found) own at in
        read.1 (sym (read.0.same_round rounds) ∙ e)

    Holds : ℕ → Client → Type 0
    Holds d x = d < m.start.clients → IsClient m.start.kind (kept_list_of (shown m) d) m.published m.ahead (Held c (side_of_operation b.ask.op)) (m.requests d) d x

    others : (d : ℕ) → d ≢ c → d < m.start.clients → IsClient m.start.kind (kept_list_of (shown m) d) m.published m.ahead (Held c (side_of_operation b.ask.op)) (m.requests d) d (m.book d)
    others d apart inside =
        other_owner (Held c (side_of_operation b.ask.op)) (λ side e. free≢held d side (sym free ∙ e)) (λ side e. apart (sym (held-client c d (side_of_operation b.ask.op) side e))) (held≢closed c (side_of_operation b.ask.op)) (is.clients d inside)

-- nobody holds the turn where its word is even
pub free_suits : {m : Memory} → IsMemory m → m.owner ≡ Free → (m.work ≡ NoWork) × (((m.engine ≡ Resting) × (m.ahead ≡ None)) ⊎ (m.engine ≡ Doubtful))
free_suits {m} is free = subst (λ (o : Owner). Suits o m.work m.engine m.ahead) free is.suits

pub taken_free : {m : Memory} {c : ℕ} (turn found : ℕ) → IsMemory m → IsNotReopening m.owner → c < m.start.clients → (m.book c).stage ≡ Taking turn found → m.turn ≡ turn → m.owner ≡ Free
taken_free {m} {c} turn found is running there at same =
    even_free m.owner m.turn (length m.published) running is.turn (ap (λ (t : ℕ). t % 2) same ∙ (read_at m c (Taking turn found) (is.clients c there) at).2)

pub keeps-taking_sure : {old new : Memory} {c : ℕ} {answer : Stepped} → IsMemory old → IsNotReopening old.owner → c < old.start.clients → TakesSure old c new answer → IsMemory new
keeps-taking_sure {old} {new} {c} is running there move =
    subst IsMemory (sym move.is) (take_turn move.turn move.found (Scanning 0 AtNumber []) is running there move.at move.same (move.sure, none) tt tt (record { within = omega arith; part_is = tt; seen_are = tt; own = λ below. absurd (omega arith) }))
  where
    free : old.owner ≡ Free
    free = taken_free move.turn move.found is running there move.at move.same

    go : ((old.engine ≡ Resting) × (old.ahead ≡ None)) ⊎ (old.engine ≡ Doubtful) → old.ahead ≡ None
    go (inl calm) = calm.1
    go (inr doubtful) = absurd (resting≢doubtful (sym move.sure ∙ doubtful))

    none : old.ahead ≡ None
    none = go (free_suits is free).1

pub keeps-taking_unsure : {old new : Memory} {c : ℕ} {answer : Stepped} → IsMemory old → IsNotReopening old.owner → c < old.start.clients → TakesUnsure old c new answer → IsMemory new
keeps-taking_unsure {old} {new} {c} is running there move =
    subst IsMemory (sym move.is) (take_turn move.turn move.found Settling is running there move.at move.same move.unsure tt tt tt)

-- The holder

-- a client that holds the turn
pub record IsHolder (c side : ℕ) (b : Client) : Type 0 where
  pub stage : b.stage ≡ Holding
  pub of_side : side_of_operation b.ask.op ≡ side

pub the_holder : {kind : Kind} {list : List Kept} {published : History} {ahead : Option Round} {owner : Owner} {words : ℕ → ℕ} {c : ℕ} {b : Client} (side : ℕ) → IsClient kind list published ahead owner words c b → owner ≡ Held c side → IsHolder c side b
the_holder {c = c} {b = b} side is holds =
    let holding : is_holding b.stage ≡ true = is.holder side holds in
    record {
      stage = holding_is b.stage holding;
      of_side = held-side c c (side_of_operation b.ask.op) side (sym (is.holding holding) ∙ holds);
    }

-- what the holder is at, where that is known_standing
pub work_suits : {m : Memory} {c side : ℕ} (work : Work) → IsMemory m → m.owner ≡ Held c side → m.work ≡ work → SuitsWork work m.engine m.ahead
work_suits {m} {c} {side} work is holds at =
    subst (λ (w : Work). SuitsWork w m.engine m.ahead) at (subst (λ (o : Owner). Suits o m.work m.engine m.ahead) holds is.suits)

pub suits_work : (m : Memory) {c side : ℕ} (work : Work) → m.owner ≡ Held c side → SuitsWork work m.engine m.ahead → Suits m.owner work m.engine m.ahead
suits_work m work holds suits =
    subst (λ (o : Owner). Suits o work m.engine m.ahead) (sym holds) suits

-- it lets the turn go, and looks again
lets_go_entries : {c : ℕ} {published : History} {ahead : Option Round} {list : List Kept} {b : Client} → is_holding b.stage ≡ true → HasEntries c published ahead list b → HasEntries c published ahead list (go_to Looking b)
lets_go_entries holding (inl clear) = inl (record { told = clear.told; none = clear.none; kept = clear.kept })
lets_go_entries holding (inr (inl coming)) =
    inr (inl (record { reply = coming.reply; announced = refl; told = coming.told; one = coming.one; kept = coming.kept }))
lets_go_entries holding (inr (inr served)) = absurd (false≢true (sym served.waiting ∙ holding))

pub lets_go : {kind : Kind} {list : List Kept} {published : History} {ahead : Option Round} {owner : Owner} {words : ℕ → ℕ} {c : ℕ} {b : Client} → IsClient kind list published ahead owner words c b → b.stage ≡ Holding → IsClient kind list published ahead Free words c (go_to Looking b)
lets_go {c = c} {b = b} is at =
    let asking = is.asking (ap is_idle at) in
    record {
      holding = λ e. absurd (false≢true e);
      holder = λ side e. absurd (free≢held c side e);
      rests = λ e. absurd (free≢closed e);
      asking = λ _. record { client = asking.client; number = asking.number; few = asking.few; operation = asking.operation; after = asking.after };
      has_words = record {
        stored = λ place some few. is.has_words.stored place some (omega (arith, few, ap stored_words at));
        announced = λ _. is.has_words.announced (ap is_announced at);
        quiet = λ e. absurd (true≢false e);
      };
      front = is.front;
      read = tt;
      entries = lets_go_entries (ap is_holding at) is.entries;
      dates = is.dates;
    }

-- all clients, the holder having let the turn go
pub all_let_go : {m : Memory} {c side : ℕ} → IsMemory m → c < m.start.clients → m.owner ≡ Held c side → (d : ℕ) → d < m.start.clients → IsClient m.start.kind (kept_list_of (shown m) d) m.published m.ahead Free (m.requests d) d (with_at c (go_to Looking (m.book c)) m.book d)
all_let_go {m} {c} {side} is there holds d inside = at_each Holds c (go_to Looking (m.book c)) m.book (λ _. here) others d inside
  where
    Holds : ℕ → Client → Type 0
    Holds e x = e < m.start.clients → IsClient m.start.kind (kept_list_of (shown m) e) m.published m.ahead Free (m.requests e) e x

    here : IsClient m.start.kind (kept_list_of (shown m) c) m.published m.ahead Free (m.requests c) c (go_to Looking (m.book c))
    here = lets_go (is.clients c there) (the_holder side (is.clients c there) holds).stage

    others : (e : ℕ) → e ≢ c → e < m.start.clients → IsClient m.start.kind (kept_list_of (shown m) e) m.published m.ahead Free (m.requests e) e (m.book e)
    others e apart inside =
        other_owner Free (λ s q. apart (sym (held-client c e side s (sym holds ∙ q)))) (λ s q. free≢held e s q) free≢closed (is.clients e inside)

pub keeps-noting : {old new : Memory} {c : ℕ} {answer : Stepped} → IsMemory old → NotesFaults old c new answer → IsMemory new
keeps-noting {old} {new} {c} is move = subst IsMemory (sym move.is) (record {
  history = is.history;
  turn = is.turn;
  suits = suits_work old (GivingUp move.from move.to) move.holds (work_suits (Noting move.from move.to) is move.holds move.at);
  low = omega (arith, cause.2);
  cause = (cause.0, refl, cause.2);
  clients = is.clients;
  rows = is.rows;
  filled = tt;
  scan = subst (λ (o : Owner). HasScan o (GivingUp move.from move.to) (shown old) old.start.clients old.requests) (sym move.holds) tt;
  answers_are = is.answers_are;
})
  where
    cause : HasCause (Noting move.from move.to) old.noted old.count
    cause = subst (λ (w : Work). HasCause w old.noted old.count) move.at is.cause

pub keeps-giving_up : {old new : Memory} {c : ℕ} {answer : Stepped} → IsMemory old → c < old.start.clients → GivesUp old c new answer → IsMemory new
keeps-giving_up {old} {new} {c} is there move = subst IsMemory (sym move.is) (record {
  history = is.history;
  turn = omega (arith, counted);
  suits = (refl, inr (work_suits (GivingUp move.from move.to) is move.holds move.at));
  low = is.low;
  cause = tt;
  clients = all_let_go is there move.holds;
  rows = is.rows;
  filled = tt;
  scan = tt;
  answers_are = is.answers_are;
})
  where
    counted : old.turn ≡ 2 * length old.published + 1
    counted = is.turn ∙ ap (λ (o : Owner). 2 * length old.published + held_count o) move.holds
