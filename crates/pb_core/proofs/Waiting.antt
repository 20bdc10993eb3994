-- The moves of a client that waits for its reply: it alone moves.
use Rattle.std.proofs.Common.{◌≡◌, ℕ, ◌+◌, ◌%◌, ◌<◌, ◌≤◌, true, false, List, [], ◌∷◌, ◌++◌, length, Option, ap, subst, sym, refl, ◌∙◌, inl, inr, arith}
use Rattle.std.proofs.lemmas.Bool.{false≢true, true≢false}
use Rattle.std.proofs.lemmas.List.{map-append}
use Rattle.pb_object.specs.declared.kind.Kind.{Kind}
use Rattle.pb_object.specs.declared.request.Kept.{Kept}
use Rattle.pb_object.specs.declared.request.Reply.{Reply}
use Rattle.pb_object.specs.History.{Round, History}
use Rattle.pb_object.specs.Standing.{kept_list_of, newest, newest_of}
use Rattle.pb_events.specs.declared.event.Stepped.{Stepped}
use Rattle.pb_core.specs.Client.{Stage, Looking, LoadsNumber, LoadsCode, LoadsValue, LoadsExtra, Confirming, Lacking, Taking, is_idle, is_announced, is_holding, stored_words, Client, row_word, entry_by}
use Rattle.pb_core.specs.Memory.{Owner, Free, Held, Closed, Memory, with_client, shown, round_of_turn}
use Rattle.pb_core.specs.MemoryParts.{IsClient, IsServed, HasEntries, HasRead, IsMemory, held_count, dated_entry}
use Rattle.pb_core.specs.WordMoves.{go_to, sees, own_row, answered, FindsTurn, FindsNumber, LacksWhileHeld, LacksWhileFree, FindsCode, FindsValue, FindsExtra, TakesReply, FindsNewRound, FindsHeld, MissesTurn}
use Rattle.pb_core.proofs.Entries.{stands_in-before, answered-push, dated-push}
use Rattle.pb_core.proofs.Movers.{OwnClient, move_client, move_answers}

-- The turn word

pub held-small : (owner : Owner) → held_count owner ≤ 1
held-small Free = omega arith
held-small (Held c side) = omega arith
held-small Closed = omega arith

-- it counts the published rounds
pub turn_rounds : {m : Memory} → IsMemory m → round_of_turn m.turn ≡ length m.published
turn_rounds {m} is = omega (arith, is.turn, held-small m.owner)

-- Stages

-- a client waits: its request is announced, and it doesn't hold the turn
pub record IsWaiting (stage : Stage) : Type 0 where
  pub announced : is_announced stage ≡ true
  pub free : is_holding stage ≡ false
  pub busy : is_idle stage ≡ false
  pub all : stored_words stage ≡ 4

pub waits_at : (stage : Stage) {now : Stage} → now ≡ stage → IsWaiting stage → IsWaiting now
waits_at stage at waiting = subst IsWaiting (sym at) waiting

entries_same : {c : ℕ} {published : History} {ahead : Option Round} {list : List Kept} {b : Client} (stage : Stage) (front : ℕ) → is_announced stage ≡ true → is_holding stage ≡ false → HasEntries c published ahead list b → HasEntries c published ahead list (record b { stage = stage; front = front })
entries_same stage front announced free (inl clear) =
    inl (record { told = clear.told; none = clear.none; kept = clear.kept })
entries_same stage front announced free (inr (inl coming)) =
    inr (inl (record { reply = coming.reply; announced = announced; told = coming.told; one = coming.one; kept = coming.kept }))
entries_same stage front announced free (inr (inr served)) = inr (inr (record {
  reply = served.reply;
  announced = announced;
  waiting = free;
  told = served.told;
  none = served.none;
  kept = served.kept;
  dated = served.dated;
}))

-- a waiting client goes on waiting
pub waits_on : {kind : Kind} {list : List Kept} {published : History} {ahead : Option Round} {owner : Owner} {words : ℕ → ℕ} {c : ℕ} {b : Client} (stage : Stage) (front : ℕ) → IsClient kind list published ahead owner words c b → IsWaiting b.stage → IsWaiting stage → b.front ≤ front → front ≤ length published → HasRead (newest list) (length published) b.ask.number stage → IsClient kind list published ahead owner words c (record b { stage = stage; front = front })
waits_on {kind} {list} {published} {ahead} {owner} {words} {c} {b} stage front is before next low high read =
    let asking = is.asking before.busy in
    record {
      holding = λ e. absurd (false≢true (sym next.free ∙ e));
      holder = λ side e. absurd (false≢true (sym before.free ∙ is.holder side e));
      rests = λ e. absurd (false≢true (sym before.busy ∙ is.rests e));
      asking = λ _. record { client = asking.client; number = asking.number; few = asking.few; operation = asking.operation; after = omega (arith, asking.after, low) };
      has_words = record {
        stored = λ place some few. is.has_words.stored place some (omega (arith, few, before.all, next.all));
        announced = λ _. is.has_words.announced before.announced;
        quiet = λ e. absurd (true≢false (sym next.announced ∙ e));
      };
      front = high;
      read = read;
      entries = entries_same stage front next.announced next.free is.entries;
      dates = is.dates;
    }

is_waiting : {stage : Stage} → is_announced stage ≡ true → is_holding stage ≡ false → is_idle stage ≡ false → stored_words stage ≡ 4 → IsWaiting stage
is_waiting announced free busy all =
    record { announced = announced; free = free; busy = busy; all = all }

pub looking_waits : IsWaiting Looking
looking_waits = is_waiting refl refl refl refl

number_waits : (turn : ℕ) → IsWaiting (LoadsNumber turn)
number_waits turn = is_waiting refl refl refl refl

code_waits : (turn : ℕ) → IsWaiting (LoadsCode turn)
code_waits turn = is_waiting refl refl refl refl

value_waits : (turn code : ℕ) → IsWaiting (LoadsValue turn code)
value_waits turn code = is_waiting refl refl refl refl

extra_waits : (turn code value : ℕ) → IsWaiting (LoadsExtra turn code value)
extra_waits turn code value = is_waiting refl refl refl refl

confirming_waits : (turn : ℕ) (reply : Reply) → IsWaiting (Confirming turn reply)
confirming_waits turn reply = is_waiting refl refl refl refl

lacking_waits : (turn found : ℕ) → IsWaiting (Lacking turn found)
lacking_waits turn found = is_waiting refl refl refl refl

pub taking_waits : (turn found : ℕ) → IsWaiting (Taking turn found)
taking_waits turn found = is_waiting refl refl refl refl

-- what is read at a stage that is known
pub read_at : (m : Memory) (c : ℕ) (stage : Stage) → OwnClient m c → (m.book c).stage ≡ stage → HasRead (newest_of (shown m) c) (length m.published) (m.book c).ask.number stage
read_at m c stage own at =
    subst (HasRead (newest_of (shown m) c) (length m.published) (m.book c).ask.number) at own.read

-- Moves of one client

-- it goes on to another stage
wait : {m : Memory} {c : ℕ} (here stage : Stage) → IsMemory m → c < m.start.clients → (m.book c).stage ≡ here → IsWaiting here → IsWaiting stage → HasRead (newest_of (shown m) c) (length m.published) (m.book c).ask.number stage → IsMemory (with_client c (go_to stage (m.book c)) m)
wait {m} {c} here stage is there at before next read =
    let own = is.clients c there in
    move_client c (go_to stage (m.book c)) is (waits_on stage (m.book c).front own (waits_at here at before) next (omega arith) own.front read)

-- it looks at the turn
look : {m : Memory} {c : ℕ} (here stage : Stage) → IsMemory m → c < m.start.clients → (m.book c).stage ≡ here → IsWaiting here → IsWaiting stage → HasRead (newest_of (shown m) c) (length m.published) (m.book c).ask.number stage → IsMemory (with_client c (sees stage m.turn (m.book c)) m)
look {m} {c} here stage is there at before next read =
    let own = is.clients c there in
    let rounds : round_of_turn m.turn ≡ length m.published = turn_rounds is in
    move_client c (sees stage m.turn (m.book c)) is (waits_on stage (round_of_turn m.turn) own (waits_at here at before) next (omega (arith, rounds, own.front)) (omega (arith, rounds)) read)

-- the word that it finds in its published row, where no round was published since
row_found : {m : Memory} {c : ℕ} (turn place : ℕ) → IsMemory m → c < m.start.clients → place < 4 → round_of_turn turn ≡ length m.published → row_word (newest_of (shown m) c) place ≡ own_row m turn c place
row_found {m} {c} turn place is there few same =
    sym (ap (λ (q : ℕ). m.rows (q % 2) c place) same ∙ is.rows c place there few)

pub keeps-looking : {old new : Memory} {c : ℕ} {answer : Stepped} → IsMemory old → c < old.start.clients → FindsTurn old c new answer → IsMemory new
keeps-looking {old} {new} {c} is there move =
    subst IsMemory (sym move.is) (look Looking (LoadsNumber old.turn) is there move.at looking_waits (number_waits old.turn) (omega (arith, turn_rounds is)))

pub keeps-matching : {old new : Memory} {c : ℕ} {answer : Stepped} → IsMemory old → c < old.start.clients → FindsNumber old c new answer → IsMemory new
keeps-matching {old} {new} {c} is there move =
    subst IsMemory (sym move.is) (wait (LoadsNumber move.turn) (LoadsCode move.turn) is there move.at (number_waits move.turn) (code_waits move.turn) (record {
      front = read_at old c (LoadsNumber move.turn) (is.clients c there) move.at;
      same_round = λ same. row_found move.turn 0 is there (omega arith) same ∙ move.own;
    }))

pub keeps-lacking_held : {old new : Memory} {c : ℕ} {answer : Stepped} → IsMemory old → c < old.start.clients → LacksWhileHeld old c new answer → IsMemory new
keeps-lacking_held {old} {new} {c} is there move =
    let found = own_row old move.turn c 0 in
    subst IsMemory (sym move.is) (wait (LoadsNumber move.turn) (Lacking move.turn found) is there move.at (number_waits move.turn) (lacking_waits move.turn found) (record { front = read_at old c (LoadsNumber move.turn) (is.clients c there) move.at; same_round = row_found move.turn 0 is there (omega arith) }, move.other, move.held))

pub keeps-lacking_free : {old new : Memory} {c : ℕ} {answer : Stepped} → IsMemory old → c < old.start.clients → LacksWhileFree old c new answer → IsMemory new
keeps-lacking_free {old} {new} {c} is there move =
    let found = own_row old move.turn c 0 in
    subst IsMemory (sym move.is) (wait (LoadsNumber move.turn) (Taking move.turn found) is there move.at (number_waits move.turn) (taking_waits move.turn found) (record { front = read_at old c (LoadsNumber move.turn) (is.clients c there) move.at; same_round = row_found move.turn 0 is there (omega arith) }, move.other, move.free))

pub keeps-loading_code : {old new : Memory} {c : ℕ} {answer : Stepped} → IsMemory old → c < old.start.clients → FindsCode old c new answer → IsMemory new
keeps-loading_code {old} {new} {c} is there move =
    let before = read_at old c (LoadsCode move.turn) (is.clients c there) move.at in
    let code = own_row old move.turn c 1 in
    subst IsMemory (sym move.is) (wait (LoadsCode move.turn) (LoadsValue move.turn code) is there move.at (code_waits move.turn) (value_waits move.turn code) (record { front = before.front; same_round = λ same. (before.same_round same, row_found move.turn 1 is there (omega arith) same) }))

pub keeps-loading_value : {old new : Memory} {c : ℕ} {answer : Stepped} → IsMemory old → c < old.start.clients → FindsValue old c new answer → IsMemory new
keeps-loading_value {old} {new} {c} is there move =
    let before = read_at old c (LoadsValue move.turn move.code) (is.clients c there) move.at in
    let value = own_row old move.turn c 2 in
    subst IsMemory (sym move.is) (wait (LoadsValue move.turn move.code) (LoadsExtra move.turn move.code value) is there move.at (value_waits move.turn move.code) (extra_waits move.turn move.code value) (record { front = before.front; same_round = λ same. ((before.same_round same).0, (before.same_round same).1, row_found move.turn 2 is there (omega arith) same) }))

-- a reply whose words are these
reply_is : (reply : Reply) (code value extra : ℕ) → reply.code ≡ code → reply.value ≡ value → reply.extra ≡ extra → reply ≡ record { code = code; value = value; extra = extra }
reply_is reply code value extra c v e = λ i. record { code = c i; value = v i; extra = e i }

pub keeps-loading_extra : {old new : Memory} {c : ℕ} {answer : Stepped} → IsMemory old → c < old.start.clients → FindsExtra old c new answer → IsMemory new
keeps-loading_extra {old} {new} {c} is there move =
    let before = read_at old c (LoadsExtra move.turn move.code move.value) (is.clients c there) move.at in
    let extra = own_row old move.turn c 3 in
    let reply : Reply = record { code = move.code; value = move.value; extra = extra } in
    subst IsMemory (sym move.is) (wait (LoadsExtra move.turn move.code move.value) (Confirming move.turn reply) is there move.at (extra_waits move.turn move.code move.value) (confirming_waits move.turn reply) (record {
      front = before.front;
      same_round = λ same. ((before.same_round same).0, reply_is (newest_of (shown old) c).reply move.code move.value extra (before.same_round same).1 (before.same_round same).2 (row_found move.turn 3 is there (omega arith) same));
    }))

pub keeps-finding_new : {old new : Memory} {c : ℕ} {answer : Stepped} → IsMemory old → c < old.start.clients → FindsNewRound old c new answer → IsMemory new
keeps-finding_new {old} {new} {c} is there move =
    subst IsMemory (sym move.is) (look (Confirming move.turn move.reply) Looking is there move.at (confirming_waits move.turn move.reply) looking_waits tt)

pub keeps-finding_held : {old new : Memory} {c : ℕ} {answer : Stepped} → IsMemory old → c < old.start.clients → FindsHeld old c new answer → IsMemory new
keeps-finding_held {old} {new} {c} is there move =
    subst IsMemory (sym move.is) (look (Lacking move.turn move.found) Looking is there move.at (lacking_waits move.turn move.found) looking_waits tt)

pub keeps-missing : {old new : Memory} {c : ℕ} {answer : Stepped} → IsMemory old → c < old.start.clients → MissesTurn old c new answer → IsMemory new
keeps-missing {old} {new} {c} is there move =
    subst IsMemory (sym move.is) (look (Taking move.turn move.found) Looking is there move.at (taking_waits move.turn move.found) looking_waits tt)

-- The answer

-- its number is the published one: then its request is published
pub served_by_number : {kind : Kind} {list : List Kept} {published : History} {ahead : Option Round} {owner : Owner} {words : ℕ → ℕ} {c : ℕ} {b : Client} → IsClient kind list published ahead owner words c b → is_idle b.stage ≡ false → (newest list).number ≡ b.ask.number → IsServed c published ahead list b
served_by_number {kind} {list} {published} {ahead} {owner} {words} {c} {b} is busy same = go is.entries
  where
    never : list ≡ b.kept → ⊥
    never kept =
        let next : b.ask.number ≡ (newest b.kept).number + 1 = (is.asking busy).number in
        let number : (newest list).number ≡ (newest b.kept).number = ap (λ (l : List Kept). (newest l).number) kept in
        omega (arith, next, number, same)

    go : HasEntries c published ahead list b → IsServed c published ahead list b
    go (inl clear) = absurd (never clear.kept)
    go (inr (inl coming)) = absurd (never coming.kept)
    go (inr (inr served)) = served

-- a client whose request is published is answered
pub answers_served : {kind : Kind} {list : List Kept} {published : History} {ahead : Option Round} {owner : Owner} {words : ℕ → ℕ} {c : ℕ} {b : Client} (served : IsServed c published ahead list b) → IsClient kind list published ahead owner words c b → ((side : ℕ) → ¬ (owner ≡ Held c side)) → IsClient kind list published ahead owner words c (answered served.reply (length published) b)
answers_served {kind} {list} {published} {ahead} {owner} {words} {c} {b} served is free = record {
  holding = λ e. absurd (false≢true e);
  holder = λ side e. absurd (free side e);
  rests = λ _. refl;
  asking = λ e. absurd (true≢false e);
  has_words = record {
    stored = λ place some few. absurd (omega arith);
    announced = λ e. absurd (false≢true e);
    quiet = λ _. omega (arith, is.has_words.announced served.announced);
  };
  front = omega arith;
  read = tt;
  entries = inl (record {
    told = served.told ∙ sym (map-append dated_entry b.mine (record { entry = entry_by b.ask served.reply; after = b.after; by = length published } ∷ []));
    none = served.none;
    kept = served.kept;
  });
  dates = dated-push published b.mine (record { entry = entry_by b.ask served.reply; after = b.after; by = length published }) is.dates served.dated;
}

pub keeps-confirming : {old new : Memory} {c : ℕ} {answer : Stepped} → IsMemory old → c < old.start.clients → TakesReply old c new answer → IsMemory new
keeps-confirming {old} {new} {c} is there move =
    subst IsMemory (sym move.is) (subst (λ (q : ℕ). IsMemory (record (with_client c (answered move.reply q b) old) { answers = old.answers ++ entry_by b.ask move.reply ∷ [] })) (sym rounds) (subst (λ (r : Reply). IsMemory (record (with_client c (answered r (length old.published) b) old) { answers = old.answers ++ entry_by b.ask r ∷ [] })) reply whole))
  where
    b : Client
    b = old.book c

    own : OwnClient old c
    own = is.clients c there

    rounds : round_of_turn old.turn ≡ length old.published
    rounds = turn_rounds is

    waiting : IsWaiting b.stage
    waiting = waits_at (Confirming move.turn move.reply) move.at (confirming_waits move.turn move.reply)

    found : ((newest_of (shown old) c).number ≡ b.ask.number) × ((newest_of (shown old) c).reply ≡ move.reply)
    found =
        (read_at old c (Confirming move.turn move.reply) own move.at).same_round (sym move.same ∙ rounds)

    served : IsServed c old.published old.ahead (kept_list_of (shown old) c) b
    served = served_by_number own waiting.busy found.0

    reply : served.reply ≡ move.reply
    reply = sym (ap (λ (l : List Kept). (newest l).reply) served.kept) ∙ found.1

    moved : IsMemory (with_client c (answered served.reply (length old.published) b) old)
    moved =
        move_client c (answered served.reply (length old.published) b) is (answers_served served own (λ side e. false≢true (sym waiting.free ∙ own.holder side e)))

    whole : IsMemory (record (with_client c (answered served.reply (length old.published) b) old) { answers = old.answers ++ entry_by b.ask served.reply ∷ [] })
    whole =
        move_answers (old.answers ++ entry_by b.ask served.reply ∷ []) moved (answered-push (old.past ++ old.published) old.answers (entry_by b.ask served.reply) is.answers_are (stands_in-before old.past (omega arith) served.dated))
