-- Filling the next reply row, and publishing the round.
use Rattle.std.proofs.Common.{◌≡◌, ◌≢◌, ℕ, suc, ◌+◌, ◌*◌, ◌%◌, ◌<◌, ◌≤◌, ◌⊎◌, true, false, List, [], ◌∷◌, ◌++◌, length, Option, Some, None, IfSome, ap, subst, sym, refl, ◌∙◌, inl, inr, arith}
use Rattle.std.proofs.lemmas.Bool.{cases_eq, cases_Bool}
use Rattle.std.proofs.lemmas.List.{append-nil, append_assoc, length-append}
use Rattle.pb_object.specs.declared.kind.Kind.{Kind}
use Rattle.pb_object.specs.declared.request.Kept.{Kept}
use Rattle.pb_object.specs.declared.request.Reply.{Reply}
use Rattle.pb_object.specs.History.{Entry, Round, History, kept_by, state_after, IsLegal, IsLegalRound}
use Rattle.pb_object.specs.Standing.{Standing, keep, kept_list_of, newest, newest_of}
use Rattle.pb_events.specs.declared.event.Stepped.{Stepped}
use Rattle.pb_core.specs.Client.{Stage, Idle, Storing, Looking, LoadsNumber, LoadsCode, LoadsValue, LoadsExtra, Confirming, Lacking, Taking, Holding, is_announced, is_holding, Client, row_word, entry_by}
use Rattle.pb_core.specs.Memory.{Owner, Free, Held, Work, Filling, Recorded, Memory, with_at, with_client, clients_of, shown, known_standing, known_by, side_of_operation}
use Rattle.pb_core.specs.MemoryParts.{IsOneOf, IsClient, IsServed, HasEntries, HasFound, HasRead, IsFilled, HasFilled, HasScan, HasRows, IsMemory, AreAnswered, held_count, entries_with, own_entries, SuitsWork}
use Rattle.pb_core.specs.WordMoves.{go_to, answered, with_published, with_answer, with_row_word, StoresRow, PublishesOwn, PublishesOthers}
use Rattle.pb_core.proofs.Basics.{with_at-same, with_at-other, with_at-twice}
use Rattle.pb_core.proofs.Entries.{stands-more, stands-wider, stands-push, stands_in-before, answered-more, answered-push, dated-more, entries_in-push, one_with}
use Rattle.pb_core.proofs.Histories.{shape_after, keep_each, kept-round, legal-push, state_after-push}
use Rattle.pb_core.proofs.Movers.{ClientOf, move_client, move_answers}
use Rattle.pb_core.proofs.Stages.{announced_busy}
use Rattle.pb_core.proofs.Turns.{work_suits, suits_work, all_let_go, free≢held}
use Rattle.pb_core.proofs.Waiting.{looking_waits, waits_on, served_by_number, answers_served}

-- Filling

-- the words that are stored, where what the holder is at is known_standing
pub the_filled : {m : Memory} (count : ℕ) → IsMemory m → m.work ≡ Filling count → IsFilled (known_standing m) m.start.clients (length m.published) count m.rows
the_filled {m} count is at =
    subst (λ (w : Work). HasFilled w (known_standing m) m.start.clients (length m.published) m.rows) at is.filled

other_row : (rounds : ℕ) → rounds % 2 ≢ suc rounds % 2
other_row rounds e = omega (arith, e)

-- one word of a row is stored

row_with-here : (row d place word : ℕ) (rows : ℕ → ℕ → ℕ → ℕ) → with_row_word row d place word rows row d place ≡ word
row_with-here row d place word rows =
    ap (λ (f : ℕ → ℕ → ℕ). f d place) (with_at-same row (with_at d (with_at place word (rows row d)) (rows row)) rows)
    ∙ (ap (λ (f : ℕ → ℕ). f place) (with_at-same d (with_at place word (rows row d)) (rows row))
    ∙ with_at-same place word (rows row d))

row_with-client : (row d place word : ℕ) (rows : ℕ → ℕ → ℕ → ℕ) (c p : ℕ) → c ≢ d → with_row_word row d place word rows row c p ≡ rows row c p
row_with-client row d place word rows c p apart =
    ap (λ (f : ℕ → ℕ → ℕ). f c p) (with_at-same row (with_at d (with_at place word (rows row d)) (rows row)) rows)
    ∙ ap (λ (f : ℕ → ℕ). f p) (with_at-other d (with_at place word (rows row d)) (rows row) c apart)

row_with-place : (row d place word : ℕ) (rows : ℕ → ℕ → ℕ → ℕ) (p : ℕ) → p ≢ place → with_row_word row d place word rows row d p ≡ rows row d p
row_with-place row d place word rows p apart =
    ap (λ (f : ℕ → ℕ → ℕ). f d p) (with_at-same row (with_at d (with_at place word (rows row d)) (rows row)) rows)
    ∙ (ap (λ (f : ℕ → ℕ). f p) (with_at-same d (with_at place word (rows row d)) (rows row))
    ∙ with_at-other place word (rows row d) p apart)

pub keeps-filling : {old new : Memory} {c : ℕ} {answer : Stepped} → IsMemory old → StoresRow old c new answer → IsMemory new
keeps-filling {old} {new} {c} is move = subst IsMemory (sym move.is) (record {
  history = is.history;
  turn = is.turn;
  suits = suits_work old (Filling (suc (4 * move.d + move.place))) move.holds (work_suits (Filling (4 * move.d + move.place)) is move.holds move.at);
  low = is.low;
  cause = tt;
  clients = is.clients;
  rows = λ client place there few. ap (λ (f : ℕ → ℕ → ℕ). f client place) (with_at-other row (with_at move.d (with_at move.place word (old.rows row move.d)) (old.rows row)) old.rows (length old.published % 2) (other_row (length old.published))) ∙ is.rows client place there few;
  filled = record { few = omega (arith, move.there, move.few); stored = λ client place few below. stored client place few below (cases_eq client move.d) (cases_eq place move.place) };
  scan = subst (λ (o : Owner). HasScan o (Filling (suc (4 * move.d + move.place))) (shown old) old.start.clients old.requests) (sym move.holds) tt;
  answers_are = is.answers_are;
})
  where
    row : ℕ
    row = suc (length old.published) % 2

    word : ℕ
    word = row_word (newest_of (known_standing old) move.d) move.place

    before : IsFilled (known_standing old) old.start.clients (length old.published) (4 * move.d + move.place) old.rows
    before = the_filled (4 * move.d + move.place) is move.at

    stored : (client place : ℕ) → place < 4 → 4 * client + place < suc (4 * move.d + move.place) → (client ≡ move.d) ⊎ (client ≢ move.d) → (place ≡ move.place) ⊎ (place ≢ move.place) → with_row_word row move.d move.place word old.rows row client place ≡ row_word (newest_of (known_standing old) client) place
    stored client place few below (inl same) (inl here) =
        subst (λ (d : ℕ). with_row_word row move.d move.place word old.rows row d place ≡ row_word (newest_of (known_standing old) d) place) (sym same) (subst (λ (p : ℕ). with_row_word row move.d move.place word old.rows row move.d p ≡ row_word (newest_of (known_standing old) move.d) p) (sym here) (row_with-here row move.d move.place word old.rows))
    stored client place few below (inl same) (inr apart) =
        let earlier : 4 * move.d + place < 4 * move.d + move.place = omega (arith, same, below, apart) in
        subst (λ (d : ℕ). with_row_word row move.d move.place word old.rows row d place ≡ row_word (newest_of (known_standing old) d) place) (sym same) (row_with-place row move.d move.place word old.rows place apart ∙ before.stored move.d place few earlier)
    stored client place few below (inr apart) here =
        row_with-client row move.d move.place word old.rows client place apart ∙ before.stored client place few (omega (arith, below, apart, few, move.few))

-- Publishing

-- what was found counts no more after another round
later_found : {turn rounds : ℕ} {A B : Type 0} → HasFound turn rounds A → HasFound turn (suc rounds) B
later_found {turn} {rounds} found = record {
  front = omega (arith, found.front);
  same_round = λ same. absurd (omega (arith, found.front, same));
}

read_later : (kept next : Kept) (rounds number : ℕ) (stage : Stage) → HasRead kept rounds number stage → HasRead next (suc rounds) number stage
read_later kept next rounds number Idle read = tt
read_later kept next rounds number (Storing count) read = read
read_later kept next rounds number Looking read = tt
read_later kept next rounds number (LoadsNumber turn) read = omega (arith, read)
read_later kept next rounds number (LoadsCode turn) read = later_found read
read_later kept next rounds number (LoadsValue turn code) read = later_found read
read_later kept next rounds number (LoadsExtra turn code value) read = later_found read
read_later kept next rounds number (Confirming turn reply) read = later_found read
read_later kept next rounds number (Lacking turn found) read = (later_found read.0, read.1, read.2)
read_later kept next rounds number (Taking turn found) read = (later_found read.0, read.1, read.2)
read_later kept next rounds number Holding read = tt

-- a client's entries after the round
publishes_entries : {c : ℕ} {published : History} {round : Round} {list next : List Kept} {b : Client} → next ≡ keep_each (entries_with c round.entries) list → is_holding b.stage ≡ false → (is_announced b.stage ≡ true → b.after ≤ length published) → HasEntries c published (Some round) list b → HasEntries c (published ++ round ∷ []) None next b
publishes_entries {c} {published} {round} {list} {next} {b} kept waiting low (inl clear) = inl (record {
  told = entries_in-push c published round ∙ ((λ i. clear.told i ++ clear.none i) ∙ append-nil (own_entries b));
  none = refl;
  kept = kept ∙ (ap (λ (l : List Entry). keep_each l list) clear.none ∙ clear.kept);
})
publishes_entries {c} {published} {round} {list} {next} {b} kept waiting low (inr (inl coming)) = inr (inr (record {
  reply = coming.reply;
  announced = coming.announced;
  waiting = waiting;
  told = entries_in-push c published round ∙ (λ i. coming.told i ++ coming.one i);
  none = refl;
  kept = kept ∙ (ap (λ (l : List Entry). keep_each l list) coming.one ∙ ap (keep (kept_by (entry_by b.ask coming.reply))) coming.kept);
  dated = stands-push published round b.after (entry_by b.ask coming.reply) (low coming.announced) (one_with c round.entries (entry_by b.ask coming.reply) (subst (IsOneOf (entry_by b.ask coming.reply)) (sym coming.one) (inl refl)));
}))
publishes_entries {c} {published} {round} {list} {next} {b} kept waiting low (inr (inr served)) = inr (inr (record {
  reply = served.reply;
  announced = served.announced;
  waiting = waiting;
  told = entries_in-push c published round ∙ ((λ i. served.told i ++ served.none i) ∙ append-nil (own_entries b ++ entry_by b.ask served.reply ∷ []));
  none = refl;
  kept = kept ∙ (ap (λ (l : List Entry). keep_each l list) served.none ∙ served.kept);
  dated = stands-wider b.after (length (published ++ round ∷ [])) (omega arith) (omega (arith, length-append published (round ∷ []))) (stands-more (round ∷ []) served.dated);
}))

long : (published : History) (round : Round) → length (published ++ round ∷ []) ≡ suc (length published)
long published round = omega (arith, length-append published (round ∷ []))

-- a client that doesn't hold the turn, after the round
publishes_client : {kind : Kind} {list next : List Kept} {published : History} {round : Round} {words : ℕ → ℕ} {c : ℕ} {b : Client} → next ≡ keep_each (entries_with c round.entries) list → IsClient kind list published (Some round) Free words c b → IsClient kind next (published ++ round ∷ []) None Free words c b
publishes_client {kind} {list} {next} {published} {round} {words} {c} {b} kept is = record {
  holding = is.holding;
  holder = is.holder;
  rests = is.rests;
  asking = is.asking;
  has_words = is.has_words;
  front = omega (arith, is.front, long published round);
  read = subst (λ (n : ℕ). HasRead (newest next) n b.ask.number b.stage) (sym (long published round)) (read_later (newest list) (newest next) (length published) b.ask.number b.stage is.read);
  entries = publishes_entries kept free low is.entries;
  dates = dated-more published (round ∷ []) b.mine is.dates;
}
  where
    free : is_holding b.stage ≡ false
    free = elim (cases_Bool (is_holding b.stage)) [
      | inl e ↦ absurd (free≢held c (side_of_operation b.ask.op) (is.holding e))
      | inr e ↦ e
    ]

    low : is_announced b.stage ≡ true → b.after ≤ length published
    low e = omega (arith, (is.asking (announced_busy b.stage e)).after, is.front)

-- memory after the round is published, and the holder looks again
abbrev let_go : ℕ → Round → Memory → Memory
let_go c round m = with_client c (go_to Looking (m.book c)) (with_published round m)

-- what is kept of a client then
published_kept : {m : Memory} (round : Round) → IsMemory m → m.ahead ≡ Some round → (d : ℕ) → d < m.start.clients → kept_list_of (shown (with_published round m)) d ≡ keep_each (entries_with d round.entries) (kept_list_of (shown m) d)
published_kept {m} round is ahead d there =
    ap (λ (s : Standing). kept_list_of s d) (state_after-push m.start m.past m.published round)
    ∙ kept-round (shown m) round d (omega (arith, there, is.history.keeps, (shape_after m.start (m.past ++ m.published)).lists))

-- the standing that is known_standing for sure is the one that is shown then
published_known : (m : Memory) (round : Round) → m.engine ≡ Recorded → m.ahead ≡ Some round → known_standing m ≡ shown (with_published round m)
published_known m round engine ahead =
    (λ i. known_by (engine i) (ahead i) (shown m)) ∙ sym (state_after-push m.start m.past m.published round)

publish : {m : Memory} {c side : ℕ} (round : Round) → IsMemory m → c < m.start.clients → m.owner ≡ Held c side → m.work ≡ Filling (4 * m.start.clients) → m.ahead ≡ Some round → IsMemory (let_go c round m)
publish {m} {c} {side} round is there holds at ahead = record {
  history = record { keeps = is.history.keeps; legal = legal; next = tt };
  turn = omega (arith, counted, long m.published round);
  suits = (refl, inl (refl, refl));
  low = is.low;
  cause = tt;
  clients = clients;
  rows = rows;
  filled = tt;
  scan = tt;
  answers_are = subst (λ (h : History). AreAnswered h m.answers) (append_assoc m.past m.published (round ∷ [])) (answered-more (m.past ++ m.published) (round ∷ []) m.answers is.answers_are);
}
  where
    suits : SuitsWork (Filling (4 * m.start.clients)) m.engine m.ahead
    suits = work_suits (Filling (4 * m.start.clients)) is holds at

    counted : m.turn ≡ 2 * length m.published + 1
    counted = is.turn ∙ ap (λ (o : Owner). 2 * length m.published + held_count o) holds

    next : IsLegalRound (state_after m.start (m.past ++ m.published)) round
    next = subst (λ (a : Option Round). IfSome a (IsLegalRound (state_after m.start (m.past ++ m.published)))) ahead is.history.next

    legal : IsLegal m.start (m.past ++ (m.published ++ round ∷ []))
    legal = subst (IsLegal m.start) (append_assoc m.past m.published (round ∷ [])) (legal-push m.start (m.past ++ m.published) round is.history.legal next)

    clients : (d : ℕ) → d < m.start.clients → IsClient m.start.kind (kept_list_of (shown (with_published round m)) d) (m.published ++ round ∷ []) None Free (m.requests d) d (with_at c (go_to Looking (m.book c)) m.book d)
    clients d inside =
        publishes_client (published_kept round is ahead d inside) (subst (λ (a : Option Round). IsClient m.start.kind (kept_list_of (shown m) d) m.published a Free (m.requests d) d (with_at c (go_to Looking (m.book c)) m.book d)) ahead (all_let_go is there holds d inside))

    filled : IsFilled (known_standing m) m.start.clients (length m.published) (4 * m.start.clients) m.rows
    filled = the_filled (4 * m.start.clients) is at

    rows : HasRows (shown (with_published round m)) m.start.clients (length (m.published ++ round ∷ [])) m.rows
    rows d place inside few =
        ap (λ (n : ℕ). m.rows (n % 2) d place) (long m.published round)
        ∙ (filled.stored d place few (omega (arith, inside, few))
        ∙ ap (λ (s : Standing). row_word (newest_of s d) place) (published_known m round suits.0 ahead))

-- the holder moves on from there
after_publishing : (m : Memory) (c : ℕ) (round : Round) (b : Client) → IsMemory (let_go c round m) → ClientOf (with_published round m) c b → IsMemory (with_client c b (with_published round m))
after_publishing m c round b is client =
    subst (λ (book : ℕ → Client). IsMemory (record (with_published round m) { book = book })) (with_at-twice c b (go_to Looking (m.book c)) m.book) (move_client c b is client)

-- the holder in it
own_after : (m : Memory) (c : ℕ) (round : Round) → IsMemory (let_go c round m) → c < m.start.clients → ClientOf (with_published round m) c (go_to Looking (m.book c))
own_after m c round is there =
    subst (ClientOf (with_published round m) c) (with_at-same c (go_to Looking (m.book c)) m.book) (is.clients c there)

pub keeps-publishing_others : {old new : Memory} {c : ℕ} {answer : Stepped} → IsMemory old → c < old.start.clients → PublishesOthers old c new answer → IsMemory new
keeps-publishing_others {old} {new} {c} is there move =
    subst IsMemory (sym move.is) (after_publishing old c move.round (record b { stage = Looking; front = suc (length old.published) }) after (waits_on Looking (suc (length old.published)) own looking_waits looking_waits (omega (arith, (is.clients c there).front)) (omega (arith, long old.published move.round)) tt))
  where
    b : Client
    b = old.book c

    after : IsMemory (let_go c move.round old)
    after = publish move.round is there move.holds move.at move.ahead

    own : ClientOf (with_published move.round old) c (go_to Looking b)
    own = own_after old c move.round after there

pub keeps-publishing_own : {old new : Memory} {c : ℕ} {answer : Stepped} → IsMemory old → c < old.start.clients → PublishesOwn old c new answer → IsMemory new
keeps-publishing_own {old} {new} {c} is there move =
    subst IsMemory (sym move.is) (subst Answered (long old.published move.round) (subst (λ (r : Reply). IsMemory (with_answer c r (length (old.published ++ move.round ∷ [])) (with_published move.round old))) reply answers))
  where
    b : Client
    b = old.book c

    Answered : ℕ → Type 0
    Answered front = IsMemory (with_answer c (newest_of (known_standing old) c).reply front (with_published move.round old))

    after : IsMemory (let_go c move.round old)
    after = publish move.round is there move.holds move.at move.ahead

    own : ClientOf (with_published move.round old) c (go_to Looking b)
    own = own_after old c move.round after there

    known_is : known_standing old ≡ shown (with_published move.round old)
    known_is =
        published_known old move.round (work_suits (Filling (4 * clients_of old)) is move.holds move.at).0 move.ahead

    served : IsServed c (old.published ++ move.round ∷ []) None (kept_list_of (shown (with_published move.round old)) c) (go_to Looking b)
    served =
        served_by_number own refl (ap (λ (s : Standing). (newest_of s c).number) (sym known_is) ∙ move.own)

    reply : served.reply ≡ (newest_of (known_standing old) c).reply
    reply =
        sym (ap (λ (l : List Kept). (newest l).reply) served.kept) ∙ ap (λ (s : Standing). (newest_of s c).reply) (sym known_is)

    client : ClientOf (with_published move.round old) c (answered served.reply (length (old.published ++ move.round ∷ [])) b)
    client = answers_served served own (λ side e. free≢held c side e)

    moved : IsMemory (with_client c (answered served.reply (length (old.published ++ move.round ∷ [])) b) (with_published move.round old))
    moved =
        after_publishing old c move.round (answered served.reply (length (old.published ++ move.round ∷ [])) b) after client

    answers : IsMemory (with_answer c served.reply (length (old.published ++ move.round ∷ [])) (with_published move.round old))
    answers =
        move_answers (old.answers ++ entry_by b.ask served.reply ∷ []) moved (answered-push (old.past ++ (old.published ++ move.round ∷ [])) old.answers (entry_by b.ask served.reply) after.answers_are (stands_in-before old.past (omega arith) served.dated))
