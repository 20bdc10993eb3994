-- A client stores its request, is answered, and takes the turn.
use Rattle.std.proofs.Common.{◌≡◌, ◌≢◌, ℕ, zero, suc, ◌+◌, ◌%◌, ◌<◌, ◌≤◌, ◌⊎◌, length, [], ◌∷◌, ◌++◌, None, ap, subst, sym, refl, ◌∙◌, inl, inr, arith, add-one}
use Rattle.std.proofs.lemmas.Bool.{cases_eq}
use Rattle.pb_object.specs.declared.request.Ask.{Ask}
use Rattle.pb_object.specs.declared.request.Reply.{Reply}
use Rattle.pb_object.specs.Standing.{kept_list_of, newest}
use Rattle.pb_pmem.specs.Count.{last_count}
use Rattle.pb_events.specs.declared.event.Stepped.{Stepped}
use Rattle.pb_events.specs.declared.event.Stepped.TheVariants.{Went, Done}
use Rattle.pb_core.specs.Client as core
use Rattle.pb_core.specs.Client.{ask_word, entry_by}
use Rattle.pb_core.specs.Memory.{Memory, Held, with_at, clients_of, shown, round_of_turn, side_of_operation}
use Rattle.pb_core.specs.Memory as core_memory
use Rattle.pb_core.specs.MemoryParts.{IsMemory, HasRead}
use Rattle.pb_core.specs.WordMoves.{go_to, answered, steps_to, storing, announcing, confirming, taking_sure, taking_unsure}
use Rattle.pb_core.proofs.Basics.{with_at-same, with_at-other}
use Rattle.pb_core.proofs.Turns.{free_suits, taken_free}
use Rattle.pb_play.specs.declared.memory.Memory.{Memory as CodeMemory}
use Rattle.pb_round_play.specs.declared.seat.Seat.{Seat}
use Rattle.pb_round_play.specs.declared.seat.Stage.TheVariants.{Idle, Storing, Looking, Confirming, Taking, Holding}
use Rattle.pb_play.specs.declared.work.Knowledge.{Knowledge}
use Rattle.pb_play.specs.declared.work.Knowledge.TheVariants.{Resting, Recorded, Writing, Doubtful}
use Rattle.pb_play.specs.Maps.{stored_ask, work_of, engine_of}
use Rattle.pb_round_play.specs.Counts.{counted}
use Rattle.pb_play.specs.Seats.{seat_of, op_with_word, stores, announces, is_answered, first_work, takes}
use Rattle.pb_play.specs.Shown.{ShowsSeat, rows_for, ShowsMemory}
use Rattle.pb_play.specs.Steps.{StepsTo, MakesWordStep}
use Rattle.pb_play.proofs.Clients.{shows_client, shows_words, shows_stage, word_step}
use Rattle.pb_play.proofs.Waiting.{stands_at}

-- Storing

-- the word that is stored, ..
own_word : (seat : Seat) (count : ℕ) → count < 4 → ask_word seat.ask (suc count) ≡ ask_word (stored_ask (record seat { op = op_with_word count seat.ask.op seat.op })) (suc count)
own_word seat zero few = refl
own_word seat (suc zero) few = refl
own_word seat (suc (suc zero)) few = refl
own_word seat (suc (suc (suc zero))) few = refl
own_word seat (suc (suc (suc (suc more)))) few = absurd (omega (arith, few))

-- .. and the others
other_word : (seat : Seat) (count place : ℕ) → count < 4 → place < 5 → place ≢ suc count → ask_word (stored_ask seat) place ≡ ask_word (stored_ask (record seat { op = op_with_word count seat.ask.op seat.op })) place
other_word seat zero zero few small apart = refl
other_word seat zero (suc zero) few small apart = absurd (apart refl)
other_word seat zero (suc (suc zero)) few small apart = refl
other_word seat zero (suc (suc (suc zero))) few small apart = refl
other_word seat zero (suc (suc (suc (suc more)))) few small apart = refl
other_word seat (suc zero) zero few small apart = refl
other_word seat (suc zero) (suc zero) few small apart = refl
other_word seat (suc zero) (suc (suc zero)) few small apart = absurd (apart refl)
other_word seat (suc zero) (suc (suc (suc zero))) few small apart = refl
other_word seat (suc zero) (suc (suc (suc (suc more)))) few small apart = refl
other_word seat (suc (suc zero)) zero few small apart = refl
other_word seat (suc (suc zero)) (suc zero) few small apart = refl
other_word seat (suc (suc zero)) (suc (suc zero)) few small apart = refl
other_word seat (suc (suc zero)) (suc (suc (suc zero))) few small apart = absurd (apart refl)
other_word seat (suc (suc zero)) (suc (suc (suc (suc more)))) few small apart = refl
other_word seat (suc (suc (suc zero))) zero few small apart = refl
other_word seat (suc (suc (suc zero))) (suc zero) few small apart = refl
other_word seat (suc (suc (suc zero))) (suc (suc zero)) few small apart = refl
other_word seat (suc (suc (suc zero))) (suc (suc (suc zero))) few small apart = refl
other_word seat (suc (suc (suc zero))) (suc (suc (suc (suc zero)))) few small apart = absurd (apart refl)
other_word seat (suc (suc (suc zero))) (suc (suc (suc (suc (suc more))))) few small apart = absurd (omega (arith, small))
other_word seat (suc (suc (suc (suc more)))) place few small apart = absurd (omega (arith, few))

pub stores_word : {old new : CodeMemory} {answer : Stepped} (c count : ℕ) → (seat_of old c).stage ≡ Storing count → count < 4 → new ≡ stores c count old → answer ≡ Went → MakesWordStep old c new answer
stores_word {old} {new} c count at few after says m s sound fits running within =
    let before = s.clients c within in
    let seat : Seat = seat_of old c in
    word_step c (stores c count old)
    (shows_words c (record seat { stage = Storing (count + 1); op = op_with_word count seat.ask.op seat.op }) (go_to (core.Storing (suc count)) (m.book c)) (with_at (suc count) (ask_word (m.book c).ask (suc count)) (m.requests c)) s within
    (record {
      stage = ap core.Storing (sym (add-one count));
      ask = before.ask;
      last = before.last;
      stored = λ place small. go before place small (cases_eq place (suc count));
      even = before.even;
      odd = before.odd;
    })
    refl)
    (record { running = running; there = within; move = storing (record { place = count; few = few; at = stands_at c s within at; is = refl; says = says }) })
    after
  where
    go : ShowsSeat (m.book c) (m.requests c) (rows_for m.rows c) (seat_of old c) → (place : ℕ) → place < 5 → (place ≡ suc count) ⊎ (place ≢ suc count) → with_at (suc count) (ask_word (m.book c).ask (suc count)) (m.requests c) place ≡ ask_word (stored_ask (record (seat_of old c) { op = op_with_word count (seat_of old c).ask.op (seat_of old c).op })) place
    go before place small (inl same) =
        ap (with_at (suc count) (ask_word (m.book c).ask (suc count)) (m.requests c)) same
        ∙ (with_at-same (suc count) (ask_word (m.book c).ask (suc count)) (m.requests c)
        ∙ (ap (λ (ask : Ask). ask_word ask (suc count)) before.ask
        ∙ (own_word (seat_of old c) count few
        ∙ ap (ask_word (stored_ask (record (seat_of old c) { op = op_with_word count (seat_of old c).ask.op (seat_of old c).op }))) (sym same))))
    go before place small (inr apart) =
        with_at-other (suc count) (ask_word (m.book c).ask (suc count)) (m.requests c) place apart
        ∙ (before.stored place small ∙ other_word (seat_of old c) count place few small apart)

-- a client that stores words stores the fourth at the latest
pub storing_few : {old : CodeMemory} {m : Memory} (c count : ℕ) → (seat_of old c).stage ≡ Storing count → ShowsMemory old m → IsMemory m → c < clients_of m → count ≤ 4
storing_few {old} {m} c count at s sound within =
    subst (λ (stage : core.Stage). HasRead (newest (kept_list_of (shown m) c)) (length m.published) (m.book c).ask.number stage) (stands_at c s within at) (sound.clients c within).read

pub announces_number : {old new : CodeMemory} {answer : Stepped} (c count : ℕ) → (seat_of old c).stage ≡ Storing count → 4 ≤ count → new ≡ announces c old → answer ≡ Went → MakesWordStep old c new answer
announces_number {old} c count at all after says m s sound fits running within =
    let before = s.clients c within in
    let seat : Seat = seat_of old c in
    let four : count ≡ 4 = omega (arith, all, storing_few c count at s sound within) in
    word_step c (announces c old)
    (shows_words c (record seat { stage = Looking; number = seat.ask.number }) (go_to core.Looking (m.book c)) (with_at 0 (m.book c).ask.number (m.requests c)) s within
    (record {
      stage = refl;
      ask = before.ask;
      last = before.last;
      stored = go before;
      even = before.even;
      odd = before.odd;
    })
    refl)
    (record { running = running; there = within; move = announcing (record { at = stands_at c s within at ∙ ap core.Storing four; is = refl; says = says }) })
    after
  where
    go : ShowsSeat (m.book c) (m.requests c) (rows_for m.rows c) (seat_of old c) → (place : ℕ) → place < 5 → with_at 0 (m.book c).ask.number (m.requests c) place ≡ ask_word (stored_ask (record (seat_of old c) { number = (seat_of old c).ask.number })) place
    go before zero small = ap (λ (ask : Ask). ask.number) before.ask
    go before (suc zero) small = before.stored 1 small
    go before (suc (suc zero)) small = before.stored 2 small
    go before (suc (suc (suc zero))) small = before.stored 3 small
    go before (suc (suc (suc (suc more)))) small =
        with_at-other 0 (m.book c).ask.number (m.requests c) (suc (suc (suc (suc more)))) (λ same. absurd (omega (arith, same))) ∙ before.stored (suc (suc (suc (suc more)))) small

-- It is answered

pub confirms : {old new : CodeMemory} {answer : Stepped} (c turn : ℕ) (reply : Reply) → (seat_of old c).stage ≡ Confirming turn reply → round_of_turn old.turn ≡ round_of_turn turn → new ≡ is_answered c old → answer ≡ Done (seat_of old c).ask reply → MakesWordStep old c new answer
confirms {old} c turn reply at same after says m s sound fits running within =
    let before = s.clients c within in
    let seat : Seat = seat_of old c in
    word_step c (is_answered c old)
    (shows_client c (record seat { stage = Idle; last = seat.ask.number }) (answered reply (round_of_turn m.turn) (m.book c)) (m.answers ++ entry_by (m.book c).ask reply ∷ []) s within
    (record {
      stage = refl;
      ask = before.ask;
      last = ap (λ (ask : Ask). ask.number) before.ask;
      stored = before.stored;
      even = before.even;
      odd = before.odd;
    })
    refl)
    (record {
      running = running;
      there = within;
      move = confirming (record {
        turn = turn;
        reply = reply;
        at = stands_at c s within at;
        same = ap round_of_turn s.turn ∙ same;
        is = refl;
        says = says ∙ ap (λ (ask : Ask). Done ask reply) (sym before.ask);
      });
    })
    after

-- Taking the turn

recorded≢resting : ¬ (core_memory.Recorded ≡ core_memory.Resting)
recorded≢resting e = cc

recorded≢doubtful : ¬ (core_memory.Recorded ≡ core_memory.Doubtful)
recorded≢doubtful e = cc

writing≢resting : ¬ (core_memory.Writing ≡ core_memory.Resting)
writing≢resting e = cc

writing≢doubtful : ¬ (core_memory.Writing ≡ core_memory.Doubtful)
writing≢doubtful e = cc

-- a turn that is free isn't the last one
free_turn : {old : CodeMemory} {m : Memory} (c turn found : ℕ) → (seat_of old c).stage ≡ Taking turn found → ShowsMemory old m → IsMemory m → c < clients_of m → turn % 2 ≡ 0
free_turn {old} {m} c turn found at s sound within = read.2
  where
    read : HasRead (newest (kept_list_of (shown m) c)) (length m.published) (m.book c).ask.number (core.Taking turn found)
    read = subst (λ (stage : core.Stage). HasRead (newest (kept_list_of (shown m) c)) (length m.published) (m.book c).ask.number stage) (stands_at c s within at) (sound.clients c within).read

-- the turn is taken
pub shows_taken : {old : CodeMemory} {m : Memory} (c turn : ℕ) (work : core_memory.Work) → ShowsMemory old m → c < clients_of m → turn + 1 ≡ counted turn → work ≡ work_of (first_work old.knowledge) [] → ShowsMemory (takes c turn old) (record (steps_to c core.Holding m) { turn = turn + 1; owner = Held c (side_of_operation (m.book c).ask.op); work = work })
shows_taken {old} {m} c turn work s within next works =
    let a = shows_stage c Holding (go_to core.Holding (m.book c)) s within refl refl refl in
    record {
      head = a.head;
      valid = a.valid;
      places = a.places;
      clients = a.clients;
      next = a.next;
      turn = next;
      noted = a.noted;
      count = a.count;
      owner = ap (λ (ask : Ask). Held c (side_of_operation ask.op)) (s.clients c within).ask;
      room = a.room;
      work = works;
      met = omega arith;
      engine = a.engine;
      ahead = a.ahead;
      rounds = a.rounds;
    }

pub takes_turn : {old new : CodeMemory} {answer : Stepped} (c turn found : ℕ) → (seat_of old c).stage ≡ Taking turn found → old.turn ≡ turn → turn ≤ last_count → new ≡ takes c turn old → answer ≡ Went → MakesWordStep old c new answer
takes_turn {old} {new} {answer} c turn found at same small after says m s sound fits running within = go old.knowledge refl (free_suits sound free)
  where
    even : turn % 2 ≡ 0
    even = free_turn c turn found at s sound within

    at_core : (m.book c).stage ≡ core.Taking turn found
    at_core = stands_at c s within at

    turn_is : m.turn ≡ turn
    turn_is = s.turn ∙ same

    free : m.owner ≡ core_memory.Free
    free = taken_free turn found sound running within at_core turn_is

    next : turn + 1 ≡ counted turn
    next = omega (arith, even, small)

    sure : old.knowledge ≡ Resting → StepsTo m c new answer
    sure is =
        word_step c (takes c turn old)
        (shows_taken c turn (core_memory.Scanning 0 core_memory.AtNumber []) s within next (ap (λ (k : Knowledge). work_of (first_work k) []) (sym is)))
        (record { running = running; there = within; move = taking_sure (record { turn = turn; found = found; at = at_core; same = turn_is; sure = s.engine ∙ ap engine_of is; is = refl; says = says }) })
        after

    unsure : old.knowledge ≡ Doubtful → StepsTo m c new answer
    unsure is =
        word_step c (takes c turn old)
        (shows_taken c turn core_memory.Settling s within next (ap (λ (k : Knowledge). work_of (first_work k) []) (sym is)))
        (record { running = running; there = within; move = taking_unsure (record { turn = turn; found = found; at = at_core; same = turn_is; unsure = s.engine ∙ ap engine_of is; is = refl; says = says }) })
        after

    go : (k : Knowledge) → old.knowledge ≡ k → (m.work ≡ core_memory.NoWork) × (((m.engine ≡ core_memory.Resting) × (m.ahead ≡ None)) ⊎ (m.engine ≡ core_memory.Doubtful)) → StepsTo m c new answer
    go Resting is suits = sure is
    go Recorded is (work, inl resting) = absurd (recorded≢resting (sym (s.engine ∙ ap engine_of is) ∙ resting.0))
    go Recorded is (work, inr doubtful) = absurd (recorded≢doubtful (sym (s.engine ∙ ap engine_of is) ∙ doubtful))
    go Writing is (work, inl resting) = absurd (writing≢resting (sym (s.engine ∙ ap engine_of is) ∙ resting.0))
    go Writing is (work, inr doubtful) = absurd (writing≢doubtful (sym (s.engine ∙ ap engine_of is) ∙ doubtful))
    go Doubtful is suits = unsure is
