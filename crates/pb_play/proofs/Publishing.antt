-- The next reply row, and publishing it.
use Rattle.std.proofs.Common.{◌≡◌, ◌≢◌, ℕ, zero, suc, ◌+◌, ◌-◌, ◌*◌, ◌/◌, ◌%◌, ◌<◌, ◌≤◌, ◌⊎◌, List, [], ◌∷◌, ◌++◌, length, Option, Some, None, ap, subst, sym, refl, ◌∙◌, inl, inr, arith, add-one}
use Rattle.std.specs.Prelude.{IsSome, IfSome, slice_set}
use Rattle.std.proofs.lemmas.Bool.{cases_eq, false≢true}
use Rattle.std.proofs.lemmas.List.{get_or-set_same, get_or-set_other, length-set}
use Rattle.pb_object.specs.declared.request.Ask.{Ask}
use Rattle.pb_object.specs.declared.request.Kept.{Kept}
use Rattle.pb_object.specs.declared.request.Reply.{Reply}
use Rattle.pb_object.specs.History.{Round, after_round, IsLegalRound}
use Rattle.pb_object.specs.Standing.{Standing, newest_of, rounds_of, side_count}
use Rattle.pb_pmem.specs.Count.{last_count}
use Rattle.pb_layout_laws.proofs.Rounds.{next_rounds, next_rounds_other}
use Rattle.pb_events.specs.declared.event.Stepped.{Stepped}
use Rattle.pb_events.specs.declared.event.Stepped.TheVariants.{Went, Done, Busy, Fault}
use Rattle.pb_core.specs.Client as client
use Rattle.pb_core.specs.Client.{Client, row_word, entry_by}
use Rattle.pb_core.specs.Memory as core
use Rattle.pb_core.specs.Memory.{Memory, Engine, with_at, clients_of, known_standing, known_by, shown, with_round_ahead, round_of_turn}
use Rattle.pb_core.specs.MemoryParts.{IsMemory}
use Rattle.pb_core.specs.WordMoves.{go_to, answered, with_row_word, next_row, with_published, filling, publishing_own, publishing_others, noting, giving_up}
use Rattle.pb_core.proofs.Basics.{with_at-same, with_at-other}
use Rattle.pb_core.proofs.Histories.{state_after-push}
use Rattle.pb_core.proofs.Publishing.{the_filled}
use Rattle.pb_core.proofs.Turns.{work_suits}
use Rattle.pb_core.proofs.Waiting.{turn_rounds}
use Rattle.pb_play.specs.declared.memory.Memory.{Memory as CodeMemory}
use Rattle.pb_round_play.specs.declared.rounds.Rounds.{Rounds}
use Rattle.pb_round_play.specs.declared.seat.Row.{Row}
use Rattle.pb_round_play.specs.declared.seat.Seat.{Seat}
use Rattle.pb_round_play.specs.declared.seat.Stage.TheVariants.{Idle, Looking}
use Rattle.pb_play.specs.declared.work.Owner.TheVariants.{Held}
use Rattle.pb_play.specs.declared.work.Work.TheVariants.{Filling, Noting, GivingUp}
use Rattle.pb_play.specs.Maps.{word_of_row}
use Rattle.pb_round_play.specs.Counts as round_counts
use Rattle.pb_play.specs.Seats as code
use Rattle.pb_round_play.specs.Seats.{no_seat, seat_at}
use Rattle.pb_round_play.specs.Counts.{counted}
use Rattle.pb_play.specs.Seats.{seat_of, row_with, fills, stores_row, is_answered, goes_to, notes, gives_up}
use Rattle.pb_round_play.specs.Counts.{ShowsRounds}
use Rattle.pb_play.specs.Shown.{ShowsSeat, rows_for, ShowsClients, IsRowOf, ShowsAhead, side_ahead, ShowsMemory}
use Rattle.pb_play.specs.Steps.{FitsWords, MakesWordStep}
use Rattle.pb_play.proofs.Clients.{clients_few, ahead_at, shows_client, shows_stage, word_step}
use Rattle.pb_play.proofs.Scanning.{holds_turn, works_at}

-- Words of a row

own_row_word : (from row : Row) (word : ℕ) → word < 4 → word_of_row from word ≡ word_of_row (row_with word from row) word
own_row_word from row zero few = refl
own_row_word from row (suc zero) few = refl
own_row_word from row (suc (suc zero)) few = refl
own_row_word from row (suc (suc (suc zero))) few = refl
own_row_word from row (suc (suc (suc (suc more)))) few = absurd (omega (arith, few))

other_row_word : (from row : Row) (word place : ℕ) → word < 4 → place < 4 → place ≢ word → word_of_row row place ≡ word_of_row (row_with word from row) place
other_row_word from row zero zero few small apart = absurd (apart refl)
other_row_word from row zero (suc zero) few small apart = refl
other_row_word from row zero (suc (suc zero)) few small apart = refl
other_row_word from row zero (suc (suc (suc zero))) few small apart = refl
other_row_word from row zero (suc (suc (suc (suc more)))) few small apart = absurd (omega (arith, small))
other_row_word from row (suc zero) zero few small apart = refl
other_row_word from row (suc zero) (suc zero) few small apart = absurd (apart refl)
other_row_word from row (suc zero) (suc (suc zero)) few small apart = refl
other_row_word from row (suc zero) (suc (suc (suc zero))) few small apart = refl
other_row_word from row (suc zero) (suc (suc (suc (suc more)))) few small apart = absurd (omega (arith, small))
other_row_word from row (suc (suc zero)) zero few small apart = refl
other_row_word from row (suc (suc zero)) (suc zero) few small apart = refl
other_row_word from row (suc (suc zero)) (suc (suc zero)) few small apart = absurd (apart refl)
other_row_word from row (suc (suc zero)) (suc (suc (suc zero))) few small apart = refl
other_row_word from row (suc (suc zero)) (suc (suc (suc (suc more)))) few small apart = absurd (omega (arith, small))
other_row_word from row (suc (suc (suc zero))) zero few small apart = refl
other_row_word from row (suc (suc (suc zero))) (suc zero) few small apart = refl
other_row_word from row (suc (suc (suc zero))) (suc (suc zero)) few small apart = refl
other_row_word from row (suc (suc (suc zero))) (suc (suc (suc zero))) few small apart = absurd (apart refl)
other_row_word from row (suc (suc (suc zero))) (suc (suc (suc (suc more)))) few small apart = absurd (omega (arith, small))
other_row_word from row (suc (suc (suc (suc more)))) place few small apart = absurd (omega (arith, few))

pub kept_word : (kept : Kept) (row : Row) (word : ℕ) → IsRowOf kept row → row_word kept word ≡ word_of_row row word
kept_word kept row zero is = is.number
kept_word kept row (suc zero) is = ap (λ (r : Reply). r.code) is.reply
kept_word kept row (suc (suc zero)) is = ap (λ (r : Reply). r.value) is.reply
kept_word kept row (suc (suc (suc more))) is = ap (λ (r : Reply). r.extra) is.reply

-- a row whose words have one that was stored
row_stored : (words : ℕ → ℕ) (kept : Kept) (from row : Row) (word : ℕ) → word < 4 → IsRowOf kept from → ((place : ℕ) → place < 4 → words place ≡ word_of_row row place) → (place : ℕ) → place < 4 → with_at word (row_word kept word) words place ≡ word_of_row (row_with word from row) place
row_stored words kept from row word few is before place small = go (cases_eq place word)
  where
    go : (place ≡ word) ⊎ (place ≢ word) → with_at word (row_word kept word) words place ≡ word_of_row (row_with word from row) place
    go (inl same) =
        ap (with_at word (row_word kept word) words) same
        ∙ (with_at-same word (row_word kept word) words
        ∙ (kept_word kept from word is
        ∙ (own_row_word from row word few
        ∙ ap (word_of_row (row_with word from row)) (sym same))))
    go (inr apart) = with_at-other word (row_word kept word) words place apart ∙ (before place small ∙ other_row_word from row word place few small apart)

-- Rows of the clients

clients_rows : {n : ℕ} {book : ℕ → Client} {requests : ℕ → ℕ → ℕ} {rows rows' : ℕ → ℕ → ℕ → ℕ} (seats : List Seat) (c : ℕ) (seat : Seat) → c < length seats → ShowsClients n book requests rows (seat_at seats) → ((d row place : ℕ) → d ≢ c → rows' row d place ≡ rows row d place) → ShowsSeat (book c) (requests c) (rows_for rows' c) seat → ShowsClients n book requests rows' (seat_at (slice_set seats c seat))
clients_rows {n} {book} {requests} {rows} {rows'} seats c seat inside before others here d there = go (cases_eq d c)
  where
    Shows : ℕ → Seat → Type 0
    Shows e y = ShowsSeat (book e) (requests e) (rows_for rows' e) y

    go : (d ≡ c) ⊎ (d ≢ c) → Shows d (seat_at (slice_set seats c seat) d)
    go (inl same) =
        subst (λ (e : ℕ). Shows e (seat_at (slice_set seats c seat) e)) (sym same)
        (subst (λ (y : Seat). Shows c y) (sym (get_or-set_same seats c seat no_seat inside)) here)
    go (inr apart) =
        let own = before d there in
        subst (λ (y : Seat). Shows d y) (sym (get_or-set_other seats c d seat no_seat apart)) (record {
          stage = own.stage;
          ask = own.ask;
          last = own.last;
          stored = own.stored;
          even = λ place few. others d 0 place apart ∙ own.even place few;
          odd = λ place few. others d 1 place apart ∙ own.odd place few;
        })

-- a row of another client
other_client : (rows : ℕ → ℕ → ℕ → ℕ) (r c word w : ℕ) (d row place : ℕ) → d ≢ c → with_row_word r c word w rows row d place ≡ rows row d place
other_client rows r c word w d row place apart = go (cases_eq row r)
  where
    go : (row ≡ r) ⊎ (row ≢ r) → with_row_word r c word w rows row d place ≡ rows row d place
    go (inl same) =
        ap (λ (e : ℕ). with_row_word r c word w rows e d place) same
        ∙ (ap (λ (f : ℕ → ℕ → ℕ). f d place) (with_at-same r (with_at c (with_at word w (rows r c)) (rows r)) rows)
        ∙ (ap (λ (f : ℕ → ℕ). f place) (with_at-other c (with_at word w (rows r c)) (rows r) d apart)
        ∙ ap (λ (e : ℕ). rows e d place) (sym same)))
    go (inr other) = ap (λ (f : ℕ → ℕ → ℕ). f d place) (with_at-other r (with_at c (with_at word w (rows r c)) (rows r)) rows row other)

-- the row that isn't written
other_row : (rows : ℕ → ℕ → ℕ → ℕ) (r c word w : ℕ) (row place : ℕ) → row ≢ r → with_row_word r c word w rows row c place ≡ rows row c place
other_row rows r c word w row place other = ap (λ (f : ℕ → ℕ → ℕ). f c place) (with_at-other r (with_at c (with_at word w (rows r c)) (rows r)) rows row other)

-- .. and the one that is
written_row : (rows : ℕ → ℕ → ℕ → ℕ) (r c word w : ℕ) (row place : ℕ) → row ≡ r → with_row_word r c word w rows row c place ≡ with_at word w (rows row c) place
written_row rows r c word w row place same =
    ap (λ (e : ℕ). with_row_word r c word w rows e c place) same
    ∙ (ap (λ (f : ℕ → ℕ → ℕ). f c place) (with_at-same r (with_at c (with_at word w (rows r c)) (rows r)) rows)
    ∙ (ap (λ (f : ℕ → ℕ). f place) (with_at-same c (with_at word w (rows r c)) (rows r))
    ∙ ap (λ (e : ℕ). with_at word w (rows e c) place) (sym same)))

-- The next row

-- what is known_standing where a round is recorded
pub recorded_known : {m : Memory} {c side : ℕ} (count : ℕ) → IsMemory m → m.owner ≡ core.Held c side → m.work ≡ core.Filling count → known_standing m ≡ with_round_ahead m.ahead (shown m)
recorded_known {m} count sound holds at =
    ap (λ (e : Engine). known_by e m.ahead (shown m)) (work_suits (core.Filling count) sound holds at).0

pub row_ahead : (n : ℕ) (s : Standing) (ahead : Option Round) (seats : ℕ → Seat) (d : ℕ) → IsSome ahead → ShowsAhead n s ahead seats → d < n → IsRowOf (newest_of (with_round_ahead ahead s) d) (seats d).ahead
row_ahead n s None seats d some shows within = absurd (false≢true some)
row_ahead n s (Some round) seats d some shows within = shows d within

known_row : {p : CodeMemory} {m : Memory} {c side : ℕ} (count d : ℕ) → ShowsMemory p m → IsMemory m → m.owner ≡ core.Held c side → m.work ≡ core.Filling count → d < clients_of m → IsRowOf (newest_of (known_standing m) d) (seat_of p d).ahead
known_row {p} {m} count d s sound holds at within =
    subst (λ (t : Standing). IsRowOf (newest_of t d) (seat_of p d).ahead) (sym (recorded_known count sound holds at))
    (row_ahead (clients_of m) (shown m) m.ahead (seat_of p) d (work_suits (core.Filling count) sound holds at).1 s.next within)

-- a word of it is stored
row_shown : {p : CodeMemory} {m : Memory} (d word parity : ℕ) (kept : Kept) → ShowsMemory p m → IsMemory m → d < clients_of m → word < 4 → IsRowOf kept (seat_of p d).ahead → round_of_turn p.turn % 2 ≡ parity → parity < 2
    → ShowsSeat (m.book d) (m.requests d) (rows_for (with_row_word (next_row m) d word (row_word kept word) m.rows) d) (fills p.turn word (seat_of p d)) × ((fills p.turn word (seat_of p d)).ahead ≡ (seat_of p d).ahead)
row_shown {p} {m} d word parity kept s sound within few is parity_is small = go parity parity_is small
  where
    own : ShowsSeat (m.book d) (m.requests d) (rows_for m.rows d) (seat_of p d)
    own = s.clients d within

    next_is : next_row m ≡ suc (round_of_turn p.turn) % 2
    next_is = ap (λ (rounds : ℕ). suc rounds % 2) (sym (turn_rounds sound) ∙ ap round_of_turn s.turn)

    filled : Seat → Type 0
    filled seat = ShowsSeat (m.book d) (m.requests d) (rows_for (with_row_word (next_row m) d word (row_word kept word) m.rows) d) seat × (seat.ahead ≡ (seat_of p d).ahead)

    go : (n : ℕ) → round_of_turn p.turn % 2 ≡ n → n < 2 → filled (fills p.turn word (seat_of p d))
    go zero even low =
        subst filled (sym (ap (λ (e : ℕ). code.fills_by e word (seat_of p d)) even)) (
          record {
            stage = own.stage;
            ask = own.ask;
            last = own.last;
            stored = own.stored;
            even = λ place f. other_row m.rows (next_row m) d word (row_word kept word) 0 place (λ same. absurd (omega (arith, same, next_is, even))) ∙ own.even place f;
            odd = λ place f. written_row m.rows (next_row m) d word (row_word kept word) 1 place (omega (arith, next_is, even)) ∙ row_stored (m.rows 1 d) kept (seat_of p d).ahead (seat_of p d).odd word few is own.odd place f;
          },
          refl,
        )
    go (suc zero) odd low =
        subst filled (sym (ap (λ (e : ℕ). code.fills_by e word (seat_of p d)) odd)) (
          record {
            stage = own.stage;
            ask = own.ask;
            last = own.last;
            stored = own.stored;
            even = λ place f. written_row m.rows (next_row m) d word (row_word kept word) 0 place (omega (arith, next_is, odd)) ∙ row_stored (m.rows 0 d) kept (seat_of p d).ahead (seat_of p d).even word few is own.even place f;
            odd = λ place f. other_row m.rows (next_row m) d word (row_word kept word) 1 place (λ same. absurd (omega (arith, same, next_is, odd))) ∙ own.odd place f;
          },
          refl,
        )
    go (suc (suc more)) is low = absurd (omega (arith, low))

pub stores_rows : {old new : CodeMemory} {answer : Stepped} (c side count : ℕ) → old.owner ≡ Held c side → old.work ≡ Filling count → count / 4 < old.head.clients → new ≡ stores_row (count / 4) (count % 4) old → answer ≡ Went → MakesWordStep old c new answer
stores_rows {old} c side count owned at inside after says m s sound fits running within =
    let d : ℕ = count / 4 in
    let word : ℕ = count % 4 in
    let there : d < clients_of m = omega (arith, inside, ap (λ head. head.clients) s.head) in
    let holds = holds_turn c side s owned in
    let works = works_at s at in
    let counts : count ≡ 4 * d + word = omega arith in
    let shows = row_shown d word (round_of_turn old.turn % 2) (newest_of (known_standing m) d) s sound there (omega arith) (known_row count d s sound holds works there) refl (omega arith) in
    let room : d < length old.seats = omega (arith, s.places, there, clients_few s) in
    word_step c (stores_row d word old)
    (record {
      head = s.head;
      valid = s.valid;
      places = length-set old.seats d (fills old.turn word (seat_of old d)) ∙ s.places;
      clients = clients_rows old.seats d (fills old.turn word (seat_of old d)) room s.clients (λ e row place apart. other_client m.rows (next_row m) d word (row_word (newest_of (known_standing m) d) word) e row place apart) shows.0;
      next = ahead_at (clients_of m) (shown m) m.ahead old.seats d (fills old.turn word (seat_of old d)) room shows.1 s.next;
      turn = s.turn;
      noted = s.noted;
      count = s.count;
      owner = s.owner;
      room = s.room;
      work = ap core.Filling (sym (add-one (4 * d + word)));
      met = s.met;
      engine = s.engine;
      ahead = s.ahead;
      rounds = s.rounds;
    })
    (record {
      running = running;
      there = within;
      move = filling (record {
        side = side;
        holds = holds;
        d = d;
        place = word;
        there = there;
        few = omega arith;
        at = works ∙ ap core.Filling counts;
        is = refl;
        says = says;
      });
    })
    after

-- Publishing

counted_is : (count : ℕ) → count + 1 ≤ last_count → count + 1 ≡ counted count
counted_is count fits = omega (arith, fits)

-- the counts of rounds after one more
pub shows_rounds : (s : Standing) (round : Round) (rounds : Rounds) → IsLegalRound s round → length s.rounds ≡ side_count s.kind → ((side : ℕ) → rounds_of (after_round s round) side ≤ last_count) → ShowsRounds s rounds → ShowsRounds (after_round s round) (round_counts.with_side_counted round.side rounds)
shows_rounds s round rounds legal sides fits shows = go round.side refl
  where
    own : (side : ℕ) → round.side ≡ side → rounds_of (after_round s round) side ≡ rounds_of s side + 1
    own side is = subst (λ (e : ℕ). rounds_of (after_round s round) e ≡ rounds_of s e + 1) is (next_rounds s round legal sides)

    go : (side : ℕ) → round.side ≡ side → ShowsRounds (after_round s round) (round_counts.with_side_counted side rounds)
    go zero is = record {
      first = own 0 is ∙ (counted_is (rounds_of s 0) (omega (arith, own 0 is, fits 0)) ∙ ap counted shows.first);
      second = next_rounds_other s round 1 (λ same. absurd (omega (arith, same, is))) ∙ shows.second;
    }
    go (suc zero) is = record {
      first = next_rounds_other s round 0 (λ same. absurd (omega (arith, same, is))) ∙ shows.first;
      second = own 1 is ∙ (counted_is (rounds_of s 1) (omega (arith, own 1 is, fits 1)) ∙ ap counted shows.second);
    }
    go (suc (suc more)) is = record {
      first = next_rounds_other s round 0 (λ same. absurd (omega (arith, same, is))) ∙ shows.first;
      second = next_rounds_other s round 1 (λ same. absurd (omega (arith, same, is))) ∙ shows.second;
    }

-- what is shown once a round is published
shows_published : {p : CodeMemory} {m : Memory} (round : Round) → ShowsMemory p m → IsMemory m → FitsWords m → m.ahead ≡ Some round → ShowsMemory (code.with_round_published p) (with_published round m)
shows_published {p} {m} round s sound fits ahead =
    let legal : IsLegalRound (shown m) round = subst (λ (a : Option Round). IfSome a (IsLegalRound (shown m))) ahead sound.history.next in
    let few : (side : ℕ) → rounds_of (after_round (shown m) round) side ≤ last_count = λ side. subst (λ (a : Option Round). rounds_of (with_round_ahead a (shown m)) side ≤ last_count) ahead (fits.rounds side) in
    record {
      head = s.head;
      valid = s.valid;
      places = s.places;
      clients = s.clients;
      next = tt;
      turn = counted_is m.turn fits.turn ∙ ap counted s.turn;
      noted = s.noted;
      count = s.count;
      owner = refl;
      room = s.room;
      work = refl;
      met = s.met;
      engine = refl;
      ahead = refl;
      rounds = subst (λ (t : Standing). ShowsRounds t (code.with_ahead p.ahead p.rounds)) (sym (state_after-push m.start m.past m.published round))
          (subst (λ (a : Option ℕ). ShowsRounds (after_round (shown m) round) (code.with_ahead a p.rounds)) (sym (ap side_ahead ahead) ∙ s.ahead)
          (shows_rounds (shown m) round p.rounds legal fits.sides few s.rounds));
    }

-- the round that is recorded
ahead_some : (ahead : Option Round) → IsSome ahead → (round : Round) × (ahead ≡ Some round)
ahead_some None some = absurd (false≢true some)
ahead_some (Some round) some = (round, refl)

-- all words of the row are stored
all_filled : {m : Memory} (count : ℕ) → IsMemory m → m.work ≡ core.Filling count → clients_of m ≤ count / 4 → m.work ≡ core.Filling (4 * clients_of m)
all_filled {m} count sound works full = works ∙ ap core.Filling (omega (arith, full, (the_filled count sound works).few))

pub publishes_own : {old new : CodeMemory} {answer : Stepped} (c side count : ℕ) → old.owner ≡ Held c side → old.work ≡ Filling count → old.head.clients ≤ count / 4 → (seat_of old c).ahead.number ≡ (seat_of old c).ask.number → new ≡ is_answered c (code.with_round_published old) → answer ≡ Done (seat_of old c).ask (seat_of old c).ahead.reply → MakesWordStep old c new answer
publishes_own {old} c side count owned at full same after says m s sound fits running within =
    let holds = holds_turn c side s owned in
    let works = works_at s at in
    let some = ahead_some m.ahead (work_suits (core.Filling count) sound holds works).1 in
    let row = known_row count c s sound holds works within in
    let before = s.clients c within in
    let reply : Reply = (newest_of (known_standing m) c).reply in
    word_step c (is_answered c (code.with_round_published old))
    (shows_client c (record (seat_of old c) { stage = Idle; last = (seat_of old c).ask.number }) (answered reply (suc (length m.published)) (m.book c)) (m.answers ++ entry_by (m.book c).ask reply ∷ [])
    (shows_published some.0 s sound fits some.1) within
    (record {
      stage = refl;
      ask = before.ask;
      last = ap (λ (ask : Ask). ask.number) before.ask;
      stored = before.stored;
      even = before.even;
      odd = before.odd;
    })
    refl)
    (record {
      running = running;
      there = within;
      move = publishing_own (record {
        side = side;
        holds = holds;
        round = some.0;
        at = all_filled count sound works (omega (arith, full, ap (λ head. head.clients) s.head));
        ahead = some.1;
        own = row.number ∙ (same ∙ ap (λ (ask : Ask). ask.number) (sym before.ask));
        is = refl;
        says = says ∙ (λ i. Done (sym before.ask i) (sym row.reply i));
      });
    })
    after

pub publishes_others : {old new : CodeMemory} {answer : Stepped} (c side count : ℕ) → old.owner ≡ Held c side → old.work ≡ Filling count → old.head.clients ≤ count / 4 → (seat_of old c).ahead.number ≢ (seat_of old c).ask.number → new ≡ goes_to c Looking (code.with_round_published old) → answer ≡ Busy (seat_of old c).ask (old.turn - 1) (counted old.turn) → MakesWordStep old c new answer
publishes_others {old} c side count owned at full other after says m s sound fits running within =
    let holds = holds_turn c side s owned in
    let works = works_at s at in
    let some = ahead_some m.ahead (work_suits (core.Filling count) sound holds works).1 in
    let row = known_row count c s sound holds works within in
    let before = s.clients c within in
    word_step c (goes_to c Looking (code.with_round_published old))
    (shows_stage c Looking (record (m.book c) { stage = client.Looking; front = suc (length m.published) }) (shows_published some.0 s sound fits some.1) within refl refl refl)
    (record {
      running = running;
      there = within;
      move = publishing_others (record {
        side = side;
        holds = holds;
        round = some.0;
        at = all_filled count sound works (omega (arith, full, ap (λ head. head.clients) s.head));
        ahead = some.1;
        other = λ e. other (sym row.number ∙ (e ∙ ap (λ (ask : Ask). ask.number) before.ask));
        is = refl;
        says = says ∙ (λ i. Busy (sym before.ask i) (sym s.turn i - 1) ((sym (counted_is m.turn fits.turn ∙ ap counted s.turn)) i));
      });
    })
    after

-- Giving up

pub notes_faults : {old new : CodeMemory} {answer : Stepped} (c side from to : ℕ) → old.owner ≡ Held c side → old.work ≡ Noting from to → new ≡ notes from to old → answer ≡ Went → MakesWordStep old c new answer
notes_faults {old} c side from to owned at after says m s sound fits running within =
    word_step c (notes from to old)
    (record {
      head = s.head;
      valid = s.valid;
      places = s.places;
      clients = s.clients;
      next = s.next;
      turn = s.turn;
      noted = refl;
      count = s.count;
      owner = s.owner;
      room = s.room;
      work = refl;
      met = s.met;
      engine = s.engine;
      ahead = s.ahead;
      rounds = s.rounds;
    })
    (record { running = running; there = within; move = noting (record { side = side; holds = holds_turn c side s owned; from = from; to = to; at = works_at s at; is = refl; says = says }) })
    after

pub leaves_turn : {old new : CodeMemory} {answer : Stepped} (c side from to : ℕ) → old.owner ≡ Held c side → old.work ≡ GivingUp from to → new ≡ gives_up c old → answer ≡ Fault (seat_of old c).ask from to → MakesWordStep old c new answer
leaves_turn {old} c side from to owned at after says m s sound fits running within =
    let a = shows_stage c Looking (go_to client.Looking (m.book c)) s within refl refl refl in
    word_step c (gives_up c old)
    (record {
      head = a.head;
      valid = a.valid;
      places = a.places;
      clients = a.clients;
      next = a.next;
      turn = ap (λ (turn : ℕ). turn - 1) s.turn;
      noted = a.noted;
      count = a.count;
      owner = refl;
      room = a.room;
      work = refl;
      met = a.met;
      engine = a.engine;
      ahead = a.ahead;
      rounds = a.rounds;
    })
    (record { running = running; there = within; move = giving_up (record { side = side; holds = holds_turn c side s owned; from = from; to = to; at = works_at s at; is = refl; says = says ∙ ap (λ (ask : Ask). Fault ask from to) (sym (s.clients c within).ask) }) })
    after
