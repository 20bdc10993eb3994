-- What the move of one client leaves of what is shown.
use Rattle.std.proofs.Common.{◌≡◌, ◌≢◌, ℕ, ◌<◌, ◌≤◌, ◌⊎◌, List, length, Option, Some, None, ap, subst, sym, refl, ◌∙◌, inl, inr, arith}
use Rattle.std.specs.Prelude.{slice_set}
use Rattle.std.proofs.lemmas.Bool.{cases_eq}
use Rattle.std.proofs.lemmas.List.{get_or-set_same, get_or-set_other, length-set}
use Rattle.pb_object.specs.declared.request.Kept.{Kept}
use Rattle.pb_object.specs.History.{Entry, Round, after_round}
use Rattle.pb_object.specs.Standing.{Standing, newest, newest_of}
use Rattle.pb_events.specs.declared.event.Stepped.{Stepped}
use Rattle.pb_core.specs.Client.{Client}
use Rattle.pb_core.specs.Memory.{Memory, with_at, with_client, clients_of, shown}
use Rattle.pb_core.specs.WordMoves.{IsWordStep}
use Rattle.pb_core.proofs.Basics.{with_at-same, with_at-other}
use Rattle.pb_play.specs.declared.memory.Memory.{Memory as CodeMemory}
use Rattle.pb_round_play.specs.declared.seat.Row.{Row}
use Rattle.pb_round_play.specs.declared.seat.Seat.{Seat}
use Rattle.pb_round_play.specs.declared.seat.Stage.{Stage}
use Rattle.pb_play.specs.Maps.{stage_of}
use Rattle.pb_round_play.specs.Seats.{no_seat, seat_at}
use Rattle.pb_play.specs.Seats.{seat_of, with_seat, goes_to}
use Rattle.pb_play.specs.Shown.{ShowsSeat, rows_for, ShowsClients, IsRowOf, ShowsAhead, ShowsMemory}
use Rattle.pb_play.specs.Steps.{StepsTo}

pub clients_few : {p : CodeMemory} {m : Memory} → ShowsMemory p m → clients_of m ≤ 16
clients_few {p} {m} s = omega (arith, ap (λ head. head.clients) s.head, s.valid.few_clients)

-- one client is another
pub clients_at : {n : ℕ} {book : ℕ → Client} {requests : ℕ → ℕ → ℕ} {rows : ℕ → ℕ → ℕ → ℕ} (seats : List Seat) (c : ℕ) (b : Client) (seat : Seat) → c < length seats → ShowsClients n book requests rows (seat_at seats) → ShowsSeat b (requests c) (rows_for rows c) seat → ShowsClients n (with_at c b book) requests rows (seat_at (slice_set seats c seat))
clients_at {n} {book} {requests} {rows} seats c b seat inside before here d there = go (cases_eq d c)
  where
    Shows : ℕ → Client → Seat → Type 0
    Shows e x y = ShowsSeat x (requests e) (rows_for rows e) y

    go : (d ≡ c) ⊎ (d ≢ c) → Shows d (with_at c b book d) (seat_at (slice_set seats c seat) d)
    go (inl same) =
        subst (λ (e : ℕ). Shows e (with_at c b book e) (seat_at (slice_set seats c seat) e)) (sym same)
        (subst (λ (x : Client). Shows c x (seat_at (slice_set seats c seat) c)) (sym (with_at-same c b book))
        (subst (λ (y : Seat). Shows c b y) (sym (get_or-set_same seats c seat no_seat inside)) here))
    go (inr apart) =
        subst (λ (x : Client). Shows d x (seat_at (slice_set seats c seat) d)) (sym (with_at-other c b book d apart))
        (subst (λ (y : Seat). Shows d (book d) y) (sym (get_or-set_other seats c d seat no_seat apart)) (before d there))

-- .. with the same next row
one_ahead : (kept : Kept) (seats : List Seat) (c : ℕ) (seat : Seat) (d : ℕ) → c < length seats → seat.ahead ≡ (seat_at seats c).ahead → IsRowOf kept (seat_at seats d).ahead → IsRowOf kept (seat_at (slice_set seats c seat) d).ahead
one_ahead kept seats c seat d inside same before = go (cases_eq d c)
  where
    go : (d ≡ c) ⊎ (d ≢ c) → IsRowOf kept (seat_at (slice_set seats c seat) d).ahead
    go (inl is) =
        subst (λ (y : Row). IsRowOf kept y) (sym (ap (λ (e : ℕ). (seat_at (slice_set seats c seat) e).ahead) is ∙ (ap (λ (y : Seat). y.ahead) (get_or-set_same seats c seat no_seat inside) ∙ (same ∙ ap (λ (e : ℕ). (seat_at seats e).ahead) (sym is))))) before
    go (inr apart) = subst (λ (y : Seat). IsRowOf kept y.ahead) (sym (get_or-set_other seats c d seat no_seat apart)) before

pub ahead_at : (n : ℕ) (s : Standing) (ahead : Option Round) (seats : List Seat) (c : ℕ) (seat : Seat) → c < length seats → seat.ahead ≡ (seat_at seats c).ahead → ShowsAhead n s ahead (seat_at seats) → ShowsAhead n s ahead (seat_at (slice_set seats c seat))
ahead_at n s None seats c seat inside same before = tt
ahead_at n s (Some round) seats c seat inside same before = λ d there. one_ahead (newest_of (after_round s round) d) seats c seat d inside same (before d there)

-- .. and other words
pub clients_words : {n : ℕ} {book : ℕ → Client} {requests : ℕ → ℕ → ℕ} {rows : ℕ → ℕ → ℕ → ℕ} (seats : List Seat) (c : ℕ) (b : Client) (words : ℕ → ℕ) (seat : Seat) → c < length seats → ShowsClients n book requests rows (seat_at seats) → ShowsSeat b words (rows_for rows c) seat → ShowsClients n (with_at c b book) (with_at c words requests) rows (seat_at (slice_set seats c seat))
clients_words {n} {book} {requests} {rows} seats c b words seat inside before here d there = go (cases_eq d c)
  where
    Shows : ℕ → Client → (ℕ → ℕ) → Seat → Type 0
    Shows e x w y = ShowsSeat x w (rows_for rows e) y

    go : (d ≡ c) ⊎ (d ≢ c) → Shows d (with_at c b book d) (with_at c words requests d) (seat_at (slice_set seats c seat) d)
    go (inl same) =
        subst (λ (e : ℕ). Shows e (with_at c b book e) (with_at c words requests e) (seat_at (slice_set seats c seat) e)) (sym same)
        (subst (λ (x : Client). Shows c x (with_at c words requests c) (seat_at (slice_set seats c seat) c)) (sym (with_at-same c b book))
        (subst (λ (w : ℕ → ℕ). Shows c b w (seat_at (slice_set seats c seat) c)) (sym (with_at-same c words requests))
        (subst (λ (y : Seat). Shows c b words y) (sym (get_or-set_same seats c seat no_seat inside)) here)))
    go (inr apart) =
        subst (λ (x : Client). Shows d x (with_at c words requests d) (seat_at (slice_set seats c seat) d)) (sym (with_at-other c b book d apart))
        (subst (λ (w : ℕ → ℕ). Shows d (book d) w (seat_at (slice_set seats c seat) d)) (sym (with_at-other c words requests d apart))
        (subst (λ (y : Seat). Shows d (book d) (requests d) y) (sym (get_or-set_other seats c d seat no_seat apart)) (before d there)))

-- a client moves, and perhaps it is answered
pub shows_client : {p : CodeMemory} {m : Memory} (c : ℕ) (seat : Seat) (b : Client) (answers : List Entry) → ShowsMemory p m → c < clients_of m → ShowsSeat b (m.requests c) (rows_for m.rows c) seat → seat.ahead ≡ (seat_of p c).ahead → ShowsMemory (with_seat c seat p) (record (with_client c b m) { answers = answers })
shows_client {p} {m} c seat b answers s within here same =
    let inside : c < length p.seats = omega (arith, s.places, within, clients_few s) in
    record {
      head = s.head;
      valid = s.valid;
      places = length-set p.seats c _ ∙ s.places;
      clients = clients_at p.seats c b seat inside s.clients here;
      next = ahead_at (clients_of m) (shown m) m.ahead p.seats c seat inside same s.next;
      turn = s.turn;
      noted = s.noted;
      count = s.count;
      owner = s.owner;
      room = s.room;
      work = s.work;
      met = s.met;
      engine = s.engine;
      ahead = s.ahead;
      rounds = s.rounds;
    }

-- .. or stores words of its request
pub shows_words : {p : CodeMemory} {m : Memory} (c : ℕ) (seat : Seat) (b : Client) (words : ℕ → ℕ) → ShowsMemory p m → c < clients_of m → ShowsSeat b words (rows_for m.rows c) seat → seat.ahead ≡ (seat_of p c).ahead → ShowsMemory (with_seat c seat p) (record (with_client c b m) { requests = with_at c words m.requests })
shows_words {p} {m} c seat b words s within here same =
    let inside : c < length p.seats = omega (arith, s.places, within, clients_few s) in
    record {
      head = s.head;
      valid = s.valid;
      places = length-set p.seats c _ ∙ s.places;
      clients = clients_words p.seats c b words seat inside s.clients here;
      next = ahead_at (clients_of m) (shown m) m.ahead p.seats c seat inside same s.next;
      turn = s.turn;
      noted = s.noted;
      count = s.count;
      owner = s.owner;
      room = s.room;
      work = s.work;
      met = s.met;
      engine = s.engine;
      ahead = s.ahead;
      rounds = s.rounds;
    }

-- a client goes on to a stage
pub shows_stage : {p : CodeMemory} {m : Memory} (c : ℕ) (stage : Stage) (b : Client) → ShowsMemory p m → c < clients_of m → b.stage ≡ stage_of stage → b.ask ≡ (m.book c).ask → b.kept ≡ (m.book c).kept → ShowsMemory (goes_to c stage p) (with_client c b m)
shows_stage {p} {m} c stage b s within stands asks keeps =
    let before = s.clients c within in
    shows_client c (record (seat_of p c) { stage = stage }) b m.answers s within
    (record {
      stage = stands;
      ask = asks ∙ before.ask;
      last = ap (λ (kept : List Kept). (newest kept).number) keeps ∙ before.last;
      stored = before.stored;
      even = before.even;
      odd = before.odd;
    })
    refl

-- .. by a step on a word
pub stage_step : {old new : CodeMemory} {given answer : Stepped} {m : Memory} (c : ℕ) (stage : Stage) (b : Client) → ShowsMemory old m → c < clients_of m → IsWordStep m c (with_client c b m) given → answer ≡ given → new ≡ goes_to c stage old → b.stage ≡ stage_of stage → b.ask ≡ (m.book c).ask → b.kept ≡ (m.book c).kept → StepsTo m c new answer
stage_step {old} {new} {given} {answer} {m} c stage b s within step says after stands asks keeps = record {
  next = with_client c b m;
  step = subst (IsWordStep m c (with_client c b m)) (sym says) step;
  shows = subst (λ (shown : CodeMemory). ShowsMemory shown (with_client c b m)) (sym after) (shows_stage c stage b s within stands asks keeps);
}

-- the code shows what a step on a word makes
pub word_step : {new : CodeMemory} {answer : Stepped} {m next : Memory} (c : ℕ) (p : CodeMemory) → ShowsMemory p next → IsWordStep m c next answer → new ≡ p → StepsTo m c new answer
word_step {new} {answer} {m} {next} c p shows step after = record {
  next = next;
  step = step;
  shows = subst (λ (q : CodeMemory). ShowsMemory q next) (sym after) shows;
}
