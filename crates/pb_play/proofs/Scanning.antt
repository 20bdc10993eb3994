-- The steps of the scan.
use Rattle.std.proofs.Common.{◌≡◌, ◌≢◌, ℕ, suc, ◌+◌, ◌%◌, ◌<◌, ◌≤◌, List, [], ◌∷◌, ◌++◌, length, take, set, ap, sym, refl, ◌∙◌, arith, add-one}
use Rattle.std.specs.Prelude.{nat_lt}
use Rattle.std.proofs.lemmas.Bool.{cond-true, lt-ltb}
use Rattle.std.proofs.lemmas.List.{take_more_set, length-take-le, length-set}
use Rattle.pb_object.specs.declared.request.Ask.{Ask}
use Rattle.pb_object.specs.declared.request.Op.{Op}
use Rattle.pb_object.specs.Standing.{Standing, newest_of}
use Rattle.pb_events.specs.declared.event.Stepped.{Stepped}
use Rattle.pb_events.specs.declared.event.Stepped.TheVariants.{Went}
use Rattle.pb_core.specs.Memory as core
use Rattle.pb_core.specs.Memory.{Memory, clients_of, shown, side_of_operation, round_of_turn}
use Rattle.pb_core.specs.MemoryParts.{IsMemory, AreSeen}
use Rattle.pb_core.specs.WordMoves.{due_number, scanned, passing_over, meeting, scanning_code, scanning_first, scanning_second, scanning_own, scanning_other}
use Rattle.pb_core.proofs.Scans.{the_scan, known_shown}
use Rattle.pb_core.proofs.Waiting.{turn_rounds}
use Rattle.pb_play.specs.declared.memory.Memory.{Memory as CodeMemory}
use Rattle.pb_round_play.specs.declared.seat.Row.{Row}
use Rattle.pb_play.specs.declared.work.Owner.TheVariants.{Held}
use Rattle.pb_play.specs.declared.work.Part.TheVariants.{AtNumber, AtCode, AtFirst, AtSecond, AtThird}
use Rattle.pb_play.specs.declared.work.Work.{Work}
use Rattle.pb_play.specs.declared.work.Work.TheVariants.{Scanning}
use Rattle.pb_play.specs.Maps.{owner_of, work_of}
use Rattle.pb_play.specs.Seats.{seat_of, at_work, with_ask_seen}
use Rattle.pb_play.specs.Shown.{ShowsMemory}
use Rattle.pb_play.specs.Steps.{StepsHeld}
use Rattle.pb_play.proofs.Clients.{clients_few, word_step}
use Rattle.pb_play.proofs.Waiting.{IsRead, row_word_is}

-- Rows

-- the number in a client's published row is its last one, ..
pub published_number : {p : CodeMemory} {m : Memory} (c : ℕ) (row : Row) → ShowsMemory p m → IsMemory m → c < clients_of m → IsRead p c p.turn row → (newest_of (shown m) c).number ≡ row.number
published_number {p} {m} c row s sound within is =
    sym (sound.rows c 0 within (omega arith))
    ∙ (ap (λ (rounds : ℕ). m.rows (rounds % 2) c 0) (sym (ap round_of_turn (sym s.turn) ∙ turn_rounds sound))
    ∙ (row_word_is c p.turn 0 s within (omega arith) ∙ ap (λ (r : Row). r.number) (sym is)))

-- .. and its next number is due
pub due_is : {p : CodeMemory} {m : Memory} {holder side : ℕ} (c : ℕ) (row : Row) (seen : List Ask) → ShowsMemory p m → IsMemory m → m.owner ≡ core.Held holder side → m.work ≡ core.Scanning c core.AtNumber seen → c < clients_of m → IsRead p c p.turn row → due_number m c ≡ row.number + 1
due_is c row seen s sound holds at within is =
    ap (λ (t : Standing). (newest_of t c).number + 1) (known_shown c core.AtNumber seen sound holds at) ∙ ap (λ (n : ℕ). n + 1) (published_number c row s sound within is)

-- The holder is at something else

pub shows_work : {p : CodeMemory} {m : Memory} (work : Work) (next : core.Work) → ShowsMemory p m → next ≡ work_of work (take p.met p.seen) → ShowsMemory (at_work work p) (record m { work = next })
shows_work work next s is = record {
  head = s.head;
  valid = s.valid;
  places = s.places;
  clients = s.clients;
  next = s.next;
  turn = s.turn;
  noted = s.noted;
  count = s.count;
  owner = s.owner;
  room = s.room;
  work = is;
  met = s.met;
  engine = s.engine;
  ahead = s.ahead;
  rounds = s.rounds;
}

-- what it has seen
abbrev pub seen_by : CodeMemory → List Ask
seen_by p = take p.met p.seen

pub holds_turn : {p : CodeMemory} {m : Memory} (c side : ℕ) → ShowsMemory p m → p.owner ≡ Held c side → m.owner ≡ core.Held c side
holds_turn c side s owned = s.owner ∙ ap owner_of owned

pub works_at : {p : CodeMemory} {m : Memory} {work : Work} → ShowsMemory p m → p.work ≡ work → m.work ≡ work_of work (seen_by p)
works_at {p} s at = s.work ∙ ap (λ (w : Work). work_of w (seen_by p)) at

within_head : {p : CodeMemory} {m : Memory} {d : ℕ} → ShowsMemory p m → d < p.head.clients → d < clients_of m
within_head {p} {m} {d} s there = omega (arith, there, ap (λ head. head.clients) s.head)

-- Loading

pub scans_code : {old new : CodeMemory} {answer : Stepped} (d number side : ℕ) → d < old.head.clients → old.work ≡ Scanning d (AtCode number) → new ≡ at_work (Scanning d (AtFirst number (seat_of old d).op.code)) old → answer ≡ Went → StepsHeld old side new answer
scans_code {old} d number side there at after says c owned m s sound fits running within =
    word_step c (at_work (Scanning d (AtFirst number (seat_of old d).op.code)) old)
    (shows_work (Scanning d (AtFirst number (seat_of old d).op.code)) (core.Scanning d (core.AtFirst number (m.requests d 1)) (seen_by old)) s
    (ap (λ (code : ℕ). core.Scanning d (core.AtFirst number code) (seen_by old)) ((s.clients d (within_head s there)).stored 1 (omega arith))))
    (record { running = running; there = within; move = scanning_code (record { side = side; holds = holds_turn c side s owned; d = d; seen = seen_by old; number = number; at = works_at s at; is = refl; says = says }) })
    after

pub scans_first : {old new : CodeMemory} {answer : Stepped} (d number code side : ℕ) → d < old.head.clients → old.work ≡ Scanning d (AtFirst number code) → new ≡ at_work (Scanning d (AtSecond number code (seat_of old d).op.a)) old → answer ≡ Went → StepsHeld old side new answer
scans_first {old} d number code side there at after says c owned m s sound fits running within =
    word_step c (at_work (Scanning d (AtSecond number code (seat_of old d).op.a)) old)
    (shows_work (Scanning d (AtSecond number code (seat_of old d).op.a)) (core.Scanning d (core.AtSecond number code (m.requests d 2)) (seen_by old)) s
    (ap (λ (a : ℕ). core.Scanning d (core.AtSecond number code a) (seen_by old)) ((s.clients d (within_head s there)).stored 2 (omega arith))))
    (record { running = running; there = within; move = scanning_first (record { side = side; holds = holds_turn c side s owned; d = d; seen = seen_by old; number = number; code = code; at = works_at s at; is = refl; says = says }) })
    after

pub scans_second : {old new : CodeMemory} {answer : Stepped} (d number code a side : ℕ) → d < old.head.clients → old.work ≡ Scanning d (AtSecond number code a) → new ≡ at_work (Scanning d (AtThird number code a (seat_of old d).op.b)) old → answer ≡ Went → StepsHeld old side new answer
scans_second {old} d number code a side there at after says c owned m s sound fits running within =
    word_step c (at_work (Scanning d (AtThird number code a (seat_of old d).op.b)) old)
    (shows_work (Scanning d (AtThird number code a (seat_of old d).op.b)) (core.Scanning d (core.AtThird number code a (m.requests d 3)) (seen_by old)) s
    (ap (λ (b : ℕ). core.Scanning d (core.AtThird number code a b) (seen_by old)) ((s.clients d (within_head s there)).stored 3 (omega arith))))
    (record { running = running; there = within; move = scanning_second (record { side = side; holds = holds_turn c side s owned; d = d; seen = seen_by old; number = number; code = code; a = a; at = works_at s at; is = refl; says = says }) })
    after

-- Its number

pub meets_due : {old new : CodeMemory} {answer : Stepped} (d side : ℕ) (row : Row) → IsRead old d old.turn row → d < old.head.clients → old.work ≡ Scanning d AtNumber → (seat_of old d).number ≡ row.number + 1 → new ≡ at_work (Scanning d (AtCode (seat_of old d).number)) old → answer ≡ Went → StepsHeld old side new answer
meets_due {old} d side row is there at due after says c owned m s sound fits running within =
    let inside = within_head s there in
    let stored = (s.clients d inside).stored 0 (omega arith) in
    word_step c (at_work (Scanning d (AtCode (seat_of old d).number)) old)
    (shows_work (Scanning d (AtCode (seat_of old d).number)) (core.Scanning d (core.AtCode (m.requests d 0)) (seen_by old)) s
    (ap (λ (number : ℕ). core.Scanning d (core.AtCode number) (seen_by old)) stored))
    (record {
      running = running;
      there = within;
      move = meeting (record {
        side = side;
        holds = holds_turn c side s owned;
        d = d;
        seen = seen_by old;
        there = inside;
        at = works_at s at;
        due = stored ∙ (due ∙ sym (due_is d row (seen_by old) s sound (holds_turn c side s owned) (works_at s at) inside is));
        is = refl;
        says = says;
      });
    })
    after

pub passes_over : {old new : CodeMemory} {answer : Stepped} (d side : ℕ) (row : Row) → IsRead old d old.turn row → d < old.head.clients → old.work ≡ Scanning d AtNumber → (seat_of old d).number ≢ row.number + 1 → new ≡ at_work (Scanning (d + 1) AtNumber) old → answer ≡ Went → StepsHeld old side new answer
passes_over {old} d side row is there at other after says c owned m s sound fits running within =
    let inside = within_head s there in
    let stored = (s.clients d inside).stored 0 (omega arith) in
    word_step c (at_work (Scanning (d + 1) AtNumber) old)
    (shows_work (Scanning (d + 1) AtNumber) (core.Scanning (suc d) core.AtNumber (seen_by old)) s
    (ap (λ (next : ℕ). core.Scanning next core.AtNumber (seen_by old)) (sym (add-one d))))
    (record {
      running = running;
      there = within;
      move = passing_over (record {
        side = side;
        holds = holds_turn c side s owned;
        d = d;
        seen = seen_by old;
        there = inside;
        at = works_at s at;
        other = λ same. other (sym stored ∙ (same ∙ due_is d row (seen_by old) s sound (holds_turn c side s owned) (works_at s at) inside is));
        is = refl;
        says = says;
      });
    })
    after

-- Its last word

-- the request that the code scanned
scanned_is : {old : CodeMemory} {m : Memory} (d number : ℕ) (op : Op) → ShowsMemory old m → d < clients_of m → op.c ≡ (seat_of old d).op.c → scanned m d number op.code op.a op.b ≡ record { client = d; number = number; op = op }
scanned_is d number op s inside last =
    ap (λ (c : ℕ). record { client = d; number = number; op = record { code = op.code; a = op.a; b = op.b; c = c } }) ((s.clients d inside).stored 4 (omega arith) ∙ sym last)

pub scans_other : {old new : CodeMemory} {answer : Stepped} (d number : ℕ) (op : Op) (side : ℕ) → d < old.head.clients → old.work ≡ Scanning d (AtThird number op.code op.a op.b) → op.c ≡ (seat_of old d).op.c → side_of_operation op ≢ side → new ≡ at_work (Scanning (d + 1) AtNumber) old → answer ≡ Went → StepsHeld old side new answer
scans_other {old} d number op side there at last other after says c owned m s sound fits running within =
    word_step c (at_work (Scanning (d + 1) AtNumber) old)
    (shows_work (Scanning (d + 1) AtNumber) (core.Scanning (suc d) core.AtNumber (seen_by old)) s
    (ap (λ (next : ℕ). core.Scanning next core.AtNumber (seen_by old)) (sym (add-one d))))
    (record {
      running = running;
      there = within;
      move = scanning_other (record {
        side = side;
        holds = holds_turn c side s owned;
        d = d;
        seen = seen_by old;
        number = number;
        code = op.code;
        a = op.a;
        b = op.b;
        at = works_at s at;
        other = λ same. other (ap (λ (ask : Ask). side_of_operation ask.op) (sym (scanned_is d number op s (within_head s there) last)) ∙ same);
        is = refl;
        says = says;
      });
    })
    after

-- requests of rising clients are no more than these
seen_few : (t : Standing) (side : ℕ) (requests : ℕ → ℕ → ℕ) (low high : ℕ) (asks : List Ask) → low ≤ high → AreSeen t side requests low high asks → low + length asks ≤ high
seen_few t side requests low high [] fits seen = omega (arith, fits)
seen_few t side requests low high (ask ∷ asks) fits seen =
    omega (arith, seen.0, seen.1, seen_few t side requests (suc ask.client) high asks (omega (arith, seen.1)) seen.3)

met_few : {old : CodeMemory} {m : Memory} {c side : ℕ} (d : ℕ) (part : core.Part) → ShowsMemory old m → IsMemory m → d < clients_of m → m.owner ≡ core.Held c side → m.work ≡ core.Scanning d part (seen_by old) → old.met < 16
met_few {old} {m} {c} {side} d part s sound inside holds at =
    let scan = the_scan d part (seen_by old) sound holds at in
    omega (arith, clients_few s, inside, seen_few (shown m) side m.requests 0 d (seen_by old) (omega arith) scan.seen_are, length-take-le old.met old.seen (omega (arith, s.met, s.room)))

pub scans_own : {old new : CodeMemory} {answer : Stepped} (d number : ℕ) (op : Op) (side : ℕ) → d < old.head.clients → old.work ≡ Scanning d (AtThird number op.code op.a op.b) → op.c ≡ (seat_of old d).op.c → side_of_operation op ≡ side → new ≡ with_ask_seen (record { client = d; number = number; op = op }) old → answer ≡ Went → StepsHeld old side new answer
scans_own {old} d number op side there at last same after says c owned m s sound fits running within =
    let inside = within_head s there in
    let holds = holds_turn c side s owned in
    let ask : Ask = record { client = d; number = number; op = op } in
    let few = met_few d (core.AtThird number op.code op.a op.b) s sound inside holds (works_at s at) in
    word_step c (record old { seen = set old.seen old.met ask; met = old.met + 1; work = Scanning (d + 1) AtNumber })
    (record {
      head = s.head;
      valid = s.valid;
      places = s.places;
      clients = s.clients;
      next = s.next;
      turn = s.turn;
      noted = s.noted;
      count = s.count;
      owner = s.owner;
      room = length-set old.seen old.met ask ∙ s.room;
      work =
          ap (λ (a : Ask). core.Scanning (suc d) core.AtNumber (seen_by old ++ a ∷ [])) (scanned_is d number op s inside last)
          ∙ (λ i. core.Scanning (sym (add-one d) i) core.AtNumber (sym (take_more_set old.seen old.met ask (omega (arith, few, s.room))) i));
      met = omega (arith, few);
      engine = s.engine;
      ahead = s.ahead;
      rounds = s.rounds;
    })
    (record {
      running = running;
      there = within;
      move = scanning_own (record {
        side = side;
        holds = holds;
        d = d;
        seen = seen_by old;
        number = number;
        code = op.code;
        a = op.a;
        b = op.b;
        at = works_at s at;
        same = ap (λ (a : Ask). side_of_operation a.op) (scanned_is d number op s inside last) ∙ same;
        is = refl;
        says = says;
      });
    })
    (after ∙ ap (λ (q : CodeMemory). at_work (Scanning (d + 1) AtNumber) q) (cond-true (nat_lt old.met 16) (record old { seen = set old.seen old.met ask; met = old.met + 1 }) old (lt-ltb old.met 16 few)))
