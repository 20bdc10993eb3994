-- The steps of the holder of the turn that go on: scanning, filling, and noting a fault.
use Rattle.std.proofs.Common.{◌≡◌, ◌≢◌, ℕ, suc, ◌+◌, ◌*◌, ◌%◌, ◌<◌, ◌≤◌, eqb, Bool, true, false, List, [], ◌∷◌, ◌++◌, length, get_or, set, Option, Some, sym, refl, ap, ◌∙◌, subst, inl, inr, arith, length-append}
use Rattle.std.specs.Prelude.{if◌then◌else◌}
use Rattle.std.proofs.lemmas.Bool.{eqb-true, eqb-false, eq-eqb, ne_eqb, true≢false}
use Rattle.std.proofs.lemmas.List.{append-nil}
use mathlib.Core.Option.{some}
use lib.ListN.{get_elem?}
use Rattle.atomic_table.specs.Table.{State, keeps, Allows}
use Rattle.pb_object.specs.declared.kind.Kind.{Kind}
use Rattle.pb_object.specs.declared.request.Ask.{Ask}
use Rattle.pb_object.specs.Standing.{Standing, newest_of}
use Rattle.pb_pmem.specs.Count.{Rose}
use Rattle.pb_events.specs.declared.event.Stepped.TheVariants.{Went}
use Rattle.pb_core.specs.Client.{Client, is_idle, is_announced, row_word}
use Rattle.pb_core.specs.HolderMoves.{round_by, Begins}
use Rattle.pb_core.specs.Laws.{AreDue}
use Rattle.pb_object.specs.History.{Round}
use Rattle.pb_core.specs.Memory.{Owner, Held, Part, AtNumber, AtCode, AtFirst, AtSecond, AtThird, Work, Scanning, Calling, Filling, Noting, GivingUp, Engine, Writing, Memory, clients_of, shown, known_standing, side_of_operation}
use Rattle.pb_core.specs.MemoryParts.{IsMemory, HasCause, AreSeen, Meets}
use Rattle.pb_core.specs.MemoryRun.{stepped as stepped_move}
use Rattle.pb_core.specs.WordMoves.{IsNotReopening, WordMove, scanned, with_row_word, next_row, passing_over, meeting, scanning_code, scanning_first, scanning_second, scanning_own, scanning_other, filling, noting}
use Rattle.pb_core.proofs.Holding.{begins_due, begins_own}
use Rattle.pb_core.proofs.Scans.{the_scan, known_shown}
use Rattle.pb_core.proofs.Turns.{the_holder}
use Rattle.pb_engine.specs.Asks.{side_asked}
use Rattle.pb_engine.specs.Calls.{progress_of, AreMadeFor}
use Rattle.pb_engine.specs.View.{EngineView}
use Rattle.pb_engine.specs.Good.{HasCome}
use Rattle.pb_rule.specs.View.{Look, Met, OwnRound, PassView}
use Rattle.pb_rule.specs.Holding.{part_place, IsScanPlace, notes_now}
use Rattle.pb_rule.specs.Plays.{Seated, the_view, HoldsSlot, engine_before, engine_now, scanning_now, filling_now, kept_number, ask_with, seen_with, part_found, scan_found, looked_by, scanned_on, AsksFor, ScanIsOver, scan_step, next_filled, own_by, filled_on, fill_step, noted, note_step}
use Rattle.pb_rule.specs.Ready.{Ready, IsReadyFor}
use Rattle.pb_rule.specs.Rule.{request_place, row_place, HasWords, IsTied, LiesAt, IsOwn, IsViewOf, Fault, AreIntervalsApart, met_if, met_by, HasCoreRun, Keeps, failed_calls, fault_asks, asked_by, failed_asks, AreNextAtSettling, recorded_by, AreOfClients}
use Rattle.pb_rule.proofs.Known.{tied_clients}
use Rattle.pb_rule.proofs.MadeRounds.{goes_nowhere, makers_stay, asked_stay}
use Rattle.pb_rule.proofs.Movers.{own_view, running, is_memory, keeps_rule, others_stay, held_lonely}
use Rattle.pb_rule.proofs.Prepared.{called_to, IsPrepared, HasTurn, has_turn, prepares}
use Rattle.pb_rule.proofs.Rounds.{may_be_served, seen_side}
use Rattle.pb_rule.proofs.Runs.{moved_on, memory_of}
use Rattle.pb_rule.proofs.Waits.{same_words}
use Rattle.pb_rule.proofs.WordLemmas.{words_of, row_stored, noted_stored, odd_below}

-- a client's request among those that were seen is the one with the number that it announces
asks_for : (s : Standing) (side low high : ℕ) (requests : ℕ → ℕ → ℕ) (c : ℕ) (asks : List Ask) → Meets c asks → AreSeen s side requests low high asks → AsksFor c (requests c 0) asks
asks_for s side low high requests c [] met seen = absurd met
asks_for s side low high requests c (ask ∷ asks) (inl here) seen =
    inl (here, sym (seen.2.words 0 (omega arith)) ∙ ap (λ (d : ℕ). requests d 0) here)
asks_for s side low high requests c (ask ∷ asks) (inr later) seen =
    inr (asks_for s side (suc ask.client) high requests c asks later seen.3)

-- Faults in order

apart_more : (low : ℕ) (faults : List Fault) (high client : ℕ) (ask : Ask) (from to : ℕ) → high ≤ from → Rose from to → AreIntervalsApart low faults high → AreIntervalsApart low (faults ++ record { client = client; met = record { ask = ask; from = from; to = to } } ∷ []) to
apart_more low [] high client ask from to after rose apart =
    (omega (arith, after, apart), rose, omega arith)
apart_more low (fault ∷ faults) high client ask from to after rose apart =
    (apart.0, apart.1, apart_more fault.met.to faults high client ask from to after rose apart.2)

clients_more : (clients : ℕ) (faults : List Fault) (client : ℕ) (met : Met) → client < clients → met.ask.client ≡ client → AreOfClients clients faults → AreOfClients clients (faults ++ record { client = client; met = met } ∷ [])
clients_more clients [] client met below own are = (below, own, tt)
clients_more clients (fault ∷ faults) client met below own are =
    (are.0, are.1, clients_more clients faults client met below own are.2)

asks_more : (faults : List Fault) (fault : Fault) → fault_asks (faults ++ fault ∷ []) ≡ fault_asks faults ++ fault.met.ask ∷ []
asks_more [] fault = refl
asks_more (first ∷ faults) fault = ap (λ (asks : List Ask). first.met.ask ∷ asks) (asks_more faults fault)

met_own : (client : ℕ) (faults : List Fault) (met : Met) → met_by client (faults ++ record { client = client; met = met } ∷ []) ≡ met_by client faults ++ met ∷ []
met_own client [] met = ap (λ (b : Bool). met_if b met []) (eq-eqb client client refl)
met_own client (fault ∷ faults) met =
    ap (met_if (eqb fault.client client) fault.met) (met_own client faults met) ∙ through (eqb fault.client client) (met_by client faults)
  where
    through : (b : Bool) (more : List Met) → met_if b fault.met (more ++ met ∷ []) ≡ met_if b fault.met more ++ met ∷ []
    through true more = refl
    through false more = refl

met_other : (client other : ℕ) (faults : List Fault) (met : Met) → other ≢ client → met_by other (faults ++ record { client = client; met = met } ∷ []) ≡ met_by other faults
met_other client other [] met apart =
    ap (λ (b : Bool). met_if b met []) (ne_eqb client other (λ e. apart (sym e)))
met_other client other (fault ∷ faults) met apart =
    ap (met_if (eqb fault.client other) fault.met) (met_other client other faults met apart)

module _ {X : Type 0} (seen : X → EngineView) (kind : Kind) (start : EngineView) where
  abbrev Rule : State (Option X) (List PassView) → Type 0
  Rule = Keeps seen kind start

  -- where a seat that holds the slot stands among the views
  pub stands_holding : (s : State (Option X) (List PassView)) (id : ℕ) (me : Seated X) → HoldsSlot me → get_elem? s.views id ≡ some me.0 → get_elem? s.views id ≡ some (the_view me ∷ [])
  stands_holding s id me holds at = at ∙ ap (λ (m : Seated X). some m.0) holds.is

  -- a step of the holder is a move of the core, from where its calls led
  step_on : {s : State (Option X) (List PassView)} (r : Rule s) (c : ℕ) (m new : Memory) → HasCoreRun start m → m.owner ≡ r.m.owner → c < clients_of m → WordMove m c new Went → HasCoreRun start new
  step_on r c m new run owner there move =
      moved_on run (stepped_move c Went (record { running = subst IsNotReopening (sym owner) (running seen kind start r); there = there; move = move }))

  -- The holder goes on
  goes_on : {s : State (Option X) (List PassView)} (r : Rule s) (id : ℕ) (v : PassView) (before : EngineView) (ahead : Option Round) (engine : Engine) (count noted : ℕ) (from work : Work) (rows : ℕ → ℕ → ℕ → ℕ) (now : EngineView) (looked : List Look) (met : List Met) (done : Work) (own : Option OwnRound) (later : List Fault) (words : List ℕ)
      → get_elem? s.views id ≡ some (v ∷ []) → HasTurn seen kind start r v before
      → HasCoreRun start (record (called_to r.m ahead engine count work) { rows = rows; noted = noted })
      → HasWords (record r.m { rows = rows; noted = noted }) words
      → IsTied kind start (called_to r.m ahead engine count from) now r.faults → failed_calls from r.faults ≡ failed_calls work later
      → failed_asks from (asked_by r.m.owner r.m.book) r.faults ≡ failed_asks work (asked_by r.m.owner r.m.book) later
      → AreIntervalsApart 0 later noted → AreOfClients (clients_of r.m) later → met ≡ met_by v.client later → ((d : ℕ) → d ≢ v.client → met_by d later ≡ met_by d r.faults)
      → done ≡ work → IsOwn r.m.start r.m.published ahead own
      → Rule (record { words = words; homes = s.homes; views = set s.views id (record v { looked = looked; met = met; work = done; hand = Some now; own = own } ∷ []) })
  goes_on {s} r id v before ahead engine count noted from work rows now looked met done own later words at turn run has tied counted asked apart theirs met_is others done_is owns =
      keeps_rule seen kind start r id v (record v { looked = looked; met = met; work = done; hand = Some now; own = own }) new now later words s.homes at run
      (words_of new words has refl refl has.turn has.noted has.requests has.rows)
      (record {
        standing = tied.standing;
        count = tied.count;
        suits = tied.suits;
        calls = tied.calls;
        come = subst (λ (failures : ℕ). HasCome start now (recorded_by engine ahead r.m.published) failures tied.calls) counted tied.come;
        called_for = record {
          failed = subst (AreMadeFor tied.calls) asked tied.called_for.failed;
          next = subst (AreNextAtSettling start.standing (progress_of [] start) tied.calls) asked tied.called_for.next;
          asked = asked_stay (called_to r.m ahead engine count from) new tied.calls refl (λ d. goes_nowhere (r.m.book d)) tied.called_for.asked;
          made = makers_stay (called_to r.m ahead engine count from) new tied.calls refl (λ d. goes_nowhere (r.m.book d)) (λ round unpublished. inr (record { recorded = unpublished.recorded; ahead = unpublished.ahead; own = unpublished.own })) tied.called_for.made;
        };
        sound = tied.sound;
      })
      (subst (λ (o : Owner). LiesAt seen o now s.homes) (sym turn.owner) (subst (λ (o : Owner). LiesAt seen o r.engine s.homes) turn.owner r.lies))
      r.below apart theirs refl
      (record {
        clients = own_is.clients;
        there = own_is.there;
        body = own_is.body;
        front = own_is.front;
        holder = λ holds. record { work = done_is; hand = refl; front = turn.holder.front; own = owns };
        other = λ free. absurd (true≢false (sym turn.holding ∙ free));
        served = own_is.served;
      })
      met_is
      (others_stay seen kind start v.client [] refl (sym (append-nil r.m.published)) (λ d other. refl) (held_lonely seen kind start v.client _ (is_memory seen kind start r) turn.owner))
      others
    where
      new : Memory
      new = record (called_to r.m ahead engine count work) { rows = rows; noted = noted }

      own_is : IsViewOf r.m r.engine v
      own_is = own_view seen kind start r id v at

  -- what the holder called since its last step, as moves
  prepared : {s : State (Option X) (List PassView)} (r : Rule s) (id : ℕ) (me : Seated X) (now : Work → Work) → get_elem? s.views id ≡ some (the_view me ∷ []) → IsReadyFor seen kind now me → (turn : HasTurn seen kind start r (the_view me) (engine_before me))
      → IsPrepared kind start r.m r.faults r.engine (engine_now seen me) (now (the_view me).work)
  prepared r id me now at ready turn =
      let own = own_view seen kind start r id (the_view me) at in
      prepares seen kind start r (the_view me).client own.there turn.owner (the_view me).clients (engine_now seen me) (now (the_view me).work) ready.sound own.clients
      (subst (λ (e : EngineView). Ready (the_view me).clients r.m.work e (engine_now seen me) (now (the_view me).work)) (sym turn.same)
      (subst (λ (w : Work). Ready (the_view me).clients w (engine_before me) (engine_now seen me) (now (the_view me).work)) turn.holder.work ready.ready))

  -- Scanning

  -- the next work of a scan, and the move to it
  record Scanned (m : Memory) (work : Work) : Type 0 where
    pub next : Work
    pub run : HasCoreRun start (record m { work = next })
    pub is : work ≡ next
    pub quiet : (faults : List Fault) → failed_calls next faults ≡ length faults
    pub asks : (ask : Ask) (faults : List Fault) → failed_asks next ask faults ≡ fault_asks faults

  scans : {s : State (Option X) (List PassView)} (r : Rule s) (c : ℕ) (m : Memory) (now : EngineView) (side client found : ℕ) (part : Part) (asks : List Ask) → HasCoreRun start m → m.owner ≡ r.m.owner → c < clients_of m → client < clients_of m → m.owner ≡ Held c side → now.standing ≡ known_standing m
      → m.work ≡ Scanning client part asks → found ≡ m.requests client (part_place part) → Scanned m (part_found (kept_number now.standing) side found client part asks)
  scans r c m now side d found AtNumber asks run owner there inside holds standing at found_is = go (eqb found (kept_number now.standing d + 1)) refl
    where
      due : kept_number now.standing d + 1 ≡ (newest_of (known_standing m) d).number + 1
      due = ap (λ (t : Standing). (newest_of t d).number + 1) standing

      go : (b : Bool) → eqb found (kept_number now.standing d + 1) ≡ b → Scanned m (if b then Scanning d (AtCode found) asks else Scanning (suc d) AtNumber asks)
      go true e = record {
        next = Scanning d (AtCode (m.requests d 0)) asks;
        run = step_on r c m _ run owner there (meeting (record { side = side; holds = holds; d = d; seen = asks; there = inside; at = at; due = sym found_is ∙ (eqb-true _ _ e ∙ due); is = refl; says = refl }));
        is = ap (λ (n : ℕ). Scanning d (AtCode n) asks) found_is;
        quiet = λ faults. refl;
        asks = λ ask faults. refl;
      }
      go false e = record {
        next = Scanning (suc d) AtNumber asks;
        run = step_on r c m _ run owner there (passing_over (record { side = side; holds = holds; d = d; seen = asks; there = inside; at = at; other = λ same. eqb-false _ _ e (found_is ∙ (same ∙ sym due)); is = refl; says = refl }));
        is = refl;
        quiet = λ faults. refl;
        asks = λ ask faults. refl;
      }
  scans r c m now side d found (AtCode number) asks run owner there inside holds standing at found_is = record {
    next = Scanning d (AtFirst number (m.requests d 1)) asks;
    run = step_on r c m _ run owner there (scanning_code (record { side = side; holds = holds; d = d; seen = asks; number = number; at = at; is = refl; says = refl }));
    is = ap (λ (n : ℕ). Scanning d (AtFirst number n) asks) found_is;
    quiet = λ faults. refl;
    asks = λ ask faults. refl;
  }
  scans r c m now side d found (AtFirst number code) asks run owner there inside holds standing at found_is = record {
    next = Scanning d (AtSecond number code (m.requests d 2)) asks;
    run = step_on r c m _ run owner there (scanning_first (record { side = side; holds = holds; d = d; seen = asks; number = number; code = code; at = at; is = refl; says = refl }));
    is = ap (λ (n : ℕ). Scanning d (AtSecond number code n) asks) found_is;
    quiet = λ faults. refl;
    asks = λ ask faults. refl;
  }
  scans r c m now side d found (AtSecond number code a) asks run owner there inside holds standing at found_is = record {
    next = Scanning d (AtThird number code a (m.requests d 3)) asks;
    run = step_on r c m _ run owner there (scanning_second (record { side = side; holds = holds; d = d; seen = asks; number = number; code = code; a = a; at = at; is = refl; says = refl }));
    is = ap (λ (n : ℕ). Scanning d (AtThird number code a n) asks) found_is;
    quiet = λ faults. refl;
    asks = λ ask faults. refl;
  }
  scans r c m now side d found (AtThird number code a b) asks run owner there inside holds standing at found_is = go (eqb (side_of_operation (scanned m d number code a b).op) side) refl
    where
      -- the side goes by the code alone
      whole : (t : Bool) → Scanning (suc d) AtNumber (if eqb (side_of_operation (scanned m d number code a b).op) side then asks ++ ask_with d number code a b found ∷ [] else asks) ≡ Scanning (suc d) AtNumber (seen_with side asks (ask_with d number code a b found))
      whole t = refl

      go : (t : Bool) → eqb (side_of_operation (scanned m d number code a b).op) side ≡ t → Scanned m (Scanning (suc d) AtNumber (if t then asks ++ ask_with d number code a b found ∷ [] else asks))
      go true e = record {
        next = Scanning (suc d) AtNumber (asks ++ scanned m d number code a b ∷ []);
        run = step_on r c m _ run owner there (scanning_own (record { side = side; holds = holds; d = d; seen = asks; number = number; code = code; a = a; b = b; at = at; same = eqb-true _ _ e; is = refl; says = refl }));
        is = ap (λ (n : ℕ). Scanning (suc d) AtNumber (asks ++ ask_with d number code a b n ∷ [])) found_is;
        quiet = λ faults. refl;
        asks = λ ask faults. refl;
      }
      go false e = record {
        next = Scanning (suc d) AtNumber asks;
        run = step_on r c m _ run owner there (scanning_other (record { side = side; holds = holds; d = d; seen = asks; number = number; code = code; a = a; b = b; at = at; other = eqb-false _ _ e; is = refl; says = refl }));
        is = refl;
        quiet = λ faults. refl;
        asks = λ ask faults. refl;
      }

  -- a scan that is over
  scan_over : {m : Memory} (c side : ℕ) (v : PassView) (now : EngineView) → IsMemory m → c < clients_of m → m.owner ≡ Held c side → now.standing ≡ known_standing m → now.standing.clients ≡ clients_of m → v.client ≡ c → v.body ≡ m.book c → v.work ≡ m.work → ScanIsOver now v
  scan_over {m} c side v now is there holds standing clients same body work = record {
    may = λ asks over. may_be_served now.standing side c asks (side_is asks over) (met asks over) (subst (λ (t : Standing). AreDue t side 0 asks) (sym (standing ∙ known_shown (clients_of m) AtNumber asks is holds (at asks over))) (begins_due is (begins asks over)));
    own = λ asks over. subst (λ (n : ℕ). AsksFor v.client n asks) (number_is asks over) (subst (λ (d : ℕ). AsksFor d (m.requests c 0) asks) (sym same) (asks_for (shown m) side 0 (clients_of m) m.requests c asks (met asks over) (seen_are asks over)));
  }
    where
      at : (asks : List Ask) → v.work ≡ Scanning now.standing.clients AtNumber asks → m.work ≡ Scanning (clients_of m) AtNumber asks
      at asks over = sym work ∙ (over ∙ ap (λ (n : ℕ). Scanning n AtNumber asks) clients)

      begins : (asks : List Ask) → v.work ≡ Scanning now.standing.clients AtNumber asks → Begins m c (record m { ahead = Some (round_by side (known_standing m) asks); work = Calling; engine = Writing })
      begins asks over = record { side = side; holds = holds; seen = asks; at = at asks over; is = refl }

      met : (asks : List Ask) → v.work ≡ Scanning now.standing.clients AtNumber asks → Meets c asks
      met asks over = begins_own is there (begins asks over)

      seen_are : (asks : List Ask) → v.work ≡ Scanning now.standing.clients AtNumber asks → AreSeen (shown m) side m.requests 0 (clients_of m) asks
      seen_are asks over = (the_scan (clients_of m) AtNumber asks is holds (at asks over)).seen_are

      number_is : (asks : List Ask) → v.work ≡ Scanning now.standing.clients AtNumber asks → m.requests c 0 ≡ v.body.ask.number
      number_is asks over =
          (is.clients c there).has_words.announced (ap is_announced (the_holder side (is.clients c there) holds).stage) ∙ ap (λ (b : Client). b.ask.number) (sym body)

      side_is : (asks : List Ask) → v.work ≡ Scanning now.standing.clients AtNumber asks → side_asked asks ≡ side
      side_is asks over =
          seen_side (shown m) side 0 (clients_of m) m.requests c asks (met asks over) (the_scan (clients_of m) AtNumber asks is holds (at asks over)).seen_are

  pub loads_request : (slots id word client place : ℕ) (me : Seated X) → word ≡ request_place client place → IsReadyFor seen kind scanning_now me → client < (the_view me).clients → IsScanPlace (scanning_now (the_view me).work) client place
      → Allows Rule slots id me word (λ n. n) (λ found new. (new ≡ scan_step seen found me) × ScanIsOver (engine_now seen me) (the_view new))
  loads_request slots id word client place me word_is ready inside scan s r deep at small = (scanned_on now found v ∷ [], keeps, tt, rule, (refl, over))
    where
      found : ℕ
      found = get_or s.words word 0

      now : EngineView
      now = engine_now seen me

      v : PassView
      v = the_view me

      here : get_elem? s.views id ≡ some (the_view me ∷ [])
      here = stands_holding s id me ready.holds at

      own : IsViewOf r.m r.engine (the_view me)
      own = own_view seen kind start r id (the_view me) here

      turn : HasTurn seen kind start r (the_view me) (engine_before me)
      turn = has_turn seen kind start r id (the_view me) (engine_before me) here ready.hand

      p : IsPrepared kind start r.m r.faults r.engine (engine_now seen me) (scanning_now (the_view me).work)
      p = prepared r id me scanning_now here ready turn

      side : ℕ
      side = side_of_operation (r.m.book (the_view me).client).ask.op

      from : Memory
      from = called_to r.m p.ahead p.engine p.count (scanning_now (the_view me).work)

      few : (part : Part) → part_place part < 5
      few AtNumber = omega arith
      few (AtCode number) = omega arith
      few (AtFirst number code) = omega arith
      few (AtSecond number code a) = omega arith
      few (AtThird number code a b) = omega arith

      word_found : get_or s.words word 0 ≡ r.m.requests client (part_place scan.part)
      word_found =
          ap (λ (w : ℕ). get_or s.words w 0) (word_is ∙ ap (request_place client) scan.place_is) ∙ r.words.requests client (part_place scan.part) (omega (arith, inside, own.clients)) (few scan.part)

      next : Scanned from (part_found (kept_number (engine_now seen me).standing) side (get_or s.words word 0) client scan.part scan.seen)
      next = scans r (the_view me).client from (engine_now seen me) side client (get_or s.words word 0) scan.part scan.seen p.run refl own.there (omega (arith, inside, own.clients)) turn.owner p.tied.standing scan.at word_found

      -- the view has the same work
      work_is : (scanned_on (engine_now seen me) (get_or s.words word 0) (the_view me)).work ≡ next.next
      work_is =
          ap (scan_found (kept_number now.standing) (side_of_operation v.body.ask.op) found) scan.at ∙ ((λ i. part_found (kept_number now.standing) (side_of_operation (own.body i).ask.op) found client scan.part scan.seen) ∙ next.is)

      never : (stored : ℕ) → scanning_now (the_view me).work ≢ Filling stored
      never stored e = apart (sym scan.at ∙ e)
        where
          apart : Scanning client scan.part scan.seen ≡ Filling stored → ⊥
          apart q = cc

      rule : Rule (record { words = set s.words word (get_or s.words word 0); homes = s.homes; views = set s.views id (scanned_on (engine_now seen me) (get_or s.words word 0) (the_view me) ∷ []) })
      rule = goes_on r id v (engine_before me) p.ahead p.engine p.count r.m.noted (scanning_now v.work) next.next r.m.rows now (v.looked ++ looked_by (kept_number now.standing) found (scanning_now v.work)) v.met (scan_found (kept_number now.standing) (side_of_operation v.body.ask.op) found (scanning_now v.work)) v.own r.faults (set s.words word found) here turn next.run
          (same_words seen kind start s.words word r.words) p.tied (ap (λ (w : Work). failed_calls w r.faults) scan.at ∙ sym (next.quiet r.faults)) (ap (λ (w : Work). failed_asks w (asked_by r.m.owner r.m.book) r.faults) scan.at ∙ sym (next.asks (asked_by r.m.owner r.m.book) r.faults)) r.apart r.clients (r.views id (v ∷ []) here).1 (λ d other. refl) work_is (p.stays never v.own turn.holder.own)

      over : ScanIsOver (engine_now seen me) (scanned_on (engine_now seen me) (get_or s.words word 0) (the_view me))
      over = scan_over {m = record from { work = next.next }} v.client side (scanned_on now found v) now (memory_of r.kept next.run) own.there turn.owner p.tied.standing (tied_clients p.tied) refl own.body work_is

  -- Filling

  pub stores_row : (slots id word client row place value : ℕ) (me : Seated X) → word ≡ row_place client row place → IsReadyFor seen kind filling_now me → client < (the_view me).clients → row ≡ suc (the_view me).body.front % 2 → place < 4
      → filling_now (the_view me).work ≡ Filling (4 * client + place) → value ≡ row_word (newest_of (engine_now seen me).standing client) place → Allows Rule slots id me word (λ _. value) (λ _ new. new ≡ fill_step seen me)
  stores_row slots id word client row place value me word_is ready inside row_is few filled value_is s r deep at small = (filled_on (engine_before me) now v ∷ [], keeps, tt, rule, refl)
    where
      now : EngineView
      now = engine_now seen me

      v : PassView
      v = the_view me

      here : get_elem? s.views id ≡ some (the_view me ∷ [])
      here = stands_holding s id me ready.holds at

      own : IsViewOf r.m r.engine (the_view me)
      own = own_view seen kind start r id (the_view me) here

      turn : HasTurn seen kind start r (the_view me) (engine_before me)
      turn = has_turn seen kind start r id (the_view me) (engine_before me) here ready.hand

      p : IsPrepared kind start r.m r.faults r.engine (engine_now seen me) (filling_now (the_view me).work)
      p = prepared r id me filling_now here ready turn

      from : Memory
      from = called_to r.m p.ahead p.engine p.count (filling_now (the_view me).work)

      there : client < clients_of r.m
      there = omega (arith, inside, own.clients)

      next_row_is : row ≡ next_row r.m
      next_row_is = row_is ∙ ap (λ (n : ℕ). suc n % 2) turn.holder.front

      known_word : value ≡ row_word (newest_of (known_standing from) client) place
      known_word = value_is ∙ ap (λ (t : Standing). row_word (newest_of t client) place) p.tied.standing

      run : HasCoreRun start (record from { rows = with_row_word row client place value r.m.rows; work = Filling (suc (4 * client + place)) })
      run =
          subst (λ (n : ℕ). HasCoreRun start (record from { rows = with_row_word n client place value r.m.rows; work = Filling (suc (4 * client + place)) })) (sym next_row_is)
          (subst (λ (n : ℕ). HasCoreRun start (record from { rows = with_row_word (next_row r.m) client place n r.m.rows; work = Filling (suc (4 * client + place)) })) (sym known_word)
          (step_on r v.client from _ p.run refl own.there (filling (record { side = side_of_operation (r.m.book v.client).ask.op; holds = turn.owner; d = client; place = place; there = there; few = few; at = filled; is = refl; says = refl }))))

      words : HasWords (record r.m { rows = with_row_word row client place value r.m.rows }) (set s.words word value)
      words = subst (λ (w : ℕ). HasWords (record r.m { rows = with_row_word row client place value r.m.rows }) (set s.words w value)) (sym word_is) (row_stored row client place value (odd_below _ row row_is) there few r.words)

      owns : IsOwn r.m.start r.m.published p.ahead (own_by (engine_before me) (the_view me).body.front (the_view me).work (the_view me).own)
      owns =
          subst (λ (e : EngineView). IsOwn r.m.start r.m.published p.ahead (own_by e v.body.front v.work v.own)) turn.same
          (subst (λ (n : ℕ). IsOwn r.m.start r.m.published p.ahead (own_by r.engine n v.work v.own)) (sym turn.holder.front)
          (subst (λ (w : Work). IsOwn r.m.start r.m.published p.ahead (own_by r.engine (length r.m.published) w v.own)) (sym turn.holder.work)
          (p.fills (4 * client + place) filled v.own turn.holder.own)))

      rule : Rule (record { words = set s.words word value; homes = s.homes; views = set s.views id (filled_on (engine_before me) (engine_now seen me) (the_view me) ∷ []) })
      rule = goes_on r id v (engine_before me) p.ahead p.engine p.count r.m.noted (filling_now v.work) (Filling (suc (4 * client + place))) (with_row_word row client place value r.m.rows) now v.looked v.met (next_filled (filling_now v.work)) (own_by (engine_before me) v.body.front v.work v.own) r.faults (set s.words word value) here turn run words p.tied (ap (λ (w : Work). failed_calls w r.faults) filled) (ap (λ (w : Work). failed_asks w (asked_by r.m.owner r.m.book) r.faults) filled) r.apart r.clients (r.views id (v ∷ []) here).1 (λ d other. refl) (ap next_filled filled) owns

  -- Noting a fault

  pub notes_faults : (slots id count : ℕ) (me : Seated X) → IsReadyFor seen kind (notes_now (engine_before me) (engine_now seen me)) me → count ≡ (engine_now seen me).device.faults
      → Allows Rule slots id me 1 (λ _. count) (λ _ new. new ≡ note_step seen me)
  notes_faults slots id count me ready count_is s r deep at small = (noted (engine_before me) now v ∷ [], keeps, tt, rule, refl)
    where
      now : EngineView
      now = engine_now seen me

      v : PassView
      v = the_view me

      here : get_elem? s.views id ≡ some (the_view me ∷ [])
      here = stands_holding s id me ready.holds at

      own : IsViewOf r.m r.engine (the_view me)
      own = own_view seen kind start r id (the_view me) here

      turn : HasTurn seen kind start r (the_view me) (engine_before me)
      turn = has_turn seen kind start r id (the_view me) (engine_before me) here ready.hand

      low : ℕ
      low = (engine_before me).device.faults

      high : ℕ
      high = (engine_now seen me).device.faults

      p : IsPrepared kind start r.m r.faults r.engine (engine_now seen me) (Noting (engine_before me).device.faults (engine_now seen me).device.faults)
      p = prepared r id me (notes_now (engine_before me) (engine_now seen me)) here ready turn

      from : Memory
      from = called_to r.m p.ahead p.engine p.count (Noting (engine_before me).device.faults (engine_now seen me).device.faults)

      cause : HasCause (Noting (engine_before me).device.faults (engine_now seen me).device.faults) r.m.noted p.count
      cause = (memory_of r.kept p.run).cause

      run : HasCoreRun start (record from { noted = (engine_now seen me).device.faults; work = GivingUp (engine_before me).device.faults (engine_now seen me).device.faults })
      run = step_on r v.client from _ p.run refl own.there (noting (record { side = side_of_operation (r.m.book v.client).ask.op; holds = turn.owner; from = low; to = high; at = refl; is = refl; says = refl }))

      words : HasWords (record r.m { noted = (engine_now seen me).device.faults }) (set s.words 1 count)
      words = subst (λ (n : ℕ). HasWords (record r.m { noted = high }) (set s.words 1 n)) (sym count_is) (noted_stored high r.words)

      -- the fault that is noted
      met : Met
      met = record { ask = (the_view me).body.ask; from = (engine_before me).device.faults; to = (engine_now seen me).device.faults }

      ask_is : asked_by r.m.owner r.m.book ≡ (the_view me).body.ask
      ask_is = ap (λ (o : Owner). asked_by o r.m.book) turn.owner ∙ ap (λ (b : Client). b.ask) (sym own.body)

      asker : (the_view me).body.ask.client ≡ (the_view me).client
      asker =
          let client = (is_memory seen kind start r).clients v.client own.there in
          ap (λ (b : Client). b.ask.client) own.body ∙ (client.asking (ap is_idle (the_holder (side_of_operation (r.m.book v.client).ask.op) client turn.owner).stage)).client

      never : (stored : ℕ) → Noting (engine_before me).device.faults (engine_now seen me).device.faults ≢ Filling stored
      never stored e = cc

      rule : Rule (record { words = set s.words 1 count; homes = s.homes; views = set s.views id (noted (engine_before me) (engine_now seen me) (the_view me) ∷ []) })
      rule = goes_on r id v (engine_before me) p.ahead p.engine p.count high (Noting low high) (GivingUp low high) r.m.rows now v.looked (v.met ++ met ∷ []) (GivingUp low high) v.own (r.faults ++ record { client = v.client; met = met } ∷ []) (set s.words 1 count) here turn run words p.tied (sym (length-append r.faults (record { client = v.client; met = met } ∷ []) ∙ omega arith))
          (ap (λ (ask : Ask). fault_asks r.faults ++ ask ∷ []) ask_is ∙ sym (asks_more r.faults (record { client = v.client; met = met })))
          (apart_more 0 r.faults r.m.noted v.client v.body.ask low high cause.1 cause.0 r.apart)
          (clients_more (clients_of r.m) r.faults v.client met own.there asker r.clients)
          (ap (λ (l : List Met). l ++ met ∷ []) (r.views id (v ∷ []) here).1 ∙ sym (met_own v.client r.faults met))
          (λ d other. met_other v.client d r.faults met other) refl (p.stays never v.own turn.holder.own)

pub scan_place_few : {work : Work} {client place : ℕ} → IsScanPlace work client place → place < 5
scan_place_few {work} {client} {place} scan =
    subst (λ (n : ℕ). n < 5) (sym scan.place_is) (few scan.part)
  where
    few : (part : Part) → part_place part < 5
    few AtNumber = omega arith
    few (AtCode number) = omega arith
    few (AtFirst number code) = omega arith
    few (AtSecond number code a) = omega arith
    few (AtThird number code a b) = omega arith
