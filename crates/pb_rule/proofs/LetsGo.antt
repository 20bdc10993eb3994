-- The steps with which the holder lets the turn go: publishing, and giving up.
use Rattle.std.proofs.Common.{◌≡◌, ◌⊎◌, ℕ, suc, ◌+◌, ◌-◌, ◌*◌, eqb, Bool, true, false, List, [], ◌∷◌, ◌++◌, length, set, Contains, Option, Some, None, IsSome, sym, refl, ap, ◌∙◌, subst, inl, arith}
use Rattle.std.proofs.lemmas.Bool.{eqb-true, eqb-false, false≢true}
use Rattle.std.proofs.lemmas.List.{append-nil}
use mathlib.Core.Option as maybe
use mathlib.Core.Option.{some}
use lib.ListN.{get_elem?}
use Rattle.atomic_table.specs.Table.{State, gives, Allows, put_back, rest}
use Rattle.pb_object.specs.declared.kind.Kind.{Kind}
use Rattle.pb_object.specs.declared.request.Kept.{Kept}
use Rattle.pb_object.specs.declared.request.Reply.{Reply}
use Rattle.pb_object.specs.History.{Entry, Round, History, kept_by}
use Rattle.pb_object.specs.Standing.{Standing, newest_of}
use Rattle.pb_core.specs.Client.{Looking, Client, is_idle, is_holding, entry_by}
use Rattle.pb_core.specs.Memory.{Owner, Free, NoWork, Filling, GivingUp, Engine, Recorded, Doubtful, Memory, with_at, with_client, clients_of, shown, known_standing, known_by, with_round_ahead, side_of_operation, Work}
use Rattle.pb_core.specs.MemoryParts.{held_count, own_entries, IsMemory}
use Rattle.pb_core.specs.MemoryRun.{stepped as stepped_move}
use Rattle.pb_core.specs.WordMoves.{go_to, steps_to, answered, with_answer, with_published, publishing_own, publishing_others, giving_up}
use Rattle.pb_core.proofs.Basics.{with_at-same, with_at-other}
use Rattle.pb_core.proofs.Histories.{state_after-push}
use Rattle.pb_core.proofs.Turns.{the_holder, work_suits}
use Rattle.pb_engine.specs.Calls.{progress_of, HasRequest, AreMadeFor}
use Rattle.pb_engine.specs.View.{EngineView}
use Rattle.pb_engine.specs.Good.{HasCome}
use Rattle.pb_rule.specs.View.{Note, Turn, Row, OwnRound, PassView}
use Rattle.pb_rule.specs.Holding.{IsGivingUp}
use Rattle.pb_rule.specs.Plays.{Seated, the_view, engine_before, engine_now, slot_seen, lets_go, own_round, published_body, published, publish_step, given_up}
use Rattle.pb_rule.specs.Ready.{IsReadyFor, same_work}
use Rattle.pb_rule.specs.Rule.{AreIntervalsApart, HasWords, IsTied, LiesAt, IsBelow, SuitsEngine, recorded_by, HasFront, IsOwn, AreServed, IsViewOf, HasCoreRun, Keeps, failed_calls, asked_by, failed_asks, AreNextAtSettling, IsUnpublished, AreOfClients, HasAnsweredOne}
use Rattle.pb_rule.proofs.Holds.{stands_holding}
use Rattle.pb_rule.proofs.MadeRounds.{GoesOn, kept_request, answered_adds, stays_open, is_answered, others_go_on, not_doubtful, none_unpublished, makers_stay, asked_stay}
use Rattle.pb_rule.proofs.Movers.{own_view, running, is_memory, keeps_rule, others_stay, held_lonely, served_more}
use Rattle.pb_rule.proofs.Prepared.{HasTurn, has_turn}
use Rattle.pb_rule.proofs.Runs.{moved_on}
use Rattle.pb_rule.proofs.WordLemmas.{words_of, turn_stored}

served_append : (start : Standing) (history : History) (first more : List OwnRound) → AreServed start history first → AreServed start history more → AreServed start history (first ++ more)
served_append start history [] more all others = others
served_append start history (own ∷ first) more all others =
    (all.0, served_append start history first more all.1 others)

-- the round that was filled from a scan is published
own_served : (start : Standing) (history : History) (round : Round) (own : Option OwnRound) → IsOwn start history (Some round) own → AreServed start (history ++ round ∷ []) (own_round own)
own_served start history round None is = tt
own_served start history round (Some own) is = (
  record {
    before = history;
    round = round;
    after = [];
    is = refl;
    number = is.number;
    entries = is.entries ∙ ap (λ (r : Round). r.entries) (same is.round (sym is.ahead_is));
    kept = is.kept;
  },
  tt,
)
  where
    same : (other : Round) → Some other ≡ Some round → other ≡ round
    same other e = cc

module _ {X : Type 0} (seen : X → EngineView) (kind : Kind) (start : EngineView) where
  abbrev Rule : State (Option X) (List PassView) → Type 0
  Rule = Keeps seen kind start

  -- the turn word of a holder
  pub turn_held : {s : State (Option X) (List PassView)} (r : Rule s) (v : PassView) (before : EngineView) → HasTurn seen kind start r v before → r.m.turn ≡ 2 * v.body.front + 1
  turn_held r v before turn =
      (is_memory seen kind start r).turn ∙ ((λ i. 2 * sym turn.holder.front i + held_count (turn.owner i)))

  -- The holder lets the turn go: the engine lies in its slot again
  lets_turn_go : {s : State (Option X) (List PassView)} (r : Rule s) (id : ℕ) (v : PassView) (before : EngineView) (x : X) (new : Memory) (b body : Client) (notes : List Note) (served : List OwnRound) (more : History) (words : List ℕ)
      → get_elem? s.views id ≡ some (v ∷ []) → HasTurn seen kind start r v before → seen x ≡ before
      → HasCoreRun start new → new.owner ≡ Free → new.start ≡ r.m.start → new.published ≡ r.m.published ++ more → new.book ≡ with_at v.client b r.m.book → new.noted ≡ r.m.noted
      → HasWords new words → IsTied kind start new before r.faults → body ≡ b → is_holding body.stage ≡ false → HasFront body.stage body.front → AreServed new.start new.published served
      → Rule (record { words = words; homes = set s.homes 0 (some (Some x)); views = set s.views id (record v { body = body; notes = notes; served = served; work = NoWork; hand = None; own = None } ∷ []) })
  lets_turn_go {s} r id v before x new b body notes served more words at turn seen_is run free start_is published_is book noted has tied same waits front all =
      keeps_rule seen kind start r id v (record v { body = body; notes = notes; served = served; work = NoWork; hand = None; own = None }) new before r.faults words (set s.homes 0 (some (Some x))) at run has tied
      (subst (λ (o : Owner). LiesAt seen o before (set s.homes 0 (some (Some x)))) (sym free) (x, seen_is, ap (λ (h : List (maybe.Option (Option X))). set h 0 (some (Some x))) empty))
      (subst (λ (o : Owner). IsBelow o (clients_of new)) (sym free) tt)
      (subst (λ (n : ℕ). AreIntervalsApart 0 r.faults n) (sym noted) r.apart)
      (subst (λ (t : Standing). AreOfClients t.clients r.faults) (sym start_is) r.clients)
      refl
      (record {
        clients = old.clients ∙ ap (λ (t : Standing). t.clients) (sym start_is);
        there = omega (arith, old.there, ap (λ (t : Standing). t.clients) start_is);
        body = same ∙ (sym (with_at-same v.client b r.m.book) ∙ ap (λ (f : ℕ → Client). f v.client) (sym book));
        front = front;
        holder = λ holds. absurd (false≢true (sym waits ∙ holds));
        other = λ _. record { work = refl; hand = refl; own = refl };
        served = all;
      })
      (r.views id (v ∷ []) at).1
      (others_stay seen kind start v.client more start_is published_is (λ d other. ap (λ (f : ℕ → Client). f d) book ∙ with_at-other v.client b r.m.book d other) (held_lonely seen kind start v.client _ (is_memory seen kind start r) turn.owner))
      (λ d other. refl)
    where
      old : IsViewOf r.m r.engine v
      old = own_view seen kind start r id v at

      empty : s.homes ≡ maybe.none ∷ []
      empty = subst (λ (o : Owner). LiesAt seen o r.engine s.homes) turn.owner r.lies

  -- Publishing

  pub publishes : (slots id turn : ℕ) (me : Seated X) → IsReadyFor seen kind same_work me → (the_view me).work ≡ Filling (4 * (the_view me).clients) → engine_now seen me ≡ engine_before me → turn ≡ 2 * suc (the_view me).body.front
      → Allows Rule slots id me 0 (λ _. turn) (λ _ new. new ≡ publish_step me)
  publishes slots id turn me ready filled same turn_is s r deep at small = (
    published (engine_before me) v ∷ [],
    gives,
    tt,
    subst (λ (h : List (maybe.Option (Option X))). Rule (record { words = set s.words 0 turn; homes = h; views = set s.views id (published (engine_before me) v ∷ []) })) (ap (λ (m : Seated X). put_back s.homes m.1) (sym ready.holds.is)) (go (eqb (newest_of before.standing v.client).number v.body.ask.number) refl),
    λ i. (published (engine_before me) v ∷ [], rest (ready.holds.is i).1),
  )
    where
      v : PassView
      v = the_view me

      before : EngineView
      before = engine_before me

      x : X
      x = ready.holds.value

      here : get_elem? s.views id ≡ some (the_view me ∷ [])
      here = stands_holding seen kind start s id me ready.holds at

      own : IsViewOf r.m r.engine (the_view me)
      own = own_view seen kind start r id (the_view me) here

      held : HasTurn seen kind start r (the_view me) (engine_before me)
      held = has_turn seen kind start r id (the_view me) (engine_before me) here ready.hand

      seen_is : seen ready.holds.value ≡ engine_before me
      seen_is = ap (λ (m : Seated X). slot_seen seen m.1) (sym ready.holds.is) ∙ same

      work : r.m.work ≡ Filling (4 * clients_of r.m)
      work = sym held.holder.work ∙ (filled ∙ ap (λ (n : ℕ). Filling (4 * n)) own.clients)

      suits : (r.m.engine ≡ Recorded) × IsSome r.m.ahead
      suits = work_suits (Filling (4 * clients_of r.m)) (is_memory seen kind start r) held.owner work

      some_round : (ahead : Option Round) → IsSome ahead → (round : Round) × (ahead ≡ Some round)
      some_round None is = absurd (false≢true is)
      some_round (Some round) is = (round, refl)

      round : Round
      round = (some_round r.m.ahead suits.1).0

      ahead_is : r.m.ahead ≡ Some (some_round r.m.ahead suits.1).0
      ahead_is = (some_round r.m.ahead suits.1).1

      known_is : known_standing r.m ≡ with_round_ahead (Some (some_round r.m.ahead suits.1).0) (shown r.m)
      known_is = λ i. known_by (suits.0 i) (ahead_is i) (shown r.m)

      standing : (engine_before me).standing ≡ known_standing r.m
      standing = ap (λ (e : EngineView). e.standing) (sym held.same) ∙ r.tied.standing

      -- memory afterwards, with this book and these answers
      after_round_of : (ℕ → Client) → List Entry → Memory
      after_round_of book answers = record (with_published (some_round r.m.ahead suits.1).0 r.m) { book = book; answers = answers }

      tied : (book : ℕ → Client) (answers : List Entry) → ((d : ℕ) → GoesOn (r.m.book d) (book d)) → ((round : Round) → IsUnpublished r.m round → HasAnsweredOne (clients_of r.m) book round ⊎ IsUnpublished (after_round_of book answers) round) → IsTied kind start (after_round_of book answers) (engine_before me) r.faults
      tied book answers on coming = subst (λ (e : EngineView). IsTied kind start (after_round_of book answers) e r.faults) held.same (record {
        standing = r.tied.standing ∙ (known_is ∙ sym (state_after-push r.m.start r.m.past r.m.published round));
        count = r.tied.count;
        suits = subst (λ (e : Engine). SuitsEngine e r.m.ahead r.engine) suits.0 r.tied.suits;
        calls = r.tied.calls;
        come = subst (λ (failures : ℕ). HasCome start r.engine (r.m.published ++ round ∷ []) failures r.tied.calls) (ap (λ (w : Work). failed_calls w r.faults) work) (subst (λ (h : History). HasCome start r.engine h (failed_calls r.m.work r.faults) r.tied.calls) (λ i. recorded_by (suits.0 i) (ahead_is i) r.m.published) r.tied.come);
        called_for = record {
          failed = subst (λ (w : Work). AreMadeFor r.tied.calls (failed_asks w (asked_by r.m.owner r.m.book) r.faults)) work r.tied.called_for.failed;
          next = subst (λ (w : Work). AreNextAtSettling start.standing (progress_of [] start) r.tied.calls (failed_asks w (asked_by r.m.owner r.m.book) r.faults)) work r.tied.called_for.next;
          asked = asked_stay r.m (after_round_of book answers) r.tied.calls refl on r.tied.called_for.asked;
          made = makers_stay r.m (after_round_of book answers) r.tied.calls refl on coming r.tied.called_for.made;
        };
        sound = r.tied.sound;
      })

      -- the request of whoever made the round is what is kept of it
      is : IsMemory r.m
      is = is_memory seen kind start r

      own_ask : asked_by r.m.owner r.m.book ≡ (r.m.book (the_view me).client).ask
      own_ask = ap (λ (o : Owner). asked_by o r.m.book) held.owner

      asker : (r.m.book (the_view me).client).ask.client ≡ (the_view me).client
      asker =
          let client = is.clients v.client own.there in
          (client.asking (ap is_idle (the_holder (side_of_operation (r.m.book v.client).ask.op) client held.owner).stage)).client

      has_own : (other : Round) → IsUnpublished r.m other → HasRequest other (r.m.book (the_view me).client).ask
      has_own other unpublished = subst (HasRequest other) own_ask unpublished.own

      kept_own : (other : Round) (unpublished : IsUnpublished r.m other) → newest_of (known_standing r.m) (the_view me).client ≡ kept_by (entry_by (r.m.book (the_view me).client).ask (has_own other unpublished).reply)
      kept_own other unpublished =
          ap (λ (t : Standing). newest_of t v.client) (λ i. known_by (unpublished.recorded i) (unpublished.ahead i) (shown r.m))
          ∙ kept_request v.client other is unpublished.ahead asker (has_own other unpublished)

      turned : turn ≡ r.m.turn + 1
      turned = omega (arith, turn_is, turn_held r v before held)

      words : (new : Memory) → new.start ≡ r.m.start → new.turn ≡ r.m.turn + 1 → new.noted ≡ r.m.noted → new.requests ≡ r.m.requests → new.rows ≡ r.m.rows → HasWords new (set s.words 0 turn)
      words new start_is turn_now noted requests rows =
          let stored : HasWords (record r.m { turn = turn }) (set s.words 0 turn) = turn_stored turn r.words in
          words_of new (set s.words 0 turn) stored (ap (λ (t : Standing). t.clients) start_is) refl (stored.turn ∙ (turned ∙ sym turn_now)) (stored.noted ∙ sym noted)
          (λ d place inside few. stored.requests d place inside few ∙ ap (λ (f : ℕ → ℕ → ℕ). f d place) (sym requests))
          (λ row d place which inside few. stored.rows row d place which inside few ∙ ap (λ (f : ℕ → ℕ → ℕ → ℕ). f row d place) (sym rows))

      all_served : AreServed r.m.start (r.m.published ++ (some_round r.m.ahead suits.1).0 ∷ []) ((the_view me).served ++ own_round (the_view me).own)
      all_served = served_append r.m.start (r.m.published ++ round ∷ []) v.served (own_round v.own) (served_more r.m.start r.m.published (round ∷ []) v.served own.served)
          (own_served r.m.start r.m.published round v.own (subst (λ (a : Option Round). IsOwn r.m.start r.m.published a v.own) ahead_is held.holder.own))

      kept_is : newest_of (engine_before me).standing (the_view me).client ≡ newest_of (known_standing r.m) (the_view me).client
      kept_is = ap (λ (t : Standing). newest_of t v.client) standing

      number_is : (r.m.book (the_view me).client).ask.number ≡ (the_view me).body.ask.number
      number_is = ap (λ (b : Client). b.ask.number) (sym own.body)

      after : Bool → PassView
      after mine = record v { body = published_body mine (newest_of before.standing v.client).reply v.body; notes = v.notes ++ Row (newest_of before.standing v.client).number ∷ Turn (2 * suc v.body.front) ∷ []; served = v.served ++ own_round v.own; work = NoWork; hand = None; own = None }

      go : (mine : Bool) → eqb (newest_of (engine_before me).standing (the_view me).client).number (the_view me).body.ask.number ≡ mine
          → Rule (record { words = set s.words 0 turn; homes = set s.homes 0 (some (Some ready.holds.value)); views = set s.views id (record (the_view me) { body = published_body mine (newest_of (engine_before me).standing (the_view me).client).reply (the_view me).body; notes = (the_view me).notes ++ Row (newest_of (engine_before me).standing (the_view me).client).number ∷ Turn (2 * suc (the_view me).body.front) ∷ []; served = (the_view me).served ++ own_round (the_view me).own; work = NoWork; hand = None; own = None } ∷ []) })
      go true e =
          let reply : Reply = (newest_of (known_standing r.m) v.client).reply in
          let new : Memory = with_answer v.client reply (suc (length r.m.published)) (with_published round r.m) in
          lets_turn_go r id v before x new (answered reply (suc (length r.m.published)) (r.m.book v.client)) (answered (newest_of before.standing v.client).reply (suc v.body.front) v.body) (v.notes ++ Row (newest_of before.standing v.client).number ∷ Turn (2 * suc v.body.front) ∷ []) (v.served ++ own_round v.own) (round ∷ []) (set s.words 0 turn) here held seen_is
          (moved_on r.run (stepped_move v.client _ (record {
            running = running seen kind start r;
            there = own.there;
            move = publishing_own (record {
              side = side_of_operation (r.m.book v.client).ask.op;
              holds = held.owner;
              round = round;
              at = work;
              ahead = ahead_is;
              own = ap (λ (k : Kept). k.number) (sym kept_is) ∙ (eqb-true _ _ e ∙ sym number_is);
              is = refl;
              says = refl;
            });
          })))
          refl refl refl refl refl (words new refl refl refl refl refl)
          (tied new.book new.answers (others_go_on v.client (answered reply (suc (length r.m.published)) (r.m.book v.client)) r.m.book (is_answered reply (suc (length r.m.published)) (r.m.book v.client)))
          (λ other unpublished. inl (record {
            client = v.client;
            there = own.there;
            has = record {
              entry = entry_by (r.m.book v.client).ask (has_own other unpublished).reply;
              one = (has_own other unpublished).entry;
              own = subst (λ (b : Client). Contains (own_entries b) (entry_by (r.m.book v.client).ask (has_own other unpublished).reply)) (sym (with_at-same v.client (answered reply (suc (length r.m.published)) (r.m.book v.client)) r.m.book))
                  (subst (λ (one : Reply). Contains (own_entries (answered reply (suc (length r.m.published)) (r.m.book v.client))) (entry_by (r.m.book v.client).ask one)) (ap (λ (k : Kept). k.reply) (kept_own other unpublished))
                  (answered_adds reply (suc (length r.m.published)) (r.m.book v.client)));
            };
          })))
          (λ i. answered (kept_is i).reply (suc (held.holder.front i)) (own.body i)) refl tt all_served
      go false e =
          let new : Memory = with_client v.client (record (r.m.book v.client) { stage = Looking; front = suc (length r.m.published) }) (with_published round r.m) in
          lets_turn_go r id v before x new (record (r.m.book v.client) { stage = Looking; front = suc (length r.m.published) }) (record v.body { stage = Looking; front = suc v.body.front }) (v.notes ++ Row (newest_of before.standing v.client).number ∷ Turn (2 * suc v.body.front) ∷ []) (v.served ++ own_round v.own) (round ∷ []) (set s.words 0 turn) here held seen_is
          (moved_on r.run (stepped_move v.client _ (record {
            running = running seen kind start r;
            there = own.there;
            move = publishing_others (record {
              side = side_of_operation (r.m.book v.client).ask.op;
              holds = held.owner;
              round = round;
              at = work;
              ahead = ahead_is;
              other = λ same_number. eqb-false _ _ e (ap (λ (k : Kept). k.number) kept_is ∙ (same_number ∙ number_is));
              is = refl;
              says = refl;
            });
          })))
          refl refl refl refl refl (words new refl refl refl refl refl)
          (tied new.book new.answers (others_go_on v.client (record (r.m.book v.client) { stage = Looking; front = suc (length r.m.published) }) r.m.book (stays_open _ _ refl refl refl))
          (λ other unpublished. absurd (eqb-false _ _ e (ap (λ (k : Kept). k.number) (kept_is ∙ kept_own other unpublished) ∙ number_is))))
          (λ i. record (own.body i) { stage = Looking; front = suc (held.holder.front i) }) refl tt all_served

  -- Giving up

  pub gives_up : (slots id turn : ℕ) (me : Seated X) → IsReadyFor seen kind same_work me → IsGivingUp (the_view me).work → engine_now seen me ≡ engine_before me → turn ≡ 2 * (the_view me).body.front
      → Allows Rule slots id me 0 (λ _. turn) (λ _ new. new ≡ lets_go given_up me)
  gives_up slots id turn me ready giving same turn_is s r deep at small = (
    given_up v ∷ [],
    gives,
    tt,
    subst (λ (h : List (maybe.Option (Option X))). Rule (record { words = set s.words 0 turn; homes = h; views = set s.views id (given_up v ∷ []) })) (ap (λ (m : Seated X). put_back s.homes m.1) (sym ready.holds.is)) rule,
    λ i. (given_up v ∷ [], rest (ready.holds.is i).1),
  )
    where
      v : PassView
      v = the_view me

      here : get_elem? s.views id ≡ some (the_view me ∷ [])
      here = stands_holding seen kind start s id me ready.holds at

      own : IsViewOf r.m r.engine (the_view me)
      own = own_view seen kind start r id (the_view me) here

      held : HasTurn seen kind start r (the_view me) (engine_before me)
      held = has_turn seen kind start r id (the_view me) (engine_before me) here ready.hand

      seen_is : seen ready.holds.value ≡ engine_before me
      seen_is = ap (λ (m : Seated X). slot_seen seen m.1) (sym ready.holds.is) ∙ same

      work : r.m.work ≡ GivingUp giving.from giving.to
      work = sym held.holder.work ∙ giving.at

      doubtful : r.m.engine ≡ Doubtful
      doubtful = work_suits (GivingUp giving.from giving.to) (is_memory seen kind start r) held.owner work

      new : Memory
      new = record (steps_to (the_view me).client Looking r.m) { turn = r.m.turn - 1; owner = Free; work = NoWork }

      turned : turn ≡ r.m.turn - 1
      turned = omega (arith, turn_is, turn_held r v (engine_before me) held)

      stored : HasWords (record r.m { turn = turn }) (set s.words 0 turn)
      stored = turn_stored turn r.words

      run : HasCoreRun start (record (steps_to (the_view me).client Looking r.m) { turn = r.m.turn - 1; owner = Free; work = NoWork })
      run = moved_on r.run (stepped_move v.client _ (record { running = running seen kind start r; there = own.there; move = giving_up (record { side = side_of_operation (r.m.book v.client).ask.op; holds = held.owner; from = giving.from; to = giving.to; at = work; is = refl; says = refl }) }))

      tied : IsTied kind start (record (steps_to (the_view me).client Looking r.m) { turn = r.m.turn - 1; owner = Free; work = NoWork }) (engine_before me) r.faults
      tied = subst (λ (e : EngineView). IsTied kind start new e r.faults) held.same (record {
        standing = r.tied.standing;
        count = r.tied.count;
        suits = r.tied.suits;
        calls = r.tied.calls;
        come = subst (λ (failures : ℕ). HasCome start r.engine (recorded_by r.m.engine r.m.ahead r.m.published) failures r.tied.calls) (ap (λ (w : Work). failed_calls w r.faults) work) r.tied.come;
        called_for = record {
          failed = subst (λ (w : Work). AreMadeFor r.tied.calls (failed_asks w (asked_by r.m.owner r.m.book) r.faults)) work r.tied.called_for.failed;
          next = subst (λ (w : Work). AreNextAtSettling start.standing (progress_of [] start) r.tied.calls (failed_asks w (asked_by r.m.owner r.m.book) r.faults)) work r.tied.called_for.next;
          asked = asked_stay r.m new r.tied.calls refl (others_go_on (the_view me).client (go_to Looking (r.m.book (the_view me).client)) r.m.book (stays_open _ _ refl refl refl)) r.tied.called_for.asked;
          made = makers_stay r.m new r.tied.calls refl (others_go_on (the_view me).client (go_to Looking (r.m.book (the_view me).client)) r.m.book (stays_open _ _ refl refl refl)) (λ round unpublished. absurd (none_unpublished r.m Doubtful doubtful not_doubtful round unpublished)) r.tied.called_for.made;
        };
        sound = r.tied.sound;
      })

      rule : Rule (record { words = set s.words 0 turn; homes = set s.homes 0 (some (Some ready.holds.value)); views = set s.views id (given_up (the_view me) ∷ []) })
      rule = lets_turn_go r id v (engine_before me) ready.holds.value new (go_to Looking (r.m.book v.client)) (go_to Looking v.body) v.notes v.served [] (set s.words 0 turn) here held seen_is run refl refl (sym (append-nil r.m.published)) refl refl
          (words_of new (set s.words 0 turn) stored refl refl (stored.turn ∙ turned) stored.noted stored.requests stored.rows)
          tied (ap (go_to Looking) own.body) refl tt own.served
