-- Taking the turn.
use Rattle.std.proofs.Common.{◌≡◌, ◌≢◌, ◌⊎◌, ℕ, ◌+◌, ◌*◌, ◌<◌, ◌≤◌, ◌^◌, eqb, Bool, true, false, List, [], ◌∷◌, ◌++◌, length, get_or, set, Option, Some, None, sym, refl, ap, ◌∙◌, subst, inl, inr, arith, length-append}
use Rattle.std.proofs.lemmas.Bool.{true≢false}
use Rattle.std.proofs.lemmas.List.{append-nil}
use mathlib.Core.Option as maybe
use mathlib.Core.Option.{some}
use lib.ListN.{get_elem?}
use prog.Atomic.{either}
use Rattle.atomic_table.specs.Table.{State, Act, keeps, takes, Allows, Valid, stepped, carried_after}
use Rattle.atomic_table.proofs.Lists.{exchanged}
use Rattle.pb_object.specs.declared.kind.Kind.{Kind}
use Rattle.pb_object.specs.declared.request.Ask.{Ask}
use Rattle.pb_object.specs.declared.request.TheConstants.{LAST_NUMBER}
use Rattle.pb_object.specs.declared.limits.TheConstants.{MOST_CLIENTS}
use Rattle.pb_layout_laws.proofs.FewRounds.{legal_few}
use Rattle.pb_events.specs.declared.event.Stepped.TheVariants.{Went}
use Rattle.pb_core.specs.Client.{Looking, Taking, Holding, is_holding}
use Rattle.pb_core.specs.Memory.{Owner, Free, Held, AtNumber, Work, Settling, Scanning, Engine, Resting, Recorded, Doubtful, Memory, clients_of, side_of_operation, round_of_turn, NoWork}
use Rattle.pb_core.specs.MemoryParts.{IsMemory}
use Rattle.pb_core.specs.WordMoves.{go_to, sees, steps_to, WordMove, taking_sure, taking_unsure, missing}
use Rattle.pb_core.proofs.Basics.{with_at-same, with_at-other}
use Rattle.pb_core.proofs.Turns.{free_suits, taken_free}
use Rattle.pb_core.proofs.Waiting.{held-small, turn_rounds}
use Rattle.pb_engine.specs.Calls.{progress_of, AreMadeFor}
use Rattle.pb_engine.specs.View.{EngineView, IsEngine}
use Rattle.pb_engine.specs.Good.{HasCome}
use Rattle.pb_rule.specs.View.{Turn, PassView}
use Rattle.pb_rule.specs.Plays.{Seated, the_view, IsPlain, IsNoEarlier, last_look, first_turn, first_work, taken, HasTakenOrMissed}
use Rattle.pb_rule.specs.Rule.{called_round, HasWords, LiesAt, SuitsEngine, IsViewOf, Keeps, failed_calls, fault_asks, asked_by, failed_asks, AreNextAtSettling, AreCalledFor, recorded_by, Fault}
use Rattle.pb_rule.proofs.Known.{engine_clients}
use Rattle.pb_rule.proofs.MadeRounds.{stays_open, others_go_on, not_resting, not_doubtful, makers_stay, asked_stay}
use Rattle.pb_rule.proofs.Movers.{own_view, running, is_memory, keeps_rule, client_moves, others_stay, free_lonely}
use Rattle.pb_rule.proofs.Waits.{stands, no_earlier, step_of, same_words, stage_of, front_at}
use Rattle.pb_rule.proofs.WordLemmas.{words_of, turn_stored}

-- Rounds are few: a client's number passes no bound, and no round is empty
pub few_rounds : (m : Memory) → IsMemory m → m.start.clients ≤ 16 → 2 * length m.published + 4 < 2 ^ 64
few_rounds m is few =
    let all : length (m.past ++ m.published) ≤ MOST_CLIENTS * LAST_NUMBER = legal_few m.start (m.past ++ m.published) is.history.keeps few is.history.legal in
    omega (arith, all, length-append m.past m.published)

module _ {X : Type 0} (seen : X → EngineView) (kind : Kind) (start : EngineView) where
  abbrev Rule : State (Option X) (List PassView) → Type 0
  Rule = Keeps seen kind start

  pub few_clients : {s : State (Option X) (List PassView)} (r : Rule s) → clients_of r.m ≤ 16
  few_clients r = omega (arith, r.tied.sound.valid, engine_clients seen kind start r)

  -- the engine's own word says which work is first
  first_is : (sure known : Bool) → sure ≡ known → first_work sure ≡ first_work known
  first_is sure known is = ap first_work is

  first_calls : (sure : Bool) (faults : List Fault) → failed_calls (first_work sure) faults ≡ length faults
  first_calls true faults = refl
  first_calls false faults = refl

  first_asks : (sure : Bool) (ask : Ask) (faults : List Fault) → failed_asks (first_work sure) ask faults ≡ fault_asks faults
  first_asks true ask faults = refl
  first_asks false ask faults = refl

  -- the turn was as it was found
  takes_hit : {s : State (Option X) (List PassView)} (r : Rule s) (id : ℕ) (v : PassView) (turn found : ℕ) (x : X) (work : Work) → get_elem? s.views id ≡ some (v ∷ []) → v.body.stage ≡ Taking turn found
      → r.m.turn ≡ turn → r.m.owner ≡ Free → seen x ≡ r.engine → s.homes ≡ some (Some x) ∷ [] → first_work (seen x).sure ≡ work
      → WordMove r.m v.client (record (steps_to v.client Holding r.m) { turn = turn + 1; owner = Held v.client (side_of_operation (r.m.book v.client).ask.op); work = work }) Went
      → Rule (record { words = set s.words 0 (turn + 1); homes = set s.homes 0 maybe.none; views = set s.views id (taken turn (seen x) v ∷ []) })
  takes_hit {s} r id v turn found x work at stage turn_is free engine_is homes work_is move =
      keeps_rule seen kind start r id v (taken turn (seen x) v) new r.engine r.faults (set s.words 0 (turn + 1)) (set s.homes 0 maybe.none) at
      (step_of seen kind start r v.client new Went own.there move)
      (words_of new (set s.words 0 (turn + 1)) (turn_stored (turn + 1) r.words) refl refl turned.turn turned.noted turned.requests turned.rows)
      (record { standing = r.tied.standing; count = r.tied.count; suits = r.tied.suits; calls = r.tied.calls; come = subst (λ (failures : ℕ). HasCome start r.engine (recorded_by r.m.engine r.m.ahead r.m.published) failures r.tied.calls) (ap (λ (w : Work). failed_calls w r.faults) idle ∙ (sym (first_calls (seen x).sure r.faults) ∙ ap (λ (w : Work). failed_calls w r.faults) work_is)) r.tied.come; called_for = called_for; sound = r.tied.sound })
      (ap (λ (h : List (maybe.Option (Option X))). set h 0 maybe.none) homes) own.there r.apart r.clients refl
      (record {
        clients = own.clients;
        there = own.there;
        body = ap (go_to Holding) own.body ∙ sym (with_at-same v.client (go_to Holding (r.m.book v.client)) r.m.book);
        front = tt;
        holder = λ holds. record {
          work = work_is;
          hand = ap Some engine_is;
          front = front_at seen kind start v.body.stage _ v.body.front stage own.front ∙ (ap round_of_turn (sym turn_is) ∙ turn_rounds (is_memory seen kind start r));
          own = tt;
        };
        other = λ free. absurd (true≢false free);
        served = own.served;
      })
      (r.views id (v ∷ []) at).1
      (others_stay seen kind start v.client [] refl (sym (append-nil r.m.published)) (λ d other. with_at-other v.client (go_to Holding (r.m.book v.client)) r.m.book d other) (free_lonely seen kind start v.client (is_memory seen kind start r) free))
      (λ d other. refl)
    where
      new : Memory
      new = record (steps_to v.client Holding r.m) { turn = turn + 1; owner = Held v.client (side_of_operation (r.m.book v.client).ask.op); work = work }

      own : IsViewOf r.m r.engine v
      own = own_view seen kind start r id v at

      idle : r.m.work ≡ NoWork
      idle = (free_suits (is_memory seen kind start r) free).0

      quiet : ((r.m.engine ≡ Resting) × (r.m.ahead ≡ None)) ⊎ (r.m.engine ≡ Doubtful) → (r.m.engine ≡ Recorded) → ⊥
      quiet (inl calm) recorded_is = not_resting (sym calm.0 ∙ recorded_is)
      quiet (inr doubtful) recorded_is = not_doubtful (sym doubtful ∙ recorded_is)

      same_asks : failed_asks r.m.work (asked_by r.m.owner r.m.book) r.faults ≡ failed_asks work (asked_by new.owner new.book) r.faults
      same_asks =
          ap (λ (w : Work). failed_asks w (asked_by r.m.owner r.m.book) r.faults) idle ∙ (sym (first_asks (seen x).sure (asked_by new.owner new.book) r.faults) ∙ ap (λ (w : Work). failed_asks w (asked_by new.owner new.book) r.faults) work_is)

      called_for : AreCalledFor start (record (steps_to v.client Holding r.m) { turn = turn + 1; owner = Held v.client (side_of_operation (r.m.book v.client).ask.op); work = work }) r.faults r.tied.calls
      called_for = record {
        failed = subst (AreMadeFor r.tied.calls) same_asks r.tied.called_for.failed;
        next = subst (AreNextAtSettling start.standing (progress_of [] start) r.tied.calls) same_asks r.tied.called_for.next;
        asked = asked_stay r.m new r.tied.calls refl (others_go_on v.client (go_to Holding (r.m.book v.client)) r.m.book (stays_open _ _ refl refl refl)) r.tied.called_for.asked;
        made = makers_stay r.m new r.tied.calls refl (others_go_on v.client (go_to Holding (r.m.book v.client)) r.m.book (stays_open _ _ refl refl refl)) (λ round unpublished. absurd (quiet (free_suits (is_memory seen kind start r) free).1 unpublished.recorded)) r.tied.called_for.made;
      }

      turned : HasWords (record r.m { turn = turn + 1 }) (set s.words 0 (turn + 1))
      turned = turn_stored (turn + 1) r.words

  -- what a try to take the turn comes to, where the word becomes k
  abbrev Comes : State (Option X) (List PassView) → (id met k : ℕ) → Seated X → Type 0
  Comes s id met k me =
      (w : List PassView) × (a : Act (Option X)) × Valid s.homes me.1 a × Rule (stepped s 0 k id me.1 w a) × HasTakenOrMissed seen kind met me (w, carried_after me.1 a)

  -- the engine that lies in the slot
  abbrev Lying : EngineView → List (maybe.Option (Option X)) → Type 0
  Lying engine homes = (value : X) × (seen value ≡ engine) × (homes ≡ some (Some value) ∷ [])

  comes_hit : {s : State (Option X) (List PassView)} (r : Rule s) (id turn found met : ℕ) (me : Seated X) → met ≡ get_or s.words 0 0 → IsPlain me → get_elem? s.views id ≡ some (the_view me ∷ []) → (the_view me).body.stage ≡ Taking turn found → met ≡ turn → r.m.turn ≡ turn → r.m.owner ≡ Free
      → (x : X) → seen x ≡ r.engine → s.homes ≡ some (Some x) ∷ [] → (work : Work) → first_work (seen x).sure ≡ work
      → WordMove r.m (the_view me).client (record (steps_to (the_view me).client Holding r.m) { turn = turn + 1; owner = Held (the_view me).client (side_of_operation (r.m.book (the_view me).client).ask.op); work = work }) Went
      → Comes s id met (turn + 1) me
  comes_hit {s} r id turn found met me met_is plain here stage same turn_is free x seen_is homes work work_is move = (
    taken met (seen x) v ∷ [],
    takes 0 (Some x),
    ap (λ (h : List (maybe.Option (Option X))). get_elem? h 0) homes,
    subst (λ (t : ℕ). Rule (record { words = set s.words 0 (turn + 1); homes = set s.homes 0 maybe.none; views = set s.views id (taken t (seen x) v ∷ []) })) (sym same)
        (takes_hit r id v turn found x work here stage turn_is free seen_is homes work_is move),
    record {
      later = subst (λ (n : ℕ). IsNoEarlier n me) (sym met_is) (no_earlier seen kind start r id me here);
      hit = λ e. record {
        value = x;
        is = λ i. (taken met (seen x) v ∷ [], (0, Some x) ∷ plain.1 i);
        sound = subst (IsEngine kind) (sym seen_is) r.tied.sound;
        clients = ap (λ (e : EngineView). e.standing.clients) seen_is ∙ (engine_clients seen kind start r ∙ sym own.clients);
        room = omega (arith, few_rounds r.m (is_memory seen kind start r) (few_clients r), turn_is, same, turn_rounds (is_memory seen kind start r), (is_memory seen kind start r).turn, held-small r.m.owner);
      };
      miss = λ other. absurd (other (same ∙ sym (ap first_turn stage)));
    },
  )
    where
      v : PassView
      v = the_view me

      own : IsViewOf r.m r.engine (the_view me)
      own = own_view seen kind start r id (the_view me) here

  comes_miss : {s : State (Option X) (List PassView)} (r : Rule s) (id turn found : ℕ) (me : Seated X) → get_elem? s.views id ≡ some (the_view me ∷ []) → (the_view me).body.stage ≡ Taking turn found → get_or s.words 0 0 ≢ turn → Comes s id (get_or s.words 0 0) (get_or s.words 0 0) me
  comes_miss {s} r id turn found me here stage other = (
    last_look met v ∷ [],
    keeps,
    tt,
    client_moves seen kind start r id v (sees Looking met v.body) (v.notes ++ Turn met ∷ []) (sees Looking r.m.turn (r.m.book v.client)) r.m.requests r.m.answers (set s.words 0 met) here
        (step_of seen kind start r v.client _ _ own.there (missing (record { turn = turn; found = found; at = stage_of seen kind start r v _ own stage; other = λ e. other (r.words.turn ∙ e); is = refl; says = refl })))
        (same_words seen kind start s.words 0 r.words) (λ i. sees Looking (r.words.turn i) (own.body i)) (ap is_holding stage) refl tt (stays_open _ _ refl refl refl),
    record { later = no_earlier seen kind start r id me here; hit = λ e. absurd (other (e ∙ ap first_turn stage)); miss = λ _. refl },
  )
    where
      met : ℕ
      met = get_or s.words 0 0

      v : PassView
      v = the_view me

      own : IsViewOf r.m r.engine (the_view me)
      own = own_view seen kind start r id (the_view me) here

  pub takes_turn : (slots id turn found : ℕ) (me : Seated X) → IsPlain me → (the_view me).body.stage ≡ Taking turn found → Allows Rule slots id me 0 (λ n. either (eqb n turn) (turn + 1) n) (λ met new. HasTakenOrMissed seen kind met me new)
  takes_turn slots id turn found me plain stage s r deep at small =
      exchanged (get_or s.words 0 0) turn (turn + 1) (λ k. Comes s id (get_or s.words 0 0) k me) hit (λ other. comes_miss r id turn found me here stage other)
    where
      here : get_elem? s.views id ≡ some (the_view me ∷ [])
      here = stands seen kind start s id me plain.0 at

      own : IsViewOf r.m r.engine (the_view me)
      own = own_view seen kind start r id (the_view me) here

      there : (r.m.book (the_view me).client).stage ≡ Taking turn found
      there = stage_of seen kind start r (the_view me) _ own stage

      hit : get_or s.words 0 0 ≡ turn → Comes s id (get_or s.words 0 0) (turn + 1) me
      hit same = go (free_suits (is_memory seen kind start r) free).1
        where
          turn_is : r.m.turn ≡ turn
          turn_is = sym r.words.turn ∙ same

          free : r.m.owner ≡ Free
          free = taken_free turn found (is_memory seen kind start r) (running seen kind start r) own.there there (sym r.words.turn ∙ same)

          lying : Lying r.engine s.homes
          lying = subst (λ (o : Owner). LiesAt seen o r.engine s.homes) free r.lies

          go : ((r.m.engine ≡ Resting) × (r.m.ahead ≡ None)) ⊎ (r.m.engine ≡ Doubtful) → Comes s id (get_or s.words 0 0) (turn + 1) me
          go (inl calm) =
              let sure : r.engine.sure ≡ true = subst (λ (e : Engine). SuitsEngine e r.m.ahead r.engine) calm.0 r.tied.suits in
              comes_hit r id turn found (get_or s.words 0 0) me refl plain here stage same turn_is free lying.0 lying.1 lying.2 (Scanning 0 AtNumber []) (ap first_work (ap (λ (e : EngineView). e.sure) lying.1 ∙ sure))
              (taking_sure (record { turn = turn; found = found; at = there; same = turn_is; sure = calm.0; is = refl; says = refl }))
          go (inr doubtful) =
              let unsure : (r.engine.sure ≡ false) × (called_round r.engine.doubt ≡ r.m.ahead) = subst (λ (e : Engine). SuitsEngine e r.m.ahead r.engine) doubtful r.tied.suits in
              comes_hit r id turn found (get_or s.words 0 0) me refl plain here stage same turn_is free lying.0 lying.1 lying.2 Settling (ap first_work (ap (λ (e : EngineView). e.sure) lying.1 ∙ unsure.0))
              (taking_unsure (record { turn = turn; found = found; at = there; same = turn_is; unsure = doubtful; is = refl; says = refl }))

  -- the same for a kind that is this one
  pub takes_turn_of : (of : Kind) → kind ≡ of → (slots id turn found : ℕ) (me : Seated X) → IsPlain me → (the_view me).body.stage ≡ Taking turn found → Allows Rule slots id me 0 (λ n. either (eqb n turn) (turn + 1) n) (λ met new. HasTakenOrMissed seen of met me new)
  takes_turn_of of same slots id turn found me plain stage =
      subst (λ (k : Kind). Allows Rule slots id me 0 (λ n. either (eqb n turn) (turn + 1) n) (λ met new. HasTakenOrMissed seen k met me new)) same (takes_turn slots id turn found me plain stage)
