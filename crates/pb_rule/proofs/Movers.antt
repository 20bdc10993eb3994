-- What a step of one seat keeps of the rule.
use Rattle.std.proofs.Common.{◌≡◌, ◌≢◌, ◌⊎◌, ℕ, ◌<◌, Bool, true, false, List, [], ◌∷◌, ◌++◌, get_or, set, Option, sym, refl, ap, ◌∙◌, subst, inl, inr, arith}
use Rattle.std.proofs.lemmas.Bool.{false≢true}
use Rattle.std.proofs.lemmas.List.{set-get_or, append_assoc}
use mathlib.Core.Option as maybe
use mathlib.Core.Option.{some}
use lib.ListN.{get_elem?}
use Rattle.atomic_table.specs.Table.{State}
use Rattle.atomic_table.proofs.Lists.{at_set}
use Rattle.pb_object.specs.declared.kind.Kind.{Kind}
use Rattle.pb_object.specs.declared.request.Ask.{Ask}
use Rattle.pb_object.specs.History.{Entry, History}
use Rattle.pb_object.specs.Standing.{Standing}
use Rattle.pb_core.specs.Client.{Stage, Client, is_holding}
use Rattle.pb_core.specs.Memory.{Owner, Free, Held, Closed, Memory, with_at, with_client, clients_of, side_of_operation}
use Rattle.pb_core.specs.MemoryParts.{IsMemory}
use Rattle.pb_core.specs.WordMoves.{IsNotReopening}
use Rattle.pb_core.proofs.Basics.{with_at-same, with_at-other}
use Rattle.pb_core.proofs.Turns.{held-client, free≢held}
use Rattle.pb_engine.specs.Calls.{progress_of, AreMadeFor, HasRequest}
use Rattle.pb_engine.specs.View.{EngineView}
use Rattle.pb_rule.specs.View.{Note, OwnRound, PassView}
use Rattle.pb_rule.specs.Rule.{HasWords, IsTied, LiesAt, IsBelow, HasFront, AreServed, IsViewOf, Fault, AreIntervalsApart, AreOfClients, met_by, AreViews, HasCoreRun, Keeps, asked_by, failed_asks, AreNextAtSettling}
use Rattle.pb_rule.proofs.MadeRounds.{GoesOn, asked_same, others_go_on, makers_stay, asked_stay}
use Rattle.pb_rule.proofs.Runs.{memory_of}
use Rattle.pb_rule.proofs.WordLemmas.{words_of}

-- where the engine lies says that the region isn't being opened
pub runs_on : {X : Type 0} (seen : X → EngineView) (owner : Owner) (engine : EngineView) (homes : List (maybe.Option (Option X))) → LiesAt seen owner engine homes → IsNotReopening owner
runs_on seen Free engine homes lies = tt
runs_on seen (Held c side) engine homes lies = tt
runs_on seen Closed engine homes lies = absurd lies

-- a load leaves the words
pub loaded : (words : List ℕ) (place : ℕ) → set words place (get_or words place 0) ≡ words
loaded words place = set-get_or words place 0

-- rounds that were served are so still
pub served_more : (start : Standing) (published more : History) (served : List OwnRound) → AreServed start published served → AreServed start (published ++ more) served
served_more start published more [] all = tt
served_more start published more (own ∷ served) all = (
  record {
    before = all.0.before;
    round = all.0.round;
    after = all.0.after ++ more;
    is = ap (λ (h : History). h ++ more) all.0.is ∙ append_assoc all.0.before (all.0.round ∷ all.0.after) more;
    number = all.0.number;
    entries = all.0.entries;
    kept = all.0.kept;
  },
  served_more start published more served all.1,
)

module _ {X : Type 0} (seen : X → EngineView) (kind : Kind) (start : EngineView) where
  abbrev pub St : Type 0
  St = State (Option X) (List PassView)

  abbrev pub Rule : St → Type 0
  Rule = Keeps seen kind start

  pub is_memory : {s : St} (r : Rule s) → IsMemory r.m
  is_memory r = memory_of r.kept r.run

  pub running : {s : St} (r : Rule s) → IsNotReopening r.m.owner
  running {s} r = runs_on seen r.m.owner r.engine s.homes r.lies

  -- what the rule says of the one view of a seat
  pub own_view : {s : St} (r : Rule s) (id : ℕ) (v : PassView) → get_elem? s.views id ≡ some (v ∷ []) → IsViewOf r.m r.engine v
  own_view r id v at = (r.views id (v ∷ []) at).0

  -- the views of the other seats
  others : (m new : Memory) (engine after : EngineView) (faults later : List Fault) (place : ℕ → ℕ) (c id seat : ℕ) (list : List PassView) → place c ≡ id → seat ≢ id
      → ((u : PassView) → u.client ≢ c → IsViewOf m engine u → IsViewOf new after u) → ((d : ℕ) → d ≢ c → met_by d later ≡ met_by d faults) → AreViews m engine faults place seat list
      → AreViews new after later place seat list
  others m new engine after faults later place c id seat [] own apart stays met views = tt
  others m new engine after faults later place c id seat (u ∷ list) own apart stays met views =
      let other : u.client ≢ c = λ e. apart (sym views.2 ∙ (ap place e ∙ own)) in
      (stays u other views.0, views.1 ∙ sym (met u.client other), views.2, views.3, others m new engine after faults later place c id seat list own apart stays met views.4)

  -- one seat moves: memory, engine and its own view change, and the others see what they saw
  pub keeps_rule : {s : St} (r : Rule s) (id : ℕ) (v w : PassView) (new : Memory) (after : EngineView) (later : List Fault) (words : List ℕ) (homes : List (maybe.Option (Option X)))
      → get_elem? s.views id ≡ some (v ∷ []) → HasCoreRun start new → HasWords new words → IsTied kind start new after later → LiesAt seen new.owner after homes → IsBelow new.owner (clients_of new) → AreIntervalsApart 0 later new.noted → AreOfClients (clients_of new) later
      → w.client ≡ v.client → IsViewOf new after w → w.met ≡ met_by w.client later → ((u : PassView) → u.client ≢ v.client → IsViewOf r.m r.engine u → IsViewOf new after u)
      → ((d : ℕ) → d ≢ v.client → met_by d later ≡ met_by d r.faults) → Rule (record { words = words; homes = homes; views = set s.views id (w ∷ []) })
  keeps_rule {s} r id v w new after later words homes at run has tied lies below apart theirs same own met stays others_met = record {
    m = new;
    engine = after;
    faults = later;
    place = r.place;
    run = run;
    kept = r.kept;
    words = has;
    tied = tied;
    lies = lies;
    below = below;
    apart = apart;
    clients = theirs;
    views = λ seat list there. go seat list (at_set s.views id seat (w ∷ []) list there);
  }
    where
      here : r.place v.client ≡ id
      here = (r.views id (v ∷ []) at).2

      go : (seat : ℕ) (list : List PassView) → ((seat ≡ id) × ((w ∷ []) ≡ list)) ⊎ ((seat ≢ id) × (get_elem? s.views seat ≡ some list)) → AreViews new after later r.place seat list
      go seat list (inl (is, e)) =
          subst (AreViews new after later r.place seat) e (own, met, ap r.place same ∙ (here ∙ sym is), tt, tt)
      go seat list (inr (other, there)) =
          others r.m new r.engine after r.faults later r.place v.client id seat list here other stays others_met (r.views seat list there)

  -- nobody but one holds the turn
  pub record IsLonely (m : Memory) (c : ℕ) : Type 0 where
    pub waits : (d : ℕ) → d < clients_of m → d ≢ c → is_holding (m.book d).stage ≡ false

  -- Where nobody but one client moves, and nobody but it may hold the turn, the others see what they saw
  pub others_stay : {m new : Memory} {engine after : EngineView} (c : ℕ) (more : History) → new.start ≡ m.start → new.published ≡ m.published ++ more → ((d : ℕ) → d ≢ c → new.book d ≡ m.book d) → IsLonely m c → (u : PassView) → u.client ≢ c → IsViewOf m engine u → IsViewOf new after u
  others_stay {m} {new} {engine} {after} c more start_is published books lonely u other is = record {
    clients = is.clients ∙ ap (λ (t : Standing). t.clients) (sym start_is);
    there = omega (arith, is.there, ap (λ (t : Standing). t.clients) start_is);
    body = is.body ∙ sym (books u.client other);
    front = is.front;
    holder = λ holds. absurd (false≢true (sym waits ∙ holds));
    other = is.other;
    served = subst (λ (t : Standing). AreServed t new.published u.served) (sym start_is) (subst (λ (h : History). AreServed m.start h u.served) (sym published) (served_more m.start m.published more u.served is.served));
  }
    where
      waits : is_holding u.body.stage ≡ false
      waits = ap (λ (b : Client). is_holding b.stage) is.body ∙ lonely.waits u.client is.there other

  holding_or : (stage : Stage) → (is_holding stage ≡ true → ⊥) → is_holding stage ≡ false
  holding_or stage never = go (is_holding stage) never
    where
      go : (b : Bool) → (b ≡ true → ⊥) → b ≡ false
      go true never = absurd (never refl)
      go false never = refl

  pub free_lonely : {m : Memory} (c : ℕ) → IsMemory m → m.owner ≡ Free → IsLonely m c
  free_lonely {m} c is free = record {
    waits = λ d inside other. holding_or (m.book d).stage (λ holds. free≢held d (side_of_operation (m.book d).ask.op) (sym free ∙ (is.clients d inside).holding holds));
  }

  pub held_lonely : {m : Memory} (c side : ℕ) → IsMemory m → m.owner ≡ Held c side → IsLonely m c
  held_lonely {m} c side is held = record {
    waits = λ d inside other. holding_or (m.book d).stage (λ holds. other (sym (held-client c d side (side_of_operation (m.book d).ask.op) (sym held ∙ (is.clients d inside).holding holds))));
  }

  -- A client that doesn't hold the turn moves

  waiting_view : {m : Memory} {engine : EngineView} (c : ℕ) (b : Client) (requests : ℕ → ℕ → ℕ) (answers : List Entry) (u : PassView) → u.client ≢ c → IsViewOf m engine u → IsViewOf (record (with_client c b m) { requests = requests; answers = answers }) engine u
  waiting_view {m} {engine} c b requests answers u other is = record {
    clients = is.clients;
    there = is.there;
    body = is.body ∙ sym (with_at-other c b m.book u.client other);
    front = is.front;
    holder = λ holds. let h = is.holder holds in record { work = h.work; hand = h.hand; front = h.front; own = h.own };
    other = is.other;
    served = is.served;
  }

  -- so its view moves with it: where it stands, and the words that it met
  pub client_moves : {s : St} (r : Rule s) (id : ℕ) (v : PassView) (body : Client) (notes : List Note) (b : Client) (requests : ℕ → ℕ → ℕ) (answers : List Entry) (words : List ℕ) → get_elem? s.views id ≡ some (v ∷ [])
      → HasCoreRun start (record (with_client v.client b r.m) { requests = requests; answers = answers }) → HasWords (record r.m { requests = requests }) words → body ≡ b
      → is_holding v.body.stage ≡ false → is_holding body.stage ≡ false → HasFront body.stage body.front → GoesOn (r.m.book v.client) b
      → Rule (record { words = words; homes = s.homes; views = set s.views id (record v { body = body; notes = notes } ∷ []) })
  client_moves {s} r id v body notes b requests answers words at run has is before free front on =
      keeps_rule r id v w new r.engine r.faults words s.homes at run
      (words_of new words has refl refl has.turn has.noted has.requests has.rows)
      (record {
        standing = r.tied.standing;
        count = r.tied.count;
        suits = r.tied.suits;
        calls = r.tied.calls;
        come = r.tied.come;
        called_for = record {
          failed = subst (λ (ask : Ask). AreMadeFor r.tied.calls (failed_asks r.m.work ask r.faults)) (sym same_ask) r.tied.called_for.failed;
          next = subst (λ (ask : Ask). AreNextAtSettling start.standing (progress_of [] start) r.tied.calls (failed_asks r.m.work ask r.faults)) (sym same_ask) r.tied.called_for.next;
          asked = asked_stay r.m new r.tied.calls refl (others_go_on v.client b r.m.book on) r.tied.called_for.asked;
          made = makers_stay r.m new r.tied.calls refl (others_go_on v.client b r.m.book on) (λ round unpublished. inr (record { recorded = unpublished.recorded; ahead = unpublished.ahead; own = subst (HasRequest round) (sym same_ask) unpublished.own })) r.tied.called_for.made;
        };
        sound = r.tied.sound;
      })
      r.lies r.below r.apart r.clients refl own_is (r.views id (v ∷ []) at).1 (waiting_view v.client b requests answers) (λ d other. refl)
    where
      new : Memory
      new = record (with_client v.client b r.m) { requests = requests; answers = answers }

      w : PassView
      w = record v { body = body; notes = notes }

      old : IsViewOf r.m r.engine v
      old = own_view r id v at

      -- it isn't the holder
      same_ask : asked_by r.m.owner (with_at v.client b r.m.book) ≡ asked_by r.m.owner r.m.book
      same_ask = asked_same r.m.owner v.client b r.m.book (λ side held. false≢true (sym before ∙ (ap (λ (c : Client). is_holding c.stage) old.body ∙ ((is_memory r).clients v.client old.there).holder side held)))

      own_is : IsViewOf (record (with_client v.client b r.m) { requests = requests; answers = answers }) r.engine (record v { body = body; notes = notes })
      own_is = record {
        clients = old.clients;
        there = old.there;
        body = is ∙ sym (with_at-same v.client b r.m.book);
        front = front;
        holder = λ holds. absurd (false≢true (sym free ∙ holds));
        other = λ _. let o = old.other before in record { work = o.work; hand = o.hand; own = o.own };
        served = old.served;
      }
