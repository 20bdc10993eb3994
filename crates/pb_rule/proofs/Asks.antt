-- The steps of a client that asks.
use Rattle.std.proofs.Common.{◌≡◌, ℕ, suc, ◌+◌, ◌<◌, List, [], ◌∷◌, set, Option, sym, refl, ap, ◌∙◌, subst, arith}
use mathlib.Core.Option.{some}
use lib.ListN.{get_elem?}
use Rattle.atomic_table.specs.Table.{State, keeps, Allows}
use Rattle.pb_object.specs.declared.kind.Kind.{Kind}
use Rattle.pb_object.specs.declared.request.Ask.{Ask}
use Rattle.pb_object.specs.Request.{IsOperation}
use Rattle.pb_object.specs.Standing.{newest}
use Rattle.pb_events.specs.declared.event.Stepped.TheVariants.{Went}
use Rattle.pb_core.specs.Client.{Stage, Idle, Storing, Looking, Client, is_idle, is_holding, ask_word}
use Rattle.pb_core.specs.Memory.{Memory, with_at, with_client}
use Rattle.pb_core.specs.MemoryRun.{asked as asked_move, stepped}
use Rattle.pb_core.specs.WordMoves.{go_to, asks, steps_to, with_request_word, storing, announcing}
use Rattle.pb_core.proofs.Basics.{with_at-same, with_at-twice}
use Rattle.pb_engine.specs.View.{EngineView}
use Rattle.pb_rule.specs.Asked.{IsNextRequestOf}
use Rattle.pb_rule.specs.View.{PassView}
use Rattle.pb_rule.specs.Plays.{Seated, the_view, IsPlain, with_view, asked, stored, announced, next_stored}
use Rattle.pb_rule.specs.Rule.{request_place, HasWords, IsViewOf, HasCoreRun, Keeps}
use Rattle.pb_rule.proofs.Known.{start_kind}
use Rattle.pb_rule.proofs.MadeRounds.{begins_asking, stays_open}
use Rattle.pb_rule.proofs.Movers.{own_view, running, client_moves}
use Rattle.pb_rule.proofs.Runs.{moved_on}
use Rattle.pb_rule.proofs.Waits.{stands, step_of}
use Rattle.pb_rule.proofs.WordLemmas.{request_stored}

-- a client as it asks
abbrev asking : Ask → Client → Client
asking ask b = record b { stage = Storing 1; ask = ask; after = b.front }

-- asking and storing the code word are two moves
asks_and_stores : {start : EngineView} (m : Memory) (ask : Ask) → (run : HasCoreRun start m) → HasCoreRun start (asks ask.client ask m)
    → (((asks ask.client ask m).book ask.client).stage ≡ Storing 0 → HasCoreRun start (record (steps_to ask.client (Storing 1) (asks ask.client ask m)) { requests = with_request_word ask.client 1 (ask_word ((asks ask.client ask m).book ask.client).ask 1) m.requests }))
    → HasCoreRun start (record (with_client ask.client (asking ask (m.book ask.client)) m) { requests = with_request_word ask.client 1 ask.op.code m.requests })
asks_and_stores {start} m ask run first second =
    subst (HasCoreRun start) (sym whole) (second (ap (λ (b : Client). b.stage) here))
  where
    c : ℕ
    c = ask.client

    b : Client
    b = record (m.book ask.client) { stage = Storing 0; ask = ask; after = (m.book ask.client).front }

    here : (asks ask.client ask m).book ask.client ≡ record (m.book ask.client) { stage = Storing 0; ask = ask; after = (m.book ask.client).front }
    here = with_at-same c b m.book

    books : with_at ask.client (asking ask (m.book ask.client)) m.book ≡ (steps_to ask.client (Storing 1) (asks ask.client ask m)).book
    books = sym (ap (λ (x : Client). with_at c (go_to (Storing 1) x) (with_at c b m.book)) here ∙ with_at-twice c (asking ask (m.book c)) b m.book)

    whole : record (with_client ask.client (asking ask (m.book ask.client)) m) { requests = with_request_word ask.client 1 ask.op.code m.requests } ≡ record (steps_to ask.client (Storing 1) (asks ask.client ask m)) { requests = with_request_word ask.client 1 (ask_word ((asks ask.client ask m).book ask.client).ask 1) m.requests }
    whole =
        λ i. record m { book = books i; requests = with_request_word c 1 (ask_word (sym here i).ask 1) m.requests }

module _ {X : Type 0} (seen : X → EngineView) (kind : Kind) (start : EngineView) where
  abbrev Rule : State (Option X) (List PassView) → Type 0
  Rule = Keeps seen kind start

  pub stores_code : (slots id word : ℕ) (me : Seated X) (ask : Ask) → word ≡ request_place ask.client 1 → IsPlain me → (the_view me).body.stage ≡ Idle → IsNextRequestOf kind (the_view me) ask
      → Allows Rule slots id me word (λ _. ask.op.code) (λ _ new. new ≡ with_view (asked ask) me)
  stores_code slots id word me ask place plain stage next s r deep at small = (
    asked ask v ∷ [],
    keeps,
    tt,
    client_moves seen kind start r id v (asking ask v.body) v.notes (asking ask (r.m.book v.client)) (with_request_word v.client 1 ask.op.code r.m.requests) r.m.answers (set s.words word ask.op.code) here
        (subst (λ (c : ℕ). HasCoreRun start (record (with_client c (asking ask (r.m.book c)) r.m) { requests = with_request_word c 1 ask.op.code r.m.requests })) next.client run)
        (subst (λ (p : ℕ). HasWords (record r.m { requests = with_request_word v.client 1 ask.op.code r.m.requests }) (set s.words p ask.op.code)) (sym (place ∙ ap (λ (c : ℕ). request_place c 1) next.client)) (request_stored v.client 1 ask.op.code own.there (omega arith) r.words))
        (ap (asking ask) own.body) (ap is_holding stage) refl tt (begins_asking _ _ (ap (λ (b : Client). is_idle b.stage) (sym own.body) ∙ ap is_idle stage) refl),
    refl,
  )
    where
      v : PassView
      v = the_view me

      here : get_elem? s.views id ≡ some (the_view me ∷ [])
      here = stands seen kind start s id me plain.0 at

      own : IsViewOf r.m r.engine (the_view me)
      own = own_view seen kind start r id (the_view me) here

      idle : (r.m.book ask.client).stage ≡ Idle
      idle = ap (λ (c : ℕ). (r.m.book c).stage) next.client ∙ (ap (λ (b : Client). b.stage) (sym own.body) ∙ stage)

      first : HasCoreRun start (asks ask.client ask r.m)
      first = moved_on r.run (asked_move ask (record {
        running = running seen kind start r;
        there = omega (arith, next.there, own.clients);
        at = idle;
        number = next.number ∙ ap (λ (b : Client). (newest b.kept).number + 1) (own.body ∙ ap r.m.book (sym next.client));
        few = next.few;
        operation = subst (λ (k : Kind). IsOperation k ask.op) (sym (start_kind seen kind start r)) next.operation;
        is = refl;
      }))

      run : HasCoreRun start (record (with_client ask.client (asking ask (r.m.book ask.client)) r.m) { requests = with_request_word ask.client 1 ask.op.code r.m.requests })
      run = asks_and_stores r.m ask r.run first (λ now. moved_on first (stepped ask.client Went (record {
        running = running seen kind start r;
        there = omega (arith, next.there, own.clients);
        move = storing (record { place = 0; few = omega arith; at = now; is = refl; says = refl });
      })))

  pub stores_argument : (slots id word client place value : ℕ) (me : Seated X) → word ≡ request_place client (place + 1) → client ≡ (the_view me).client → IsPlain me → place < 4 → (the_view me).body.stage ≡ Storing place
      → value ≡ ask_word (the_view me).body.ask (place + 1) → Allows Rule slots id me word (λ _. value) (λ _ new. new ≡ with_view stored me)
  stores_argument slots id word client place value me word_is client_is plain few stage value_is s r deep at small = (
    stored v ∷ [],
    keeps,
    tt,
    subst (λ (t : Stage). Rule (record { words = set s.words word value; homes = s.homes; views = set s.views id (record v { body = go_to t v.body } ∷ []) })) (sym (ap next_stored stage))
        (client_moves seen kind start r id v (go_to (Storing (suc place)) v.body) v.notes (go_to (Storing (suc place)) (r.m.book v.client)) (with_request_word v.client (suc place) value r.m.requests) r.m.answers (set s.words word value) here run words
        (ap (go_to (Storing (suc place))) own.body) (ap is_holding stage) refl tt (stays_open _ _ refl refl refl)),
    refl,
  )
    where
      v : PassView
      v = the_view me

      here : get_elem? s.views id ≡ some (the_view me ∷ [])
      here = stands seen kind start s id me plain.0 at

      own : IsViewOf r.m r.engine (the_view me)
      own = own_view seen kind start r id (the_view me) here

      more : place + 1 ≡ suc place
      more = omega arith

      known : value ≡ ask_word (r.m.book (the_view me).client).ask (suc place)
      known = value_is ∙ (λ i. ask_word (own.body i).ask (more i))

      words : HasWords (record r.m { requests = with_request_word (the_view me).client (suc place) value r.m.requests }) (set s.words word value)
      words = subst (λ (p : ℕ). HasWords (record r.m { requests = with_request_word v.client (suc place) value r.m.requests }) (set s.words p value)) (sym (word_is ∙ (λ i. request_place (client_is i) (more i)))) (request_stored v.client (suc place) value own.there (omega (arith, few)) r.words)

      run : HasCoreRun start (record (with_client (the_view me).client (go_to (Storing (suc place)) (r.m.book (the_view me).client)) r.m) { requests = with_request_word (the_view me).client (suc place) value r.m.requests })
      run = subst (λ (n : ℕ). HasCoreRun start (record (with_client v.client (go_to (Storing (suc place)) (r.m.book v.client)) r.m) { requests = with_request_word v.client (suc place) n r.m.requests })) (sym known)
          (step_of seen kind start r v.client _ Went own.there (storing (record { place = place; few = few; at = ap (λ (b : Client). b.stage) (sym own.body) ∙ stage; is = refl; says = refl })))

  pub announces : (slots id word client number : ℕ) (me : Seated X) → word ≡ request_place client 0 → client ≡ (the_view me).client → IsPlain me → (the_view me).body.stage ≡ Storing 4 → number ≡ (the_view me).body.ask.number
      → Allows Rule slots id me word (λ _. number) (λ _ new. new ≡ with_view announced me)
  announces slots id word client number me word_is client_is plain stage number_is s r deep at small = (
    announced v ∷ [],
    keeps,
    tt,
    client_moves seen kind start r id v (go_to Looking v.body) v.notes (go_to Looking (r.m.book v.client)) (with_request_word v.client 0 number r.m.requests) r.m.answers (set s.words word number) here run words
        (ap (go_to Looking) own.body) (ap is_holding stage) refl tt (stays_open _ _ refl refl refl),
    refl,
  )
    where
      v : PassView
      v = the_view me

      here : get_elem? s.views id ≡ some (the_view me ∷ [])
      here = stands seen kind start s id me plain.0 at

      own : IsViewOf r.m r.engine (the_view me)
      own = own_view seen kind start r id (the_view me) here

      known : number ≡ (r.m.book (the_view me).client).ask.number
      known = number_is ∙ ap (λ (b : Client). b.ask.number) own.body

      words : HasWords (record r.m { requests = with_request_word (the_view me).client 0 number r.m.requests }) (set s.words word number)
      words = subst (λ (p : ℕ). HasWords (record r.m { requests = with_request_word v.client 0 number r.m.requests }) (set s.words p number)) (sym (word_is ∙ (λ i. request_place (client_is i) 0))) (request_stored v.client 0 number own.there (omega arith) r.words)

      run : HasCoreRun start (record (with_client (the_view me).client (go_to Looking (r.m.book (the_view me).client)) r.m) { requests = with_request_word (the_view me).client 0 number r.m.requests })
      run = subst (λ (n : ℕ). HasCoreRun start (record (with_client v.client (go_to Looking (r.m.book v.client)) r.m) { requests = with_request_word v.client 0 n r.m.requests })) (sym known)
          (step_of seen kind start r v.client _ Went own.there (announcing (record { at = ap (λ (b : Client). b.stage) (sym own.body) ∙ stage; is = refl; says = refl })))

  -- the same, where the request is said
  pub stores_code_as : (slots id word : ℕ) (me : Seated X) (ask said : Ask) → said ≡ ask → word ≡ request_place ask.client 1 → IsPlain me → (the_view me).body.stage ≡ Idle → IsNextRequestOf kind (the_view me) ask
      → Allows Rule slots id me word (λ _. ask.op.code) (λ _ new. new ≡ with_view (asked said) me)
  stores_code_as slots id word me ask said same place plain stage next =
      subst (λ (a : Ask). Allows Rule slots id me word (λ _. ask.op.code) (λ _ new. new ≡ with_view (asked a) me)) (sym same) (stores_code slots id word me ask place plain stage next)
