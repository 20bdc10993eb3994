-- The steps of a client that waits for its reply.
use Rattle.std.proofs.Common.{◌≡◌, ◌≢◌, ℕ, ◌%◌, ◌<◌, ◌≤◌, eqb, Bool, true, false, List, [], ◌∷◌, ◌++◌, length, get_or, set, Option, sym, refl, ap, ◌∙◌, subst, arith}
use Rattle.std.specs.Prelude.{if◌then◌else◌}
use Rattle.std.proofs.lemmas.Bool.{eqb-true, eqb-false}
use mathlib.Core.Option.{some}
use lib.ListN.{get_elem?}
use Rattle.atomic_table.specs.Table.{State, keeps, Allows}
use Rattle.pb_object.specs.declared.kind.Kind.{Kind}
use Rattle.pb_object.specs.declared.request.Reply.{Reply}
use Rattle.pb_events.specs.declared.event.Stepped.{Stepped}
use Rattle.pb_events.specs.declared.event.Stepped.TheVariants.{Went}
use Rattle.pb_core.specs.Client.{Stage, Looking, LoadsNumber, LoadsCode, LoadsValue, LoadsExtra, Confirming, Lacking, Taking, Client, is_idle, is_holding, entry_by}
use Rattle.pb_core.proofs.Waiting.{turn_rounds}
use Rattle.pb_core.specs.Memory.{Memory, with_client, clients_of, round_of_turn}
use Rattle.pb_core.specs.MemoryRun.{stepped}
use Rattle.pb_core.specs.WordMoves.{go_to, sees, answered, own_row, WordMove, looking, matching, lacking_held, lacking_free, loading_code, loading_value, loading_extra, confirming, finding_new, finding_held}
use Rattle.pb_engine.specs.View.{EngineView}
use Rattle.pb_rule.specs.View.{Turn, Row, PassView}
use Rattle.pb_rule.specs.Plays.{Seated, the_view, IsPlain, IsNoEarlier, with_view, first_look, last_look, confirmed_if, confirms, first_turn, reply_found, row_number, word_found, row_word_found}
use Rattle.pb_rule.specs.Rule.{row_place, HasWords, HasFront, IsViewOf, HasCoreRun, Keeps}
use Rattle.pb_rule.specs.Seats.{IsRowPlace, at_code, at_value, at_extra}
use Rattle.pb_rule.proofs.Runs.{moved_on}
use Rattle.pb_rule.proofs.MadeRounds.{stays_open, is_answered}
use Rattle.pb_rule.proofs.Movers.{loaded, own_view, running, is_memory, client_moves}

module _ {X : Type 0} (seen : X → EngineView) (kind : Kind) (start : EngineView) where
  abbrev Rule : State (Option X) (List PassView) → Type 0
  Rule = Keeps seen kind start

  -- where a plain seat stands among the views
  abbrev pub At : State (Option X) (List PassView) → ℕ → Seated X → Type 0
  At s id me = get_elem? s.views id ≡ some me.0

  pub stands : (s : State (Option X) (List PassView)) (id : ℕ) (me : Seated X) → me.0 ≡ the_view me ∷ [] → At s id me → get_elem? s.views id ≡ some (the_view me ∷ [])
  stands s id me plain at = at ∙ ap some plain

  -- a step on a word is a move of the core
  pub step_of : {s : State (Option X) (List PassView)} (r : Rule s) (c : ℕ) (new : Memory) (answer : Stepped) → c < clients_of r.m → WordMove r.m c new answer → HasCoreRun start new
  step_of r c new answer there move =
      moved_on r.run (stepped c answer (record { running = running seen kind start r; there = there; move = move }))

  -- it stands where its view says
  pub stage_of : {s : State (Option X) (List PassView)} (r : Rule s) (v : PassView) (stage : Stage) → IsViewOf r.m r.engine v → v.body.stage ≡ stage → (r.m.book v.client).stage ≡ stage
  stage_of r v stage own is = ap (λ (b : Client). b.stage) (sym own.body) ∙ is

  pub free_at : (stage known : Stage) → stage ≡ known → is_holding known ≡ false → is_holding stage ≡ false
  free_at stage known is free = ap is_holding is ∙ free

  -- words that were loaded are as before
  pub same_words : {m : Memory} (words : List ℕ) (place : ℕ) → HasWords m words → HasWords m (set words place (get_or words place 0))
  same_words {m} words place has = subst (HasWords m) (sym (loaded words place)) has

  -- The turn word

  -- it counts no fewer rounds than the client saw before
  pub no_earlier : {s : State (Option X) (List PassView)} (r : Rule s) (id : ℕ) (me : Seated X) → get_elem? s.views id ≡ some (the_view me ∷ []) → IsNoEarlier (get_or s.words 0 0) me
  no_earlier {s} r id me here =
      let own : IsViewOf r.m r.engine (the_view me) = own_view seen kind start r id (the_view me) here in
      let low : (r.m.book (the_view me).client).front ≤ length r.m.published = ((is_memory seen kind start r).clients (the_view me).client own.there).front in
      let rounds : round_of_turn r.m.turn ≡ length r.m.published = turn_rounds (is_memory seen kind start r) in
      let same : (the_view me).body.front ≡ (r.m.book (the_view me).client).front = ap (λ (b : Client). b.front) own.body in
      let turn : round_of_turn (get_or s.words 0 0) ≡ round_of_turn r.m.turn = ap round_of_turn r.words.turn in
      subst (λ (n : ℕ). (the_view me).body.front ≤ n) (sym (turn ∙ rounds)) (subst (λ (n : ℕ). n ≤ length r.m.published) (sym same) low)

  pub looks_first : (slots id : ℕ) (me : Seated X) → IsPlain me → (the_view me).body.stage ≡ Looking → Allows Rule slots id me 0 (λ n. n) (λ found new. (new ≡ with_view (first_look found) me) × IsNoEarlier found me)
  looks_first slots id me plain stage s r deep at small =
      (first_look found v ∷ [], keeps, tt, client_moves seen kind start r id v (sees (LoadsNumber found) found v.body) (Turn found ∷ []) b r.m.requests r.m.answers (set s.words 0 found) here run (same_words s.words 0 r.words) (λ i. sees (LoadsNumber (r.words.turn i)) (r.words.turn i) (own.body i)) (free_at v.body.stage Looking stage refl) refl refl (stays_open _ _ refl refl refl), (refl, no_earlier r id me here))
    where
      found : ℕ
      found = get_or s.words 0 0

      v : PassView
      v = the_view me

      here : get_elem? s.views id ≡ some (the_view me ∷ [])
      here = stands s id me plain.0 at

      own : IsViewOf r.m r.engine (the_view me)
      own = own_view seen kind start r id (the_view me) here

      b : Client
      b = sees (LoadsNumber r.m.turn) r.m.turn (r.m.book (the_view me).client)

      run : HasCoreRun start (with_client (the_view me).client (sees (LoadsNumber r.m.turn) r.m.turn (r.m.book (the_view me).client)) r.m)
      run = step_of r (the_view me).client (with_client (the_view me).client (sees (LoadsNumber r.m.turn) r.m.turn (r.m.book (the_view me).client)) r.m) Went own.there (looking (record {
        at = stage_of r (the_view me) Looking own stage;
        is = refl;
        says = refl;
      }))

  pub looks_last : (slots id : ℕ) (me : Seated X) (found_first : ℕ) → IsPlain me → (the_view me).body.stage ≡ Lacking (first_turn (the_view me).body.stage) found_first → Allows Rule slots id me 0 (λ n. n) (λ found new. (new ≡ with_view (last_look found) me) × IsNoEarlier found me)
  looks_last slots id me found_first plain stage s r deep at small =
      (last_look found v ∷ [], keeps, tt, client_moves seen kind start r id v (sees Looking found v.body) (v.notes ++ Turn found ∷ []) b r.m.requests r.m.answers (set s.words 0 found) here run (same_words s.words 0 r.words) (λ i. sees Looking (r.words.turn i) (own.body i)) (free_at v.body.stage _ stage refl) refl tt (stays_open _ _ refl refl refl), (refl, no_earlier r id me here))
    where
      found : ℕ
      found = get_or s.words 0 0

      v : PassView
      v = the_view me

      here : get_elem? s.views id ≡ some (the_view me ∷ [])
      here = stands s id me plain.0 at

      own : IsViewOf r.m r.engine (the_view me)
      own = own_view seen kind start r id (the_view me) here

      b : Client
      b = sees Looking r.m.turn (r.m.book (the_view me).client)

      run : HasCoreRun start (with_client (the_view me).client (sees Looking r.m.turn (r.m.book (the_view me).client)) r.m)
      run = step_of r (the_view me).client (with_client (the_view me).client (sees Looking r.m.turn (r.m.book (the_view me).client)) r.m) _ own.there (finding_held (record {
        turn = first_turn (the_view me).body.stage;
        found = found_first;
        at = stage_of r (the_view me) _ own stage;
        is = refl;
        says = refl;
      }))

  pub confirms_turn : (slots id : ℕ) (me : Seated X) → IsPlain me → (the_view me).body.stage ≡ Confirming (first_turn (the_view me).body.stage) (reply_found (the_view me).body.stage) → Allows Rule slots id me 0 (λ n. n) (λ found new. (new ≡ with_view (confirms found) me) × IsNoEarlier found me)
  confirms_turn slots id me plain stage s r deep at small =
      (confirms found v ∷ [], keeps, tt, by (eqb (round_of_turn found) (round_of_turn first)) refl, (refl, no_earlier r id me here))
    where
      found : ℕ
      found = get_or s.words 0 0

      v : PassView
      v = the_view me

      first : ℕ
      first = first_turn (the_view me).body.stage

      reply : Reply
      reply = reply_found (the_view me).body.stage

      here : get_elem? s.views id ≡ some (the_view me ∷ [])
      here = stands s id me plain.0 at

      own : IsViewOf r.m r.engine (the_view me)
      own = own_view seen kind start r id (the_view me) here

      there : (r.m.book (the_view me).client).stage ≡ Confirming (first_turn (the_view me).body.stage) (reply_found (the_view me).body.stage)
      there = stage_of r (the_view me) _ own stage

      turn : get_or s.words 0 0 ≡ r.m.turn
      turn = r.words.turn

      by : (same : Bool) → eqb (round_of_turn (get_or s.words 0 0)) (round_of_turn (first_turn (the_view me).body.stage)) ≡ same
          → Rule (record { words = set s.words 0 (get_or s.words 0 0); homes = s.homes; views = set s.views id (confirmed_if same (reply_found (the_view me).body.stage) (get_or s.words 0 0) (the_view me) ∷ []) })
      by true e =
          client_moves seen kind start r id v (answered reply (round_of_turn found) v.body) (v.notes ++ Turn found ∷ []) (answered reply (round_of_turn r.m.turn) (r.m.book v.client)) r.m.requests (r.m.answers ++ entry_by (r.m.book v.client).ask reply ∷ []) (set s.words 0 found) here
          (step_of r v.client _ _ own.there (confirming (record {
            turn = first;
            reply = reply;
            at = there;
            same = ap round_of_turn (sym turn) ∙ eqb-true _ _ e;
            is = refl;
            says = refl;
          })))
          (same_words s.words 0 r.words) (λ i. answered reply (round_of_turn (turn i)) (own.body i)) (free_at v.body.stage _ stage refl) refl tt (is_answered reply (round_of_turn r.m.turn) (r.m.book v.client))
      by false e =
          client_moves seen kind start r id v (sees Looking found v.body) (v.notes ++ Turn found ∷ []) (sees Looking r.m.turn (r.m.book v.client)) r.m.requests r.m.answers (set s.words 0 found) here
          (step_of r v.client _ _ own.there (finding_new (record {
            turn = first;
            reply = reply;
            at = there;
            other = λ same. eqb-false _ _ e (ap round_of_turn turn ∙ same);
            is = refl;
            says = refl;
          })))
          (same_words s.words 0 r.words) (λ i. sees Looking (turn i) (own.body i)) (free_at v.body.stage _ stage refl) refl tt (stays_open _ _ refl refl refl)

  -- The published row

  number_if : Bool → Bool → (turn found : ℕ) → Stage
  number_if own held turn found = if own then LoadsCode turn else (if held then Lacking turn found else Taking turn found)

  pub front_at : (stage known : Stage) (front : ℕ) → stage ≡ known → HasFront stage front → HasFront known front
  front_at stage known front is has = subst (λ (x : Stage). HasFront x front) is has

  pub finds_number : (slots id client row : ℕ) (me : Seated X) → IsPlain me → client ≡ (the_view me).client → row ≡ round_of_turn (first_turn (the_view me).body.stage) % 2
      → (the_view me).body.stage ≡ LoadsNumber (first_turn (the_view me).body.stage) → Allows Rule slots id me (row_place client row 0) (λ n. n) (λ found new. new ≡ with_view (row_number found) me)
  finds_number slots id client row me plain client_is row_is stage s r deep at small =
      (row_number found v ∷ [], keeps, tt, by (eqb found v.body.ask.number) (eqb (turn % 2) 1) refl refl, refl)
    where
      place : ℕ
      place = row_place client row 0

      found : ℕ
      found = get_or s.words (row_place client row 0) 0

      v : PassView
      v = the_view me

      turn : ℕ
      turn = first_turn (the_view me).body.stage

      here : get_elem? s.views id ≡ some (the_view me ∷ [])
      here = stands s id me plain.0 at

      own : IsViewOf r.m r.engine (the_view me)
      own = own_view seen kind start r id (the_view me) here

      there : (r.m.book (the_view me).client).stage ≡ LoadsNumber (first_turn (the_view me).body.stage)
      there = stage_of r (the_view me) _ own stage

      front : (the_view me).body.front ≡ round_of_turn (first_turn (the_view me).body.stage)
      front = front_at (the_view me).body.stage _ (the_view me).body.front stage own.front

      word : get_or s.words (row_place client row 0) 0 ≡ own_row r.m (first_turn (the_view me).body.stage) (the_view me).client 0
      word = r.words.rows row client 0 (omega (arith, row_is)) (omega (arith, client_is, own.there)) (omega arith) ∙ (λ i. r.m.rows (row_is i) (client_is i) 0)

      number : (r.m.book (the_view me).client).ask.number ≡ (the_view me).body.ask.number
      number = ap (λ (b : Client). b.ask.number) (sym own.body)

      moves : (next known : Stage) → next ≡ known → is_holding next ≡ false → is_idle known ≡ false → HasFront next (the_view me).body.front → WordMove r.m (the_view me).client (with_client (the_view me).client (go_to known (r.m.book (the_view me).client)) r.m) Went
          → Rule (record { words = set s.words (row_place client row 0) (get_or s.words (row_place client row 0) 0); homes = s.homes; views = set s.views id (record (the_view me) { body = go_to next (the_view me).body; notes = (the_view me).notes ++ Row (get_or s.words (row_place client row 0) 0) ∷ [] } ∷ []) })
      moves next known is free asks fits move =
          client_moves seen kind start r id v (go_to next v.body) (v.notes ++ Row found ∷ []) (go_to known (r.m.book v.client)) r.m.requests r.m.answers (set s.words place found) here (step_of r v.client _ Went own.there move) (same_words s.words place r.words) (λ i. go_to (is i) (own.body i)) (free_at v.body.stage _ stage refl) free fits (stays_open _ _ refl refl asks)

      by : (same held : Bool) → eqb (get_or s.words (row_place client row 0) 0) (the_view me).body.ask.number ≡ same → eqb (first_turn (the_view me).body.stage % 2) 1 ≡ held
          → Rule (record { words = set s.words (row_place client row 0) (get_or s.words (row_place client row 0) 0); homes = s.homes; views = set s.views id (record (the_view me) { body = go_to (if same then LoadsCode (first_turn (the_view me).body.stage) else (if held then Lacking (first_turn (the_view me).body.stage) (get_or s.words (row_place client row 0) 0) else Taking (first_turn (the_view me).body.stage) (get_or s.words (row_place client row 0) 0))) (the_view me).body; notes = (the_view me).notes ++ Row (get_or s.words (row_place client row 0) 0) ∷ [] } ∷ []) })
      by true held e h = moves (LoadsCode turn) (LoadsCode turn) refl refl refl front (matching (record { turn = turn; at = there; own = sym word ∙ (eqb-true _ _ e ∙ sym number); is = refl; says = refl }))
      by false true e h = moves (Lacking turn found) (Lacking turn (own_row r.m turn v.client 0)) (ap (Lacking turn) word) refl refl front
          (lacking_held (record { turn = turn; at = there; other = λ same. eqb-false _ _ e (word ∙ (same ∙ number)); held = eqb-true _ _ h; is = refl; says = refl }))
      by false false e h = moves (Taking turn found) (Taking turn (own_row r.m turn v.client 0)) (ap (Taking turn) word) refl refl front
          (lacking_free (record { turn = turn; at = there; other = λ same. eqb-false _ _ e (word ∙ (same ∙ number)); free = even turn (eqb-false _ _ h); is = refl; says = refl }))
        where
          even : (n : ℕ) → n % 2 ≢ 1 → n % 2 ≡ 0
          even n not_odd = omega (arith, not_odd)

  pub finds_word : (slots id client row place : ℕ) (me : Seated X) → IsPlain me → client ≡ (the_view me).client → row ≡ round_of_turn (first_turn (the_view me).body.stage) % 2
      → IsRowPlace (the_view me).body.stage place → Allows Rule slots id me (row_place client row place) (λ n. n) (λ found new. new ≡ with_view (row_word_found found) me)
  finds_word slots id client row place me plain client_is row_is stage s r deep at small =
      (row_word_found found v ∷ [], keeps, tt, by stage, refl)
    where
      found : ℕ
      found = get_or s.words (row_place client row place) 0

      v : PassView
      v = the_view me

      here : get_elem? s.views id ≡ some (the_view me ∷ [])
      here = stands s id me plain.0 at

      own : IsViewOf r.m r.engine (the_view me)
      own = own_view seen kind start r id (the_view me) here

      word : place < 4 → (turn : ℕ) → first_turn (the_view me).body.stage ≡ turn → get_or s.words (row_place client row place) 0 ≡ own_row r.m turn (the_view me).client place
      word few turn turn_is =
          r.words.rows row client place (omega (arith, row_is)) (omega (arith, client_is, own.there)) few ∙ (λ i. r.m.rows ((row_is ∙ ap (λ (t : ℕ). round_of_turn t % 2) turn_is) i) (client_is i) place)

      moves : (stage next known : Stage) → (the_view me).body.stage ≡ stage → is_holding stage ≡ false → next ≡ known → is_holding next ≡ false → is_idle known ≡ false → HasFront next (the_view me).body.front
          → WordMove r.m (the_view me).client (with_client (the_view me).client (go_to known (r.m.book (the_view me).client)) r.m) Went
          → word_found (get_or s.words (row_place client row place) 0) stage ≡ next
          → Rule (record { words = set s.words (row_place client row place) (get_or s.words (row_place client row place) 0); homes = s.homes; views = set s.views id (row_word_found (get_or s.words (row_place client row place) 0) (the_view me) ∷ []) })
      moves from next known is before same free asks fits move found_is =
          subst (λ (t : Stage). Rule (record { words = set s.words (row_place client row place) found; homes = s.homes; views = set s.views id (record v { body = go_to t v.body } ∷ []) })) (sym (ap (word_found found) is ∙ found_is))
          (client_moves seen kind start r id v (go_to next v.body) v.notes (go_to known (r.m.book v.client)) r.m.requests r.m.answers (set s.words (row_place client row place) found) here (step_of r v.client _ Went own.there move) (same_words s.words (row_place client row place) r.words) (λ i. go_to (same i) (own.body i)) (free_at v.body.stage _ is before) free fits (stays_open _ _ refl refl asks))

      by : IsRowPlace (the_view me).body.stage place → Rule (record { words = set s.words (row_place client row place) (get_or s.words (row_place client row place) 0); homes = s.homes; views = set s.views id (row_word_found (get_or s.words (row_place client row place) 0) (the_view me) ∷ []) })
      by (at_code turn is one) =
          let w = word (omega (arith, one)) turn (ap first_turn is) ∙ ap (own_row r.m turn v.client) one in
          moves (LoadsCode turn) (LoadsValue turn found) (LoadsValue turn (own_row r.m turn v.client 1)) is refl (ap (LoadsValue turn) w) refl refl (front_at v.body.stage _ v.body.front is own.front)
          (loading_code (record { turn = turn; at = stage_of r v _ own is; is = refl; says = refl })) refl
      by (at_value turn code is two) =
          let w = word (omega (arith, two)) turn (ap first_turn is) ∙ ap (own_row r.m turn v.client) two in
          moves (LoadsValue turn code) (LoadsExtra turn code found) (LoadsExtra turn code (own_row r.m turn v.client 2)) is refl (ap (LoadsExtra turn code) w) refl refl (front_at v.body.stage _ v.body.front is own.front)
          (loading_value (record { turn = turn; code = code; at = stage_of r v _ own is; is = refl; says = refl })) refl
      by (at_extra turn code value is three) =
          let w = word (omega (arith, three)) turn (ap first_turn is) ∙ ap (own_row r.m turn v.client) three in
          moves (LoadsExtra turn code value) (Confirming turn (record { code = code; value = value; extra = found })) (Confirming turn (record { code = code; value = value; extra = own_row r.m turn v.client 3 })) is refl (λ i. Confirming turn (record { code = code; value = value; extra = w i })) refl refl (front_at v.body.stage _ v.body.front is own.front)
          (loading_extra (record { turn = turn; code = code; value = value; at = stage_of r v _ own is; is = refl; says = refl })) refl

  pub finds_number_at : (slots id word client row : ℕ) (me : Seated X) → word ≡ row_place client row 0 → IsPlain me → client ≡ (the_view me).client → row ≡ round_of_turn (first_turn (the_view me).body.stage) % 2
      → (the_view me).body.stage ≡ LoadsNumber (first_turn (the_view me).body.stage) → Allows Rule slots id me word (λ n. n) (λ found new. new ≡ with_view (row_number found) me)
  finds_number_at slots id word client row me is plain client_is row_is stage =
      subst (λ (w : ℕ). Allows Rule slots id me w (λ n. n) (λ found new. new ≡ with_view (row_number found) me)) (sym is) (finds_number slots id client row me plain client_is row_is stage)

  pub finds_word_at : (slots id word client row place : ℕ) (me : Seated X) → word ≡ row_place client row place → IsPlain me → client ≡ (the_view me).client → row ≡ round_of_turn (first_turn (the_view me).body.stage) % 2
      → IsRowPlace (the_view me).body.stage place → Allows Rule slots id me word (λ n. n) (λ found new. new ≡ with_view (row_word_found found) me)
  finds_word_at slots id word client row place me is plain client_is row_is stage =
      subst (λ (w : ℕ). Allows Rule slots id me w (λ n. n) (λ found new. new ≡ with_view (row_word_found found) me)) (sym is) (finds_word slots id client row place me plain client_is row_is stage)

pub place_few : {stage : Stage} {place : ℕ} → IsRowPlace stage place → place < 4
place_few (at_code turn is one) = omega (arith, one)
place_few (at_value turn code is two) = omega (arith, two)
place_few (at_extra turn code value is three) = omega (arith, three)
