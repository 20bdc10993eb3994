-- Bringing the outcomes of all clients together.
use Rattle.std.proofs.Common.{◌≡◌, ◌≢◌, ◌⊎◌, ℕ, ◌+◌, ◌<◌, ◌≤◌, eqb, Bool, false, cond, List, [], ◌∷◌, ◌++◌, length, take, drop, get_or, replicate, refl, sym, ap, subst, ◌∙◌, inl, inr, arith, length-append, eq-eqb, All}
use Rattle.std.specs.List.{zip, filter}
use Rattle.std.specs.Prelude.{slice_index_or, slice_set}
use Rattle.std.proofs.lemmas.Bool.{cases_eq}
use Rattle.std.proofs.lemmas.Bool.Decides.{nat_tests}
use Rattle.std.proofs.lemmas.List.{append-nil, take_more, take_more_set, take_all, take-append-drop, length-set, length-take, length-replicate, get_or-replicate, get_or-set_same, get_or-set_other}
use Rattle.std.proofs.lemmas.List.Elements.{filter-append}
use Rattle.pb_object.specs.declared.request.Ask.{Ask}
use Rattle.pb_object.specs.declared.limits.TheConstants.{MOST_CLIENTS}
use Rattle.pb_report.specs.declared.outcome.Outcome.{Outcome}
use Rattle.pb_report.specs.Outcomes.{lines_of_client}
use Rattle.pb_run.specs.declared.lines.Lines.{Lines}
use Rattle.pb_run.specs.Crew.{HaveAsksOf, AreBroughtTogether, HasLine, HasOutcome, IsAskBelow}
use Rattle.pb_run.specs.Lists.{asks_of}
use Rattle.pb_run.specs.Worker.{Line}
use Rattle.pb_run.proofs.LineLemmas.{own_push, other_push, zip-push}

abbrev IsAskOf : ℕ → Ask → Bool
IsAskOf client ask = eqb ask.client client

pub own_asks : (asks : List Ask) (ask : Ask) → asks_of ask.client (asks ++ ask ∷ []) ≡ asks_of ask.client asks ++ ask ∷ []
own_asks asks ask =
    filter-append (IsAskOf ask.client) asks (ask ∷ []) ∙ ap (λ (own : Bool). filter (IsAskOf ask.client) asks ++ cond own (ask ∷ []) []) (eq-eqb ask.client ask.client refl)

pub other_asks : (asks : List Ask) (ask : Ask) (client : ℕ) → client ≢ ask.client → asks_of client (asks ++ ask ∷ []) ≡ asks_of client asks
other_asks asks ask client other =
    let apart : eqb ask.client client ≡ false = grind (arith, nat_tests) in
    filter-append (IsAskOf client) asks (ask ∷ []) ∙ (ap (λ (own : Bool). filter (IsAskOf client) asks ++ cond own (ask ∷ []) []) apart ∙ append-nil (filter (IsAskOf client) asks))

-- before a place there are fewer of the client that asks there than there are at all
fewer_before : (asks : List Ask) (place : ℕ) (d : Ask) → place < length asks → length (asks_of (get_or asks place d).client (take place asks)) < length (asks_of (get_or asks place d).client asks)
fewer_before asks place d inside =
    let ask : Ask = get_or asks place d in
    let front : length (asks_of ask.client (take (place + 1) asks)) ≡ length (asks_of ask.client (take place asks)) + 1 = ap (λ (xs : List Ask). length (asks_of ask.client xs)) (take_more asks place d inside) ∙ (ap length (own_asks (take place asks) ask) ∙ length-append (asks_of ask.client (take place asks)) (ask ∷ [])) in
    let whole : length (asks_of ask.client asks) ≡ length (asks_of ask.client (take (place + 1) asks)) + length (asks_of ask.client (drop (place + 1) asks)) = ap (λ (xs : List Ask). length (asks_of ask.client xs)) (sym (take-append-drop (place + 1) asks)) ∙ (ap length (filter-append (IsAskOf ask.client) (take (place + 1) asks) (drop (place + 1) asks)) ∙ length-append (asks_of ask.client (take (place + 1) asks)) (asks_of ask.client (drop (place + 1) asks))) in
    omega (arith, front, whole)

module _ {W : Type 0} (lines : W → Lines) (asks : List Ask) (workers : List W) where
  abbrev outs : W → List Outcome
  outs worker = (lines worker).outcomes.items

  -- the outcomes of the requests before a place are brought together, and so many of each client's
  pub record IsPutTo (outcomes : List Outcome) (next : List ℕ) (place : ℕ) : Type 0 where
    pub long : length outcomes ≡ length asks
    pub room : length next ≡ MOST_CLIENTS
    pub counted : (client : ℕ) → client < length workers → slice_index_or next client 0 ≡ length (asks_of client (take place asks))
    pub together : (client : ℕ) (d : W) → client < length workers
        → lines_of_client client (zip (take place asks) (take place outcomes)) ≡ zip (asks_of client (take place asks)) (take (slice_index_or next client 0) (outs (slice_index_or workers client d)))

  none_together : (client : ℕ) (list : List Outcome) → lines_of_client client (zip (take 0 asks) (take 0 list)) ≡ []
  none_together client list = refl

  pub at_none : (outcomes : List Outcome) → length outcomes ≡ length asks → length workers ≤ MOST_CLIENTS → IsPutTo outcomes (replicate MOST_CLIENTS 0) 0
  at_none outcomes long few = record {
    long = long;
    room = length-replicate {A = ℕ} MOST_CLIENTS 0;
    counted = λ client inside. get_or-replicate MOST_CLIENTS client 0 0 (omega (arith, inside, few));
    together = λ client d inside. refl;
  }

  pub has_line : (outcomes : List Outcome) (next : List ℕ) (place : ℕ) (d : Ask) → HaveAsksOf lines asks workers → All (IsAskBelow (length workers)) asks → place < length asks → IsPutTo outcomes next place
      → HasLine lines workers (get_or asks place d).client (slice_index_or next (get_or asks place d).client 0)
  has_line outcomes next place d have below inside to e =
      let c : ℕ = (get_or asks place d).client in
      let there : c < length workers = below place d inside in
      omega (arith, to.counted c there, fewer_before asks place d inside, ap length (have c e there))

  pub one_put : (outcomes : List Outcome) (next later : List ℕ) (place : ℕ) (d : Ask) (o : Outcome) → HaveAsksOf lines asks workers → ((worker : W) → length (outs worker) ≡ length (lines worker).asks.items) → All (IsAskBelow (length workers)) asks → length workers ≤ MOST_CLIENTS → place < length asks
      → HasOutcome lines workers (get_or asks place d).client (slice_index_or next (get_or asks place d).client 0) o
      → later ≡ slice_set next (get_or asks place d).client (slice_index_or next (get_or asks place d).client 0 + 1)
      → IsPutTo outcomes next place → IsPutTo (slice_set outcomes place o) later (place + 1)
  one_put outcomes next later place d o have same below few inside has later_is to = record {
    long = length-set outcomes place o ∙ to.long;
    room = ap length later_is ∙ (length-set next c (n + 1) ∙ to.room);
    counted = λ client there. by_count client there (cases_eq client c);
    together = λ client e there. by_client client e there (cases_eq client c);
  }
    where
      ask : Ask
      ask = get_or asks place d

      c : ℕ
      c = (get_or asks place d).client

      n : ℕ
      n = slice_index_or next (get_or asks place d).client 0

      own_there : (get_or asks place d).client < length workers
      own_there = below place d inside

      slot : (get_or asks place d).client < length next
      slot = omega (arith, own_there, few, to.room)

      more : take (place + 1) asks ≡ take place asks ++ get_or asks place d ∷ []
      more = take_more asks place d inside

      at_own : slice_index_or later (get_or asks place d).client 0 ≡ n + 1
      at_own = ap (λ (l : List ℕ). slice_index_or l c 0) later_is ∙ get_or-set_same next c (n + 1) 0 slot

      at_other : (client : ℕ) → client ≢ (get_or asks place d).client → slice_index_or later client 0 ≡ slice_index_or next client 0
      at_other client other = ap (λ (l : List ℕ). slice_index_or l client 0) later_is ∙ get_or-set_other next c client (n + 1) 0 other

      asks_own : asks_of (get_or asks place d).client (take (place + 1) asks) ≡ asks_of (get_or asks place d).client (take place asks) ++ get_or asks place d ∷ []
      asks_own = ap (asks_of c) more ∙ own_asks (take place asks) ask

      asks_other : (client : ℕ) → client ≢ (get_or asks place d).client → asks_of client (take (place + 1) asks) ≡ asks_of client (take place asks)
      asks_other client other = ap (asks_of client) more ∙ other_asks (take place asks) ask client other

      by_count : (client : ℕ) → client < length workers → (client ≡ (get_or asks place d).client) ⊎ (client ≢ (get_or asks place d).client) → slice_index_or later client 0 ≡ length (asks_of client (take (place + 1) asks))
      by_count client there (inl is) =
          subst (λ (k : ℕ). slice_index_or later k 0 ≡ length (asks_of k (take (place + 1) asks))) (sym is)
          (at_own ∙ (ap (λ (m : ℕ). m + 1) (to.counted c own_there) ∙ sym (ap length asks_own ∙ length-append (asks_of c (take place asks)) (ask ∷ []))))
      by_count client there (inr other) = at_other client other ∙ (to.counted client there ∙ ap length (sym (asks_other client other)))

      before : length (take place outcomes) ≡ length (take place asks)
      before = omega (arith, length-take place outcomes, length-take place asks, to.long)

      lines_more : zip (take (place + 1) asks) (take (place + 1) (slice_set outcomes place o)) ≡ zip (take place asks) (take place outcomes) ++ (get_or asks place d, o) ∷ []
      lines_more = (λ i. zip (more i) (take_more_set outcomes place o (omega (arith, inside, to.long)) i)) ∙ zip-push (take place asks) (take place outcomes) ask o before

      own_lines : (e : W) → lines_of_client (get_or asks place d).client (zip (take (place + 1) asks) (take (place + 1) (slice_set outcomes place o))) ≡ zip (asks_of (get_or asks place d).client (take (place + 1) asks)) (take (n + 1) (outs (slice_index_or workers (get_or asks place d).client e)))
      own_lines e =
          let all : List Outcome = outs (slice_index_or workers c e) in
          let enough : n < length all = omega (arith, has_line outcomes next place d have below inside to e, same (slice_index_or workers c e)) in
          let as_many : length (take n all) ≡ length (asks_of c (take place asks)) = omega (arith, length-take n all, enough, to.counted c own_there) in
          ap (lines_of_client c) lines_more
          ∙ (own_push (zip (take place asks) (take place outcomes)) ask o
          ∙ (ap (λ (ls : List Line). ls ++ (ask, o) ∷ []) (to.together c e own_there)
          ∙ (sym (zip-push (asks_of c (take place asks)) (take n all) ask o as_many)
          ∙ (λ i. zip (sym asks_own i) (push_more all enough i)))))
        where
          push_more : (all : List Outcome) → n < length all → take n (outs (slice_index_or workers c e)) ++ o ∷ [] ≡ take (n + 1) (outs (slice_index_or workers c e))
          push_more all enough = ap (λ (x : Outcome). take n (outs (slice_index_or workers c e)) ++ x ∷ []) (has e o) ∙ sym (take_more (outs (slice_index_or workers c e)) n o (omega (arith, has_line outcomes next place d have below inside to e, same (slice_index_or workers c e))))

      by_client : (client : ℕ) (e : W) → client < length workers → (client ≡ (get_or asks place d).client) ⊎ (client ≢ (get_or asks place d).client)
          → lines_of_client client (zip (take (place + 1) asks) (take (place + 1) (slice_set outcomes place o))) ≡ zip (asks_of client (take (place + 1) asks)) (take (slice_index_or later client 0) (outs (slice_index_or workers client e)))
      by_client client e there (inl is) =
          subst (λ (k : ℕ). lines_of_client k (zip (take (place + 1) asks) (take (place + 1) (slice_set outcomes place o))) ≡ zip (asks_of k (take (place + 1) asks)) (take (slice_index_or later k 0) (outs (slice_index_or workers k e)))) (sym is)
          (own_lines e ∙ ap (λ (m : ℕ). zip (asks_of c (take (place + 1) asks)) (take m (outs (slice_index_or workers c e)))) (sym at_own))
      by_client client e there (inr other) =
          ap (lines_of_client client) lines_more
          ∙ (other_push (zip (take place asks) (take place outcomes)) ask o client other
          ∙ (to.together client e there
          ∙ (λ i. zip (sym (asks_other client other) i) (take (sym (at_other client other) i) (outs (slice_index_or workers client e))))))

  pub all_put : (outcomes : List Outcome) (next : List ℕ) (place : ℕ) → HaveAsksOf lines asks workers → ((worker : W) → length (outs worker) ≡ length (lines worker).asks.items) → length asks ≤ place → IsPutTo outcomes next place → AreBroughtTogether lines asks workers outcomes
  all_put outcomes next place have same all to client d there =
      let whole : take place asks ≡ asks = take_all place asks all in
      let whole_list : take place outcomes ≡ outcomes = take_all place outcomes (omega (arith, all, to.long)) in
      let mine : List Outcome = outs (slice_index_or workers client d) in
      let every : take (slice_index_or next client 0) mine ≡ mine = take_all (slice_index_or next client 0) mine (omega (arith, to.counted client there, ap (λ (xs : List Ask). length (asks_of client xs)) whole, ap length (have client d there), same (slice_index_or workers client d))) in
      (λ i. lines_of_client client (zip (sym whole i) (sym whole_list i))) ∙ (to.together client d there ∙ (λ i. zip (asks_of client (whole i)) (every i)))
