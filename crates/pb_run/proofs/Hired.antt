-- The workers of a run: as they are hired, and when they are through.
use Rattle.std.proofs.Common.{◌≡◌, ℕ, zero, suc, ◌+◌, ◌<◌, eqb, List, [], ◌∷◌, length, map, refl, sym, ap, subst, ◌∙◌, inl, inr, arith, All}
use Rattle.std.specs.List.{zip}
use Rattle.std.specs.Prelude.{slice_index_or}
use Rattle.std.proofs.lemmas.Bool.Decides.{nat_tests}
use Rattle.std.proofs.lemmas.List.{get_or-map, length-map}
use Rattle.std.proofs.lemmas.List.Elements.{All-filter, filter_passes}
use Rattle.atomic_table.specs.Seated.{TableId}
use Rattle.pb_object.specs.declared.kind.Kind.{Kind}
use Rattle.pb_object.specs.declared.request.Ask.{Ask}
use Rattle.pb_object.specs.declared.request.Kept.{Kept as KeptRequest}
use Rattle.pb_object.specs.Standing.{kept_list_of}
use Rattle.pb_engine.specs.View.{EngineView, IsEngine}
use Rattle.pb_report.specs.declared.outcome.Outcome.{Outcome}
use Rattle.pb_rule.specs.Opening.{IsThere, HasEnded}
use Rattle.pb_rule.specs.View.{fresh_view, fresh_views}
use Rattle.pb_script.specs.Script.{IsAskOf}
use Rattle.pb_shared.specs.Passes.{PassSeen, SharedSeen, IsOf, HasOpened, AreAll, passes_over, view_of}
use Rattle.pb_run.specs.declared.lines.Lines.{Lines}
use Rattle.pb_run.specs.Crew.{AreReady, IsThrough, AreThrough, HaveAsksOf, AreBroughtTogether, IsAskBelow}
use Rattle.pb_run.specs.Lists.{asks_of, AreListsOf}
use Rattle.pb_run.specs.Run.{HasRun}
use Rattle.pb_run.specs.Worker.{Line, IsReadyToWork, IsSoFar}
use Rattle.pb_run.proofs.Ended.{IsThroughFor, has_run}

-- Passes as they are opened

fresh_at : (table : TableId) (clients c : ℕ) (kept : List (List KeptRequest)) (k : ℕ) (d : PassSeen) → k < length kept
    → slice_index_or (passes_over table (fresh_views clients c kept)) k d ≡ record { table = table; view = fresh_view clients (c + k) (slice_index_or kept k []) }
fresh_at table clients c [] k d inside = absurd (omega (arith, inside))
fresh_at table clients c (list ∷ kept) zero d inside = ap (λ (n : ℕ). record { table = table; view = fresh_view clients n list }) (omega arith)
fresh_at table clients c (list ∷ kept) (suc k) d inside =
    fresh_at table clients (suc c) kept k d (omega (arith, inside)) ∙ ap (λ (n : ℕ). record { table = table; view = fresh_view clients n (slice_index_or kept k []) }) (omega arith)

fresh_count : (table : TableId) (clients c : ℕ) (kept : List (List KeptRequest)) → length (passes_over table (fresh_views clients c kept)) ≡ length kept
fresh_count table clients c [] = refl
fresh_count table clients c (list ∷ kept) = ap suc (fresh_count table clients (suc c) kept)

module _ {start : EngineView} {object : SharedSeen} {passes : List PassSeen} (opened : HasOpened start object passes) {kind : Kind} (sound : IsEngine kind start) where
  pub passes_many : length passes ≡ start.standing.clients
  passes_many =
      ap length opened.fresh ∙ (fresh_count object.table start.standing.clients 0 start.standing.kept ∙ sound.kept.count)

  pub pass_at : (k : ℕ) (d : PassSeen) → k < start.standing.clients → slice_index_or passes k d ≡ record { table = object.table; view = fresh_view start.standing.clients k (kept_list_of start.standing k) }
  pass_at k d inside =
      ap (λ (ps : List PassSeen). slice_index_or ps k d) opened.fresh ∙ (fresh_at object.table start.standing.clients 0 start.standing.kept k d (omega (arith, inside, sound.kept.count)) ∙ ap (λ (n : ℕ). record { table = object.table; view = fresh_view start.standing.clients n (kept_list_of start.standing k) }) (omega arith))

some_of : {A : Type 0} (xs : List A) → 0 < length xs → A
some_of [] inside = absurd (omega (arith, inside))
some_of (x ∷ xs) inside = x

-- a client's requests are its own
own_asks : (client : ℕ) (asks : List Ask) → All (λ ask. ask.client ≡ client) (asks_of client asks)
own_asks client asks k d inside = let passes = filter_passes (λ (ask : Ask). eqb ask.client client) asks k d inside in grind (arith, nat_tests)

fresh_ready : (kind : Kind) (start : EngineView) (object : SharedSeen) (k : ℕ) (asks : List Ask) → IsEngine kind start → object.start ≡ start → k < start.standing.clients → All (IsAskOf kind start.standing.clients) asks
    → IsReadyToWork kind object (record { table = object.table; view = fresh_view start.standing.clients k (kept_list_of start.standing k) }) (asks_of k asks)
fresh_ready kind start object k asks sound of inside are = record {
  asks_are = λ j d there. record {
    of = here;
    own = own_asks k asks j d there;
    asked = subst (λ (e : EngineView). IsAskOf kind e.standing.clients (slice_index_or (asks_of k asks) j d)) (sym of) (All-filter (λ (ask : Ask). eqb ask.client k) (IsAskOf kind start.standing.clients) asks are j d there);
    kept = sound.kept.lists k inside;
  };
  of = here;
  kept = sound.kept.lists k inside;
  idle = refl;
  none = refl;
  calm = refl;
}
  where
    here : IsOf object (record { table = object.table; view = fresh_view start.standing.clients k (kept_list_of start.standing k) })
    here = record { table = refl; clients = ap (λ (e : EngineView). e.standing.clients) (sym of) }

module _ {W : Type 0} (pass : W → PassSeen) (lines : W → Lines) {start : EngineView} {object : SharedSeen} {passes : List PassSeen} (opened : HasOpened start object passes) {kind : Kind} (sound : IsEngine kind start)
    (asks : List Ask) (are : All (IsAskOf kind start.standing.clients) asks) (lists : List Lines) (lists_are : AreListsOf asks start.standing.clients lists)
    (workers : List W) (passes_is : map pass workers ≡ passes) (lists_is : map lines workers ≡ lists) where
  pub workers_many : length workers ≡ start.standing.clients
  workers_many = sym (length-map workers pass) ∙ (ap length passes_is ∙ passes_many opened sound)

  worker_pass : (k : ℕ) (d : W) → k < length workers → pass (slice_index_or workers k d) ≡ record { table = object.table; view = fresh_view start.standing.clients k (kept_list_of start.standing k) }
  worker_pass k d inside =
      sym (get_or-map pass workers k d (pass d) inside) ∙ (ap (λ (ps : List PassSeen). slice_index_or ps k (pass d)) passes_is ∙ pass_at opened sound k (pass d) (omega (arith, inside, workers_many)))

  worker_lines : (k : ℕ) (d : W) → k < length workers → (lines (slice_index_or workers k d)).asks.items ≡ asks_of k asks
  worker_lines k d inside =
      ap (λ (l : Lines). l.asks.items) (sym (get_or-map lines workers k d (lines d) inside) ∙ ap (λ (ls : List Lines). slice_index_or ls k (lines d)) lists_is) ∙ lists_are k (lines d) (omega (arith, inside, workers_many))

  pub all_ready : AreReady pass lines kind object workers
  all_ready k d inside =
      subst (λ (p : PassSeen). IsReadyToWork kind object p (lines (slice_index_or workers k d)).asks.items) (sym (worker_pass k d inside))
      (subst (IsReadyToWork kind object (record { table = object.table; view = fresh_view start.standing.clients k (kept_list_of start.standing k) })) (sym (worker_lines k d inside))
      (fresh_ready kind start object k asks sound opened.of (omega (arith, inside, workers_many)) are))

  -- When they are through
  module _ (later : List W) (as_many : length later ≡ length workers) (through : AreThrough pass lines object workers later) where
    pub have_asks : HaveAsksOf lines asks later
    have_asks k d inside =
        (through k d (omega (arith, inside, as_many))).asks ∙ worker_lines k d (omega (arith, inside, as_many))

    pub asks_below : All (IsAskBelow (length later)) asks
    asks_below k d inside = omega (arith, (are k d inside).client, as_many, workers_many)

    abbrev later_passes : List PassSeen
    later_passes = map pass later

    later_many : length (map pass later) ≡ start.standing.clients
    later_many = length-map later pass ∙ (as_many ∙ workers_many)

    module _ where
      d : W
      d = some_of later (omega (arith, as_many, workers_many, sound.valid))

      worked : (k : ℕ) → k < start.standing.clients → IsThrough pass lines object (slice_index_or workers k d) (slice_index_or later k d)
      worked k inside = through k d (omega (arith, inside, workers_many))

      client_is : (k : ℕ) → k < start.standing.clients → (pass (slice_index_or later k d)).view.client ≡ k
      client_is k inside = (worked k inside).worked.own ∙ ap (λ (p : PassSeen). p.view.client) (worker_pass k d (omega (arith, inside, workers_many)))

      of_object : (k : ℕ) (e : PassSeen) → k < length (map pass later) → IsOf object (slice_index_or (map pass later) k e)
      of_object k e inside =
          subst (IsOf object) (sym (get_or-map pass later k d e (omega (arith, inside, length-map later pass)))) (worked k (omega (arith, inside, later_many))).worked.of

      there_in : (k : ℕ) (views : List PassSeen) (e : PassSeen) → k < length views → IsThere (slice_index_or views k e).view.client (map view_of views)
      there_in k [] e inside = absurd (omega (arith, inside))
      there_in zero (p ∷ views) e inside = inl refl
      there_in (suc k) (p ∷ views) e inside = inr (there_in k views e (omega (arith, inside)))

      pub all_back : AreAll object (map pass later)
      all_back = record {
        of = λ k e inside. of_object k e inside;
        all = λ k inside.
            let low : k < start.standing.clients = omega (arith, inside, ap (λ (e : EngineView). e.standing.clients) opened.of) in
            subst (λ (c : ℕ). IsThere c (map view_of (map pass later))) (ap (λ (p : PassSeen). p.view.client) (get_or-map pass later k d (pass d) (omega (arith, low, as_many, workers_many))) ∙ client_is k low)
            (there_in k (map pass later) (pass d) (omega (arith, low, later_many)));
      }

      pub comes_to_run : (now : EngineView) (list : List Outcome) → length list ≡ length asks → AreBroughtTogether lines asks later list → HasEnded kind start now (map view_of (map pass later)) → HasRun start asks now list
      comes_to_run now list same together ended =
          has_run kind start now (map view_of (map pass later)) asks list (pass d).view ended many each (λ k e inside. (are k e inside).client) same
        where
          many : length (map view_of (map pass later)) ≡ start.standing.clients
          many = length-map (map pass later) view_of ∙ later_many

          view_is : (k : ℕ) → k < start.standing.clients → slice_index_or (map view_of (map pass later)) k (pass d).view ≡ (pass (slice_index_or later k d)).view
          view_is k inside =
              get_or-map view_of (map pass later) k (pass d) (pass d).view (omega (arith, inside, later_many)) ∙ ap view_of (get_or-map pass later k d (pass d) (omega (arith, inside, as_many, workers_many)))

          so_at : (k : ℕ) (inside : k < start.standing.clients) → IsThroughFor start.standing (zip asks list) k (pass (slice_index_or later k d)).view
          so_at k inside =
              let w = worked k inside in
              let k_inside : k < length workers = omega (arith, inside, workers_many) in
              record {
                client = client_is k inside;
                left = w.worked.left;
                so =
                    subst (λ (ls : List Line). IsSoFar (kept_list_of start.standing k) ls w.worked.left (pass (slice_index_or later k d)).view) (sym (together k d (omega (arith, inside, as_many, workers_many))))
                    (subst (λ (own : List Ask). IsSoFar (kept_list_of start.standing k) (zip own (lines (slice_index_or later k d)).outcomes.items) w.worked.left (pass (slice_index_or later k d)).view) (worker_lines k d k_inside)
                    (subst (λ (p : PassSeen). IsSoFar p.view.body.kept (zip (lines (slice_index_or workers k d)).asks.items (lines (slice_index_or later k d)).outcomes.items) w.worked.left (pass (slice_index_or later k d)).view) (worker_pass k d k_inside) w.worked.so_far));
              }

          each : (k : ℕ) → k < length (map view_of (map pass later)) → IsThroughFor start.standing (zip asks list) k (slice_index_or (map view_of (map pass later)) k (pass d).view)
          each k inside =
              let low : k < start.standing.clients = omega (arith, inside, many) in
              subst (IsThroughFor start.standing (zip asks list) k) (sym (view_is k low)) (so_at k low)
