-- What is left once one seat has all views.
use Rattle.std.proofs.Common.{length, ◌≡◌, ◌⊎◌, ℕ, ◌<◌, ◌≤◌, true, false, List, [], ◌∷◌, ◌++◌, Option, Some, None, IfSome, sym, refl, ap, ◌∙◌, subst, inl, inr, arith}
use Rattle.std.proofs.lemmas.Bool.{false≢true}
use mathlib.Core.Option as maybe
use mathlib.Core.Option.{some, some-injective}
use lib.ListN.{get_elem?}
use Rattle.atomic_table.specs.Table.{State, Seen, Final}
use Rattle.pb_object.specs.declared.kind.Kind.{Kind}
use Rattle.pb_object.specs.History.{Entry, Round, History, state_after, IsLegal, IsLegalRound}
use Rattle.pb_object.specs.Standing.{Standing, kept_list_of}
use Rattle.pb_core.specs.Client.{Client, is_holding}
use Rattle.pb_core.specs.Memory.{Owner, Free, Held, Closed, Engine, Resting, Doubtful, clients_of, shown, Work}
use Rattle.pb_core.specs.MemoryParts.{IsClient, IsMemory, HasEntries, AreDated}
use Rattle.pb_core.proofs.Turns.{free_suits}
use Rattle.pb_engine.specs.Calls.{progress_of, AreMadeFor}
use Rattle.pb_engine.specs.View.{EngineView}
use Rattle.pb_engine.specs.Good.{HasCome}
use Rattle.pb_rule.specs.Opening.{IsThere, AreNotHolding, AreEnded, OneOf, HasEnded}
use Rattle.pb_rule.specs.View.{PassView}
use Rattle.pb_rule.specs.Rule.{called_round, recorded_by, SuitsEngine, LiesAt, IsBelow, AreServed, Fault, AreIntervalsApart, AreViews, Keeps, failed_calls, asked_by, failed_asks, AreNextAtSettling, HasAnswered, HasAnsweredOne, IsUnpublished, HasAskedFor, IsAskedFor, AreOfClients}
use Rattle.pb_rule.proofs.Known.{started}
use Rattle.pb_rule.proofs.MadeRounds.{not_resting, not_doubtful, none_unpublished}
use Rattle.pb_rule.proofs.Movers.{is_memory}

apart_wider : (low : ℕ) (faults : List Fault) (high more : ℕ) → high ≤ more → AreIntervalsApart low faults high → AreIntervalsApart low faults more
apart_wider low [] high more wide apart = omega (arith, apart, wide)
apart_wider low (fault ∷ faults) high more wide apart =
    (apart.0, apart.1, apart_wider fault.met.to faults high more wide apart.2)

module _ {X : Type 0} (seen : X → EngineView) (kind : Kind) (start : EngineView) where
  abbrev Rule : State (Option X) (List PassView) → Type 0
  Rule = Keeps seen kind start

  -- a client whose view is there and free doesn't hold the turn
  is_free : {s : State (Option X) (List PassView)} (r : Rule s) (seat client : ℕ) (views : List PassView) → AreViews r.m r.engine r.faults r.place seat views → AreNotHolding views → IsThere client views → is_holding (r.m.book client).stage ≡ false
  is_free r seat client [] are free there = absurd there
  is_free r seat client (v ∷ views) are free (inl here) =
      ap (λ (c : ℕ). is_holding (r.m.book c).stage) (sym here) ∙ (ap (λ (b : Client). is_holding b.stage) (sym are.0.body) ∙ free.0)
  is_free r seat client (v ∷ views) are free (inr later) =
      is_free r seat client views are.4 free.1 later

  ended : {s : State (Option X) (List PassView)} (r : Rule s) (seat : ℕ) (views : List PassView) → AreViews r.m r.engine r.faults r.place seat views → AreEnded start.standing r.m.published r.m.ahead r.faults views
  ended r seat [] are = tt
  ended r seat (v ∷ views) are = (
    record {
      front = omega (arith, own.front, ap (λ (b : Client). b.front) are.0.body);
      dates = subst (λ (b : Client). AreDated r.m.published b.mine) (sym are.0.body) own.dates;
      entries = subst (λ (t : Standing). HasEntries v.client r.m.published r.m.ahead (kept_list_of t v.client) v.body) shown_is (subst (HasEntries v.client r.m.published r.m.ahead (kept_list_of (shown r.m) v.client)) (sym are.0.body) own.entries);
      served = subst (λ (t : Standing). AreServed t r.m.published v.served) (started r.run).0 are.0.served;
      met = are.1;
    },
    ended r seat views are.4,
  )
    where
      own : IsClient r.m.start.kind (kept_list_of (shown r.m) v.client) r.m.published r.m.ahead r.m.owner (r.m.requests v.client) v.client (r.m.book v.client)
      own = (is_memory seen kind start r).clients v.client are.0.there

      shown_is : shown r.m ≡ state_after start.standing r.m.published
      shown_is = λ i. state_after ((started r.run).0 i) ((started r.run).1 i ++ r.m.published)

  -- what holds of a client holds of its pass
  by_pass : {s : State (Option X) (List PassView)} (r : Rule s) (so : Client → Type 0) (client : ℕ) → so (r.m.book client) → (seat : ℕ) (views : List PassView) → AreViews r.m r.engine r.faults r.place seat views → IsThere client views → OneOf so views
  by_pass r so client has seat [] are there = absurd there
  by_pass r so client has seat (v ∷ views) are (inl here) =
      inl (subst so (ap r.m.book (sym here) ∙ sym are.0.body) has)
  by_pass r so client has seat (v ∷ views) are (inr later) =
      inr (by_pass r so client has seat views are.4 later)

  -- nobody holds the turn, so the engine lies in its slot
  all_free : {s : State (Option X) (List PassView)} (r : Rule s) (owner : Owner) → r.m.owner ≡ owner → ((d : ℕ) → d < clients_of r.m → is_holding (r.m.book d).stage ≡ false) → r.m.owner ≡ Free
  all_free r Free is free = is
  all_free r (Held d side) is free =
      let inside : d < clients_of r.m = subst (λ (o : Owner). IsBelow o (clients_of r.m)) is r.below in
      absurd (false≢true (sym (free d inside) ∙ ((is_memory seen kind start r).clients d inside).holder side is))
  all_free {s} r Closed is free =
      absurd (subst (λ (o : Owner). LiesAt seen o r.engine s.homes) is r.lies)

  -- so all came to this
  pub ends : (seat slots : ℕ) (views : List PassView) (words : List ℕ) (homes : List (Option X)) (x : Option X) → ((d : ℕ) → d < start.standing.clients → IsThere d views) → AreNotHolding views → Final (Seen Rule seat views) words homes → get_elem? homes 0 ≡ some x
      → (value : X) × (x ≡ Some value) × HasEnded kind start (seen value) views
  ends seat slots views words homes x all free final at = (
    lying.0,
    same_some (sym at ∙ final.4 0 (Some lying.0) (ap (λ (h : List (maybe.Option (Option X))). get_elem? h 0) lying.2)),
    subst (λ (e : EngineView). HasEnded kind start e views) (sym lying.1) (record {
      published = r.m.published;
      ahead = r.m.ahead;
      legal = subst (λ (t : Standing). IsLegal t r.m.published) (started r.run).0 (subst (λ (past : History). IsLegal r.m.start (past ++ r.m.published)) (started r.run).1 is.history.legal);
      next = subst (λ (t : Standing). IfSome r.m.ahead (IsLegalRound (state_after t r.m.published))) (started r.run).0 (subst (λ (past : History). IfSome r.m.ahead (IsLegalRound (state_after r.m.start (past ++ r.m.published)))) (started r.run).1 is.history.next);
      doubt = doubt (free_suits is nobody).1;
      sound = r.tied.sound;
      faults = r.faults;
      calls = r.tied.calls;
      come = come (free_suits is nobody).1;
      failed = subst (λ (w : Work). AreMadeFor r.tied.calls (failed_asks w (asked_by r.m.owner r.m.book) r.faults)) (free_suits is nobody).0 r.tied.called_for.failed;
      next_at = subst (λ (w : Work). AreNextAtSettling start.standing (progress_of [] start) r.tied.calls (failed_asks w (asked_by r.m.owner r.m.book) r.faults)) (free_suits is nobody).0 r.tied.called_for.next;
      asked = λ failed ops call entry one. asked entry (r.tied.called_for.asked failed ops call entry one);
      made = λ round ops call. answered round (r.tied.called_for.made round ops call);
      clients = subst (λ (t : Standing). AreOfClients t.clients r.faults) (started r.run).0 r.clients;
      apart = apart_wider 0 r.faults r.m.noted r.engine.device.faults (omega (arith, is.low, r.tied.count)) r.apart;
      passes = ended r seat views mine;
    }),
  )
    where
      s : State (Option X) (List PassView)
      s = final.0

      r : Keeps seen kind start final.0
      r = final.1.0

      mine : AreViews final.1.0.m final.1.0.engine final.1.0.faults final.1.0.place seat views
      mine = final.1.0.views seat views final.1.1

      is : IsMemory final.1.0.m
      is = is_memory seen kind start final.1.0

      there : (d : ℕ) → d < clients_of final.1.0.m → IsThere d views
      there d inside = all d (omega (arith, inside, ap (λ (t : Standing). t.clients) (started final.1.0.run).0))

      nobody : final.1.0.m.owner ≡ Free
      nobody = all_free final.1.0 final.1.0.m.owner refl (λ d inside. is_free final.1.0 seat d views mine free (there d inside))

      lying : (value : X) × (seen value ≡ final.1.0.engine) × (final.0.homes ≡ some (Some value) ∷ [])
      lying = subst (λ (o : Owner). LiesAt seen o final.1.0.engine final.0.homes) nobody final.1.0.lies

      asked : (entry : Entry) → IsAskedFor (clients_of final.1.0.m) final.1.0.m.book entry → OneOf (HasAskedFor entry) views
      asked entry is_asked =
          by_pass r (HasAskedFor entry) entry.client is_asked.asked seat views mine (there entry.client is_asked.there)

      -- no round waits to be published
      answered : (round : Round) → HasAnsweredOne (clients_of final.1.0.m) final.1.0.m.book round ⊎ IsUnpublished final.1.0.m round → OneOf (HasAnswered round) views
      answered round (inl maker) = by_pass r (HasAnswered round) maker.client maker.has seat views mine (there maker.client maker.there)
      answered round (inr unpublished) = absurd (quiet (free_suits is nobody).1)
        where
          quiet : ((final.1.0.m.engine ≡ Resting) × (final.1.0.m.ahead ≡ None)) ⊎ (final.1.0.m.engine ≡ Doubtful) → ⊥
          quiet (inl calm) = none_unpublished final.1.0.m Resting calm.0 not_resting round unpublished
          quiet (inr doubtful) = none_unpublished final.1.0.m Doubtful doubtful not_doubtful round unpublished

      same_some : {A : Type 0} {a b : A} → some a ≡ some b → a ≡ b
      same_some e = some-injective _ _ e

      at_rest : (e : Engine) → final.1.0.m.engine ≡ e → HasCome start final.1.0.engine (recorded_by e final.1.0.m.ahead final.1.0.m.published) (length final.1.0.faults) final.1.0.tied.calls
      at_rest e is_e = subst (λ (e : Engine). HasCome start r.engine (recorded_by e r.m.ahead r.m.published) (length r.faults) r.tied.calls) is_e
          (subst (λ (w : Work). HasCome start r.engine (recorded_by r.m.engine r.m.ahead r.m.published) (failed_calls w r.faults) r.tied.calls) (free_suits is nobody).0 r.tied.come)

      come : ((final.1.0.m.engine ≡ Resting) × (final.1.0.m.ahead ≡ None)) ⊎ (final.1.0.m.engine ≡ Doubtful) → HasCome start final.1.0.engine final.1.0.m.published (length final.1.0.faults) final.1.0.tied.calls
      come (inl calm) = at_rest Resting calm.0
      come (inr doubtful) = at_rest Doubtful doubtful

      doubt : ((final.1.0.m.engine ≡ Resting) × (final.1.0.m.ahead ≡ None)) ⊎ (final.1.0.m.engine ≡ Doubtful)
          → ((final.1.0.engine.sure ≡ true) × (final.1.0.m.ahead ≡ None)) ⊎ ((final.1.0.engine.sure ≡ false) × (called_round final.1.0.engine.doubt ≡ final.1.0.m.ahead))
      doubt (inl calm) = inl (subst (λ (e : Engine). SuitsEngine e r.m.ahead r.engine) calm.0 r.tied.suits, calm.1)
      doubt (inr doubtful) = inr (subst (λ (e : Engine). SuitsEngine e r.m.ahead r.engine) doubtful r.tied.suits)
