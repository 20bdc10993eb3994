-- Parting and joining seats.
use Rattle.std.proofs.Common.{◌≡◌, ◌≢◌, ◌⊎◌, ℕ, zero, suc, ◌<◌, eqb, List, [], ◌∷◌, ◌++◌, length, set, Option, sym, refl, ap, ◌∙◌, subst, inl, inr, arith}
use Rattle.std.specs.Prelude.{if◌then◌else◌}
use Rattle.std.proofs.lemmas.Bool.{eq-eqb, ne_eqb, cond-true, cond-false}
use mathlib.Core.Option.{some, some-injective, some-ne-none}
use lib.ListN.{get_elem?}
use Rattle.atomic_table.specs.Table.{State, Splits, Joins}
use Rattle.atomic_table.proofs.Lists.{at_set, set_again}
use Rattle.pb_object.specs.declared.kind.Kind.{Kind}
use Rattle.pb_core.specs.Memory.{Memory}
use Rattle.pb_engine.specs.View.{EngineView}
use Rattle.pb_rule.specs.Opening.{first_of, rest_of}
use Rattle.pb_rule.specs.View.{PassView}
use Rattle.pb_rule.specs.Rule.{Fault, IsOther, AreViews, Keeps}

-- the last place of a longer list
at_end : {A : Type 0} (l : List A) (a b : A) (j : ℕ) → get_elem? (l ++ a ∷ []) j ≡ some b → (get_elem? l j ≡ some b) × (j < length l) ⊎ ((a ≡ b) × (j ≡ length l))
at_end [] a b zero e = inr (some-injective a b e, refl)
at_end [] a b (suc j) e = absurd (some-ne-none b (sym e))
at_end (x ∷ l) a b zero e = inl (e, omega arith)
at_end (x ∷ l) a b (suc j) e = go (at_end l a b j e)
  where
    go : (get_elem? l j ≡ some b) × (j < length l) ⊎ ((a ≡ b) × (j ≡ length l)) → (get_elem? l j ≡ some b) × (suc j < suc (length l)) ⊎ ((a ≡ b) × (suc j ≡ suc (length l)))
    go (inl front) = inl (front.0, omega (arith, front.1))
    go (inr last) = inr (last.0, ap suc last.1)

-- a client whose views stand with another seat isn't among these
others_in : (m : Memory) (engine : EngineView) (faults : List Fault) (place : ℕ → ℕ) (seat c : ℕ) (list : List PassView) → place c ≢ seat → AreViews m engine faults place seat list → IsOther c list
others_in m engine faults place seat c [] apart views = tt
others_in m engine faults place seat c (v ∷ list) apart views =
    ((λ e. apart (sym (ap place e) ∙ views.2)), others_in m engine faults place seat c list apart views.4)

-- views that stand with another seat now
moved_to : (m : Memory) (engine : EngineView) (faults : List Fault) (place next : ℕ → ℕ) (seat to c : ℕ) (list : List PassView) → IsOther c list → ((d : ℕ) → d ≢ c → place d ≡ seat → next d ≡ to) → AreViews m engine faults place seat list → AreViews m engine faults next to list
moved_to m engine faults place next seat to c [] others there views = tt
moved_to m engine faults place next seat to c (v ∷ list) others there views =
    (views.0, views.1, there v.client others.0 views.2, views.3, moved_to m engine faults place next seat to c list others.1 there views.4)

all_moved : (m : Memory) (engine : EngineView) (faults : List Fault) (place next : ℕ → ℕ) (seat to : ℕ) (list : List PassView) → ((d : ℕ) → place d ≡ seat → next d ≡ to) → AreViews m engine faults place seat list → AreViews m engine faults next to list
all_moved m engine faults place next seat to [] there views = tt
all_moved m engine faults place next seat to (v ∷ list) there views =
    (views.0, views.1, there v.client views.2, views.3, all_moved m engine faults place next seat to list there views.4)

other_append : (c : ℕ) (a b : List PassView) → IsOther c a → IsOther c b → IsOther c (a ++ b)
other_append c [] b first more = more
other_append c (v ∷ a) b first more = (first.0, other_append c a b first.1 more)

-- views of two seats, as one seat's
views_joined : (m : Memory) (engine : EngineView) (faults : List Fault) (place next : ℕ → ℕ) (first second to : ℕ) (a b : List PassView) → first ≢ second → ((d : ℕ) → place d ≡ first → next d ≡ to) → AreViews m engine faults place first a → AreViews m engine faults place second b → AreViews m engine faults next to b
    → AreViews m engine faults next to (a ++ b)
views_joined m engine faults place next first second to [] b apart there views others moved = moved
views_joined m engine faults place next first second to (v ∷ a) b apart there views others moved = (
  views.0,
  views.1,
  there v.client views.2,
  other_append v.client a b views.3 (others_in m engine faults place second v.client b (λ e. apart (sym views.2 ∙ e)) others),
  views_joined m engine faults place next first second to a b apart there views.4 others moved,
)

module _ {X : Type 0} (seen : X → EngineView) (kind : Kind) (start : EngineView) where
  abbrev Rule : State (Option X) (List PassView) → Type 0
  Rule = Keeps seen kind start

  with_views : {s : State (Option X) (List PassView)} (r : Rule s) (place : ℕ → ℕ) (views : List (List PassView)) → ((seat : ℕ) (list : List PassView) → get_elem? views seat ≡ some list → AreViews r.m r.engine r.faults place seat list) → Rule (record { words = s.words; homes = s.homes; views = views })
  with_views r place views are = record {
    m = r.m;
    engine = r.engine;
    faults = r.faults;
    place = place;
    run = r.run;
    kept = r.kept;
    words = r.words;
    tied = r.tied;
    lies = r.lies;
    below = r.below;
    apart = r.apart;
    clients = r.clients;
    views = are;
  }

  pub splits : (id : ℕ) (views : List PassView) → Splits Rule id views (rest_of views) (first_of views)
  splits id [] s r at = with_views r r.place (set s.views id [] ++ [] ∷ []) (λ seat list there. go seat list (at_end (set s.views id []) [] list seat there))
    where
      go : (seat : ℕ) (list : List PassView) → (get_elem? (set s.views id []) seat ≡ some list) × (seat < length (set s.views id [])) ⊎ (([] ≡ list) × (seat ≡ length (set s.views id []))) → AreViews r.m r.engine r.faults r.place seat list
      go seat list (inl front) = r.views seat list (subst (λ (l : List (List PassView)). get_elem? l seat ≡ some list) (set_again s.views id [] at) front.0)
      go seat list (inr last) = subst (AreViews r.m r.engine r.faults r.place seat) last.0 tt
  splits id (v ∷ views) s r at = with_views r next (set s.views id views ++ (v ∷ []) ∷ []) (λ seat list there. go seat list (at_end (set s.views id views) (v ∷ []) list seat there))
    where
      last_seat : ℕ
      last_seat = length (set s.views id views)

      next : ℕ → ℕ
      next d = if eqb d v.client then length (set s.views id views) else r.place d

      own : AreViews r.m r.engine r.faults r.place id (v ∷ views)
      own = r.views id (v ∷ views) at

      stays : (d : ℕ) → d ≢ v.client → (if eqb d v.client then length (set s.views id views) else r.place d) ≡ r.place d
      stays d apart = cond-false (eqb d v.client) (length (set s.views id views)) (r.place d) (ne_eqb d v.client apart)

      front : (seat : ℕ) (list : List PassView) → ((seat ≡ id) × (views ≡ list)) ⊎ ((seat ≢ id) × (get_elem? s.views seat ≡ some list)) → AreViews r.m r.engine r.faults (λ d. if eqb d v.client then length (set s.views id views) else r.place d) seat list
      front seat list (inl (same, is)) =
          subst (AreViews r.m r.engine r.faults next seat) is (moved_to r.m r.engine r.faults r.place next id seat v.client views own.3 (λ d apart there. stays d apart ∙ (there ∙ sym same)) own.4)
      front seat list (inr (other, there)) =
          moved_to r.m r.engine r.faults r.place next seat seat v.client list (others_in r.m r.engine r.faults r.place seat v.client list (λ e. other (sym e ∙ own.2)) (r.views seat list there)) (λ d apart here. stays d apart ∙ here) (r.views seat list there)

      go : (seat : ℕ) (list : List PassView) → (get_elem? (set s.views id views) seat ≡ some list) × (seat < length (set s.views id views)) ⊎ (((v ∷ []) ≡ list) × (seat ≡ length (set s.views id views))) → AreViews r.m r.engine r.faults (λ d. if eqb d v.client then length (set s.views id views) else r.place d) seat list
      go seat list (inl found) = front seat list (at_set s.views id seat views list found.0)
      go seat list (inr last) =
          subst (AreViews r.m r.engine r.faults next seat) last.0 (own.0, own.1, cond-true (eqb v.client v.client) last_seat (r.place v.client) (eq-eqb v.client v.client refl) ∙ sym last.1, tt, tt)

  pub joins : (id other : ℕ) (v w : List PassView) → Joins Rule id v other w (w ++ v) []
  joins id other v w s r at apart there = with_views r next (set (set s.views id (w ++ v)) other []) (λ seat list found. go seat list (at_set (set s.views id (w ++ v)) other seat [] list found))
    where
      next : ℕ → ℕ
      next d = if eqb (r.place d) other then id else r.place d

      theirs : AreViews r.m r.engine r.faults r.place other w
      theirs = r.views other w (old (at_set s.views id other (w ++ v) w there))
        where
          old : ((other ≡ id) × ((w ++ v) ≡ w)) ⊎ ((other ≢ id) × (get_elem? s.views other ≡ some w)) → get_elem? s.views other ≡ some w
          old (inl same) = absurd (apart same.0)
          old (inr found) = found.1

      own : AreViews r.m r.engine r.faults r.place id v
      own = r.views id v at

      to_own : (d : ℕ) → r.place d ≡ other → (if eqb (r.place d) other then id else r.place d) ≡ id
      to_own d same = cond-true (eqb (r.place d) other) id (r.place d) (eq-eqb _ _ same)

      stays : (d seat : ℕ) → seat ≢ other → r.place d ≡ seat → (if eqb (r.place d) other then id else r.place d) ≡ seat
      stays d seat distinct same = cond-false (eqb (r.place d) other) id (r.place d) (ne_eqb _ _ (λ e. distinct (sym same ∙ e))) ∙ same

      own_moved : AreViews r.m r.engine r.faults (λ d. if eqb (r.place d) other then id else r.place d) id v
      own_moved = all_moved r.m r.engine r.faults r.place next id id v (λ d same. stays d id (λ e. apart (sym e)) same) own

      both : AreViews r.m r.engine r.faults (λ d. if eqb (r.place d) other then id else r.place d) id (w ++ v)
      both = views_joined r.m r.engine r.faults r.place next other id id w v apart to_own theirs own own_moved

      front : (seat : ℕ) (list : List PassView) → seat ≢ other → ((seat ≡ id) × ((w ++ v) ≡ list)) ⊎ ((seat ≢ id) × (get_elem? s.views seat ≡ some list)) → AreViews r.m r.engine r.faults (λ d. if eqb (r.place d) other then id else r.place d) seat list
      front seat list distinct (inl (same, is)) =
          subst (AreViews r.m r.engine r.faults next seat) is (subst (λ (n : ℕ). AreViews r.m r.engine r.faults next n (w ++ v)) (sym same) both)
      front seat list distinct (inr (elsewhere, found)) =
          all_moved r.m r.engine r.faults r.place next seat seat list (λ d same. stays d seat distinct same) (r.views seat list found)

      go : (seat : ℕ) (list : List PassView) → ((seat ≡ other) × ([] ≡ list)) ⊎ ((seat ≢ other) × (get_elem? (set s.views id (w ++ v)) seat ≡ some list)) → AreViews r.m r.engine r.faults (λ d. if eqb (r.place d) other then id else r.place d) seat list
      go seat list (inl (same, is)) = subst (AreViews r.m r.engine r.faults next seat) is tt
      go seat list (inr (distinct, found)) = front seat list distinct (at_set s.views id seat (w ++ v) list found)
