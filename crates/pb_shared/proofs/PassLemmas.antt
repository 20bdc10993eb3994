-- Passes as they are made and joined.
use Rattle.std.proofs.Common.{◌≡◌, ℕ, zero, suc, ◌+◌, ◌<◌, ◌≤◌, List, [], ◌∷◌, ◌++◌, length, map, take, drop, slice_index_or, All, arith, sym, refl, ap, ◌∙◌, inl, inr, subst}
use Rattle.arrayvec.specs.ArrayVec.{ArrayVec}
use Rattle.atomic_table.specs.Seated.{TableId}
use Rattle.pb_object.specs.declared.request.Kept.{Kept}
use Rattle.pb_rule.specs.Opening.{IsThere, first_of, rest_of}
use Rattle.pb_rule.specs.Plays.{Seated}
use Rattle.pb_rule.specs.View.{PassView, fresh_view, fresh_views}
use Rattle.pb_shared.specs.Passes.{PassSeen, SharedSeen, IsOf, IsAtTable, AreAll, lists_kept, passes_over, view_of}

-- Lists

pub grow_at : {A : Type 0} (d : A) (xs : List A) (n : ℕ) → n < length xs → take (suc n) xs ≡ take n xs ++ slice_index_or xs n d ∷ []
grow_at d [] n inside = absurd (omega (arith, inside))
grow_at d (x ∷ xs) zero inside = refl
grow_at {A} d (x ∷ xs) (suc n) inside = ap (λ (ys : List A). x ∷ ys) (grow_at d xs n (omega (arith, inside)))

pub whole : {A : Type 0} (xs : List A) (n : ℕ) → length xs ≤ n → take n xs ≡ xs
whole [] zero few = refl
whole [] (suc n) few = refl
whole (x ∷ xs) zero few = absurd (omega (arith, few))
whole {A} (x ∷ xs) (suc n) few = ap (λ (ys : List A). x ∷ ys) (whole xs n (omega (arith, few)))

pub none_left : {A : Type 0} (xs : List A) (n : ℕ) → length xs ≤ n → drop n xs ≡ []
none_left [] zero few = refl
none_left [] (suc n) few = refl
none_left (x ∷ xs) zero few = absurd (omega (arith, few))
none_left (x ∷ xs) (suc n) few = none_left xs n (omega (arith, few))

at_drop : {A : Type 0} (d : A) (xs : List A) (n : ℕ) → n < length xs → drop n xs ≡ slice_index_or xs n d ∷ drop (suc n) xs
at_drop d [] n inside = absurd (omega (arith, inside))
at_drop d (x ∷ xs) zero inside = refl
at_drop d (x ∷ xs) (suc n) inside = at_drop d xs n (omega (arith, inside))

append_assoc : {A : Type 0} (a b c : List A) → (a ++ b) ++ c ≡ a ++ (b ++ c)
append_assoc [] b c = refl
append_assoc {A} (x ∷ a) b c = ap (λ (ys : List A). x ∷ ys) (append_assoc a b c)

append_none : {A : Type 0} (a : List A) → a ++ [] ≡ a
append_none [] = refl
append_none {A} (x ∷ a) = ap (λ (ys : List A). x ∷ ys) (append_none a)

-- Lists of kept requests

pub kept_append : (lists : List (ArrayVec Kept)) (list : ArrayVec Kept) → lists_kept (lists ++ list ∷ []) ≡ lists_kept lists ++ list.items ∷ []
kept_append [] list = refl
kept_append (first ∷ lists) list = ap (λ (ys : List (List Kept)). first.items ∷ ys) (kept_append lists list)

pub kept_count : (lists : List (ArrayVec Kept)) → length (lists_kept lists) ≡ length lists
kept_count [] = refl
kept_count (first ∷ lists) = ap suc (kept_count lists)

pub kept_at : (lists : List (ArrayVec Kept)) (n : ℕ) (blank : ArrayVec Kept) → n < length lists → (slice_index_or lists n blank).items ≡ slice_index_or (lists_kept lists) n []
kept_at [] n blank inside = absurd (omega (arith, inside))
kept_at (first ∷ lists) zero blank inside = refl
kept_at (first ∷ lists) (suc n) blank inside = kept_at lists n blank (omega (arith, inside))

-- Views of passes

pub next_views : (clients c : ℕ) (kept : List (List Kept)) → c < length kept → fresh_views clients c (drop c kept) ≡ fresh_view clients c (slice_index_or kept c []) ∷ fresh_views clients (suc c) (drop (suc c) kept)
next_views clients c kept inside = ap (fresh_views clients c) (at_drop [] kept c inside)

-- the first of them goes to a seat of its own
pub first_pass : {X : Type 0} (me place : Seated X) (clients c : ℕ) (kept : List (List Kept)) (list : List Kept) → me ≡ (fresh_views clients c (drop c kept), []) → place ≡ (first_of me.0, []) → c < length kept → list ≡ slice_index_or kept c [] → place ≡ (fresh_view clients c list ∷ [], [])
first_pass {X} me place clients c kept list so is inside item =
    is ∙ ((λ i. (first_of (views i), [])) ∙ (λ i. (fresh_view clients c (sym item i) ∷ [], [])))
  where
    views : me.0 ≡ fresh_view clients c (slice_index_or kept c []) ∷ fresh_views clients (suc c) (drop (suc c) kept)
    views = ap (λ (m : Seated X). m.0) so ∙ next_views clients c kept inside

pub other_passes : {X : Type 0} (me new : Seated X) (clients c : ℕ) (kept : List (List Kept)) → me ≡ (fresh_views clients c (drop c kept), []) → new ≡ (rest_of me.0, me.1) → c < length kept → (next : ℕ) → suc c ≡ next → new ≡ (fresh_views clients next (drop next kept), [])
other_passes {X} me new clients c kept so is inside next on =
    is ∙ ((λ i. (rest_of (views i), (so i).1)) ∙ (λ i. (fresh_views clients (on i) (drop (on i) kept), [])))
  where
    views : me.0 ≡ fresh_view clients c (slice_index_or kept c []) ∷ fresh_views clients (suc c) (drop (suc c) kept)
    views = ap (λ (m : Seated X). m.0) so ∙ next_views clients c kept inside

-- one more pass is made
pub one_more : (table : TableId) (clients c : ℕ) (kept : List (List Kept)) (passes : List PassSeen) (all : List PassSeen) → c < length kept → passes ++ passes_over table (fresh_views clients c (drop c kept)) ≡ all
    → (new : List PassSeen) → new ≡ passes ++ record { table = table; view = fresh_view clients c (slice_index_or kept c []) } ∷ [] → (next : ℕ) → suc c ≡ next
    → new ++ passes_over table (fresh_views clients next (drop next kept)) ≡ all
one_more table clients c kept passes all inside so new is next on =
    (λ i. new ++ passes_over table (fresh_views clients (sym on i) (drop (sym on i) kept))) ∙ (ap (λ (ys : List PassSeen). ys ++ passes_over table (fresh_views clients (suc c) (drop (suc c) kept))) is ∙ (append_assoc passes _ _ ∙ (ap (λ (views : List PassView). passes ++ passes_over table views) (sym (next_views clients c kept inside)) ∙ so)))

pub all_made : (table : TableId) (clients c : ℕ) (kept : List (List Kept)) (passes : List PassSeen) (all : List PassSeen) → length kept ≤ c → passes ++ passes_over table (fresh_views clients c (drop c kept)) ≡ all → passes ≡ all
all_made table clients c kept passes all few so =
    sym (append_none passes) ∙ (ap (λ (rest : List (List Kept)). passes ++ passes_over table (fresh_views clients c rest)) (sym (none_left kept c few)) ∙ so)

pub views_append : (first more : List PassSeen) → map view_of (first ++ more) ≡ map view_of first ++ map view_of more
views_append [] more = refl
views_append (p ∷ first) more = ap (λ (ys : List PassView). p.view ∷ ys) (views_append first more)

-- one more pass is joined
pub one_less : (passes : List PassSeen) (pass : PassSeen) (views all : List PassView) → map view_of (passes ++ pass ∷ []) ++ views ≡ all → map view_of passes ++ (pass.view ∷ [] ++ views) ≡ all
one_less passes pass views all so =
    sym (append_assoc (map view_of passes) (pass.view ∷ []) views) ∙ (ap (λ (ys : List PassView). ys ++ views) (sym (views_append passes (pass ∷ []))) ∙ so)

pub all_front : (P : PassSeen → Type 0) (first more : List PassSeen) → All P (first ++ more) → All P first
all_front P [] more all k d inside = absurd (omega (arith, inside))
all_front P (p ∷ first) more all zero d inside = all 0 d (omega arith)
all_front P (p ∷ first) more all (suc k) d inside =
    all_front P first more (λ j e there. all (suc j) e (omega (arith, there))) k d (omega (arith, inside))

pub all_last : (P : PassSeen → Type 0) (first : List PassSeen) (pass : PassSeen) → All P (first ++ pass ∷ []) → P pass
all_last P [] pass all = all 0 pass (omega arith)
all_last P (p ∷ first) pass all =
    all_last P first pass (λ j e there. all (suc j) e (omega (arith, there)))

-- so there is one at least
pub some_there : (object : SharedSeen) (passes : List PassSeen) → 1 ≤ object.start.standing.clients → ((client : ℕ) → client < object.start.standing.clients → IsThere client (map view_of passes)) → 0 < length passes
some_there object [] some all = absurd (all 0 (omega (arith, some)))
some_there object (p ∷ passes) some all = omega arith

pub at_table : (object : SharedSeen) (passes : List PassSeen) → All (IsOf object) passes → All (IsAtTable object.table) passes
at_table object passes all k d inside = (all k d inside).table

-- The passes of an object that was just opened

opened_of : (object : SharedSeen) (clients c : ℕ) (kept : List (List Kept)) → object.start.standing.clients ≡ clients → All (IsOf object) (passes_over object.table (fresh_views clients c kept))
opened_of object clients c [] same k d inside = absurd (omega (arith, inside))
opened_of object clients c (list ∷ kept) same zero d inside = record { table = refl; clients = sym same }
opened_of object clients c (list ∷ kept) same (suc k) d inside =
    opened_of object clients (suc c) kept same k d (omega (arith, inside))

opened_there : (table : TableId) (clients c k : ℕ) (kept : List (List Kept)) → k < length kept → IsThere (c + k) (map view_of (passes_over table (fresh_views clients c kept)))
opened_there table clients c k [] inside = absurd (omega (arith, inside))
opened_there table clients c zero (list ∷ kept) inside = inl (omega arith)
opened_there table clients c (suc k) (list ∷ kept) inside =
    let on : suc c + k ≡ c + suc k = omega arith in
    inr (subst (λ (client : ℕ). IsThere client (map view_of (passes_over table (fresh_views clients (suc c) kept)))) on (opened_there table clients (suc c) k kept (omega (arith, inside))))

pub all_opened : (object : SharedSeen) (passes : List PassSeen) → length object.start.standing.kept ≡ object.start.standing.clients → passes ≡ passes_over object.table (fresh_views object.start.standing.clients 0 object.start.standing.kept) → AreAll object passes
all_opened object passes count is = subst (AreAll object) (sym is) (record {
  of = opened_of object object.start.standing.clients 0 object.start.standing.kept refl;
  all = λ client inside.
      let from : 0 + client ≡ client = omega arith in
      subst (λ (c : ℕ). IsThere c (map view_of (passes_over object.table (fresh_views object.start.standing.clients 0 object.start.standing.kept)))) from (opened_there object.table object.start.standing.clients 0 client object.start.standing.kept (omega (arith, inside, count)));
})
