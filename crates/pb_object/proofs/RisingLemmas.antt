-- The rising list of items: it doesn't go by their order, and it has them all.
use Rattle.std.proofs.Common.{◌≡◌, ◌≢◌, ℕ, zero, suc, ◌+◌, ◌<◌, ◌≤◌, true, false, List, [], ◌∷◌, length, get_or, set, cond, eqb, leb, refl, sym, ap, ◌∙◌, ⊎_elim, arith}
use Rattle.std.proofs.lemmas.Bool.{cases_eq, cases_lt}
use Rattle.std.proofs.lemmas.List.{length-set, set-set, set-get_or, get_or-set_other}
use Rattle.std.proofs.lemmas.List.Edits.{swap_is}
use Rattle.std.proofs.lemmas.List.Sorted.{IsPermutation-refl, IsPermutation-sym, IsPermutation-cons, IsPermutation-trans, IsPermutation-middle, IsPermutation-keeps}
use Rattle.std.specs.List.{swap}
use Rattle.std.specs.List.Sorted.{IsNonDecreasing, IsPermutation}
use Rattle.std.proofs.lemmas.Bool.Decides.{nat_tests}
use Rattle.pb_object.specs.Heap.{insert_rising, rising_of}

insert_rising_comm-nil : (a b : ℕ) → insert_rising a (insert_rising b []) ≡ insert_rising b (insert_rising a [])
insert_rising_comm-nil a b = grind (arith, nat_tests)

insert_rising_comm-cons : (a b first : ℕ) (items : List ℕ) → insert_rising a (insert_rising b items) ≡ insert_rising b (insert_rising a items) → insert_rising a (insert_rising b (first ∷ items)) ≡ insert_rising b (insert_rising a (first ∷ items))
insert_rising_comm-cons a b first items same = grind (arith, nat_tests)

pub insert_rising_comm : (a b : ℕ) (items : List ℕ) → insert_rising a (insert_rising b items) ≡ insert_rising b (insert_rising a items)
insert_rising_comm a b [] = insert_rising_comm-nil a b
insert_rising_comm a b (first ∷ items) = insert_rising_comm-cons a b first items (insert_rising_comm a b items)

pub length-insert_rising : (item : ℕ) (items : List ℕ) → length (insert_rising item items) ≡ length items + 1
length-insert_rising item [] = refl
length-insert_rising item (first ∷ items) = let shorter = length-insert_rising item items in grind (arith, nat_tests)

pub length-rising_of : (items : List ℕ) → length (rising_of items) ≡ length items
length-rising_of [] = refl
length-rising_of (item ∷ items) = omega (arith, length-insert_rising item (rising_of items), length-rising_of items)

-- ---- an insert keeps a rising list rising, and a rising list is its own

pub insert_rising-front : (item first : ℕ) (items : List ℕ) → item ≤ first → insert_rising item (first ∷ items) ≡ item ∷ first ∷ items
insert_rising-front item first items least = grind (arith, nat_tests)

pub insert_rising-after : (item first : ℕ) (items : List ℕ) → first < item → insert_rising item (first ∷ items) ≡ first ∷ insert_rising item items
insert_rising-after item first items less = grind (arith, nat_tests)

-- no item of the list is less
abbrev pub IsLeast : ℕ → List ℕ → Type 0
IsLeast least [] = Unit {0}
IsLeast least (item ∷ items) = (least ≤ item) × IsLeast least items

abbrev pub Rises : List ℕ → Type 0
Rises [] = Unit {0}
Rises (item ∷ items) = IsLeast item items × Rises items

pub IsLeast-get_or : (least : ℕ) (items : List ℕ) → IsLeast least items → (place d : ℕ) → place < length items → least ≤ get_or items place d
IsLeast-get_or least [] all place d h = absurd (omega arith)
IsLeast-get_or least (item ∷ items) all zero d h = all.0
IsLeast-get_or least (item ∷ items) all (suc place) d h = IsLeast-get_or least items all.1 place d (omega arith)

pub IsLeast-from_get_or : (least : ℕ) (items : List ℕ) → ((place : ℕ) → place < length items → least ≤ get_or items place 0) → IsLeast least items
IsLeast-from_get_or least [] each = tt
IsLeast-from_get_or least (item ∷ items) each =
    (each 0 (omega arith), IsLeast-from_get_or least items (λ place h. each (suc place) (omega arith)))

IsLeast-lower : (least lower : ℕ) (items : List ℕ) → lower ≤ least → IsLeast least items → IsLeast lower items
IsLeast-lower least lower [] h all = tt
IsLeast-lower least lower (item ∷ items) h all = (omega (arith, all.0), IsLeast-lower least lower items h all.1)

pub IsLeast-insert_rising : (least item : ℕ) (items : List ℕ) → least ≤ item → IsLeast least items → IsLeast least (insert_rising item items)
IsLeast-insert_rising least item [] h all = (h, tt)
IsLeast-insert_rising least item (first ∷ items) h all =
    elim (leb item first) as (λ v. IsLeast least (cond v (item ∷ first ∷ items) (first ∷ insert_rising item items)))
    [ true ↦ (h, all) | false ↦ (all.0, IsLeast-insert_rising least item items h all.1) ]

pub insert_rising-least : (item : ℕ) (items : List ℕ) → IsLeast item items → insert_rising item items ≡ item ∷ items
insert_rising-least item [] all = refl
insert_rising-least item (first ∷ items) all = insert_rising-front item first items all.0

Rises-insert_rising : (item : ℕ) (items : List ℕ) → Rises items → Rises (insert_rising item items)
Rises-insert_rising item [] rises = (tt, tt)
Rises-insert_rising item (first ∷ items) rises =
    ⊎_elim (λ less. rw (insert_rising-after item first items less) (IsLeast-insert_rising first item items (omega arith) rises.0, Rises-insert_rising item items rises.1))
    (λ least. rw (insert_rising-front item first items least) ((least, IsLeast-lower first item items least rises.0), rises))
    (cases_lt first item)

pub Rises-rising_of : (items : List ℕ) → Rises (rising_of items)
Rises-rising_of [] = tt
Rises-rising_of (item ∷ items) = Rises-insert_rising item (rising_of items) (Rises-rising_of items)

pub rising_of-rising : (items : List ℕ) → Rises items → rising_of items ≡ items
rising_of-rising [] rises = refl
rising_of-rising (item ∷ items) rises =
    ap (insert_rising item) (rising_of-rising items rises.1) ∙ insert_rising-least item items rises.0

pub IsLeast-rising_of : (least : ℕ) (items : List ℕ) → IsLeast least items → IsLeast least (rising_of items)
IsLeast-rising_of least [] all = tt
IsLeast-rising_of least (item ∷ items) all = IsLeast-insert_rising least item (rising_of items) all.0 (IsLeast-rising_of least items all.1)

-- std's word for a rising list
pub IsNonDecreasing-from_rises : (items : List ℕ) → Rises items → IsNonDecreasing items
IsNonDecreasing-from_rises [] rises i j d h k = omega arith
IsNonDecreasing-from_rises (item ∷ items) rises zero zero d h k = omega arith
IsNonDecreasing-from_rises (item ∷ items) rises zero (suc j) d h k = IsLeast-get_or item items rises.0 j d (omega arith)
IsNonDecreasing-from_rises (item ∷ items) rises (suc i) zero d h k = absurd (omega arith)
IsNonDecreasing-from_rises (item ∷ items) rises (suc i) (suc j) d h k =
    IsNonDecreasing-from_rises items rises.1 i j d (omega arith) (omega arith)

pub rises_from_IsNonDecreasing : (items : List ℕ) → IsNonDecreasing items → Rises items
rises_from_IsNonDecreasing [] up = tt
rises_from_IsNonDecreasing (item ∷ items) up = (
  IsLeast-from_get_or item items (λ place h. up 0 (suc place) 0 (omega arith) (omega arith)),
  rises_from_IsNonDecreasing items (λ i j d h k. up (suc i) (suc j) d (omega arith) (omega arith)),
)

-- ---- the rising list has all the items

IsPermutation-insert_rising : (item : ℕ) (items : List ℕ) → IsPermutation (item ∷ items) (insert_rising item items)
IsPermutation-insert_rising item [] = IsPermutation-refl (item ∷ [])
IsPermutation-insert_rising item (first ∷ items) =
    elim (leb item first) as (λ v. IsPermutation (item ∷ first ∷ items) (cond v (item ∷ first ∷ items) (first ∷ insert_rising item items))) [
      | true ↦ IsPermutation-refl (item ∷ first ∷ items)
      | false ↦ IsPermutation-trans (item ∷ first ∷ items) (first ∷ item ∷ items) (first ∷ insert_rising item items)
          (IsPermutation-sym (first ∷ item ∷ items) (item ∷ first ∷ items) (IsPermutation-middle (first ∷ []) item items))
          (IsPermutation-cons first (item ∷ items) (insert_rising item items) (IsPermutation-insert_rising item items))
    ]

pub IsPermutation-rising_of : (items : List ℕ) → IsPermutation items (rising_of items)
IsPermutation-rising_of [] = IsPermutation-refl []
IsPermutation-rising_of (item ∷ items) =
    IsPermutation-trans (item ∷ items) (item ∷ rising_of items) (insert_rising item (rising_of items))
    (IsPermutation-cons item items (rising_of items) (IsPermutation-rising_of items))
    (IsPermutation-insert_rising item (rising_of items))

-- ---- the rising list doesn't go by the items' order

-- the list without the first item that equals this one
abbrev without : ℕ → List ℕ → List ℕ
without item [] = []
without item (first ∷ items) = cond (eqb first item) items (first ∷ without item items)

without-insert_rising : (item : ℕ) (items : List ℕ) → without item (insert_rising item items) ≡ items
without-insert_rising item [] = grind (arith, nat_tests)
without-insert_rising item (first ∷ items) = let others = without-insert_rising item items in grind (arith, nat_tests)

pub same_from_insert_rising : (item : ℕ) (xs ys : List ℕ) → insert_rising item xs ≡ insert_rising item ys → xs ≡ ys
same_from_insert_rising item xs ys same = sym (without-insert_rising item xs) ∙ ap (without item) same ∙ without-insert_rising item ys

-- a written place: its new item is in the rising list in place of its old one
insert_rising-set : (items : List ℕ) (place item : ℕ) → place < length items → insert_rising (get_or items place 0) (rising_of (set items place item)) ≡ insert_rising item (rising_of items)
insert_rising-set [] place item h = absurd (omega arith)
insert_rising-set (first ∷ items) zero item h = insert_rising_comm first item (rising_of items)
insert_rising-set (first ∷ items) (suc place) item h =
    insert_rising_comm (get_or items place 0) first (rising_of (set items place item))
    ∙ ap (insert_rising first) (insert_rising-set items place item (omega arith))
    ∙ insert_rising_comm first item (rising_of items)

sets-same : (items : List ℕ) (i : ℕ) → i < length items → set (set items i (get_or items i 0)) i (get_or items i 0) ≡ items
sets-same items i h = set-set items i (get_or items i 0) (get_or items i 0) ∙ set-get_or items i 0

sets-other : (items : List ℕ) (i j : ℕ) → i < length items → j < length items → i ≢ j → insert_rising (get_or items j 0) (rising_of (set (set items i (get_or items j 0)) j (get_or items i 0))) ≡ insert_rising (get_or items j 0) (rising_of items)
sets-other items i j hi hj other =
    let once : List ℕ = set items i (get_or items j 0) in
    let kept : get_or once j 0 ≡ get_or items j 0 = get_or-set_other items i j (get_or items j 0) 0 (λ e. other (sym e)) in
    let within : j < length once = omega (arith, length-set items i (get_or items j 0)) in
    ap (λ item. insert_rising item (rising_of (set once j (get_or items i 0)))) (sym kept)
    ∙ insert_rising-set once j (get_or items i 0) within
    ∙ insert_rising-set items i (get_or items j 0) hi

rising_of-sets : (items : List ℕ) (i j : ℕ) → i < length items → j < length items → rising_of (set (set items i (get_or items j 0)) j (get_or items i 0)) ≡ rising_of items
rising_of-sets items i j hi hj =
    ⊎_elim (λ same. rw (← same) (ap rising_of (sets-same items i hi)))
    (λ other. same_from_insert_rising (get_or items j 0) _ _ (sets-other items i j hi hj other))
    (cases_eq i j)

rising_of-swap : (items : List ℕ) (i j : ℕ) → i < length items → j < length items → rising_of (swap items i j) ≡ rising_of items
rising_of-swap items i j hi hj = ap rising_of (sym (swap_is items i j 0 hi hj)) ∙ rising_of-sets items i j hi hj

-- two lists with the same items have the same rising list
pub rising_of-IsPermutation : (xs ys : List ℕ) → IsPermutation xs ys → rising_of ys ≡ rising_of xs
rising_of-IsPermutation xs ys same =
    IsPermutation-keeps xs (λ l. rising_of l ≡ rising_of xs) refl (λ l i j hi hj before. rising_of-swap l i j hi hj ∙ before) ys same
