-- The steps of moving an item up and down, and what a heap's first item is.
use Rattle.std.proofs.Common.{◌≡◌, ◌≢◌, ℕ, zero, suc, ◌+◌, ◌-◌, ◌<◌, ◌≤◌, Some, List, [], ◌∷◌, ◌++◌, length, take, drop, slice_get, slice_index, slice_set, sym, ap, ◌∙◌, ⊎_elim, arith}
use Rattle.std.proofs.lemmas.Bool.{cases_eq}
use Rattle.std.proofs.lemmas.List.{length-take-le, take_all, take_more, take_more_set}
use Rattle.std.proofs.lemmas.List.Sorted.{IsPermutation-to_front, IsPermutation-append_left}
use Rattle.std.specs.List.Sorted.{IsNonDecreasing, IsPermutation}
use Rattle.pb_heap.specs.Order.{parent_of, IsHeapOrdered, IsOrderedButAt, IsOrderedButBelow, IsLeastChild}
use Rattle.pb_object.specs.Heap.{insert_rising, rising_of, after_insert}
use Rattle.std.proofs.lemmas.Bool.Decides.{nat_tests}
use Rattle.pb_object.proofs.RisingLemmas.{length-rising_of, rising_of-rising, rises_from_IsNonDecreasing, IsLeast-from_get_or, IsLeast-rising_of, insert_rising-least, same_from_insert_rising, rising_of-IsPermutation}

-- ---- by places: f is the list before the exchange, g after it

up-others : (f g : ℕ → ℕ) (n hole p : ℕ) → 0 < hole → f hole < f (parent_of hole) → g (parent_of hole) ≡ f hole → g hole ≡ f (parent_of hole) → ((k : ℕ) → k ≢ parent_of hole → k ≢ hole → g k ≡ f k) → ((k : ℕ) → 0 < k → k < n → k ≢ hole → f (parent_of k) ≤ f k) → ((k : ℕ) → 0 < k → k < n → parent_of k ≡ hole → 0 < hole → f (parent_of hole) ≤ f k) → 0 < p → p < n → p ≢ parent_of hole → g (parent_of p) ≤ g p
up-others f g n hole p some less top low same others children some_p within_p other_p =
    ⊎_elim
    (λ e. let up : parent_of p ≡ parent_of hole = ap parent_of e in let gp = ap g e in let gq = ap g up in omega arith)
    (λ ne. let here = same p other_p ne in
    ⊎_elim
    (λ e. let gq = ap g e in let above = children p some_p within_p e some in omega arith)
    (λ nq. let before = others p some_p within_p ne in
    ⊎_elim
    (λ e. let gq = ap g e in let fq = ap f e in omega arith)
    (λ nr. let there = same (parent_of p) nr nq in omega arith)
    (cases_eq (parent_of p) (parent_of hole)))
    (cases_eq (parent_of p) hole))
    (cases_eq p hole)

up-children : (f g : ℕ → ℕ) (n hole p : ℕ) → 0 < hole → hole < n → g hole ≡ f (parent_of hole) → ((k : ℕ) → k ≢ parent_of hole → k ≢ hole → g k ≡ f k) → ((k : ℕ) → 0 < k → k < n → k ≢ hole → f (parent_of k) ≤ f k) → 0 < p → p < n → parent_of p ≡ parent_of hole → 0 < parent_of hole → g (parent_of (parent_of hole)) ≤ g p
up-children f g n hole p some within low same others some_p within_p is some_parent =
    let above = same (parent_of (parent_of hole)) (omega arith) (omega arith) in
    let before = others (parent_of hole) some_parent (omega arith) (omega arith) in
    ⊎_elim
    (λ e. let gp = ap g e in omega arith)
    (λ ne. let here = same p (omega arith) ne in let after = others p some_p within_p ne in let fq = ap f is in omega arith)
    (cases_eq p hole)

down-others : (f g : ℕ → ℕ) (n hole child p : ℕ) → 0 < child → child < n → parent_of child ≡ hole → f child < f hole → g hole ≡ f child → g child ≡ f hole → ((k : ℕ) → k ≢ hole → k ≢ child → g k ≡ f k) → ((k : ℕ) → 0 < k → k < n → parent_of k ≡ hole → f child ≤ f k) → ((k : ℕ) → 0 < k → k < n → parent_of k ≢ hole → f (parent_of k) ≤ f k) → ((k : ℕ) → 0 < k → k < n → parent_of k ≡ hole → 0 < hole → f (parent_of hole) ≤ f k) → 0 < p → p < n → parent_of p ≢ child → g (parent_of p) ≤ g p
down-others f g n hole child p some within parent less top low same least others children some_p within_p other_p =
    ⊎_elim
    (λ e. let gq = ap g e in
    ⊎_elim
    (λ here. let gp = ap g here in omega arith)
    (λ ne. let gp = same p (omega arith) ne in let smaller = least p some_p within_p e in omega arith)
    (cases_eq p child))
    (λ nq. let gq = same (parent_of p) nq other_p in
    ⊎_elim
    (λ here. let gp = ap g here in let up : parent_of p ≡ parent_of hole = ap parent_of here in let fq = ap f up in
    let above = children child some within parent (omega arith) in omega arith)
    (λ ne. let gp = same p ne (λ e. nq (ap parent_of e ∙ parent)) in let before = others p some_p within_p nq in omega arith)
    (cases_eq p hole))
    (cases_eq (parent_of p) hole)

down-children : (f g : ℕ → ℕ) (n hole child p : ℕ) → 0 < child → parent_of child ≡ hole → g hole ≡ f child → ((k : ℕ) → k ≢ hole → k ≢ child → g k ≡ f k) → ((k : ℕ) → 0 < k → k < n → parent_of k ≢ hole → f (parent_of k) ≤ f k) → 0 < p → p < n → parent_of p ≡ child → g (parent_of child) ≤ g p
down-children f g n hole child p some parent top same others some_p within_p is =
    let gq = ap g parent in
    let gp = same p (omega arith) (omega arith) in
    let before = others p some_p within_p (omega arith) in
    let fq = ap f is in
    omega arith

pub up-step : (xs ys : List ℕ) (hole : ℕ) → 0 < hole → hole < length xs → length ys ≡ length xs → slice_index xs hole < slice_index xs (parent_of hole) → slice_index ys (parent_of hole) ≡ slice_index xs hole → slice_index ys hole ≡ slice_index xs (parent_of hole) → ((k : ℕ) → k ≢ parent_of hole → k ≢ hole → slice_index ys k ≡ slice_index xs k) → IsOrderedButAt xs hole → IsOrderedButAt ys (parent_of hole)
up-step xs ys hole some within len less top low same ordered = record {
  others = λ p some_p within_p other_p. up-others (slice_index xs) (slice_index ys) (length xs) hole p some less top low same ordered.others ordered.children some_p (omega arith) other_p;
  children = λ p some_p within_p is some_parent. up-children (slice_index xs) (slice_index ys) (length xs) hole p some within low same ordered.others some_p (omega arith) is some_parent;
}

pub down-step : (xs ys : List ℕ) (hole child : ℕ) → IsLeastChild xs hole child → length ys ≡ length xs → slice_index xs child < slice_index xs hole → slice_index ys hole ≡ slice_index xs child → slice_index ys child ≡ slice_index xs hole → ((k : ℕ) → k ≢ hole → k ≢ child → slice_index ys k ≡ slice_index xs k) → IsOrderedButBelow xs hole → IsOrderedButBelow ys child
down-step xs ys hole child is_child len less top low same ordered = record {
  others = λ p some_p within_p other_p. down-others (slice_index xs) (slice_index ys) (length xs) hole child p is_child.some is_child.within is_child.parent less top low same is_child.least ordered.others ordered.children some_p (omega arith) other_p;
  children = λ p some_p within_p is some_child. down-children (slice_index xs) (slice_index ys) (length xs) hole child p is_child.some is_child.parent top same ordered.others some_p (omega arith) is;
}

-- ---- the first item

least_by : (items : List ℕ) → IsHeapOrdered items → (most place : ℕ) → place ≤ most → place < length items → slice_index items 0 ≤ slice_index items place
least_by items ordered zero place h within = let first : place ≡ 0 = omega arith in let same = ap (slice_index items) first in omega arith
least_by items ordered (suc most) place h within =
    ⊎_elim
    (λ first. let same = ap (slice_index items) first in omega arith)
    (λ ne. let above = ordered place (omega arith) within in
    let least = least_by items ordered most (parent_of place) (omega arith) (omega arith) in omega arith)
    (cases_eq place 0)

-- the rising list of items in heap order begins with the first of them
pub rising_of-heap : (item : ℕ) (items : List ℕ) → IsHeapOrdered (item ∷ items) → rising_of (item ∷ items) ≡ item ∷ rising_of items
rising_of-heap item items ordered =
    insert_rising-least item (rising_of items) (IsLeast-rising_of item items
    (IsLeast-from_get_or item items (λ place h. least_by (item ∷ items) ordered (suc place) (suc place) (omega arith) (omega arith))))

pub first-rising_of : (items : List ℕ) → IsHeapOrdered items → 0 < length items → slice_get (rising_of items) 0 ≡ Some (slice_index items 0)
first-rising_of [] ordered some = absurd (omega arith)
first-rising_of (item ∷ items) ordered some = ap (λ rising. slice_get rising 0) (rising_of-heap item items ordered)

-- ---- an item more, and the first item less

pub rising_of-push : (items : List ℕ) (item : ℕ) → rising_of (items ++ item ∷ []) ≡ insert_rising item (rising_of items)
rising_of-push items item = sym (rising_of-IsPermutation (items ++ item ∷ []) (item ∷ items) (IsPermutation-to_front items item))

-- what is left of items in heap order without their first is the rest of their rising list
pub rising_of-without_first : (items rest : List ℕ) → IsHeapOrdered items → 0 < length items → rising_of (rest ++ slice_index items 0 ∷ []) ≡ rising_of items → rising_of rest ≡ drop 1 (rising_of items)
rising_of-without_first [] rest ordered some same = absurd (omega arith)
rising_of-without_first (item ∷ items) rest ordered some same =
    let first : rising_of (item ∷ items) ≡ item ∷ rising_of items = rising_of-heap item items ordered in
    same_from_insert_rising item (rising_of rest) (rising_of items) (sym (rising_of-push rest item) ∙ same) ∙ ap (drop 1) (sym first)

-- the same, where the last item took the first one's place and what lies before it was moved
pub rising_of-removed : (items swapped rest : List ℕ) → IsHeapOrdered items → 0 < length items → IsPermutation items swapped → length swapped ≡ length items → slice_index swapped (length items - 1) ≡ slice_index items 0 → IsPermutation (take (length items - 1) swapped) rest → rising_of rest ≡ drop 1 (rising_of items)
rising_of-removed items swapped rest ordered some same len last moved =
    let place : ℕ = length items - 1 in
    let first : ℕ = slice_index items 0 in
    let whole : take (place + 1) swapped ≡ swapped = take_all (place + 1) swapped (omega arith) in
    let split : take (place + 1) swapped ≡ take place swapped ++ slice_index swapped place ∷ [] = take_more swapped place 0 (omega arith) in
    let joined : take place swapped ++ first ∷ [] ≡ swapped = ap (λ item. take place swapped ++ item ∷ []) (sym last) ∙ sym split ∙ whole in
    rising_of-without_first items rest ordered some
    (rising_of-IsPermutation (take place swapped ++ first ∷ []) (rest ++ first ∷ []) (IsPermutation-append_left (first ∷ []) (take place swapped) rest moved)
    ∙ ap rising_of joined
    ∙ rising_of-IsPermutation items swapped same)

pub rising_of-added : (places moved : List ℕ) (len item : ℕ) → len < length places → IsPermutation (take (len + 1) (slice_set places len item)) moved → rising_of moved ≡ insert_rising item (rising_of (take len places))
rising_of-added places moved len item room same =
    rising_of-IsPermutation (take (len + 1) (slice_set places len item)) moved same
    ∙ ap rising_of (take_more_set places len item room)
    ∙ rising_of-push (take len places) item

-- ---- how many items there are, and a sort

pub length_rising : (len : ℕ) (places : List ℕ) → len ≤ length places → length (rising_of (take len places)) ≡ len
length_rising len places within = length-rising_of (take len places) ∙ length-take-le len places within

pub sorted_is_rising : (items sorted : List ℕ) → IsPermutation items sorted → IsNonDecreasing sorted → sorted ≡ rising_of items
sorted_is_rising items sorted same up =
    sym (rising_of-rising sorted (rises_from_IsNonDecreasing sorted up)) ∙ rising_of-IsPermutation items sorted same

-- an insert into a heap that isn't full
pub insert_with_room : (places : List ℕ) (len item : ℕ) → len < length places → after_insert (length places) (rising_of (take len places)) item ≡ insert_rising item (rising_of (take len places))
insert_with_room places len item room =
    let count = length_rising len places (omega arith) in grind (arith, nat_tests)
