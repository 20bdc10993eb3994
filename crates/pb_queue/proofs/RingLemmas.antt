-- A ring of places: the items from a position on, one more, one less, and one place written.
use Rattle.std.proofs.Common.{◌≡◌, ◌≢◌, ℕ, zero, suc, ◌+◌, ◌-◌, ◌*◌, ◌/◌, ◌%◌, ◌<◌, ◌≤◌, List, [], ◌∷◌, ◌++◌, length, get_or, set, slice_index, refl, sym, ap, ◌∙◌, inl, inr, arith}
use Rattle.std.proofs.Math.Nat.{mul-le-mul_left, mod-lt}
use Rattle.std.proofs.lemmas.Bool.{cases_lt}
use Rattle.std.proofs.lemmas.List.{length-set, get_or-set_same, get_or-set_other}
use Rattle.std.proofs.lemmas.Bool.Decides.{nat_tests}
use Rattle.pb_object.specs.declared.codes.Answer.TheVariants.{Full, Worn, At, Item, Empty}
use Rattle.pb_object.specs.Queue.{Waiting, last_position, tail_of, take_reply, after_take, put_reply, after_put}
use Rattle.pb_object.specs.Request.{reply}
use Rattle.pb_queue.specs.Items.{none_waiting, with_item, item_at, items_from, waiting_between}

pub items_from-none : (places : List ℕ) (first : ℕ) → items_from places first 0 ≡ []
unfolding items_from
items_from-none places first = refl

pub items_from-more : (places : List ℕ) (first count : ℕ) → items_from places first (suc count) ≡ item_at places first ∷ items_from places (suc first) count
unfolding items_from
items_from-more places first count = refl

pub length-items_from : (places : List ℕ) (first count : ℕ) → length (items_from places first count) ≡ count
unfolding items_from
length-items_from places first zero = refl
length-items_from places first (suc count) = ap suc (length-items_from places (suc first) count)

pub get_or-items_from : (places : List ℕ) (first count k : ℕ) → k < count → get_or (items_from places first count) k 0 ≡ item_at places (first + k)
unfolding items_from
get_or-items_from places first zero k inside = absurd (omega arith)
get_or-items_from places first (suc count) zero inside = let at : first ≡ first + 0 = omega arith in ap (item_at places) at
get_or-items_from places first (suc count) (suc k) inside =
    let at : suc first + k ≡ first + suc k = omega arith in
    get_or-items_from places (suc first) count k (omega arith) ∙ ap (item_at places) at

-- one more item at the end
pub items_from-last : (places : List ℕ) (first count : ℕ) → items_from places first (suc count) ≡ items_from places first count ++ item_at places (first + count) ∷ []
unfolding items_from
items_from-last places first zero = let at : first ≡ first + 0 = omega arith in ap (λ (n : ℕ). item_at places n ∷ []) at
items_from-last places first (suc count) =
    let at : suc first + count ≡ first + suc count = omega arith in
    ap (λ (rest : List ℕ). item_at places first ∷ rest) (items_from-last places (suc first) count ∙ ap (λ (n : ℕ). items_from places (suc first) count ++ item_at places n ∷ []) at)

-- positions that are less than a size apart have places of their own
pub places_apart : (size p q : ℕ) → q < p → p < q + size → p % size ≢ q % size
places_apart size p q above near same =
    elim (cases_lt (q / size) (p / size)) [
      | inl more ↦ let step : size * (q / size + 1) ≤ size * (p / size) = mul-le-mul_left size (omega (arith, more)) in omega (arith, step, same)
      | inr less ↦ let step : size * (p / size) ≤ size * (q / size) = mul-le-mul_left size less in omega (arith, step, same)
    ]

-- the place of a position is one of the ring's
pub place_inside : (places : List ℕ) (position : ℕ) → 1 ≤ length places → position % length places < length places
place_inside places position some = mod-lt position (omega (arith, some))

-- a place is written, and its item is there
pub item_at-set : (places : List ℕ) (position item : ℕ) → 1 ≤ length places → item_at (set places (position % length places) item) position ≡ item
item_at-set places position item some =
    ap (λ (n : ℕ). get_or (set places (position % length places) item) (position % n) 0) (length-set places (position % length places) item)
    ∙ get_or-set_same places (position % length places) item 0 (place_inside places position some)

-- the items of other places are as they were
item_at-set_other : (places : List ℕ) (at position item : ℕ) → at % length places ≢ position % length places → item_at (set places (position % length places) item) at ≡ item_at places at
item_at-set_other places at position item apart =
    ap (λ (n : ℕ). get_or (set places (position % length places) item) (at % n) 0) (length-set places (position % length places) item)
    ∙ get_or-set_other places (position % length places) (at % length places) item 0 apart

pub items_from-set : (places : List ℕ) (position item first count : ℕ) → ((k : ℕ) → k < count → (first + k) % length places ≢ position % length places) → items_from (set places (position % length places) item) first count ≡ items_from places first count
unfolding items_from
items_from-set places position item first zero apart = refl
items_from-set places position item first (suc count) apart =
    let here = item_at-set_other places first position item (λ e. apart 0 (omega arith) (at0 ∙ e)) in
    let rest = items_from-set places position item (suc first) count (λ k inside e. apart (suc k) (omega arith) (shift k ∙ e)) in
    λ i. here i ∷ rest i
  where
    at0 : (first + 0) % length places ≡ first % length places
    at0 = let e : first + 0 ≡ first = omega arith in ap (λ (n : ℕ). n % length places) e

    shift : (k : ℕ) → (first + suc k) % length places ≡ (suc first + k) % length places
    shift k = let e : first + suc k ≡ suc first + k = omega arith in ap (λ (n : ℕ). n % length places) e

-- What waits in a ring

pub tail_of-waiting_in : (places : List ℕ) (head tail : ℕ) → head ≤ tail → tail_of (waiting_between places head tail) ≡ tail
tail_of-waiting_in places head tail fits = omega (arith, length-items_from places head (tail - head))

-- nothing waits where all items were taken
pub waiting_in-none : (places : List ℕ) (head : ℕ) → waiting_between places head head ≡ none_waiting head
waiting_in-none places head =
    let none_left : head - head ≡ 0 = omega arith in
    let items : items_from places head (head - head) ≡ [] = ap (items_from places head) none_left ∙ items_from-none places head in
    λ i. record { taken = head; items = items i }

-- the item at a position
pub item_of-waiting_in : (places : List ℕ) (head tail position : ℕ) → head ≤ position → position < tail → slice_index (waiting_between places head tail).items (position - head) ≡ item_at places position
item_of-waiting_in places head tail position after before =
    let at : head + (position - head) ≡ position = omega arith in
    get_or-items_from places head (tail - head) (position - head) (omega arith) ∙ ap (item_at places) at

-- the first item, and those after it
first_waits : (places : List ℕ) (head tail : ℕ) → head < tail → items_from places head (tail - head) ≡ item_at places head ∷ items_from places (head + 1) (tail - (head + 1))
first_waits places head tail some =
    let count : tail - head ≡ suc (tail - (head + 1)) = omega arith in
    let next : suc head ≡ head + 1 = omega arith in
    ap (items_from places head) count ∙ (items_from-more places head (tail - (head + 1)) ∙ ap (λ (n : ℕ). item_at places head ∷ items_from places n (tail - (head + 1))) next)

pub after_take-waiting_in : (places : List ℕ) (head tail : ℕ) → head < tail → waiting_between places (head + 1) tail ≡ after_take head (waiting_between places head tail).items
after_take-waiting_in places head tail some = sym (ap (after_take head) (first_waits places head tail some))

pub take_reply-waiting_in : (places : List ℕ) (head tail : ℕ) → head < tail → take_reply head (waiting_between places head tail).items ≡ reply Item (item_at places head) head
take_reply-waiting_in places head tail some = ap (take_reply head) (first_waits places head tail some)

pub after_take-none : (places : List ℕ) (head tail : ℕ) → head ≡ tail → waiting_between places head tail ≡ after_take head (waiting_between places head tail).items
after_take-none places head tail same =
    let none = waiting_in-none places head in
    let here : waiting_between places head tail ≡ none_waiting head = sym (ap (waiting_between places head) same) ∙ none in
    here ∙ sym (ap (λ (queue : Waiting). after_take head queue.items) here)

pub take_reply-none : (places : List ℕ) (head tail : ℕ) → head ≡ tail → take_reply head (waiting_between places head tail).items ≡ reply Empty 0 0
take_reply-none places head tail same =
    ap (λ (queue : Waiting). take_reply head queue.items) (sym (ap (waiting_between places head) same) ∙ waiting_in-none places head)

-- one more item is put at the tail
pub waiting_in-set : (places : List ℕ) (head tail item : ℕ) → 1 ≤ length places → head ≤ tail → tail < head + length places → waiting_between (set places (tail % length places) item) head (tail + 1) ≡ with_item (waiting_between places head tail) item
waiting_in-set places head tail item some fits room =
    let count : tail + 1 - head ≡ suc (tail - head) = omega arith in
    let at : head + (tail - head) ≡ tail = omega arith in
    let ring = set places (tail % length places) item in
    let before : items_from ring head (tail - head) ≡ items_from places head (tail - head) = items_from-set places tail item head (tail - head) (λ k inside e. places_apart (length places) tail (head + k) (omega arith) (omega arith) (sym e)) in
    let last : item_at ring (head + (tail - head)) ≡ item = ap (item_at ring) at ∙ item_at-set places tail item some in
    let items : items_from ring head (tail + 1 - head) ≡ items_from places head (tail - head) ++ item ∷ [] = ap (items_from ring head) count ∙ (items_from-last ring head (tail - head) ∙ (λ i. before i ++ last i ∷ [])) in
    λ i. record { taken = head; items = items i }

-- and what waits before it is as it was
pub waiting_in-set_after : (places : List ℕ) (head tail at item : ℕ) → tail ≤ at → at < head + length places → waiting_between (set places (at % length places) item) head tail ≡ waiting_between places head tail
waiting_in-set_after places head tail at item fits room =
    let items = items_from-set places at item head (tail - head) (λ k inside e. places_apart (length places) at (head + k) (omega arith) (omega arith) (sym e)) in
    λ i. record { taken = head; items = items i }

-- What an operation answers

pub put_full : (size : ℕ) (queue : Waiting) (item : ℕ) → size ≤ length queue.items → (after_put size queue item ≡ queue) × (put_reply size queue ≡ reply Full 0 0)
put_full size queue item full = (grind (arith, nat_tests), grind (arith, nat_tests))

pub put_worn : (size : ℕ) (queue : Waiting) (item : ℕ) → length queue.items < size → last_position ≤ tail_of queue → (after_put size queue item ≡ queue) × (put_reply size queue ≡ reply Worn 0 0)
put_worn size queue item room worn = (grind (arith, nat_tests), grind (arith, nat_tests))

pub put_at : (size : ℕ) (queue : Waiting) (item : ℕ) → length queue.items < size → tail_of queue < last_position → (after_put size queue item ≡ with_item queue item) × (put_reply size queue ≡ reply At (tail_of queue) 0)
put_at size queue item room fresh = (grind (arith, nat_tests), grind (arith, nat_tests))
