-- The cells of a round: its items are put one after the other.
use Rattle.std.proofs.Common.{◌≡◌, ℕ, suc, ◌+◌, ◌-◌, ◌<◌, ◌≤◌, None, List, [], ◌∷◌, ◌++◌, length, take, drop, slice_index, refl, sym, ap, subst, ◌∙◌, arith}
use Rattle.std.proofs.Math.Seq.{take-suc, split_at}
use Rattle.std.proofs.lemmas.List.{append-nil, append_assoc, length-take, length-drop, take_all, get_or-drop}
use Rattle.pb_pmem.specs.declared.device.DeviceFault.{DeviceFault}
use Rattle.pb_pmem.specs.declared.log.LogOp.{LogOp}
use Rattle.pb_pmem.specs.Operations.{Does, Stops, IsFailedPrefix}
use Rattle.pb_pmem.proofs.OperationSteps.{does_none, does_then, stops_early, stops_late}
use Rattle.pb_layout.specs.declared.header.Header.{Header}
use Rattle.pb_pair.specs.declared.known.Known.TheVariants.{Sure}
use Rattle.pb_pair.specs.Cells.{IsFree, HasPut}
use Rattle.pb_pair.specs.View.{SideView, PairView, IsPair, HasFailed, forgotten}
use Rattle.pb_engine.specs.Operations.{puts_from}
use Rattle.pb_layout.specs.PutCell.{put_ops}
use Rattle.pb_object.specs.Queue.{tail_of}
use Rattle.pb_queue.specs.Items.{ItemsView}
use Rattle.pb_queue.specs.Rounds.{added, HavePut, HasFailedAmongCells}

pub puts_from-none : (head : Header) (from : ℕ) → puts_from head from [] ≡ []
unfolding puts_from
puts_from-none head from = refl

pub puts_from-more : (head : Header) (from item : ℕ) (items : List ℕ) → puts_from head from (item ∷ items) ≡ put_ops head from item ++ puts_from head (suc from) items
unfolding puts_from
puts_from-more head from item items = refl

pub puts_from-append : (head : Header) (from : ℕ) (items more : List ℕ) → puts_from head from (items ++ more) ≡ puts_from head from items ++ puts_from head (from + length items) more
puts_from-append head from [] more =
    let at : from ≡ from + 0 = omega arith in
    ap (λ (n : ℕ). puts_from head n more) at ∙ ap (λ (ops : List LogOp). ops ++ puts_from head (from + 0) more) (sym (puts_from-none head from))
puts_from-append head from (item ∷ items) more =
    let at : suc from + length items ≡ from + suc (length items) = omega arith in
    puts_from-more head from item (items ++ more)
    ∙ (ap (λ (ops : List LogOp). put_ops head from item ++ ops) (puts_from-append head (suc from) items more ∙ ap (λ (n : ℕ). puts_from head (suc from) items ++ puts_from head n more) at)
    ∙ (sym (append_assoc (put_ops head from item) (puts_from head (suc from) items) (puts_from head (from + suc (length items)) more))
    ∙ ap (λ (ops : List LogOp). ops ++ puts_from head (from + suc (length items)) more) (sym (puts_from-more head from item items))))

-- items up to a place, and the one there
puts_next : (head : Header) (from place item : ℕ) (items : List ℕ) → place < length items → item ≡ slice_index items place → puts_from head from (take (suc place) items) ≡ puts_from head from (take place items) ++ put_ops head (from + place) item
puts_next head from place item items inside is =
    let long : from + length (take place items) ≡ from + place = omega (arith, length-take place items, inside) in
    ap (puts_from head from) (take-suc items place 0 inside ∙ ap (λ (n : ℕ). take place items ++ n ∷ []) (sym is))
    ∙ (puts_from-append head from (take place items) (item ∷ [])
    ∙ ap (λ (ops : List LogOp). puts_from head from (take place items) ++ ops)
    (ap (λ (n : ℕ). puts_from head n (item ∷ [])) long ∙ (puts_from-more head (from + place) item [] ∙ (ap (λ (ops : List LogOp). put_ops head (from + place) item ++ ops) (puts_from-none head (suc (from + place))) ∙ append-nil (put_ops head (from + place) item)))))

puts_split : (head : Header) (from place item : ℕ) (items : List ℕ) → place < length items → item ≡ slice_index items place → puts_from head from items ≡ puts_from head from (take place items) ++ (put_ops head (from + place) item ++ puts_from head (suc (from + place)) (drop (suc place) items))
puts_split head from place item items inside is =
    let long : from + length (take place items) ≡ from + place = omega (arith, length-take place items, inside) in
    ap (puts_from head from) (split_at items place 0 inside ∙ ap (λ (n : ℕ). take place items ++ n ∷ drop (suc place) items) (sym is))
    ∙ (puts_from-append head from (take place items) (item ∷ drop (suc place) items)
    ∙ ap (λ (ops : List LogOp). puts_from head from (take place items) ++ ops)
    (ap (λ (n : ℕ). puts_from head n (item ∷ drop (suc place) items)) long ∙ puts_from-more head (from + place) item (drop (suc place) items)))

-- No item yet, and one more

pub put_none : (from : ℕ) (items : List ℕ) (pair : PairView) → IsPair pair → pair.known ≡ Sure → HavePut from (take 0 items) pair pair
put_none from items pair sound sure = record {
  sound = sound;
  device = subst (λ (ops : List LogOp). Does ops pair.device pair.device) (sym (puts_from-none pair.head from)) (does_none pair.device);
  head = refl;
  first = refl;
  second = refl;
  known = sure;
  doubt = sound.decided (λ failed. absurd (cc (sure, failed)));
}

pub put_more : (from place item : ℕ) (items : List ℕ) (old between new : PairView) → place < length items → item ≡ slice_index items place → HavePut from (take place items) old between → HasPut (from + place) item between new → HavePut from (take (suc place) items) old new
put_more from place item items old between new inside is so_far put = record {
  sound = put.sound;
  device = subst (λ (ops : List LogOp). Does ops old.device new.device) (sym (puts_next old.head from place item items inside is))
      (does_then (puts_from old.head from (take place items)) (put_ops old.head (from + place) item) old.device between.device new.device so_far.device (subst (λ (h : Header). Does (put_ops h (from + place) item) between.device new.device) so_far.head put.device));
  head = put.head ∙ so_far.head;
  first = put.first ∙ so_far.first;
  second = put.second ∙ so_far.second;
  known = put.known;
  doubt = put.doubt;
}

pub put_fails : (from place item : ℕ) (items : List ℕ) (old between : PairView) (fault : DeviceFault) (new : PairView) → place < length items → item ≡ slice_index items place → HavePut from (take place items) old between → HasFailed (IsFailedPrefix (put_ops between.head (from + place) item)) None between fault new → HasFailedAmongCells from items old fault new
put_fails from place item items old between fault new inside is so_far failed = record {
  sound = failed.sound;
  device = record {
    from = failed.device.from ∙ so_far.device.faults;
    to = failed.device.to;
    stops = subst (λ (ops : List LogOp). Stops (IsFailedPrefix ops) old.device new.device) (sym (puts_split old.head from place item items inside is))
        (stops_late (puts_from old.head from (take place items)) (put_ops old.head (from + place) item ++ rest) old.device between.device new.device so_far.device
        (stops_early (put_ops old.head (from + place) item) rest between.device new.device (subst (λ (h : Header). Stops (IsFailedPrefix (put_ops h (from + place) item)) between.device new.device) so_far.head failed.device.stops)));
  };
  head = failed.head ∙ so_far.head;
  first = failed.first ∙ ap forgotten so_far.first;
  second = failed.second ∙ ap forgotten so_far.second;
  known = failed.known;
  doubt = failed.doubt;
}
  where
    rest : List LogOp
    rest = puts_from old.head (suc (from + place)) (drop (suc place) items)

-- By position

place_in : (items : ItemsView) (position item : ℕ) → items.next.taken ≤ tail_of items.sure → tail_of items.sure ≤ position → position < tail_of items.next → item ≡ slice_index items.next.items (position - items.next.taken) → (position - tail_of items.sure < length (added items)) × (item ≡ slice_index (added items) (position - tail_of items.sure))
place_in items position item waits after below is =
    let skipped = tail_of items.sure - items.next.taken in
    let place = position - tail_of items.sure in
    let at : position - items.next.taken ≡ skipped + place = omega (arith, waits, after) in
    (omega (arith, waits, after, below, length-drop skipped items.next.items), is ∙ (ap (slice_index items.next.items) at ∙ sym (get_or-drop skipped items.next.items place 0)))

-- the item of a position is put
pub put_at_more : (items : ItemsView) (position item : ℕ) (old between new : PairView) → items.next.taken ≤ tail_of items.sure → tail_of items.sure ≤ position → position < tail_of items.next → item ≡ slice_index items.next.items (position - items.next.taken) → HavePut (tail_of items.sure) (take (position - tail_of items.sure) (added items)) old between → HasPut position item between new → HavePut (tail_of items.sure) (take (position + 1 - tail_of items.sure) (added items)) old new
put_at_more items position item old between new waits after below is so_far put =
    let from = tail_of items.sure in
    let here = place_in items position item waits after below is in
    let at : position ≡ from + (position - from) = omega (arith, after) in
    let next : suc (position - from) ≡ position + 1 - from = omega (arith, after) in
    subst (λ (n : ℕ). HavePut from (take n (added items)) old new) next
    (put_more from (position - from) item (added items) old between new here.0 here.1 so_far (subst (λ (n : ℕ). HasPut n item between new) at put))

-- or isn't
pub put_at_fails : (items : ItemsView) (position item : ℕ) (old between : PairView) (fault : DeviceFault) (new : PairView) → items.next.taken ≤ tail_of items.sure → tail_of items.sure ≤ position → position < tail_of items.next → item ≡ slice_index items.next.items (position - items.next.taken) → HavePut (tail_of items.sure) (take (position - tail_of items.sure) (added items)) old between → HasFailed (IsFailedPrefix (put_ops between.head position item)) None between fault new → HasFailedAmongCells (tail_of items.sure) (added items) old fault new
put_at_fails items position item old between fault new waits after below is so_far failed =
    let from = tail_of items.sure in
    let here = place_in items position item waits after below is in
    let at : position ≡ from + (position - from) = omega (arith, after) in
    put_fails from (position - from) item (added items) old between fault new here.0 here.1 so_far (subst (λ (n : ℕ). HasFailed (IsFailedPrefix (put_ops between.head n item)) None between fault new) at failed)

pub put_at_first : (items : ItemsView) (first : ℕ) (pair : PairView) → first ≡ tail_of items.sure → IsPair pair → pair.known ≡ Sure → HavePut (tail_of items.sure) (take (first - tail_of items.sure) (added items)) pair pair
put_at_first items first pair is sound sure =
    let none : 0 ≡ first - tail_of items.sure = omega (arith, is) in
    subst (λ (n : ℕ). HavePut (tail_of items.sure) (take n (added items)) pair pair) none (put_none (tail_of items.sure) (added items) pair sound sure)

-- all are
pub put_at_last : (items : ItemsView) (last : ℕ) (old new : PairView) → tail_of items.next ≤ last → items.next.taken ≤ tail_of items.sure → HavePut (tail_of items.sure) (take (last - tail_of items.sure) (added items)) old new → HavePut (tail_of items.sure) (added items) old new
put_at_last items last old new past waits put =
    let skipped = tail_of items.sure - items.next.taken in
    subst (λ (put_items : List ℕ). HavePut (tail_of items.sure) put_items old new)
    (take_all (last - tail_of items.sure) (added items) (omega (arith, waits, past, length-drop skipped items.next.items))) put

-- a position that was free still is
pub free_stays : (from : ℕ) (items : List ℕ) (old new : PairView) (position : ℕ) → HavePut from items old new → IsFree old position → IsFree new position
free_stays from items old new position put free = record {
  queue = ap (λ (h : Header). h.kind) put.head ∙ free.queue;
  known = put.known;
  after = subst (λ (n : ℕ). n ≤ position) (λ i. tail_by (sym put.head i) (sym put.first i) (sym put.second i)) free.after;
  room = subst (λ (n : ℕ). position < n) (λ i. taken_by (sym put.head i) (sym put.first i) (sym put.second i) + (sym put.head i).size) free.room;
}
  where
    tail_by : Header → SideView → SideView → ℕ
    tail_by head first second = Rattle.pb_pair.specs.Cells.tail_in (record old { head = head; first = first; second = second })

    taken_by : Header → SideView → SideView → ℕ
    taken_by head first second = Rattle.pb_pair.specs.Cells.taken_by_records (record old { head = head; first = first; second = second })
