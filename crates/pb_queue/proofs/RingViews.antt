-- What each call of a ring makes of what it holds.
use Rattle.std.proofs.Common.{◌≡◌, ℕ, ◌+◌, ◌-◌, ◌%◌, ◌<◌, ◌≤◌, List, length, set, replicate, slice_index, sym, ap, subst, ◌∙◌, arith}
use Rattle.std.proofs.lemmas.List.{length-set, length-replicate}
use Rattle.pb_object.specs.declared.codes.Answer.TheVariants.{Full, Worn, At, Item, Empty}
use Rattle.pb_object.specs.Queue.{Waiting, last_position, tail_of, take_reply, after_take, put_reply, after_put}
use Rattle.pb_object.specs.Request.{reply}
use Rattle.pb_queue.specs.Items.{ItemsView, IsBounded, empty_items, with_item, item_at, waiting_between, ring_view, ArePositions}
use Rattle.pb_queue.proofs.RingLemmas.{tail_of-waiting_in, waiting_in-none, item_of-waiting_in, length-items_from, after_take-waiting_in, take_reply-waiting_in, after_take-none, take_reply-none, waiting_in-set, waiting_in-set_after, put_full, put_worn, put_at}

-- a ring in hand: its places and positions, and what they show
pub record IsRing (places : List ℕ) (head tail next_head next_tail : ℕ) (shown : ItemsView) : Type 0 where
  pub positions : ArePositions (length places) head tail next_head next_tail
  pub shows : ring_view places head tail next_head next_tail ≡ shown

pub tail_shown : (places : List ℕ) (head tail next_head next_tail : ℕ) (shown : ItemsView) → IsRing places head tail next_head next_tail shown → tail ≡ tail_of shown.sure
tail_shown places head tail next_head next_tail shown is =
    sym (tail_of-waiting_in places head tail is.positions.sure) ∙ ap (λ (v : ItemsView). tail_of v.sure) is.shows

pub next_tail_shown : (places : List ℕ) (head tail next_head next_tail : ℕ) (shown : ItemsView) → IsRing places head tail next_head next_tail shown → next_tail ≡ tail_of shown.next
next_tail_shown places head tail next_head next_tail shown is =
    sym (tail_of-waiting_in places next_head next_tail is.positions.next) ∙ ap (λ (v : ItemsView). tail_of v.next) is.shows

pub item_shown : (places : List ℕ) (head tail next_head next_tail : ℕ) (shown : ItemsView) (position : ℕ) → IsRing places head tail next_head next_tail shown → shown.sure.taken ≤ position → position < tail_of shown.sure → item_at places position ≡ slice_index shown.sure.items (position - shown.sure.taken)
item_shown places head tail next_head next_tail shown position is after before =
    sym (item_of-waiting_in places head tail position (omega (arith, after, ap (λ (v : ItemsView). v.sure.taken) is.shows)) (omega (arith, before, tail_shown places head tail next_head next_tail shown is)))
    ∙ ap (λ (v : ItemsView). slice_index v.sure.items (position - v.sure.taken)) is.shows

pub next_item_shown : (places : List ℕ) (head tail next_head next_tail : ℕ) (shown : ItemsView) (position : ℕ) → IsRing places head tail next_head next_tail shown → shown.next.taken ≤ position → position < tail_of shown.next → item_at places position ≡ slice_index shown.next.items (position - shown.next.taken)
next_item_shown places head tail next_head next_tail shown position is after before =
    sym (item_of-waiting_in places next_head next_tail position (omega (arith, after, ap (λ (v : ItemsView). v.next.taken) is.shows)) (omega (arith, before, next_tail_shown places head tail next_head next_tail shown is)))
    ∙ ap (λ (v : ItemsView). slice_index v.next.items (position - v.next.taken)) is.shows

-- how many items wait after what was applied
pub waiting_shown : (places : List ℕ) (head tail next_head next_tail : ℕ) (shown : ItemsView) → IsRing places head tail next_head next_tail shown → length shown.next.items ≡ next_tail - next_head
waiting_shown places head tail next_head next_tail shown is =
    sym (ap (λ (v : ItemsView). length v.next.items) is.shows) ∙ length-items_from places next_head (next_tail - next_head)

pub size_shown : (places : List ℕ) (head tail next_head next_tail : ℕ) (shown : ItemsView) → IsRing places head tail next_head next_tail shown → length places ≡ shown.size
size_shown places head tail next_head next_tail shown is = ap (λ (v : ItemsView). v.size) is.shows

-- what waits is bounded
pub next_bounded : (places : List ℕ) (head tail next_head next_tail : ℕ) (shown : ItemsView) → IsRing places head tail next_head next_tail shown → IsBounded shown.size shown.next
next_bounded places head tail next_head next_tail shown is = record {
  room = omega (arith, waiting_shown places head tail next_head next_tail shown is, size_shown places head tail next_head next_tail shown is, is.positions.room, is.positions.taken);
  last = omega (arith, next_tail_shown places head tail next_head next_tail shown is, is.positions.last);
}

-- an empty ring
pub empty_shown : (size taken : ℕ) (places : List ℕ) → places ≡ replicate size 0 → ring_view places taken taken taken taken ≡ empty_items size taken
empty_shown size taken places are =
    let long : length places ≡ size = ap length are ∙ length-replicate size 0 in
    let none = waiting_in-none places taken in
    λ i. record { size = long i; sure = none i; next = none i }

-- one more item
pub append_shown : (places : List ℕ) (head tail next_head next_tail item : ℕ) (shown : ItemsView) → IsRing places head tail next_head next_tail shown → shown.next.taken ≡ shown.sure.taken → length shown.next.items < shown.size → ring_view (set places (next_tail % length places) item) head tail next_head (next_tail + 1) ≡ record shown { next = with_item shown.next item }
append_shown places head tail next_head next_tail item shown is kept room =
    let at = is.positions in
    let same : next_head ≡ head = ap (λ (v : ItemsView). v.next.taken) is.shows ∙ (kept ∙ sym (ap (λ (v : ItemsView). v.sure.taken) is.shows)) in
    let below : next_tail < next_head + length places = omega (arith, room, waiting_shown places head tail next_head next_tail shown is, size_shown places head tail next_head next_tail shown is, at.next) in
    let long = length-set places (next_tail % length places) item in
    let sure = waiting_in-set_after places head tail next_tail item at.put (omega (arith, below, same)) in
    let next = waiting_in-set places next_head next_tail item at.least at.next below in
    let path : ring_view (set places (next_tail % length places) item) head tail next_head (next_tail + 1) ≡ record (ring_view places head tail next_head next_tail) { next = with_item (waiting_between places next_head next_tail) item } = λ i. record { size = long i; sure = sure i; next = next i } in
    path ∙ ap (λ (v : ItemsView). (let more : ItemsView = record v { next = with_item v.next item } in more)) is.shows

pub append_positions : (places : List ℕ) (head tail next_head next_tail item : ℕ) (shown : ItemsView) → IsRing places head tail next_head next_tail shown → shown.next.taken ≡ shown.sure.taken → length shown.next.items < shown.size → tail_of shown.next < last_position → ArePositions (length (set places (next_tail % length places) item)) head tail next_head (next_tail + 1)
append_positions places head tail next_head next_tail item shown is kept room last =
    let at = is.positions in
    let same : next_head ≡ head = ap (λ (v : ItemsView). v.next.taken) is.shows ∙ (kept ∙ sym (ap (λ (v : ItemsView). v.sure.taken) is.shows)) in
    let below : next_tail < next_head + length places = omega (arith, room, waiting_shown places head tail next_head next_tail shown is, size_shown places head tail next_head next_tail shown is, at.next) in
    let long = length-set places (next_tail % length places) item in
    record {
      least = omega (arith, long, at.least);
      most = omega (arith, long, at.most);
      sure = at.sure;
      taken = at.taken;
      next = omega (arith, at.next);
      put = omega (arith, at.put);
      room = omega (arith, long, below, same);
      last = omega (arith, last, next_tail_shown places head tail next_head next_tail shown is);
    }

-- the queue after what was applied, exchanged
abbrev with_next : ItemsView → Waiting → ItemsView
with_next shown queue = record shown { next = queue }

-- a take: of the first item, or of none
pub take_shown : (places : List ℕ) (head tail next_head next_tail : ℕ) (shown : ItemsView) → IsRing places head tail next_head next_tail shown → next_head < next_tail → (ring_view places head tail (next_head + 1) next_tail ≡ record shown { next = after_take shown.next.taken shown.next.items }) × (reply Item (item_at places next_head) next_head ≡ take_reply shown.next.taken shown.next.items)
take_shown places head tail next_head next_tail shown is some = (
  ap (with_next (ring_view places head tail next_head next_tail)) (after_take-waiting_in places next_head next_tail some) ∙ ap (λ (v : ItemsView). with_next v (after_take v.next.taken v.next.items)) is.shows,
  sym (take_reply-waiting_in places next_head next_tail some) ∙ ap (λ (v : ItemsView). take_reply v.next.taken v.next.items) is.shows,
)

pub take_none_shown : (places : List ℕ) (head tail next_head next_tail : ℕ) (shown : ItemsView) → IsRing places head tail next_head next_tail shown → next_head ≡ next_tail → (shown ≡ record shown { next = after_take shown.next.taken shown.next.items }) × (reply Empty 0 0 ≡ take_reply shown.next.taken shown.next.items)
take_none_shown places head tail next_head next_tail shown is same = (
  subst (λ (v : ItemsView). v ≡ with_next v (after_take v.next.taken v.next.items)) is.shows (ap (with_next (ring_view places head tail next_head next_tail)) (after_take-none places next_head next_tail same)),
  sym (take_reply-none places next_head next_tail same) ∙ ap (λ (v : ItemsView). take_reply v.next.taken v.next.items) is.shows,
)

-- a put: into a full queue, a worn one, or one that takes it
pub has_room : (places : List ℕ) (head tail next_head next_tail count : ℕ) (shown : ItemsView) → IsRing places head tail next_head next_tail shown → count ≡ length places → next_tail - next_head < count → length shown.next.items < shown.size
has_room places head tail next_head next_tail count shown is long room =
    omega (arith, long, room, waiting_shown places head tail next_head next_tail shown is, size_shown places head tail next_head next_tail shown is)

pub put_full_shown : (places : List ℕ) (head tail next_head next_tail count item : ℕ) (shown : ItemsView) → IsRing places head tail next_head next_tail shown → count ≡ length places → count ≤ next_tail - next_head → (shown ≡ record shown { next = after_put shown.size shown.next item }) × (reply Full 0 0 ≡ put_reply shown.size shown.next)
put_full_shown places head tail next_head next_tail count item shown is long full =
    let puts = put_full shown.size shown.next item (omega (arith, long, full, waiting_shown places head tail next_head next_tail shown is, size_shown places head tail next_head next_tail shown is)) in
    (ap (with_next shown) (sym puts.0), sym puts.1)

pub put_worn_shown : (places : List ℕ) (head tail next_head next_tail item : ℕ) (shown : ItemsView) → IsRing places head tail next_head next_tail shown → length shown.next.items < shown.size → last_position ≤ next_tail → (shown ≡ record shown { next = after_put shown.size shown.next item }) × (reply Worn 0 0 ≡ put_reply shown.size shown.next)
put_worn_shown places head tail next_head next_tail item shown is room worn =
    let puts = put_worn shown.size shown.next item room (omega (arith, worn, next_tail_shown places head tail next_head next_tail shown is)) in
    (ap (with_next shown) (sym puts.0), sym puts.1)

pub put_at_shown : (places : List ℕ) (head tail next_head next_tail item : ℕ) (shown : ItemsView) → IsRing places head tail next_head next_tail shown → length shown.next.items < shown.size → next_tail < last_position → (with_next shown (with_item shown.next item) ≡ record shown { next = after_put shown.size shown.next item }) × (reply At next_tail 0 ≡ put_reply shown.size shown.next)
put_at_shown places head tail next_head next_tail item shown is room fresh =
    let at = next_tail_shown places head tail next_head next_tail shown is in
    let puts = put_at shown.size shown.next item room (omega (arith, fresh, at)) in
    (ap (with_next shown) (sym puts.0), ap (λ (n : ℕ). reply At n 0) at ∙ sym puts.1)
