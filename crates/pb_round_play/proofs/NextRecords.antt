-- The record that serving the requests of a round writes is the round's.
use Rattle.std.proofs.Common.{◌≡◌, ◌≢◌, ℕ, zero, suc, ◌+◌, ◌-◌, ◌*◌, ◌%◌, ◌<◌, ◌≤◌, List, [], ◌∷◌, length, get_or, refl, sym, ap, subst, ◌∙◌, arith, eqb}
use Rattle.std.specs.List.{All}
use Rattle.std.specs.Prelude.{if◌then◌else◌, ◌==◌}
use Rattle.std.proofs.lemmas.Bool.{eq-eqb, ne_eqb, cond-true, cond-false}
use Rattle.pb_pmem.specs.declared.line.Line.{Line}
use Rattle.pb_pmem.specs.declared.log.LogOp.{LogOp}
use Rattle.pb_pmem.specs.Lines.{line_at, word_of}
use Rattle.pb_object.specs.declared.kind.Kind.{Kind}
use Rattle.pb_object.specs.declared.kind.Kind.TheVariants.{Map, Stack, Heap, Queue}
use Rattle.pb_object.specs.declared.request.Ask.{Ask}
use Rattle.pb_object.specs.declared.request.TheConstants.{KEPT_REQUESTS}
use Rattle.pb_object.specs.History.{Entry, after_round, IsOfSide}
use Rattle.pb_object.specs.Object.{State, Registers, Items, Rising, Waits}
use Rattle.pb_object.specs.ObjectLines.{kind_of, size_of, object_line_count, LinesRepresent}
use Rattle.pb_object.specs.Queue.{Waiting, tail_of}
use Rattle.pb_object.specs.Request.{IsOperation}
use Rattle.pb_object.specs.Standing.{Standing, rounds_of, side_count}
use Rattle.pb_layout.specs.declared.header.Header.{Header}
use Rattle.pb_layout.specs.Header.{record_length, slot_count, word}
use Rattle.pb_layout.specs.NextRecord.{IsNextOf, next_position}
use Rattle.pb_layout.specs.Record.{count_line_of}
use Rattle.pb_layout.specs.Represents.{header_for, record_in_use, record_of_side, object_part, object_parts, object_parts_by, with_record, CellsRepresent, RegionParts}
use Rattle.pb_layout.proofs.OneRecovery.{parts, length-record_at}
use Rattle.pb_layout_laws.proofs.FewRounds.{side_rounds_few}
use Rattle.pb_layout_laws.proofs.Rounds.{after_entries-kind_of}
use Rattle.pb_core.specs.Play.{ListsRising}
use Rattle.pb_engine.specs.Asks.{MayBeServed, IsNextAsk, side_asked, answered_from, state_from, asked_round}
use Rattle.pb_engine.specs.Next.{IsBegun, PutsEntries, KeepsBefore}
use Rattle.pb_engine.specs.Operations.{cell_ops}
use Rattle.pb_engine.proofs.Served.{state_after_entries, served_is_legal}
use Rattle.pb_comb.specs.Serving as comb
use Rattle.pb_comb.proofs.Records.{parts_of_one, asked_side, no_cell_ops}
use Rattle.pb_queue.specs.Items.{IsBounded}
use Rattle.pb_queue.specs.Serving as queue
use Rattle.pb_queue.specs.Serving.{MovesSide, count_of}
use Rattle.pb_queue.proofs.AnsweredRequests.{clients_of_answers, entries_before, others_before}
use Rattle.pb_queue.proofs.Prepared.{side_there, two_lines, CountQueue, stand_counts, with_record_stands}
use Rattle.pb_round_play.specs.declared.rounds.Rounds.{Rounds}
use Rattle.pb_round_play.specs.declared.seat.Seat.{Seat}
use Rattle.pb_round_play.specs.declared.queue.Ends.{Ends}
use Rattle.pb_round_play.specs.Rounds.{with_rows, MayBegin, StepsQueue, MakesRecord}
use Rattle.pb_round_play.specs.Serving.{HasServed, HoldsQueue, HasServedQueue}

-- What begins

-- the side is one of the object's
pub side_is_there : {head : Header} {lines : List Line} {rounds : Rounds} {asks : List Ask} {side : ℕ} (s : Standing) → MayBegin head lines rounds asks side s → side < side_count head.kind
side_is_there {asks = asks} s may = omega (arith, side_there s asks may.may, may.side_is, ap (λ (h : Header). side_count h.kind) may.head_is)

small_side : (kind : Kind) (side : ℕ) → side < side_count kind → side < 2
small_side Map side there = omega arith
small_side Stack side there = omega arith
small_side Heap side there = omega arith
small_side Queue side there = omega arith

-- how many rounds of a side
abbrev pub round_count : ℕ → Rounds → ℕ
round_count side rounds = if side == 0 then rounds.first else rounds.second

counts_by : (s : Standing) (rounds : Rounds) (side : ℕ) → side < 2 → rounds_of s 0 ≡ rounds.first → rounds_of s 1 ≡ rounds.second → rounds_of s side ≡ round_count side rounds
counts_by s rounds zero small first second = first ∙ sym (cond-true (eqb 0 0) rounds.first rounds.second (eq-eqb 0 0 refl))
counts_by s rounds (suc zero) small first second = second ∙ sym (cond-false (eqb 1 0) rounds.first rounds.second (ne_eqb 1 0 (λ e. omega (arith, e))))
counts_by s rounds (suc (suc side)) small first second = absurd (omega arith)

pub counted_side : {head : Header} {lines : List Line} {rounds : Rounds} {asks : List Ask} {side : ℕ} (s : Standing) → MayBegin head lines rounds asks side s → rounds_of s side ≡ round_count side rounds
counted_side {head} {rounds = rounds} {side = side} s may = counts_by s rounds side (small_side head.kind side (side_is_there s may)) may.counts.first may.counts.second

pub few_rounds : {head : Header} {lines : List Line} {rounds : Rounds} {asks : List Ask} {side : ℕ} (s : Standing) → MayBegin head lines rounds asks side s → round_count side rounds < 18446744073709551615
few_rounds {lines = lines} {side = side} s may = omega (arith, side_rounds_few lines s side may.stands, counted_side s may)

-- the record in use is the side's
pub before_is : {head : Header} {lines : List Line} {rounds : Rounds} {asks : List Ask} {side : ℕ} (s : Standing) (count : ℕ) (before : List Line) → MayBegin head lines rounds asks side s → count ≡ round_count side rounds → before ≡ record_in_use lines head side count → before ≡ record_of_side lines s (side_asked asks)
before_is {lines = lines} {side = side} s count before may counted is =
    is ∙ (λ i. record_in_use lines (sym may.head_is i) (sym may.side_is i) ((counted ∙ sym (counted_side s may) ∙ ap (rounds_of s) (sym may.side_is)) i))

-- the requests may be applied
room_for : {head : Header} {s : Standing} {side : ℕ} {ask : Ask} (before : List Line) → header_for s ≡ head → length before ≡ record_length head → IsNextAsk s side ask → 8 * ask.client + 8 < length before
room_for before heads long is = omega (arith, is.client, long, ap (λ (h : Header). h.clients) heads)

pub comb_servable : {head : Header} {lines : List Line} {rounds : Rounds} {asks : List Ask} {side : ℕ} (s : Standing) (before : List Line) → MayBegin head lines rounds asks side s → length before ≡ record_length head → comb.AreServable head.kind before asks
comb_servable {head} {lines} {asks = asks} s before may long = record {
  each = λ k d inside.
      let is = may.may.next k d inside in
      record {
        operation = subst (λ (h : Header). IsOperation h.kind (get_or asks k d).op) may.head_is is.operation;
        client = omega (arith, is.client, (parts lines s may.stands).valid.few_clients);
        room = room_for before may.head_is long is;
      };
  rising = may.may.rising;
}

pub queue_servable : {head : Header} {lines : List Line} {rounds : Rounds} {asks : List Ask} {side : ℕ} (s : Standing) (before : List Line) → MayBegin head lines rounds asks side s → length before ≡ record_length head → queue.AreServable side before asks
queue_servable {head} {lines} {asks = asks} {side} s before may long = record {
  each = λ k d inside.
      let is = may.may.next k d inside in
      record {
        of_side = subst (λ (n : ℕ). IsOfSide n (get_or asks k d).op) may.side_is is.of_side;
        client = omega (arith, is.client, (parts lines s may.stands).valid.few_clients);
        room = room_for before may.head_is long is;
      };
  rising = may.may.rising;
}

-- Objects with one side

pub apart_map : Map ≢ Queue
apart_map e = cc

pub apart_stack : Stack ≢ Queue
apart_stack e = cc

pub apart_heap : Heap ≢ Queue
apart_heap e = cc

pub map_or_heap : Map ≢ Heap
map_or_heap e = cc

pub stack_or_heap : Stack ≢ Heap
stack_or_heap e = cc

next_of_one : (records : ℕ → List Line) (s : Standing) (asks : List Ask) (begun between lines : List Line) → s.kind ≢ Queue → MayBeServed s asks → length (records (side_asked asks)) ≡ record_length (header_for s) → IsBegun (records (side_asked asks)) (rounds_of s (side_asked asks) + 1) begun → PutsEntries (records (side_asked asks)) (answered_from s.state asks) begun between → KeepsBefore (1 + slot_count (header_for s)) between lines → LinesRepresent (object_part (header_for s) lines) (state_from s.state asks)
    → IsNextOf records s (asked_round s asks) lines
next_of_one records s asks begun between lines not_queue may long begins puts keeps object = record {
  legal = served_is_legal s asks may;
  long = keeps.long ∙ (puts.long ∙ (begins.long ∙ long));
  carries = keeps.same 0 (omega arith) ∙ (puts.first ∙ begins.carries);
  entries = entries_before (1 + slot_count (header_for s)) (records side) between lines entries keeps room puts.each;
  others = λ client slot inside below others.
      others_before (1 + slot_count (header_for s)) between lines client slot keeps (omega (arith, inside)) below
      ∙ (puts.others client slot below others ∙ begins.others (1 + (KEPT_REQUESTS * client + slot)) (omega arith));
  state = subst (λ (ls : List Line). LinesRepresent ls (after_round s (asked_round s asks)).state) (sym part) (subst (LinesRepresent (object_part (header_for s) lines)) (sym (state_after_entries s asks)) object);
}
  where
    side : ℕ
    side = side_asked asks

    entries : List Entry
    entries = answered_from s.state asks

    room : All (λ (entry : Entry). 8 * entry.client + 8 < 1 + slot_count (header_for s)) entries
    room = clients_of_answers (λ client. 8 * client + 8 < 1 + slot_count (header_for s)) s.state asks (λ k d inside. omega (arith, (may.next k d inside).client))

    here : 0 ≡ side
    here = sym (asked_side s asks not_queue may)

    part : object_parts (header_for s) (with_record records side lines) ≡ object_part (header_for s) lines
    part = parts_of_one s.kind (header_for s) (with_record records side lines) not_queue ∙ ap (object_part (header_for s)) (cond-true (eqb 0 side) lines (records 0) (eq-eqb 0 side here))

-- the object's lines of the record in use
pub object_stands : {head : Header} {lines : List Line} {rounds : Rounds} {asks : List Ask} {side : ℕ} (s : Standing) (before : List Line) → MayBegin head lines rounds asks side s → head.kind ≢ Queue → before ≡ record_of_side lines s (side_asked asks) → LinesRepresent (object_part head before) s.state
object_stands {head} {lines} {asks = asks} s before may not_queue is =
    let region = parts lines s may.stands in
    let no_queue : s.kind ≢ Queue = λ e. not_queue (ap (λ (h : Header). h.kind) (sym may.head_is) ∙ e) in
    subst (λ (ls : List Line). LinesRepresent ls s.state)
    (parts_of_one s.kind (header_for s) (record_of_side lines s) no_queue ∙ (λ i. object_part (may.head_is i) (record_of_side lines s (sym (asked_side s asks no_queue may.may) i))) ∙ ap (object_part head) (sym is))
    region.state

pub kind_in : {head : Header} {lines : List Line} {rounds : Rounds} {asks : List Ask} {side : ℕ} (s : Standing) → MayBegin head lines rounds asks side s → kind_of s.state ≡ head.kind
kind_in {lines = lines} s may = (parts lines s may.stands).kind ∙ ap (λ (h : Header). h.kind) may.head_is

pub size_in : {head : Header} {lines : List Line} {rounds : Rounds} {asks : List Ask} {side : ℕ} (s : Standing) → MayBegin head lines rounds asks side s → size_of s.state ≡ head.size
size_in {lines = lines} s may = (parts lines s may.stands).size ∙ ap (λ (h : Header). h.size) may.head_is

no_step : (before after : State) → kind_of before ≢ Queue → StepsQueue before after
no_step (Registers registers) after no_queue = tt
no_step (Items size items) after no_queue = tt
no_step (Rising size items) after no_queue = tt
no_step (Waits size queue) after no_queue = absurd (no_queue refl)

-- what is said of heaps alone
listed_by : (state : State) (lines : List Line) → (kind_of state ≡ Heap → ListsRising state lines) → ListsRising state lines
listed_by (Registers registers) lines heap = tt
listed_by (Items size items) lines heap = tt
listed_by (Rising size items) lines heap = heap refl
listed_by (Waits size queue) lines heap = tt

-- what serving wrote is the round's record
pub one_made : {head : Header} {lines : List Line} {rounds : Rounds} {asks : List Ask} {side : ℕ} (s : Standing) {before begun new : List Line} {seats rows : List Seat} {plan : List LogOp} (count : ℕ) → MayBegin head lines rounds asks side s → head.kind ≢ Queue → before ≡ record_of_side lines s (side_asked asks) → length before ≡ record_length head → count ≡ round_count side rounds → IsBegun before (count + 1) begun → HasServed head before s.state asks begun new seats rows → (head.kind ≡ Heap → ListsRising (state_from s.state asks) (object_part head new)) → plan ≡ []
    → MakesRecord lines s (asked_round s asks) seats new rows plan
one_made {head} {lines} {rounds} {asks} {side} s {before} {begun} {new} {seats} {rows} {plan} count may not_queue is long counted begins served rises none = record {
  record_is = next_of_one (record_of_side lines s) s asks begun has.between new no_queue may.may
      (ap length (sym is) ∙ (long ∙ ap record_length (sym may.head_is)))
      (subst (λ (ls : List Line). IsBegun ls (rounds_of s (side_asked asks) + 1) begun) is (subst (λ (n : ℕ). IsBegun before (n + 1) begun) (counted ∙ (sym (counted_side s may) ∙ ap (rounds_of s) (sym may.side_is))) begins))
      (subst (λ (ls : List Line). PutsEntries ls (answered_from s.state asks) begun has.between) is has.puts) has.keeps has.object;
  rows_are = served.rows_are;
  step = no_step s.state after (λ e. not_queue (sym (kind_in s may) ∙ e));
  listed = listed_by after (object_part (header_for s) new) (λ heap. subst (λ (st : State). ListsRising st (object_part (header_for s) new)) (sym (state_after_entries s asks)) (subst (λ (h : Header). ListsRising (state_from s.state asks) (object_part h new)) (sym may.head_is) (rises (sym (kind_in s may) ∙ (sym (after_entries-kind_of s (answered_from s.state asks)) ∙ heap)))));
  cells_are = none ∙ sym (no_cell_ops (header_for s) (next_position s.state) after after_kind);
}
  where
    no_queue : s.kind ≢ Queue
    no_queue e = not_queue (ap (λ (h : Header). h.kind) (sym may.head_is) ∙ e)

    has : HasServed (header_for s) before s.state asks begun new seats rows
    has = subst (λ (h : Header). HasServed h before s.state asks begun new seats rows) (sym may.head_is) served

    after : State
    after = (after_round s (asked_round s asks)).state

    after_kind : kind_of after ≢ Queue
    after_kind e = not_queue (sym (kind_in s may) ∙ (sym (after_entries-kind_of s (answered_from s.state asks)) ∙ e))

-- Queues

-- the state of a queue
pub record IsQueueState (state : State) (size : ℕ) : Type 0 where
  pub queue : Waiting
  pub is : state ≡ Waits size queue

queue_state : (state : State) (size : ℕ) → kind_of state ≡ Queue → size_of state ≡ size → IsQueueState state size
queue_state (Registers registers) size kind same = absurd cc
queue_state (Items n items) size kind same = absurd cc
queue_state (Rising n items) size kind same = absurd cc
queue_state (Waits n queue) size kind same = record { queue = queue; is = ap (λ (m : ℕ). Waits m queue) same }

-- what is known of a queue's region
pub record IsQueueRegion (lines : List Line) (s : Standing) (start : Waiting) : Type 0 where
  pub kind : s.kind ≡ Queue
  pub region : RegionParts lines s
  pub state : s.state ≡ Waits s.size start
  pub first_long : length (record_of_side lines s 0) ≡ 1 + slot_count (header_for s) + 1
  pub second_long : length (record_of_side lines s 1) ≡ 1 + slot_count (header_for s) + 1
  pub stand : LinesRepresent (object_parts_by Queue (header_for s) (record_of_side lines s)) (Waits s.size start)

queue_length : (head : Header) → head.kind ≡ Queue → record_length head ≡ 1 + slot_count head + 1
queue_length head queue = ap (λ (k : Kind). 1 + slot_count head + object_line_count k head.size) queue

pub queue_region : {head : Header} {lines : List Line} {rounds : Rounds} {asks : List Ask} {side : ℕ} (s : Standing) → MayBegin head lines rounds asks side s → head.kind ≡ Queue → (start : Waiting) × IsQueueRegion lines s start
queue_region {head} {lines} s may is_queue = (
  found.queue,
  record {
    kind = kind;
    region = region;
    state = found.is;
    first_long = in_use 0 (omega arith);
    second_long = in_use 1 (omega arith);
    stand = subst (λ (st : State). LinesRepresent (object_parts_by Queue (header_for s) (record_of_side lines s)) st) found.is (subst (λ (k : Kind). LinesRepresent (object_parts_by k (header_for s) (record_of_side lines s)) s.state) kind region.state);
  },
)
  where
    region : RegionParts lines s
    region = parts lines s may.stands

    kind : s.kind ≡ Queue
    kind = ap (λ (h : Header). h.kind) may.head_is ∙ is_queue

    found : IsQueueState s.state s.size
    found = queue_state s.state s.size (region.kind ∙ kind) region.size

    in_use : (x : ℕ) → x < 2 → length (record_of_side lines s x) ≡ 1 + slot_count (header_for s) + 1
    in_use x small =
        length-record_at lines (header_for s) x (rounds_of s x % 2) may.stands.whole region.valid (omega (arith, small, ap side_count kind)) (omega arith) ∙ queue_length (header_for s) kind

stand_bounded : (size : ℕ) (queue : Waiting) (first second : Line) → LinesRepresent (first ∷ second ∷ []) (Waits size queue) → IsBounded size queue
stand_bounded size queue first second stand = record {
  room = omega (arith, (stand.allowed 1 (omega arith)).waiting refl, (stand.allowed 1 (omega arith)).head refl, stand.hold.0, stand.hold.1);
  last = omega (arith, (stand.allowed 0 (omega arith)).last, stand.hold.0);
}

start_bounded : {lines : List Line} (s : Standing) (start : Waiting) → IsQueueRegion lines s start → IsBounded s.size start
start_bounded {lines} s start is =
    stand_bounded s.size start (line_at (record_of_side lines s 0) (1 + slot_count (header_for s))) (line_at (record_of_side lines s 1) (1 + slot_count (header_for s)))
    (subst (λ (ls : List Line). LinesRepresent ls (Waits s.size start)) (two_lines (header_for s) (record_of_side lines s) is.first_long is.second_long) is.stand)

pub holds_queue : {head : Header} {lines : List Line} {rounds : Rounds} {asks : List Ask} {side : ℕ} (s : Standing) (start : Waiting) (ends : Ends) → MayBegin head lines rounds asks side s → IsQueueRegion lines s start → ends.head ≡ word_of (record_in_use lines head 1 rounds.second) (record_length head - 1) 0 → ends.tail ≡ word_of (record_in_use lines head 0 rounds.first) (record_length head - 1) 0 → HoldsQueue head lines ends start
holds_queue {head} {lines} {rounds} s start ends may is taken tail = record {
  taken = sym counts.taken ∙ sym (taken ∙ at 1 rounds.second may.counts.second);
  tail = sym counts.tail ∙ sym (tail ∙ at 0 rounds.first may.counts.first);
  bounded = subst (λ (n : ℕ). IsBounded n start) (ap (λ (h : Header). h.size) may.head_is) (start_bounded s start is);
  cells = subst (λ (h : Header). CellsRepresent lines h (Waits s.size start)) may.head_is (subst (CellsRepresent lines (header_for s)) is.state is.region.cells);
}
  where
    records : ℕ → List Line
    records = record_of_side lines s

    last : ℕ
    last = 1 + slot_count (header_for s)

    stand : LinesRepresent (line_at (records 0) last ∷ line_at (records 1) last ∷ []) (Waits s.size start)
    stand = subst (λ (ls : List Line). LinesRepresent ls (Waits s.size start)) (two_lines (header_for s) records is.first_long is.second_long) is.stand

    counts : CountQueue start (line_at (records 0) last) (line_at (records 1) last)
    counts = stand_counts s.size start (line_at (records 0) last) (line_at (records 1) last) stand

    end : record_length head - 1 ≡ last
    end = omega (arith, queue_length head (ap (λ (h : Header). h.kind) (sym may.head_is) ∙ is.kind), ap (λ (h : Header). h.clients) may.head_is)

    at : (x count : ℕ) → rounds_of s x ≡ count → word_of (record_in_use lines head x count) (record_length head - 1) 0 ≡ word (line_at (records x) last) 0
    at x count same = λ i. word_of (record_in_use lines (sym may.head_is i) x (sym same i)) (end i) 0

-- the record of a queue's round
next_of_queue : (lines : List Line) (s : Standing) (asks : List Ask) (start queue : Waiting) (begun between new : List Line) → IsQueueRegion lines s start → MayBeServed s asks → IsBegun (record_of_side lines s (side_asked asks)) (rounds_of s (side_asked asks) + 1) begun → PutsEntries (record_of_side lines s (side_asked asks)) (answered_from s.state asks) begun between → KeepsBefore (length between - 1) between new
    → line_at new (length between - 1) ≡ count_line_of (count_of (side_asked asks) queue) → MovesSide (side_asked asks) start queue → IsBounded s.size queue → Waits s.size queue ≡ state_from s.state asks
    → IsNextOf (record_of_side lines s) s (asked_round s asks) new
next_of_queue lines s asks start queue begun between new is may begins puts keeps counts moves bounded state = record {
  legal = served_is_legal s asks may;
  long = new_long ∙ sym (queue_length (header_for s) is.kind);
  carries = keeps.same 0 (omega (arith, between_long)) ∙ (puts.first ∙ begins.carries);
  entries = entries_before (length between - 1) (records side) between new entries keeps room puts.each;
  others = λ client slot inside below others.
      others_before (length between - 1) between new client slot keeps (omega (arith, inside, between_long)) below
      ∙ (puts.others client slot below others ∙ begins.others (1 + (KEPT_REQUESTS * client + slot)) (omega arith));
  state = subst (λ (k : Kind). LinesRepresent (object_parts_by k (header_for s) (with_record records side new)) (after_round s (asked_round s asks)).state) (sym is.kind)
      (subst (LinesRepresent (object_parts_by Queue (header_for s) (with_record records side new))) (state ∙ sym (state_after_entries s asks))
      (with_record_stands (header_for s) side start queue records new small is.first_long is.second_long new_long is.stand moves bounded last_is));
}
  where
    records : ℕ → List Line
    records = record_of_side lines s

    side : ℕ
    side = side_asked asks

    small : side < 2
    small = small_side s.kind side (side_there s asks may)

    entries : List Entry
    entries = answered_from s.state asks

    side_long : (x : ℕ) → x < 2 → length (records x) ≡ 1 + slot_count (header_for s) + 1
    side_long zero below = is.first_long
    side_long (suc zero) below = is.second_long
    side_long (suc (suc x)) below = absurd (omega arith)

    between_long : length between ≡ 1 + slot_count (header_for s) + 1
    between_long = puts.long ∙ (begins.long ∙ side_long side small)

    new_long : length new ≡ 1 + slot_count (header_for s) + 1
    new_long = keeps.long ∙ between_long

    room : All (λ (entry : Entry). 8 * entry.client + 8 < length between - 1) entries
    room = clients_of_answers (λ client. 8 * client + 8 < length between - 1) s.state asks (λ k d inside. omega (arith, (may.next k d inside).client, between_long))

    last_is : line_at new (1 + slot_count (header_for s)) ≡ count_line_of (count_of side queue)
    last_is = let at : 1 + slot_count (header_for s) ≡ length between - 1 = omega (arith, between_long) in ap (line_at new) at ∙ counts

-- what waits moves on one side
queue_step : (side size : ℕ) (start queue : Waiting) → MovesSide side start queue → IsBounded size start → IsBounded size queue → tail_of start ≤ tail_of queue → StepsQueue (Waits size start) (Waits size queue)
queue_step zero size start queue moves first bounded later = (omega (arith, moves.puts refl), later, omega (arith, bounded.room, moves.puts refl))
queue_step (suc side) size start queue moves first bounded later = let same = moves.takes (λ e. omega (arith, e)) in (omega (arith, same), later, omega (arith, same, first.room))

pub queue_made : {head : Header} {lines : List Line} {rounds : Rounds} {asks : List Ask} {side : ℕ} (s : Standing) (start : Waiting) {before begun new : List Line} {seats rows : List Seat} {plan : List LogOp} (count : ℕ) → MayBegin head lines rounds asks side s → IsQueueRegion lines s start → before ≡ record_of_side lines s (side_asked asks) → count ≡ round_count side rounds → IsBegun before (count + 1) begun → HasServedQueue head before side start asks begun new seats rows [] plan
    → MakesRecord lines s (asked_round s asks) seats new rows plan
queue_made {head} {lines} {rounds} {asks} {side} s start {before} {begun} {new} {seats} {rows} {plan} count may region is counted begins served = record {
  record_is = next_of_queue lines s asks start has.queue begun has.between new region may.may
      (subst (λ (ls : List Line). IsBegun ls (rounds_of s (side_asked asks) + 1) begun) is (subst (λ (n : ℕ). IsBegun before (n + 1) begun) (counted ∙ (sym (counted_side s may) ∙ ap (rounds_of s) (sym may.side_is))) begins))
      (subst (λ (ls : List Line). PutsEntries ls (answered_from s.state asks) begun has.between) is (subst (λ (st : State). PutsEntries before (answered_from st asks) begun has.between) (sym region.state) has.puts))
      has.keeps has.counts has.moves has.bounded state;
  rows_are = has.rows_are ∙ ap (λ (st : State). with_rows (answered_from st asks) seats) (sym region.state);
  step = subst (λ (st : State). StepsQueue st (after_round s (asked_round s asks)).state) (sym region.state)
      (subst (λ (st : State). StepsQueue (Waits s.size start) st) (sym after_is) (queue_step (side_asked asks) s.size start has.queue has.moves (start_bounded s start region) has.bounded has.later));
  listed = subst (λ (st : State). ListsRising st (object_part (header_for s) new)) (sym after_is) tt;
  cells_are = has.planned ∙ (λ i. cell_ops (header_for s) (next_position (sym region.state i)) (sym after_is i));
}
  where
    has : HasServedQueue (header_for s) before (side_asked asks) start asks begun new seats rows [] plan
    has = subst (λ (n : ℕ). HasServedQueue (header_for s) before n start asks begun new seats rows [] plan) (sym may.side_is) (subst (λ (h : Header). HasServedQueue h before side start asks begun new seats rows [] plan) (sym may.head_is) served)

    state : Waits s.size has.queue ≡ state_from s.state asks
    state = has.state ∙ ap (λ (st : State). state_from st asks) (sym region.state)

    after_is : (after_round s (asked_round s asks)).state ≡ Waits s.size has.queue
    after_is = state_after_entries s asks ∙ sym state
