-- A round of a queue over its pair: what it stores, and what that comes to.
use Rattle.std.proofs.Common.{◌≡◌, ◌⊎◌, ℕ, zero, suc, ◌+◌, ◌-◌, ◌%◌, ◌<◌, ◌≤◌, List, [], ◌∷◌, ◌++◌, length, set, slice_index, refl, sym, ap, subst, ◌∙◌, inl, inr, arith}
use Rattle.std.specs.List.{All}
use Rattle.std.proofs.lemmas.Bool.{cases_lt}
use Rattle.std.proofs.lemmas.List.{length-drop, get_or-drop}
use Rattle.pb_pmem.specs.declared.line.Line.{Line}
use Rattle.pb_pmem.specs.declared.line.TheConstants.{LINES}
use Rattle.pb_pmem.specs.declared.log.LogOp.{LogOp}
use Rattle.pb_pmem.specs.Lines.{line_at, word_of}
use Rattle.pb_object.specs.declared.kind.Kind.TheVariants.{Queue}
use Rattle.pb_object.specs.declared.request.Ask.{Ask}
use Rattle.pb_object.specs.History.{Round, after_round}
use Rattle.pb_object.specs.Object.{Waits}
use Rattle.pb_object.specs.ObjectLines.{LinesRepresent}
use Rattle.pb_object.specs.Queue.{Waiting, tail_of}
use Rattle.pb_object.specs.Standing.{Standing, side_count, rounds_of}
use Rattle.pb_layout.specs.declared.header.Header.{Header}
use Rattle.pb_layout.specs.Cell.{cell_line_of}
use Rattle.pb_layout.specs.Header.{record_length, slot_count}
use Rattle.pb_layout.specs.NextRecord.{HasEntryInFront, IsNextOf, IsNextRecord, next_position, HasCells}
use Rattle.pb_layout.specs.PutCell.{HasCell, HaveCells}
use Rattle.pb_layout.specs.Record.{slot_line_at, IsRecord}
use Rattle.pb_layout.specs.Recovered.{Represents}
use Rattle.pb_layout.specs.Represents.{header_for, record_in_use, record_of_side, object_parts, object_parts_by, with_record, AreRecords, RegionParts}
use Rattle.pb_layout.proofs.OneRecovery.{parts, length-record_at}
use Rattle.pb_layout_laws.proofs.Geometry.{parity-lt}
use Rattle.pb_layout_laws.proofs.NextRecord.{next_own, next_records}
use Rattle.pb_layout_laws.proofs.PutCells.{cells_of_a_round}
use Rattle.pb_layout_laws.proofs.Rounds.{next_header, next_round_list}
use Rattle.pb_pair.specs.declared.known.Known.TheVariants.{Sure}
use Rattle.pb_pair.specs.Cells.{tail_in, taken_by_records, IsFree}
use Rattle.pb_pair.specs.Store.{IsNext}
use Rattle.pb_pair.specs.View.{PairView, IsPair, at_side, round_of_side, lines_of}
use Rattle.pb_engine.specs.Asks.{MayBeServed, side_asked, state_from, asked_round}
use Rattle.pb_engine.specs.Operations.{puts_from}
use Rattle.pb_engine.proofs.Served.{state_after_entries}
use Rattle.pb_queue.specs.Items.{IsBounded}
use Rattle.pb_queue.specs.Rounds.{added_since}
use Rattle.pb_queue.specs.Serving.{MovesSide}
use Rattle.pb_queue.specs.Standing.{standing_of}
use Rattle.pb_queue.proofs.CellExits.{AreFree, cells_there}
use Rattle.pb_queue.proofs.Prepared.{CountQueue, two_lines, with_long, counts_stand, stand_counts, rounds_are, side_there}
use Rattle.pb_queue.proofs.QueueRecords.{record_long}
use Rattle.pb_queue.proofs.Standings.{head_is, records_along, SaysStanding, standing_is, records_are}

-- the round that requests make of what a pair and some items say
abbrev pub round_for : PairView → Waiting → List Ask → Round
round_for pair queue asks = asked_round (standing_of pair queue) asks

-- a round of these requests that was applied, whose record is these lines
pub record IsRound (pair : PairView) (before after : Waiting) (asks : List Ask) (lines : List Line) : Type 0 where
  pub sound : IsPair pair
  pub queue : pair.head.kind ≡ Queue
  pub records : AreRecords (lines_of pair) (standing_of pair before)
  pub may : MayBeServed (standing_of pair before) asks
  pub state : Waits pair.head.size after ≡ state_from (Waits pair.head.size before) asks
  pub next : IsNextOf (lines_of pair) (standing_of pair before) (round_for pair before asks) lines

pub side_here : (pair : PairView) (before after : Waiting) (asks : List Ask) (lines : List Line) → IsRound pair before after asks lines → side_asked asks < 2
side_here pair before after asks lines is = side_there (standing_of pair before) asks is.may

-- the state after it
pub after_is : (pair : PairView) (before after : Waiting) (asks : List Ask) (lines : List Line) → IsRound pair before after asks lines → (after_round (standing_of pair before) (round_for pair before asks)).state ≡ Waits pair.head.size after
after_is pair before after asks lines is = state_after_entries (standing_of pair before) asks ∙ sym is.state

-- What is stored

pub store_next : (pair : PairView) (before after : Waiting) (asks : List Ask) (lines : List Line) → IsRound pair before after asks lines → IsNext pair (side_asked asks) lines
store_next pair before after asks lines is = record {
  here = omega (arith, side_here pair before after asks lines is, ap side_count is.queue);
  long = is.next.long ∙ ap record_length (sym head);
  own = subst (λ (h : Header). IsRecord h side (round_of_side pair side + 1) lines) (sym head)
      (subst (λ (n : ℕ). IsRecord (header_for s) side (n + 1) lines) (sym (rounds_are pair before side (side_here pair before after asks lines is))) (next_own (lines_of pair) s (round_for pair before asks) lines is.records is.next));
}
  where
    s : Standing
    s = standing_of pair before

    side : ℕ
    side = side_asked asks

    head : pair.head ≡ header_for s
    head = head_is pair before is.queue

-- What a side's requests leave

-- an earlier and a later queue of a size, between which requests of one side lie
pub record IsStep (side size : ℕ) (before after : Waiting) : Type 0 where
  pub here : side < 2
  pub moves : MovesSide side before after
  pub bounded : IsBounded size after

pub waits_below : (side size : ℕ) (before after : Waiting) → IsStep side size before after → after.taken ≤ tail_of before
waits_below zero size before after step = omega (arith, step.moves.puts refl)
waits_below (suc side) size before after step = omega (arith, step.moves.takes (λ e. absurd (omega (arith, e))))

-- the positions of the items that were put are near enough
near : (side size position : ℕ) (before after : Waiting) → IsStep side size before after → tail_of before ≤ position → position < tail_of after → position < before.taken + size
near zero size position before after step from below = omega (arith, step.moves.puts refl, step.bounded.room, below)
near (suc side) size position before after step from below = absurd (omega (arith, step.moves.takes (λ e. absurd (omega (arith, e))), from, below))

pub added_long : (side size : ℕ) (before after : Waiting) → IsStep side size before after → tail_of before + length (added_since before after) ≤ tail_of after ⊎ (length (added_since before after) ≡ 0)
added_long side size before after step =
    let skipped = tail_of before - after.taken in
    let long = length-drop skipped after.items in
    elim (cases_lt (tail_of after) (tail_of before)) [
      | inl less ↦ inr (omega (arith, less, long, waits_below side size before after step))
      | inr more ↦ inl (omega (arith, more, long, waits_below side size before after step))
    ]

-- so they are free in a standing that has the earlier queue
pub are_free : (pair : PairView) (side : ℕ) (before after : Waiting) → IsStep side pair.head.size before after → AreFree (standing_of pair before) (tail_of before) (length (added_since before after))
are_free pair side before after step position from below = (
  from,
  elim (added_long side pair.head.size before after step) [
    | inl long ↦ near side pair.head.size position before after step from (omega (arith, long, below))
    | inr none ↦ absurd (omega (arith, none, from, below))
  ],
)

-- .. and in its pair
pub is_free : (pair : PairView) (side : ℕ) (before after : Waiting) (position : ℕ) → pair.head.kind ≡ Queue → pair.known ≡ Sure → AreRecords (lines_of pair) (standing_of pair before) → IsStep side pair.head.size before after → tail_of before ≤ position → position < tail_of after → IsFree pair position
is_free pair side before after position queue sure records step from below = record {
  queue = queue;
  known = sure;
  after = omega (arith, from, tail);
  room = omega (arith, near side pair.head.size position before after step from below, taken);
}
  where
    head : pair.head ≡ header_for (standing_of pair before)
    head = head_is pair before queue

    tail : tail_in pair ≡ tail_of before
    tail = ap (λ (h : Header). word_of (object_parts h (lines_of pair)) 0 0) head ∙ sym records.state.hold.0

    taken : taken_by_records pair ≡ before.taken
    taken = ap (λ (h : Header). word_of (object_parts h (lines_of pair)) 1 0) head ∙ sym records.state.hold.1

-- The record in a region

-- the counts of two records with the lines of a round, where the other one stands elsewhere
counts_along : (side last : ℕ) (before after : Waiting) (f g : ℕ → List Line) (lines : List Line) → side < 2 → MovesSide side before after → CountQueue after (line_at (with_record f side lines 0) last) (line_at (with_record f side lines 1) last) → CountQueue before (line_at (g 0) last) (line_at (g 1) last) → CountQueue after (line_at (with_record g side lines 0) last) (line_at (with_record g side lines 1) last)
counts_along zero last before after f g lines below moves own other = record {
  tail = own.tail;
  taken = other.taken ∙ sym (moves.puts refl);
  tail_alone = own.tail_alone;
  taken_alone = other.taken_alone;
}
counts_along (suc zero) last before after f g lines below moves own other = record {
  tail = other.tail ∙ sym (moves.takes (λ e. absurd (omega (arith, e))));
  taken = own.taken;
  tail_alone = other.tail_alone;
  taken_alone = own.taken_alone;
}
counts_along (suc (suc side)) last before after f g lines below moves own other = absurd (omega (arith, below))

-- records of a queue, each with one line after the slots
abbrev AreLong : Header → (ℕ → List Line) → Type 0
AreLong head records = (side : ℕ) → side < 2 → length (records side) ≡ 1 + slot_count head + 1

next_stands_along : (head : Header) (side : ℕ) (before after : Waiting) (f g : ℕ → List Line) (lines : List Line) → side < 2 → AreLong head f → AreLong head g → length lines ≡ 1 + slot_count head + 1 → MovesSide side before after → IsBounded head.size after → LinesRepresent (object_parts_by Queue head (with_record f side lines)) (Waits head.size after) → LinesRepresent (object_parts_by Queue head g) (Waits head.size before) → LinesRepresent (object_parts_by Queue head (with_record g side lines)) (Waits head.size after)
next_stands_along head side before after f g lines below f_long g_long long moves bounded own other =
    subst (λ (ls : List Line). LinesRepresent ls (Waits head.size after)) (sym (parts_of g g_long))
    (counts_stand head.size after (line_at (with_record g side lines 0) last) (line_at (with_record g side lines 1) last)
    (counts_along side last before after f g lines below moves
    (stand_counts head.size after (line_at (with_record f side lines 0) last) (line_at (with_record f side lines 1) last) (subst (λ (ls : List Line). LinesRepresent ls (Waits head.size after)) (parts_of f f_long) own))
    (stand_counts head.size before (line_at (g 0) last) (line_at (g 1) last) (subst (λ (ls : List Line). LinesRepresent ls (Waits head.size before)) (two_lines head g (g_long 0 (omega arith)) (g_long 1 (omega arith))) other))) bounded)
  where
    last : ℕ
    last = 1 + slot_count head

    parts_of : (h : ℕ → List Line) → AreLong head h → object_parts_by Queue head (with_record h side lines) ≡ line_at (with_record h side lines 0) last ∷ line_at (with_record h side lines 1) last ∷ []
    parts_of h h_long = two_lines head (with_record h side lines)
        (with_long side (last + 1) h lines 0 below (omega arith) (h_long 0 (omega arith)) (h_long 1 (omega arith)) long)
        (with_long side (last + 1) h lines 1 below (omega arith) (h_long 0 (omega arith)) (h_long 1 (omega arith)) long)

-- in a region that represents the standing, whose record in use of the side is the pair's, the lines are the round's next record
pub next_in : (pair : PairView) (before after : Waiting) (asks : List Ask) (lines image : List Line) → IsRound pair before after asks lines → IsStep (side_asked asks) pair.head.size before after → Represents image (standing_of pair before) → record_of_side image (standing_of pair before) (side_asked asks) ≡ lines_of pair (side_asked asks) → IsNextRecord image (standing_of pair before) (round_for pair before asks) lines
next_in pair before after asks lines image is step stands held = record {
  legal = is.next.legal;
  long = is.next.long;
  carries = is.next.carries;
  entries = subst (λ (ls : List Line). All (HasEntryInFront ls lines) (round_for pair before asks).entries) (sym held) is.next.entries;
  others = λ client slot inside below others. is.next.others client slot inside below others ∙ ap (λ (ls : List Line). slot_line_at ls client slot) (sym held);
  state = subst (LinesRepresent (object_parts_by Queue (header_for s) (with_record (record_of_side image s) side lines))) (sym same)
      (next_stands_along (header_for s) side before after (lines_of pair) (record_of_side image s) lines step.here pair_long image_long is.next.long step.moves step.bounded
      (subst (LinesRepresent (object_parts_by Queue (header_for s) (with_record (lines_of pair) side lines))) same is.next.state)
      region.state);
}
  where
    s : Standing
    s = standing_of pair before

    side : ℕ
    side = side_asked asks

    region : RegionParts image s
    region = parts image s stands

    same : (after_round s (round_for pair before asks)).state ≡ Waits pair.head.size after
    same = after_is pair before after asks lines is

    pair_long : AreLong (header_for s) (lines_of pair)
    pair_long x below = record_long pair x is.queue is.sound below

    image_long : AreLong (header_for s) (record_of_side image s)
    image_long x below = length-record_at image (header_for s) x (rounds_of s x % 2) stands.whole region.valid below (parity-lt (rounds_of s x))

-- a side's record in use, in the words of the standing
pub held_is : (pair : PairView) (queue : Waiting) (image : List Line) (side : ℕ) → pair.head.kind ≡ Queue → side < 2 → record_in_use image pair.head side (round_of_side pair side) ≡ lines_of pair side → record_of_side image (standing_of pair queue) side ≡ lines_of pair side
held_is pair queue image side kind below held =
    let head = head_is pair queue kind in
    let round = rounds_are pair queue side below in
    (λ i. record_in_use image (sym head i) side (sym round i)) ∙ held

-- The cells

pub have_cells : (base : List Line) (log : List LogOp) (pair : PairView) (before after : Waiting) (asks : List Ask) (lines : List Line) → IsRound pair before after asks lines → IsStep (side_asked asks) pair.head.size before after → length base ≡ LINES → HasCells base (log ++ puts_from (header_for (standing_of pair before)) (tail_of before) (added_since before after)) (standing_of pair before) (round_for pair before asks)
have_cells base log pair before after asks lines is step long =
    cells_of_a_round base log_after s (round_for pair before asks)
    (subst (HaveCells base log_after (header_for s) (next_position s.state)) (sym (after_is pair before after asks lines is)) each)
  where
    s : Standing
    s = standing_of pair before

    from : ℕ
    from = tail_of before

    skipped : ℕ
    skipped = from - after.taken

    put : List ℕ
    put = added_since before after

    log_after : List LogOp
    log_after = log ++ puts_from (header_for s) from put

    waits : after.taken ≤ from
    waits = waits_below (side_asked asks) pair.head.size before after step

    many : length put ≡ length after.items - skipped
    many = length-drop skipped after.items

    each : (place : ℕ) → place < length after.items → from ≤ after.taken + place → HasCell base log_after (header_for s) (after.taken + place) (cell_line_of (after.taken + place) (slice_index after.items place))
    each place inside new =
        let at = place - skipped in
        let here : from + at ≡ after.taken + place = omega (arith, waits, new) in
        let back : skipped + at ≡ place = omega (arith, waits, new) in
        let item : slice_index put at ≡ slice_index after.items place = get_or-drop skipped after.items at 0 ∙ ap (slice_index after.items) back in
        subst (λ (n : ℕ). HasCell base log_after (header_for s) n (cell_line_of n (slice_index after.items place))) here
        (subst (λ (n : ℕ). HasCell base log_after (header_for s) (from + at) (cell_line_of (from + at) n)) item
        (cells_there base log (header_for s) from put at is.records.valid long (omega (arith, many, step.bounded.room)) (omega (arith, many, inside, new, waits))))

-- What it comes to

-- a pair of which a side has this record in use, which is its next one
pub record HasMoved (side : ℕ) (lines : List Line) (old new : PairView) : Type 0 where
  pub head : new.head ≡ old.head
  pub first_round : round_of_side new 0 ≡ at_side (round_of_side old 0 + 1) (round_of_side old 0) side
  pub second_round : round_of_side new 1 ≡ at_side (round_of_side old 1) (round_of_side old 1 + 1) side
  pub first_lines : lines_of new 0 ≡ at_side lines (lines_of old 0) side
  pub second_lines : lines_of new 1 ≡ at_side (lines_of old 1) lines side

with_first : (side : ℕ) (records : ℕ → List Line) (lines : List Line) → side < 2 → with_record records side lines 0 ≡ at_side lines (records 0) side
with_first zero records lines below = refl
with_first (suc zero) records lines below = refl
with_first (suc (suc side)) records lines below = absurd (omega (arith, below))

with_second : (side : ℕ) (records : ℕ → List Line) (lines : List Line) → side < 2 → with_record records side lines 1 ≡ at_side (records 1) lines side
with_second zero records lines below = refl
with_second (suc zero) records lines below = refl
with_second (suc (suc side)) records lines below = absurd (omega (arith, below))

rounds_set : (side first second : ℕ) → side < 2 → at_side (first + 1) first side ∷ at_side second (second + 1) side ∷ [] ≡ set (first ∷ second ∷ []) side (slice_index (first ∷ second ∷ []) side + 1)
rounds_set zero first second below = refl
rounds_set (suc zero) first second below = refl
rounds_set (suc (suc side)) first second below = absurd (omega (arith, below))

says_after : (old new : PairView) (before after : Waiting) (asks : List Ask) (lines : List Line) → IsRound old before after asks lines → HasMoved (side_asked asks) lines old new → SaysStanding new after (after_round (standing_of old before) (round_for old before asks))
says_after old new before after asks lines is moved = record {
  kind = ap (λ (h : Header). h.kind) header;
  head = moved.head ∙ (head_is old before is.queue ∙ sym header);
  rounds = (λ i. moved.first_round i ∷ moved.second_round i ∷ []) ∙ (rounds_set side (round_of_side old 0) (round_of_side old 1) here ∙ sym (next_round_list s round));
  state = ap (λ (h : Header). Waits h.size after) moved.head ∙ sym (after_is old before after asks lines is);
  records = records_along (with_record (lines_of old) side lines) (lines_of new) (after_round s round) same (next_records (lines_of old) s round lines is.records is.next);
}
  where
    s : Standing
    s = standing_of old before

    round : Round
    round = round_for old before asks

    side : ℕ
    side = side_asked asks

    here : side < 2
    here = side_here old before after asks lines is

    header : header_for (after_round s round) ≡ header_for s
    header = next_header s round

    same : (x : ℕ) → x < side_count (after_round s round).kind → with_record (lines_of old) side lines x ≡ lines_of new x
    same zero below = with_first side (lines_of old) lines here ∙ sym moved.first_lines
    same (suc zero) below = with_second side (lines_of old) lines here ∙ sym moved.second_lines
    same (suc (suc x)) below = absurd (omega (arith, below, ap (λ (h : Header). side_count h.kind) header))

pub standing_moved : (old new : PairView) (before after : Waiting) (asks : List Ask) (lines : List Line) → IsRound old before after asks lines → HasMoved (side_asked asks) lines old new → standing_of new after ≡ after_round (standing_of old before) (round_for old before asks)
standing_moved old new before after asks lines is moved =
    standing_is new after (after_round (standing_of old before) (round_for old before asks)) (says_after old new before after asks lines is moved)

pub records_moved : (old new : PairView) (before after : Waiting) (asks : List Ask) (lines : List Line) → IsRound old before after asks lines → HasMoved (side_asked asks) lines old new → AreRecords (lines_of new) (standing_of new after)
records_moved old new before after asks lines is moved =
    records_are new after (after_round (standing_of old before) (round_for old before asks)) (says_after old new before after asks lines is moved)
