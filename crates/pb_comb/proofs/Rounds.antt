-- A round over a pair: what it stores, and what that comes to.
use Rattle.std.proofs.Common.{◌≡◌, ◌≢◌, ℕ, zero, suc, ◌+◌, ◌<◌, Some, List, [], ◌∷◌, ◌++◌, length, set, sym, ap, subst, ◌∙◌, arith}
use Rattle.std.specs.List.{All}
use Rattle.std.proofs.lemmas.List.{ext_get_or}
use Rattle.std.proofs.lemmas.List.Elements.{All-nil, All-head, All-tail, All-cons}
use Rattle.pb_pmem.specs.declared.line.Line.{Line}
use Rattle.pb_pmem.specs.declared.log.LogOp.{LogOp}
use Rattle.pb_pmem.specs.Device.{Tale}
use Rattle.pb_object.specs.declared.kind.Kind.{Kind}
use Rattle.pb_object.specs.declared.kind.Kind.TheVariants.{Queue}
use Rattle.pb_object.specs.declared.request.Ask.{Ask}
use Rattle.pb_object.specs.History.{Round, after_round}
use Rattle.pb_object.specs.Object.{State}
use Rattle.pb_object.specs.ObjectLines.{LinesRepresent}
use Rattle.pb_object.specs.Standing.{Standing, rounds_of}
use Rattle.pb_layout.specs.declared.header.Header.{Header}
use Rattle.pb_layout.specs.Header.{record_length}
use Rattle.pb_layout.specs.NextRecord.{HasEntryInFront, IsNextOf, IsNextRecord, next_position, HasCells}
use Rattle.pb_layout.specs.Record.{slot_line_at, kept_in_slots, IsRecord}
use Rattle.pb_layout.specs.Recovered.{listed}
use Rattle.pb_layout.specs.RegionOps.{stage_over, spare_place, commit_ops}
use Rattle.pb_layout.specs.Represents.{header_for, record_of_side, record_in_use, object_part, object_parts, with_record, AreRecords}
use Rattle.pb_layout.specs.ToldExits.{contents_of, IsReadyWith}
use Rattle.pb_layout.proofs.ChangedRegion.{with_here, with_other}
use Rattle.pb_layout.proofs.OneRecovery.{length-listed, get_or-listed}
use Rattle.pb_layout_laws.proofs.NextRecord.{next_own, next_records}
use Rattle.pb_layout_laws.proofs.Rounds.{next_header, next_round_list, after_entries-kind_of}
use Rattle.pb_pair.specs.Safe.{IsStoreOf}
use Rattle.pb_pair.specs.Store.{staged_ops, IsNext}
use Rattle.pb_pair.specs.View.{PairView, IsPair, view_of_side, round_of_side, lines_of}
use Rattle.pb_engine.specs.Asks.{MayBeServed, IsNextAsk, side_asked, state_from}
use Rattle.pb_engine.specs.Operations.{cell_ops, prepared_ops, committed_ops}
use Rattle.pb_engine.specs.View.{known_of}
use Rattle.pb_engine.proofs.Served.{state_after_entries}
use Rattle.pb_comb.specs.Serving.{IsServable, AreServable}
use Rattle.pb_comb.specs.View.{standing_of, comb_view}
use Rattle.pb_comb.proofs.Records.{one_side, parts_of_one, list_of_one, asked_side, no_cells, no_cell_ops, pair_of, round_for}

-- a round of these requests, whose record is these lines
pub record IsRound (kind : Kind) (pair : PairView) (state : State) (asks : List Ask) (lines : List Line) : Type 0 where
  pub sound : IsPair pair
  pub kind_is : pair.head.kind ≡ kind
  pub not_queue : kind ≢ Queue
  pub records : AreRecords (lines_of pair) (standing_of pair state)
  pub may : MayBeServed (standing_of pair state) asks
  pub next : IsNextOf (lines_of pair) (standing_of pair state) (round_for pair state asks) lines

pub no_queue : (kind : Kind) (pair : PairView) (state : State) (asks : List Ask) (lines : List Line) → IsRound kind pair state asks lines → pair.head.kind ≢ Queue
no_queue kind pair state asks lines is queue = is.not_queue (sym is.kind_is ∙ queue)

pub side_zero : (kind : Kind) (pair : PairView) (state : State) (asks : List Ask) (lines : List Line) → IsRound kind pair state asks lines → side_asked asks ≡ 0
side_zero kind pair state asks lines is = asked_side (standing_of pair state) asks (no_queue kind pair state asks lines is) is.may

-- the requests may be applied
pub servable : (pair : PairView) (state : State) (asks : List Ask) (lines : List Line) → AreRecords (lines_of pair) (standing_of pair state) → MayBeServed (standing_of pair state) asks → length lines ≡ record_length pair.head → AreServable pair.head.kind lines asks
servable pair state asks lines records may long = record { each = each asks may.next; rising = may.rising }
  where
    s : Standing
    s = standing_of pair state

    each : (rest : List Ask) → All (IsNextAsk s (side_asked asks)) rest → All (IsServable pair.head.kind lines) rest
    each [] next = All-nil (IsServable pair.head.kind lines)
    each (ask ∷ rest) next =
        let is = All-head (IsNextAsk s (side_asked asks)) ask rest next in
        All-cons (IsServable pair.head.kind lines) ask rest (record { operation = is.operation; client = omega (arith, is.client, records.valid.few_clients); room = omega (arith, is.client, long) })
        (each rest (All-tail (IsNextAsk s (side_asked asks)) ask rest next))

-- What is stored

pub store_next : (kind : Kind) (pair : PairView) (state : State) (asks : List Ask) (lines : List Line) → IsRound kind pair state asks lines → IsNext pair 0 lines
store_next kind pair state asks lines is = record {
  here = omega (arith, one_side pair.head.kind (no_queue kind pair state asks lines is));
  long = is.next.long;
  own = subst (λ (side : ℕ). IsRecord pair.head side (rounds_of (standing_of pair state) side + 1) lines) (side_zero kind pair state asks lines is) (next_own (lines_of pair) (standing_of pair state) (round_for pair state asks) lines is.records is.next);
}

-- the record that a round makes of one it makes of the same one elsewhere
next_along : (f g : ℕ → List Line) (s : Standing) (round : Round) (lines : List Line) → s.kind ≢ Queue → round.side ≡ 0 → f 0 ≡ g 0 → IsNextOf f s round lines → IsNextOf g s round lines
next_along f g s round lines not_queue side same next = record {
  legal = next.legal;
  long = next.long;
  carries = next.carries;
  entries = subst (λ (ls : List Line). All (HasEntryInFront ls lines) round.entries) used next.entries;
  others = λ client slot inside below others. next.others client slot inside below others ∙ ap (λ (ls : List Line). slot_line_at ls client slot) used;
  state = subst (λ (ls : List Line). LinesRepresent ls (after_round s round).state) parts next.state;
}
  where
    used : f round.side ≡ g round.side
    used = ap f side ∙ (same ∙ sym (ap g side))

    part_of : (h : ℕ → List Line) → object_parts (header_for s) (with_record h round.side lines) ≡ object_part (header_for s) lines
    part_of h = parts_of_one s.kind (header_for s) (with_record h round.side lines) not_queue ∙ ap (object_part (header_for s)) (with_here h round.side lines 0 (sym side))

    parts : object_parts (header_for s) (with_record f round.side lines) ≡ object_parts (header_for s) (with_record g round.side lines)
    parts = part_of f ∙ sym (part_of g)

pub next_in : (kind : Kind) (pair : PairView) (state : State) (asks : List Ask) (lines image : List Line) → IsRound kind pair state asks lines → record_in_use image pair.head 0 (round_of_side pair 0) ≡ lines_of pair 0 → IsNextRecord image (standing_of pair state) (round_for pair state asks) lines
next_in kind pair state asks lines image is held =
    next_along (lines_of pair) (record_of_side image (standing_of pair state)) (standing_of pair state) (round_for pair state asks) lines (no_queue kind pair state asks lines is) (side_zero kind pair state asks lines is) (sym held) is.next

pub cells_of : (base : List Line) (log : List LogOp) (kind : Kind) (pair : PairView) (state : State) (asks : List Ask) (lines : List Line) → IsRound kind pair state asks lines → HasCells base log (standing_of pair state) (round_for pair state asks)
cells_of base log kind pair state asks lines is =
    let s = standing_of pair state in
    let round = round_for pair state asks in
    let none = no_cells base log s round (after_round s round).state (λ queue. no_queue kind pair state asks lines is (sym is.records.kind ∙ (sym (after_entries-kind_of s round.entries) ∙ queue))) in
    record { hold = none.0; backed = none.1 }

-- on a ready device that tells its log, the store is the round's
pub store_of : (kind : Kind) (pair : PairView) (state : State) (asks : List Ask) (lines : List Line) (tale : Tale) → IsRound kind pair state asks lines → pair.device.told ≡ Some tale → IsReadyWith (Some (standing_of pair state) ∷ []) tale → IsStoreOf pair 0 lines (standing_of pair state) (round_for pair state asks) tale
store_of kind pair state asks lines tale is told ready = record {
  ready = ready;
  of = pair_of pair state is.sound (no_queue kind pair state asks lines is);
  side_is = side_zero kind pair state asks lines is;
  next = next_in kind pair state asks lines (contents_of tale) is ((is.sound.records tale told).in_use 0 (omega (arith, one_side pair.head.kind (no_queue kind pair state asks lines is))));
  cells = cells_of tale.base tale.log kind pair state asks lines is;
}

-- its operations are the round's
pub ops_of : (kind : Kind) (pair : PairView) (state : State) (asked asks : List Ask) (lines : List Line) → IsRound kind pair state asks lines → prepared_ops (comb_view pair state asked) (round_for pair state asks) lines ≡ staged_ops pair.head 0 (view_of_side pair 0) lines
ops_of kind pair state asked asks lines is =
    let s = standing_of pair state in
    let round = round_for pair state asks in
    let side = side_zero kind pair state asks lines is in
    let engine = comb_view pair state asked in
    let none : cell_ops (header_for s) (next_position s.state) (after_round s round).state ≡ [] = no_cell_ops (header_for s) (next_position s.state) (after_round s round).state (λ queue. no_queue kind pair state asks lines is (sym is.records.kind ∙ (sym (after_entries-kind_of s round.entries) ∙ queue))) in
    λ i. none i ++ stage_over (spare_place (header_for s) (side i) (rounds_of s (side i))) (known_of engine (side i)).spare lines

pub commits_of : (kind : Kind) (pair : PairView) (state : State) (asked asks : List Ask) (lines : List Line) → IsRound kind pair state asks lines → committed_ops (comb_view pair state asked) (round_for pair state asks) ≡ commit_ops 0 (round_of_side pair 0 + 1)
commits_of kind pair state asked asks lines is =
    let s = standing_of pair state in
    let side = side_zero kind pair state asks lines is in
    λ i. commit_ops (side i) (rounds_of s (side i) + 1)

-- What it comes to

-- a pair whose first side has this record in use, which is its next one
pub record HasMoved (lines : List Line) (old new : PairView) : Type 0 where
  pub head : new.head ≡ old.head
  pub round : round_of_side new 0 ≡ round_of_side old 0 + 1
  pub lines_are : lines_of new 0 ≡ lines
  pub second : new.second.lines ≡ old.second.lines

pub standing_moved : (kind : Kind) (old new : PairView) (state : State) (asks : List Ask) (lines : List Line) → IsRound kind old state asks lines → HasMoved lines old new → standing_of new (state_from state asks) ≡ after_round (standing_of old state) (round_for old state asks)
standing_moved kind old new state asks lines is moved =
    λ i. record { kind = (head i).kind; clients = (head i).clients; size = (head i).size; rounds = rounds i; state = state_is i; kept = kept i }
  where
    s : Standing
    s = standing_of old state

    round : Round
    round = round_for old state asks

    side : side_asked asks ≡ 0
    side = side_zero kind old state asks lines is

    after_is : AreRecords (with_record (lines_of old) round.side lines) (after_round s round)
    after_is = next_records (lines_of old) s round lines is.records is.next

    head : new.head ≡ header_for (after_round s round)
    head = moved.head ∙ sym (next_header s round)

    rounds : round_of_side new 0 ∷ [] ≡ (after_round s round).rounds
    rounds = ap (λ (n : ℕ). n ∷ []) moved.round ∙ sym (next_round_list s round ∙ ap (λ (n : ℕ). set s.rounds n (rounds_of s n + 1)) side)

    state_is : state_from state asks ≡ (after_round s round).state
    state_is = sym (state_after_entries s asks)

    not_queue : (after_round s round).kind ≢ Queue
    not_queue queue = no_queue kind old state asks lines is (ap (λ (h : Header). h.kind) (sym (next_header s round)) ∙ queue)

    kept : listed new.head.clients (kept_in_slots (lines_of new 0)) ≡ (after_round s round).kept
    kept =
        ext_get_or [] (listed new.head.clients (kept_in_slots (lines_of new 0))) (after_round s round).kept (length-listed new.head.clients (kept_in_slots (lines_of new 0)) ∙ (ap (λ (h : Header). h.clients) head ∙ sym after_is.clients))
        (λ client inside.
        let below : client < new.head.clients = omega (arith, inside, length-listed new.head.clients (kept_in_slots (lines_of new 0))) in
        get_or-listed new.head.clients (kept_in_slots (lines_of new 0)) client [] below
        ∙ (ap (λ (ls : List Line). kept_in_slots ls client) (moved.lines_are ∙ sym (with_here (lines_of old) round.side lines 0 (sym side)))
        ∙ (sym (list_of_one (after_round s round).kind (with_record (lines_of old) round.side lines) client not_queue) ∙ sym (after_is.kept client (omega (arith, below, ap (λ (h : Header). h.clients) head))))))

pub records_moved : (kind : Kind) (old new : PairView) (state : State) (asks : List Ask) (lines : List Line) → IsRound kind old state asks lines → HasMoved lines old new → AreRecords (lines_of new) (standing_of new (state_from state asks))
records_moved kind old new state asks lines is moved =
    subst (AreRecords (lines_of new)) (sym (standing_moved kind old new state asks lines is moved))
    (subst (λ (records : ℕ → List Line). AreRecords records (after_round s round)) (λ i. λ x. same x i) (next_records (lines_of old) s round lines is.records is.next))
  where
    s : Standing
    s = standing_of old state

    round : Round
    round = round_for old state asks

    side : side_asked asks ≡ 0
    side = side_zero kind old state asks lines is

    same : (x : ℕ) → with_record (lines_of old) round.side lines x ≡ lines_of new x
    same zero = with_here (lines_of old) round.side lines 0 (sym side) ∙ sym moved.lines_are
    same (suc x) = ap (λ (n : ℕ). with_record (lines_of old) n lines (suc x)) side ∙ (with_other (lines_of old) 0 lines (suc x) (λ e. absurd (omega (arith, e))) ∙ sym moved.second)
