-- What the record in use of a pair with one side says, and what a round makes of it.
use Rattle.std.proofs.Common.{◌≡◌, ◌≢◌, ℕ, zero, suc, ◌+◌, ◌*◌, ◌<◌, List, [], ◌∷◌, drop, refl, sym, ap, subst, ◌∙◌, arith}
use Rattle.std.specs.List.{All}
use Rattle.std.proofs.lemmas.List.Elements.{All-nil, All-head, All-tail, All-cons}
use Rattle.pb_pmem.specs.declared.line.Line.{Line}
use Rattle.pb_pmem.specs.declared.log.LogOp.{LogOp}
use Rattle.pb_object.specs.declared.kind.Kind.{Kind}
use Rattle.pb_object.specs.declared.kind.Kind.TheVariants.{Map, Stack, Heap, Queue}
use Rattle.pb_object.specs.declared.request.Ask.{Ask}
use Rattle.pb_object.specs.declared.request.Op.{Op}
use Rattle.pb_object.specs.declared.request.TheConstants.{KEPT_REQUESTS}
use Rattle.pb_object.specs.History.{Entry, Round, after_round, IsOfSide, IsLegalRound}
use Rattle.pb_object.specs.Object.{State, Registers, Items, Rising, Waits}
use Rattle.pb_object.specs.ObjectLines.{kind_of, LinesRepresent}
use Rattle.pb_object.specs.Request.{IsOperation}
use Rattle.pb_object.specs.Standing.{Standing, side_count, rounds_of, kept_list_of}
use Rattle.pb_layout.specs.declared.header.Header.{Header}
use Rattle.pb_layout.specs.Header.{slot_count}
use Rattle.pb_layout.specs.NextRecord.{HasEntryInFront, IsNextOf, next_position, AddedCellsRepresent, AreBacked}
use Rattle.pb_layout.specs.Record.{count_line_of, slot_line_at, kept_in_slots}
use Rattle.pb_layout.specs.Represents.{header_for, object_part, object_parts, object_parts_by, kept_list_by, with_record}
use Rattle.pb_layout.proofs.OneRecovery.{get_or-listed}
use Rattle.pb_layout_laws.proofs.Rounds.{operation_side}
use Rattle.pb_pair.specs.Safe.{IsPairOf}
use Rattle.pb_pair.specs.View.{SideView, PairView, IsPair, round_of_side, lines_of}
use Rattle.pb_engine.specs.Asks.{MayBeServed, IsNextAsk, side_asked, answered_from, state_from, asked_round}
use Rattle.pb_engine.specs.Next.{IsBegun, PutsEntries, KeepsBefore}
use Rattle.pb_engine.specs.Operations.{cell_ops}
use Rattle.pb_engine.proofs.Served.{served_is_legal, state_after_entries}
use Rattle.pb_comb.specs.View.{standing_of}
use Rattle.pb_comb.specs.OneSide.{one_of_kind}

-- Kinds with one side

pub one_side : (kind : Kind) → kind ≢ Queue → side_count kind ≡ 1
one_side kind not_queue = sym (one_of_kind kind not_queue)

pub parts_of_one : (kind : Kind) (head : Header) (records : ℕ → List Line) → kind ≢ Queue → object_parts_by kind head records ≡ object_part head (records 0)
parts_of_one Map head records not_queue = refl
parts_of_one Stack head records not_queue = refl
parts_of_one Heap head records not_queue = refl
parts_of_one Queue head records not_queue = absurd (not_queue refl)

pub list_of_one : (kind : Kind) (records : ℕ → List Line) (client : ℕ) → kind ≢ Queue → kept_list_by kind records client ≡ kept_in_slots (records 0) client
list_of_one Map records client not_queue = refl
list_of_one Stack records client not_queue = refl
list_of_one Heap records client not_queue = refl
list_of_one Queue records client not_queue = absurd (not_queue refl)

-- an operation of such a kind is of side 0
pub side_is_first : (kind : Kind) (side : ℕ) (op : Op) → kind ≢ Queue → IsOperation kind op → IsOfSide side op → side ≡ 0
side_is_first kind side op not_queue operation of_side = omega (arith, operation_side kind side op operation of_side, one_side kind not_queue)

first_side : (s : Standing) (asks : List Ask) → s.kind ≢ Queue → asks ≢ [] → All (IsNextAsk s (side_asked asks)) asks → side_asked asks ≡ 0
first_side s [] not_queue some next = absurd (some refl)
first_side s (ask ∷ asks) not_queue some next =
    let is = All-head (IsNextAsk s (side_asked (ask ∷ asks))) ask asks next in
    side_is_first s.kind (side_asked (ask ∷ asks)) ask.op not_queue is.operation is.of_side

pub asked_side : (s : Standing) (asks : List Ask) → s.kind ≢ Queue → MayBeServed s asks → side_asked asks ≡ 0
asked_side s asks not_queue may = first_side s asks not_queue may.some may.next

-- there are no cells
pub no_cells : (base : List Line) (log : List LogOp) (s : Standing) (round : Round) (state : State) → kind_of state ≢ Queue → AddedCellsRepresent (Rattle.pb_pmem.specs.Contents.contents base log) (header_for s) (next_position s.state) state × AreBacked log (header_for s) (next_position s.state) state
no_cells base log s round (Registers registers) not_queue = (tt, tt)
no_cells base log s round (Items size items) not_queue = (tt, tt)
no_cells base log s round (Rising size items) not_queue = (tt, tt)
no_cells base log s round (Waits size queue) not_queue = absurd (not_queue refl)

pub no_cell_ops : (head : Header) (from : ℕ) (state : State) → kind_of state ≢ Queue → cell_ops head from state ≡ []
no_cell_ops head from (Registers registers) not_queue = refl
no_cell_ops head from (Items size items) not_queue = refl
no_cell_ops head from (Rising size items) not_queue = refl
no_cell_ops head from (Waits size queue) not_queue = absurd (not_queue refl)

-- The pair of a standing

second_round : (pair : PairView) → IsPair pair → pair.head.kind ≢ Queue → round_of_side pair 1 ≡ 0
second_round pair sound not_queue = ap (λ (part : SideView). part.round) (sound.one_side (one_side pair.head.kind not_queue))

pub pair_of : (pair : PairView) (state : State) → IsPair pair → pair.head.kind ≢ Queue → IsPairOf pair (standing_of pair state)
pair_of pair state sound not_queue = record { head = refl; rounds = rounds }
  where
    rounds : (side : ℕ) → side < 2 → round_of_side pair side ≡ rounds_of (standing_of pair state) side
    rounds zero below = refl
    rounds (suc zero) below = second_round pair sound not_queue
    rounds (suc (suc side)) below = absurd (omega arith)

-- what a list of lines in use is for: the kept requests of each client
pub kept_is : (pair : PairView) (state : State) (client : ℕ) → client < pair.head.clients → kept_list_of (standing_of pair state) client ≡ kept_in_slots (lines_of pair 0) client
kept_is pair state client inside = get_or-listed pair.head.clients (kept_in_slots (lines_of pair 0)) client [] inside

-- The next record

-- the round that some requests make of a standing
abbrev pub round_for : PairView → State → List Ask → Round
round_for pair state asks = asked_round (standing_of pair state) asks

-- the lines that a round wrote: the ones in use with the next number, with the entries, and then the object's
pub record AreNextLines (pair : PairView) (state : State) (asks : List Ask) (begun served lines : List Line) : Type 0 where
  pub begins : IsBegun (lines_of pair 0) (round_of_side pair 0 + 1) begun
  pub serves : PutsEntries (lines_of pair 0) (answered_from state asks) begun served
  pub keeps : KeepsBefore (1 + slot_count pair.head) served lines
  pub object : LinesRepresent (drop (1 + slot_count pair.head) lines) (state_from state asks)

slot_before : (head : Header) (client slot : ℕ) → client < head.clients → slot < KEPT_REQUESTS → 1 + (KEPT_REQUESTS * client + slot) < 1 + slot_count head
slot_before head client slot inside below = omega (arith, inside, below)

pub next_of : (pair : PairView) (state : State) (asks : List Ask) (begun served lines : List Line) → IsPair pair → pair.head.kind ≢ Queue → MayBeServed (standing_of pair state) asks → AreNextLines pair state asks begun served lines → IsNextOf (lines_of pair) (standing_of pair state) (round_for pair state asks) lines
next_of pair state asks begun served lines sound not_queue may are = record {
  legal = legal;
  long = are.keeps.long ∙ (are.serves.long ∙ (are.begins.long ∙ (sound.sides 0 (omega (arith, one_side pair.head.kind not_queue))).long));
  carries = are.keeps.same 0 (omega arith) ∙ (are.serves.first ∙ (are.begins.carries ∙ ap (λ (n : ℕ). count_line_of (n + 1)) (sym rounds)));
  entries = subst (λ (ls : List Line). All (HasEntryInFront ls lines) entries) (sym (ap (lines_of pair) side)) (each entries are.serves.each inside_all);
  others = λ client slot inside below others.
      stays client slot inside below ∙ (are.serves.others client slot below others ∙ (are.begins.others (1 + (KEPT_REQUESTS * client + slot)) (omega arith) ∙ ap (λ (n : ℕ). slot_line_at (lines_of pair n) client slot) (sym side)));
  state = subst (λ (ls : List Line). LinesRepresent ls (after_round s round).state) (sym parts) (subst (LinesRepresent (drop (1 + slot_count pair.head) lines)) (sym (state_after_entries s asks)) are.object);
}
  where
    s : Standing
    s = standing_of pair state

    round : Round
    round = round_for pair state asks

    legal : IsLegalRound s round
    legal = served_is_legal s asks may

    entries : List Entry
    entries = answered_from state asks

    side : side_asked asks ≡ 0
    side = asked_side s asks not_queue may

    rounds : rounds_of s (side_asked asks) ≡ round_of_side pair 0
    rounds = ap (rounds_of s) side

    parts : object_parts (header_for s) (with_record (lines_of pair) (side_asked asks) lines) ≡ drop (1 + slot_count pair.head) lines
    parts = ap (λ (n : ℕ). object_parts (header_for s) (with_record (lines_of pair) n lines)) side ∙ parts_of_one pair.head.kind (header_for s) (with_record (lines_of pair) 0 lines) not_queue

    stays : (client slot : ℕ) → client < s.clients → slot < KEPT_REQUESTS → slot_line_at lines client slot ≡ slot_line_at served client slot
    stays client slot inside below = are.keeps.same (1 + (KEPT_REQUESTS * client + slot)) (slot_before pair.head client slot inside below)

    Inside : Entry → Type 0
    Inside entry = entry.client < s.clients

    inside_all : All Inside entries
    inside_all = within s (side_asked asks) entries refl legal.legal
      where
        within : (t : Standing) (at : ℕ) (es : List Entry) → t.clients ≡ s.clients → Rattle.pb_object.specs.History.AreLegal t at es → All Inside es
        within t at [] same legal = All-nil Inside
        within t at (entry ∷ es) same legal = All-cons Inside entry es (omega (arith, legal.0.client, same)) (within (Rattle.pb_object.specs.History.after_entry t entry) at es same legal.1)

    each : (es : List Entry) → All (HasEntryInFront (lines_of pair 0) served) es → All Inside es → All (HasEntryInFront (lines_of pair 0) lines) es
    each [] all within = All-nil (HasEntryInFront (lines_of pair 0) lines)
    each (entry ∷ es) all within =
        let own = All-head (HasEntryInFront (lines_of pair 0) served) entry es all in
        let inside = All-head Inside entry es within in
        All-cons (HasEntryInFront (lines_of pair 0) lines) entry es
        (record {
          newest = stays entry.client 0 inside (omega arith) ∙ own.newest;
          shifted = λ slot below. stays entry.client (suc slot) inside below ∙ own.shifted slot below;
        })
        (each es (All-tail (HasEntryInFront (lines_of pair 0) served) entry es all) (All-tail Inside entry es within))
