-- The record of a round that was prepared is what the round makes of the record in use.
use Rattle.std.proofs.Common.{◌≡◌, ℕ, zero, suc, ◌+◌, ◌-◌, ◌*◌, ◌<◌, ◌≤◌, List, [], ◌∷◌, ◌++◌, length, refl, sym, ap, ◌∙◌, subst, arith}
use Rattle.std.specs.List.{All}
use Rattle.pb_pmem.specs.declared.line.Line.{Line}
use Rattle.pb_pmem.specs.Lines.{line_at}
use Rattle.pb_object.specs.declared.kind.Kind.TheVariants.{Queue}
use Rattle.pb_object.specs.declared.request.Ask.{Ask}
use Rattle.pb_object.specs.declared.request.TheConstants.{KEPT_REQUESTS}
use Rattle.pb_object.specs.History.{Entry, after_round}
use Rattle.pb_object.specs.ItemLines.{HasOneWord}
use Rattle.pb_object.specs.Object.{Waits}
use Rattle.pb_object.specs.ObjectLines.{IsAllowedLine, LinesRepresent}
use Rattle.pb_object.specs.Queue.{Waiting, tail_of}
use Rattle.pb_object.specs.Standing.{Standing, rounds_of, side_count}
use Rattle.pb_layout.specs.Header.{record_length, slot_count, word}
use Rattle.pb_layout.specs.NextRecord.{HasEntryInFront, IsOfOther, IsNextOf}
use Rattle.pb_layout.specs.Record.{count_line_of}
use Rattle.pb_layout.specs.Represents.{header_for, object_parts, object_parts_by, with_record, AreRecords}
use Rattle.pb_layout.specs.declared.header.Header.{Header}
use Rattle.pb_layout_laws.proofs.Rounds.{next_side}
use Rattle.pb_pair.specs.View.{PairView, IsPair, round_of_side, lines_of}
use Rattle.pb_engine.specs.Asks.{MayBeServed, side_asked, answered_from, state_from, asked_round}
use Rattle.pb_engine.specs.Next.{IsBegun, PutsEntries, KeepsBefore}
use Rattle.pb_engine.proofs.Served.{state_after_entries, served_is_legal}
use Rattle.pb_queue.specs.Items.{ItemsView, IsBounded}
use Rattle.pb_queue.specs.Serving.{AreServable, HasServed, MovesSide, count_of}
use Rattle.pb_queue.specs.Standing.{standing_of}
use Rattle.pb_queue.proofs.QueueRecords.{last_line, record_long}
use Rattle.pb_queue.proofs.AnsweredRequests.{clients_of_answers, entries_before, others_before}

-- The requests of a round

pub side_there : (s : Standing) (asks : List Ask) → MayBeServed s asks → side_asked asks < side_count s.kind
side_there s asks may = next_side s (asked_round s asks) (served_is_legal s asks may)

-- so many lines have slots for their clients
pub servable : (s : Standing) (asks : List Ask) (lines : List Line) → MayBeServed s asks → s.clients ≤ 16 → length lines ≡ 1 + 8 * s.clients + 1 → AreServable (side_asked asks) lines asks
servable s asks lines may few long = record {
  each = λ k d inside. let is = may.next k d inside in record { of_side = is.of_side; client = omega (arith, is.client, few); room = omega (arith, is.client, long) };
  rising = may.rising;
}

-- the rounds of a queue's pair
pub rounds_are : (pair : PairView) (queue : Waiting) (side : ℕ) → side < 2 → round_of_side pair side ≡ rounds_of (standing_of pair queue) side
rounds_are pair queue zero below = refl
rounds_are pair queue (suc zero) below = refl
rounds_are pair queue (suc (suc side)) below = absurd (omega arith)

-- The counts of a queue

-- the last lines of two records
pub two_lines : (head : Header) (records : ℕ → List Line) → length (records 0) ≡ 1 + slot_count head + 1 → length (records 1) ≡ 1 + slot_count head + 1 → object_parts_by Queue head records ≡ line_at (records 0) (1 + slot_count head) ∷ line_at (records 1) (1 + slot_count head) ∷ []
two_lines head records first_long second_long =
    let first = last_line (records 0) (1 + slot_count head) first_long in
    let second = last_line (records 1) (1 + slot_count head) second_long in
    λ i. first i ++ second i

-- two lines count a queue's items
pub record CountQueue (queue : Waiting) (first second : Line) : Type 0 where
  pub tail : word first 0 ≡ tail_of queue
  pub taken : word second 0 ≡ queue.taken
  pub tail_alone : HasOneWord first
  pub taken_alone : HasOneWord second

one_word : (count : ℕ) → HasOneWord (count_line_of count)
one_word count zero some below = absurd (omega arith)
one_word count (suc zero) some below = refl
one_word count (suc (suc zero)) some below = refl
one_word count (suc (suc (suc zero))) some below = refl
one_word count (suc (suc (suc (suc zero)))) some below = refl
one_word count (suc (suc (suc (suc (suc zero))))) some below = refl
one_word count (suc (suc (suc (suc (suc (suc zero)))))) some below = refl
one_word count (suc (suc (suc (suc (suc (suc (suc zero))))))) some below = refl
one_word count (suc (suc (suc (suc (suc (suc (suc (suc word)))))))) some below = absurd (omega arith)

pub count_alone : (line : Line) (count : ℕ) → line ≡ count_line_of count → HasOneWord line
count_alone line count is = subst HasOneWord (sym is) (one_word count)

-- such lines represent it
pub counts_stand : (size : ℕ) (queue : Waiting) (first second : Line) → CountQueue queue first second → IsBounded size queue → LinesRepresent (first ∷ second ∷ []) (Waits size queue)
counts_stand size queue first second are bounded = record { count = refl; allowed = allowed; hold = (sym are.tail, sym are.taken) }
  where
    allowed : (line : ℕ) → line < 2 → IsAllowedLine Queue size (first ∷ second ∷ []) line
    allowed zero below = record { last = omega (arith, are.tail, bounded.last); rest = are.tail_alone; head = λ e. absurd (omega (arith, e)); waiting = λ e. absurd (omega (arith, e)) }
    allowed (suc zero) below = record {
      last = omega (arith, are.taken, bounded.last);
      rest = are.taken_alone;
      head = λ e. omega (arith, are.tail, are.taken);
      waiting = λ e. omega (arith, are.tail, are.taken, bounded.room);
    }
    allowed (suc (suc line)) below = absurd (omega arith)

-- and such are the lines that represent it
pub stand_counts : (size : ℕ) (queue : Waiting) (first second : Line) → LinesRepresent (first ∷ second ∷ []) (Waits size queue) → CountQueue queue first second
stand_counts size queue first second stand = record {
  tail = sym stand.hold.0;
  taken = sym stand.hold.1;
  tail_alone = (stand.allowed 0 (omega arith)).rest;
  taken_alone = (stand.allowed 1 (omega arith)).rest;
}

-- a side's count moves on, the other one's stays
counts_with : (side : ℕ) (old new : Waiting) (records : ℕ → List Line) (lines : List Line) (last : ℕ) → side < 2 → MovesSide side old new → CountQueue old (line_at (records 0) last) (line_at (records 1) last) → line_at lines last ≡ count_line_of (count_of side new) → CountQueue new (line_at (with_record records side lines 0) last) (line_at (with_record records side lines 1) last)
counts_with zero old new records lines last below moves are is = record {
  tail = ap (λ (l : Line). word l 0) is;
  taken = are.taken ∙ sym (moves.puts refl);
  tail_alone = count_alone (line_at lines last) (tail_of new) is;
  taken_alone = are.taken_alone;
}
counts_with (suc zero) old new records lines last below moves are is = record {
  tail = are.tail ∙ sym (moves.takes (λ e. absurd (omega (arith, e))));
  taken = ap (λ (l : Line). word l 0) is;
  tail_alone = are.tail_alone;
  taken_alone = count_alone (line_at lines last) new.taken is;
}
counts_with (suc (suc side)) old new records lines last below moves are is = absurd (omega arith)

pub with_long : (side long : ℕ) (records : ℕ → List Line) (lines : List Line) (x : ℕ) → side < 2 → x < 2 → length (records 0) ≡ long → length (records 1) ≡ long → length lines ≡ long → length (with_record records side lines x) ≡ long
with_long zero long records lines zero below inside first second own = own
with_long zero long records lines (suc zero) below inside first second own = second
with_long (suc zero) long records lines zero below inside first second own = first
with_long (suc zero) long records lines (suc zero) below inside first second own = own
with_long (suc (suc side)) long records lines x below inside first second own = absurd (omega arith)
with_long side long records lines (suc (suc x)) below inside first second own = absurd (omega arith)

-- so the object lines of the records represent what waits after a round of a side
pub with_record_stands : (head : Header) (side : ℕ) (old new : Waiting) (records : ℕ → List Line) (lines : List Line) → side < 2 → length (records 0) ≡ 1 + slot_count head + 1 → length (records 1) ≡ 1 + slot_count head + 1 → length lines ≡ 1 + slot_count head + 1 → LinesRepresent (object_parts_by Queue head records) (Waits head.size old) → MovesSide side old new → IsBounded head.size new → line_at lines (1 + slot_count head) ≡ count_line_of (count_of side new) → LinesRepresent (object_parts_by Queue head (with_record records side lines)) (Waits head.size new)
with_record_stands head side old new records lines below first_long second_long long stand moves bounded is =
    let last = 1 + slot_count head in
    let after = with_record records side lines in
    let before_counts = stand_counts head.size old (line_at (records 0) last) (line_at (records 1) last) (subst (λ (ls : List Line). LinesRepresent ls (Waits head.size old)) (two_lines head records first_long second_long) stand) in
    let are = two_lines head after (with_long side (last + 1) records lines 0 below (omega arith) first_long second_long long) (with_long side (last + 1) records lines 1 below (omega arith) first_long second_long long) in
    subst (λ (ls : List Line). LinesRepresent ls (Waits head.size new)) (sym are)
    (counts_stand head.size new (line_at (after 0) last) (line_at (after 1) last) (counts_with side old new records lines last below moves before_counts is) bounded)

-- The record

-- what preparing a round wrote: the record in use with the next round number, the entries, and the side's count
pub record HasPrepared (before : List Line) (round : ℕ) (entries : List Entry) (count : ℕ) (begun served final : List Line) : Type 0 where
  pub begins : IsBegun before round begun
  pub puts : PutsEntries before entries begun served
  pub keeps : KeepsBefore (length served - 1) served final
  pub counts : line_at final (length served - 1) ≡ count_line_of count

-- a queue's pair whose records in use say what waits in it, and requests that may be served
pub record MayPrepare (pair : PairView) (old : ItemsView) (asks : List Ask) : Type 0 where
  pub sound : IsPair pair
  pub queue : pair.head.kind ≡ Queue
  pub records : AreRecords (lines_of pair) (standing_of pair old.sure)
  pub size : old.size ≡ pair.head.size
  pub may : MayBeServed (standing_of pair old.sure) asks

pub prepared_is_next : (pair : PairView) (old new : ItemsView) (asks : List Ask) (begun served final : List Line) → MayPrepare pair old asks → HasServed (side_asked asks) asks old new → IsBounded new.size new.next → HasPrepared (lines_of pair (side_asked asks)) (round_of_side pair (side_asked asks) + 1) (answered_from (Waits old.size old.sure) asks) (count_of (side_asked asks) new.next) begun served final → IsNextOf (lines_of pair) (standing_of pair old.sure) (asked_round (standing_of pair old.sure) asks) final
prepared_is_next pair old new asks begun served final is has bounded made = record {
  legal = served_is_legal s asks is.may;
  long = final_long ∙ sym record_is;
  carries = made.keeps.same 0 (omega (arith, served_long)) ∙ (made.puts.first ∙ (made.begins.carries ∙ ap (λ (n : ℕ). count_line_of (n + 1)) (rounds_are pair old.sure side here)));
  entries = entries_before (length served - 1) (lines_of pair side) served final entries made.keeps room each;
  others = λ client slot inside few apart.
      others_before (length served - 1) served final client slot made.keeps (omega (arith, served_long, inside)) few
      ∙ (made.puts.others client slot few (subst (All (IsOfOther client)) (sym entries_are) apart) ∙ made.begins.others (1 + (KEPT_REQUESTS * client + slot)) (omega arith));
  state = subst (LinesRepresent (object_parts (header_for s) (with_record (lines_of pair) side final))) (sym after_is)
      (with_record_stands (header_for s) side old.sure new.next (lines_of pair) final here (record_long pair 0 is.queue is.sound (omega arith)) (record_long pair 1 is.queue is.sound (omega arith)) final_long is.records.state has.moves (subst (λ (n : ℕ). IsBounded n new.next) size_is bounded) last_is);
}
  where
    size_is : new.size ≡ pair.head.size
    size_is = has.size ∙ is.size

    s : Standing
    s = standing_of pair old.sure

    side : ℕ
    side = side_asked asks

    here : side < 2
    here = side_there s asks is.may

    entries : List Entry
    entries = answered_from s.state asks

    entries_are : answered_from (Waits old.size old.sure) asks ≡ entries
    entries_are = ap (λ (n : ℕ). answered_from (Waits n old.sure) asks) is.size

    after_is : (after_round s (asked_round s asks)).state ≡ Waits pair.head.size new.next
    after_is =
        state_after_entries s asks
        ∙ (ap (λ (n : ℕ). state_from (Waits n old.sure) asks) (sym is.size) ∙ (sym has.state ∙ ap (λ (n : ℕ). Waits n new.next) size_is))

    before_long : length (lines_of pair side) ≡ 1 + slot_count pair.head + 1
    before_long = record_long pair side is.queue is.sound here

    record_is : record_length (header_for s) ≡ 1 + slot_count pair.head + 1
    record_is = refl

    served_long : length served ≡ 1 + slot_count pair.head + 1
    served_long = made.puts.long ∙ (made.begins.long ∙ before_long)

    final_long : length final ≡ 1 + slot_count pair.head + 1
    final_long = made.keeps.long ∙ served_long

    each : All (HasEntryInFront (lines_of pair side) served) entries
    each = subst (All (HasEntryInFront (lines_of pair side) served)) entries_are made.puts.each

    room : All (λ (entry : Entry). 8 * entry.client + 8 < length served - 1) entries
    room = clients_of_answers (λ client. 8 * client + 8 < length served - 1) s.state asks (λ k d inside. omega (arith, (is.may.next k d inside).client, served_long))

    last_is : line_at final (1 + slot_count pair.head) ≡ count_line_of (count_of side new.next)
    last_is = let at : 1 + slot_count pair.head ≡ length served - 1 = omega (arith, served_long) in ap (line_at final) at ∙ made.counts
