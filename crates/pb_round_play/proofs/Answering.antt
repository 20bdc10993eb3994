-- The requests of a queue's round, answered one after the other.
use Rattle.std.proofs.Common.{◌≡◌, ℕ, zero, suc, ◌+◌, ◌-◌, ◌<◌, ◌==◌, List, [], length, take, get_or, refl, sym, ap, subst, ◌∙◌, arith, eqb}
use Rattle.std.specs.Prelude.{if◌then◌else◌, slice_set}
use Rattle.std.proofs.lemmas.Bool.{eq-eqb, ne_eqb, cond-true, cond-false}
use Rattle.std.proofs.lemmas.List.{length-set, get_or-set_same, get_or-set_other}
use Rattle.pb_pmem.specs.declared.line.Line.{Line}
use Rattle.pb_pmem.specs.declared.log.LogOp.{LogOp}
use Rattle.pb_pmem.specs.Lines.{zero_line}
use Rattle.pb_object.specs.declared.request.Ask.{Ask}
use Rattle.pb_object.specs.declared.request.Reply.{Reply}
use Rattle.pb_object.specs.History.{Entry}
use Rattle.pb_object.specs.Object.{State, Waits, next_state, reply_of}
use Rattle.pb_object.specs.Queue.{Waiting, tail_of, queue_reply, next_waiting}
use Rattle.pb_layout.specs.declared.header.Header.{Header}
use Rattle.pb_layout.specs.Record.{count_line_of}
use Rattle.pb_layout.specs.Slots.{PutsInFront}
use Rattle.pb_engine.specs.Asks.{AskersRise, answered_by, answered_from, state_from}
use Rattle.pb_engine.specs.Next.{PutsEntries}
use Rattle.pb_engine.proofs.Entries.{puts_none, puts_more}
use Rattle.pb_engine.proofs.Served.{answered_from-none, state_from-none}
use Rattle.pb_queue.proofs.AnsweredRequests.{earlier_apart, answered_next, state_next}
use Rattle.pb_queue.specs.Serving.{count_of}
use Rattle.pb_round_play.specs.declared.queue.Ends.{Ends}
use Rattle.pb_round_play.specs.declared.seat.Seat.{Seat}
use Rattle.pb_round_play.specs.Rounds.{with_row}
use Rattle.pb_round_play.specs.Serving.{HoldsQueue, IsServing, HasAnswered, HasServedQueue}
use Rattle.pb_round_play.proofs.Queues.{serving_none}
use Rattle.pb_round_play.proofs.Rows.{rows_none, rows_more}

pub answered_none : (head : Header) (lines before : List Line) (side : ℕ) (start : Waiting) (plan : List LogOp) (next : List Line) (seats : List Seat) (ends : Ends) → HoldsQueue head lines ends start → HasAnswered head lines before side start [] plan next seats ends plan next seats
answered_none head lines before side start plan next seats ends holds = record {
  queue = start;
  serving = serving_none head lines side start ends plan holds;
  state = sym (state_from-none (Waits head.size start));
  puts = subst (λ (es : List Entry). PutsEntries before es next next) (sym (answered_from-none (Waits head.size start))) (puts_none before next);
  rows_are = rows_none (Waits head.size start) seats;
}

-- a request was applied, and its reply put
pub record Answers (head : Header) (lines before : List Line) (side : ℕ) (start : Waiting) (ask : Ask) (first : List LogOp) (ends last : Ends) (plan planned : List LogOp) (old new : List Line) (seats rows : List Seat) (answer : Reply) : Type 0 where
  pub applied : (queue : Waiting) → IsServing head lines side start first ends plan queue → (answer ≡ queue_reply head.size queue ask.op) × IsServing head lines side start first last planned (next_waiting head.size queue ask.op)
  pub slots : PutsInFront before ask.client (record { number = ask.number; op = ask.op; reply = answer }) old new
  pub long : length new ≡ length old
  pub row : rows ≡ with_row (record { client = ask.client; number = ask.number; op = ask.op; reply = answer }) seats

pub answered_more : {head : Header} {lines before : List Line} {side : ℕ} {start : Waiting} (asks : List Ask) (i : ℕ) (d : Ask) {first plan planned : List LogOp} {begun old new : List Line} {begin seats rows : List Seat} {ends last : Ends} {answer : Reply} → i < length asks → AskersRise asks
    → HasAnswered head lines before side start (take i asks) first begun begin ends plan old seats
    → Answers head lines before side start (get_or asks i d) first ends last plan planned old new seats rows answer
    → HasAnswered head lines before side start (take (i + 1) asks) first begun begin last planned new rows
answered_more {head} {lines} {before} {side} {start} asks i d {first} {plan} {planned} {begun} {old} {new} {begin} {seats} {rows} {ends} {last} {answer} inside rise have step = record {
  queue = next_waiting head.size have.queue ask.op;
  serving = did.1;
  state = ap (λ (st : State). next_state st ask.op) have.state ∙ sym (state_next state asks i d inside);
  puts = subst (λ (es : List Entry). PutsEntries before es begun new) (sym (answered_next state asks i d inside))
      (puts_more before (answered_from state (take i asks)) (answered_by (state_from state (take i asks)) ask) begun old new have.puts (earlier_apart state asks i d rise inside)
      (subst (λ (r : Reply). PutsInFront before ask.client (record { number = ask.number; op = ask.op; reply = r }) old new) reply_is step.slots) step.long);
  rows_are = rows_more state (Waits head.size have.queue) asks i d answer begin seats rows inside have.state did.0 have.rows_are step.row;
}
  where
    ask : Ask
    ask = get_or asks i d

    state : State
    state = Waits head.size start

    did : (answer ≡ queue_reply head.size have.queue ask.op) × IsServing head lines side start first last planned (next_waiting head.size have.queue ask.op)
    did = step.applied have.queue have.serving

    reply_is : answer ≡ reply_of (state_from state (take i asks)) ask.op
    reply_is = did.0 ∙ ap (λ (st : State). reply_of st ask.op) have.state

-- The side's count

count_is : (side : ℕ) (queue : Waiting) (ends : Ends) → queue.taken ≡ ends.head → tail_of queue ≡ ends.tail → (if side == 0 then ends.tail else ends.head) ≡ count_of side queue
count_is zero queue ends taken tail = cond-true (eqb 0 0) ends.tail ends.head (eq-eqb 0 0 refl) ∙ sym tail
count_is (suc side) queue ends taken tail = cond-false (eqb (suc side) 0) ends.tail ends.head (ne_eqb (suc side) 0 (λ e. omega (arith, e))) ∙ sym taken

pub counted : {head : Header} {lines before : List Line} {side : ℕ} {start : Waiting} {asks : List Ask} {first plan : List LogOp} {begun new : List Line} {begin seats : List Seat} {ends : Ends} (count : ℕ) (line : Line) → 0 < length new → count ≡ (if side == 0 then ends.tail else ends.head) → line ≡ count_line_of count
    → HasAnswered head lines before side start asks first begun begin ends plan new seats
    → HasServedQueue head before side start asks begun (slice_set new (length new - 1) line) begin seats first plan
counted {head} {lines} {before} {side} {start} {asks} {first} {plan} {begun} {new} {begin} {seats} {ends} count line some count_of_side is have = record {
  queue = have.queue;
  state = have.state;
  bounded = have.serving.bounded;
  moves = have.serving.moves;
  later = have.serving.later;
  between = new;
  puts = have.puts;
  keeps = record { long = length-set new (length new - 1) line; same = λ other below. get_or-set_other new (length new - 1) other line zero_line (λ e. omega (arith, e, below)) };
  counts = get_or-set_same new (length new - 1) line zero_line (omega (arith, some)) ∙ (is ∙ ap count_line_of (count_of_side ∙ count_is side have.queue ends have.serving.taken have.serving.tail));
  rows_are = have.rows_are;
  planned = have.serving.planned;
}
