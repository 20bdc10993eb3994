-- What waits in a queue while the requests of a side are applied.
use Rattle.std.proofs.Common.{◌≡◌, ℕ, ◌+◌, ◌<◌, Bool, true, false, cond, Option, Some, None, IsSomeAnd, List, [], ◌∷◌, length, take, get_or, refl, sym, ap, ◌∙◌, subst, arith}
use Rattle.pb_pmem.specs.declared.line.Line.{Line}
use Rattle.pb_object.specs.declared.codes.Action.{Action}
use Rattle.pb_object.specs.declared.codes.Action.TheVariants.{Get, Put, Cas, Push, Pop, Top, Insert, RemoveMin, Min, QueuePut, QueueTake}
use Rattle.pb_object.specs.declared.request.Ask.{Ask}
use Rattle.pb_object.specs.declared.request.Op.{Op}
use Rattle.pb_object.specs.declared.request.Reply.{Reply}
use Rattle.pb_object.specs.Codes.{action_of, action_side}
use Rattle.pb_object.specs.History.{Entry, IsOfSide}
use Rattle.pb_object.specs.Object.{State, Waits, next_state, reply_of}
use Rattle.pb_object.specs.Queue.{Waiting, tail_of, after_take, after_put, queue_reply, next_waiting_by, next_waiting}
use Rattle.pb_layout.specs.Slots.{PutsInFront}
use Rattle.pb_engine.specs.Asks.{AskersRise, answered_by, answered_from, state_from}
use Rattle.pb_engine.specs.Next.{PutsEntries}
use Rattle.pb_engine.proofs.Served.{state_from-none}
use Rattle.pb_queue.specs.Items.{ItemsView, with_item}
use Rattle.pb_queue.specs.Serving.{MovesSide, HasServed}
use Rattle.pb_engine.proofs.Entries.{puts_more}
use Rattle.pb_queue.proofs.AnsweredRequests.{earlier_apart, answered_next, state_next}

moves_none : (side : ℕ) (queue : Waiting) → MovesSide side queue queue
moves_none side queue = record { puts = λ e. refl; takes = λ e. refl }

tail_after_take : (taken : ℕ) (items : List ℕ) → tail_of (after_take taken items) ≡ taken + length items
tail_after_take taken [] = refl
tail_after_take taken (item ∷ items) = omega arith

taken_by : (test : Bool) (a b queue : Waiting) → a.taken ≡ queue.taken → b.taken ≡ queue.taken → (cond test a b).taken ≡ queue.taken
taken_by true a b queue left right = left
taken_by false a b queue left right = right

taken_after_put : (size : ℕ) (queue : Waiting) (item : ℕ) → (after_put size queue item).taken ≡ queue.taken
taken_after_put size queue item = taken_by _ _ queue queue (taken_by _ (with_item queue item) queue queue refl refl) refl

-- an operation of a side moves that side alone
moves_by : (action : Option Action) (side size : ℕ) (queue : Waiting) (op : Op) → IsSomeAnd action (λ a. action_side a ≡ side) → MovesSide side queue (next_waiting_by action size queue op)
moves_by None side size queue op is = absurd is
moves_by (Some QueuePut) side size queue op is = record { puts = λ e. taken_after_put size queue op.a; takes = λ other. absurd (other (sym is)) }
moves_by (Some QueueTake) side size queue op is = record { puts = λ e. absurd (omega (arith, is, e)); takes = λ other. tail_after_take queue.taken queue.items }
moves_by (Some Get) side size queue op is = moves_none side queue
moves_by (Some Put) side size queue op is = moves_none side queue
moves_by (Some Cas) side size queue op is = moves_none side queue
moves_by (Some Push) side size queue op is = moves_none side queue
moves_by (Some Pop) side size queue op is = moves_none side queue
moves_by (Some Top) side size queue op is = moves_none side queue
moves_by (Some Insert) side size queue op is = moves_none side queue
moves_by (Some RemoveMin) side size queue op is = moves_none side queue
moves_by (Some Min) side size queue op is = moves_none side queue

moves_more : (side : ℕ) (a b c : Waiting) → MovesSide side a b → MovesSide side b c → MovesSide side a c
moves_more side a b c first second = record { puts = λ e. second.puts e ∙ first.puts e; takes = λ other. second.takes other ∙ first.takes other }

-- nothing was applied yet
pub none_served : (side : ℕ) (items : ItemsView) → items.next ≡ items.sure → HasServed side [] items items
none_served side items none = record {
  size = refl;
  sure = refl;
  state = ap (Waits items.size) none ∙ sym (state_from-none (Waits items.size items.sure));
  moves = subst (MovesSide side items.sure) (sym none) (moves_none side items.sure);
}

-- one more request
pub more_served : (side : ℕ) (asks : List Ask) (i : ℕ) (d : Ask) (start old new : ItemsView) → HasServed side (take i asks) start old → i < length asks → IsOfSide side (get_or asks i d).op → new ≡ record old { next = next_waiting old.size old.next (get_or asks i d).op } → HasServed side (take (i + 1) asks) start new
more_served side asks i d start old new have inside of_side applied =
    subst (HasServed side (take (i + 1) asks) start) (sym applied) (record {
      size = have.size;
      sure = have.sure;
      state = ap (λ (st : State). next_state st (get_or asks i d).op) have.state ∙ sym (state_next (Waits start.size start.sure) asks i d inside);
      moves = moves_more side start.sure old.next (next_waiting old.size old.next (get_or asks i d).op) have.moves (moves_by (action_of (get_or asks i d).op.code) side old.size old.next (get_or asks i d).op of_side);
    })

-- and its entry
pub more_entries : (side : ℕ) (asks : List Ask) (i : ℕ) (d : Ask) (before begun lines new : List Line) (start old : ItemsView) (answer : Reply) → HasServed side (take i asks) start old → PutsEntries before (answered_from (Waits start.size start.sure) (take i asks)) begun lines → AskersRise asks → i < length asks → answer ≡ queue_reply old.size old.next (get_or asks i d).op → PutsInFront before (get_or asks i d).client (record { number = (get_or asks i d).number; op = (get_or asks i d).op; reply = answer }) lines new → length new ≡ length lines → PutsEntries before (answered_from (Waits start.size start.sure) (take (i + 1) asks)) begun new
more_entries side asks i d before begun lines new start old answer have entries rise inside answered puts long =
    let ask = get_or asks i d in
    let state = Waits start.size start.sure in
    let reply_is : answer ≡ reply_of (state_from state (take i asks)) ask.op = answered ∙ ap (λ (st : State). reply_of st ask.op) have.state in
    subst (λ (es : List Entry). PutsEntries before es begun new) (sym (answered_next state asks i d inside))
    (puts_more before (answered_from state (take i asks)) (answered_by (state_from state (take i asks)) ask) begun lines new entries (earlier_apart state asks i d rise inside)
    (subst (λ (r : Reply). PutsInFront before ask.client (record { number = ask.number; op = ask.op; reply = r }) lines new) reply_is puts) long)
