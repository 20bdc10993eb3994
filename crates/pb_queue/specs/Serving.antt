-- Applying the requests of a round, and the record that it stores.
use Rattle.std.specs.Prelude.{◌≡◌, ◌≢◌, ℕ, zero, suc, ◌+◌, ◌*◌, ◌<◌, List, length, All}
use Rattle.pb_pmem.specs.declared.line.Line.{Line}
use Rattle.pb_object.specs.declared.limits.TheConstants.{MOST_CLIENTS}
use Rattle.pb_object.specs.declared.request.Ask.{Ask}
use Rattle.pb_object.specs.declared.request.TheConstants.{KEPT_REQUESTS}
use Rattle.pb_object.specs.History.{IsOfSide}
use Rattle.pb_object.specs.Object.{Waits}
use Rattle.pb_object.specs.Queue.{Waiting, tail_of}
use Rattle.pb_engine.specs.Asks.{AskersRise, state_from}
use Rattle.pb_queue.specs.Items.{ItemsView}

-- a request of a side, of a client whose slots a record has
pub record IsServable (side : ℕ) (lines : List Line) (ask : Ask) : Type 0 where
  pub of_side : IsOfSide side ask.op
  pub client : ask.client < MOST_CLIENTS
  pub room : KEPT_REQUESTS * ask.client + KEPT_REQUESTS < length lines

-- so are all of these, whose clients rise
pub record AreServable (side : ℕ) (lines : List Line) (asks : List Ask) : Type 0 where
  pub each : All (IsServable side lines) asks
  pub rising : AskersRise asks

-- puts leave what was taken, and takes leave what was put
pub record MovesSide (side : ℕ) (old new : Waiting) : Type 0 where
  pub puts : side ≡ 0 → new.taken ≡ old.taken
  pub takes : side ≢ 0 → tail_of new ≡ tail_of old

-- requests of a side were applied to what waits for sure, which is as it was
pub record HasServed (side : ℕ) (asks : List Ask) (old new : ItemsView) : Type 0 where
  pub size : new.size ≡ old.size
  pub sure : new.sure ≡ old.sure
  pub state : Waits new.size new.next ≡ state_from (Waits old.size old.sure) asks
  pub moves : MovesSide side old.sure new.next

-- the count that a side's record has: of the items that were put, or of those that were taken
abbrev pub count_of : ℕ → Waiting → ℕ
count_of zero queue = tail_of queue
count_of (suc side) queue = queue.taken
