-- Applying the requests of a round.
use Rattle.std.specs.Prelude.{◌≡◌, ◌+◌, ◌*◌, ◌<◌, List, length, All}
use Rattle.pb_pmem.specs.declared.line.Line.{Line}
use Rattle.pb_object.specs.declared.kind.Kind.{Kind}
use Rattle.pb_object.specs.declared.limits.TheConstants.{MOST_CLIENTS}
use Rattle.pb_object.specs.declared.request.Ask.{Ask}
use Rattle.pb_object.specs.declared.request.TheConstants.{KEPT_REQUESTS}
use Rattle.pb_object.specs.Request.{IsOperation}
use Rattle.pb_engine.specs.Asks.{AskersRise, answered_from, state_from}
use Rattle.pb_object.specs.Object.{State}
use Rattle.pb_engine.specs.Next.{PutsEntries}

-- a request that the object takes, of a client whose slots a record has
pub record IsServable (kind : Kind) (lines : List Line) (ask : Ask) : Type 0 where
  pub operation : IsOperation kind ask.op
  pub client : ask.client < MOST_CLIENTS
  pub room : KEPT_REQUESTS * ask.client + KEPT_REQUESTS < length lines

-- so are all of these, whose clients rise
pub record AreServable (kind : Kind) (lines : List Line) (asks : List Ask) : Type 0 where
  pub each : All (IsServable kind lines) asks
  pub rising : AskersRise asks

-- these requests were applied, and each stands in front of its client's slots
pub record IsServing (asks : List Ask) (before : List Line) (old new : State) (lines next : List Line) : Type 0 where
  pub state : new ≡ state_from old asks
  pub entries : PutsEntries before (answered_from old asks) lines next
