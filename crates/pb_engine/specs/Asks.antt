-- Requests of one round, and the round that they make.
use Rattle.std.specs.Prelude.{◌≡◌, ◌≢◌, ℕ, ◌+◌, ◌<◌, ◌≤◌, List, [], ◌∷◌, All}
use Rattle.pb_object.specs.declared.request.Ask.{Ask}
use Rattle.pb_object.specs.declared.request.Op.{Op}
use Rattle.pb_object.specs.declared.request.TheConstants.{LAST_NUMBER}
use Rattle.pb_object.specs.Codes.{action_of}
use Rattle.pb_object.specs.History.{Entry, Round, IsOfSide}
use Rattle.pb_object.specs.Object.{State, next_state, reply_of}
use Rattle.pb_object.specs.Request.{IsOperation, side_of_op}
use Rattle.pb_object.specs.Standing.{Standing, newest_of}

-- the side of requests: all are of the first one's
abbrev pub side_asked : List Ask → ℕ
side_asked [] = 0
side_asked (ask ∷ asks) = side_of_op ask.op

-- a request that may be the next of its client, on this side
pub record IsNextAsk (s : Standing) (side : ℕ) (ask : Ask) : Type 0 where
  pub client : ask.client < s.clients
  pub number : ask.number ≡ (newest_of s ask.client).number + 1
  pub few : ask.number ≤ LAST_NUMBER
  pub operation : IsOperation s.kind ask.op
  pub of_side : IsOfSide side ask.op

-- clients rise from request to request
abbrev pub AskersRise : List Ask → Type 0
AskersRise [] = Unit {0}
AskersRise (first ∷ []) = Unit {0}
AskersRise (first ∷ second ∷ asks) = (first.client < second.client) × AskersRise (second ∷ asks)

-- requests that may be served in one round: there are some, of one side, in the order of their clients, each its client's next
pub record MayBeServed (s : Standing) (asks : List Ask) : Type 0 where
  pub some : asks ≢ []
  pub rising : AskersRise asks
  pub next : All (IsNextAsk s (side_asked asks)) asks

-- a request with the reply of a state
abbrev pub answered_by : State → Ask → Entry
answered_by state ask = record { client = ask.client; number = ask.number; op = ask.op; reply = reply_of state ask.op }

-- requests with their replies, one applied after the other from a state on
unfoldable pub answered_from : State → List Ask → List Entry
answered_from state [] = []
answered_from state (ask ∷ asks) = answered_by state ask ∷ answered_from (next_state state ask.op) asks

-- the state after them
unfoldable pub state_from : State → List Ask → State
state_from state [] = state
state_from state (ask ∷ asks) = state_from (next_state state ask.op) asks

-- the round that they make
abbrev pub asked_round : Standing → List Ask → Round
asked_round s asks = record { side = side_asked asks; entries = answered_from s.state asks }
