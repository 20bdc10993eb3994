-- What stands in memory: the words, the clients, the holder of the turn, and what was recorded so far.
use Rattle.std.specs.Prelude.{ℕ, ◌/◌, ◌==◌, List, [], ◌∷◌, ◌++◌, Option, Some, None, option_map, unwrap_or, if◌then◌else◌}
use Rattle.pb_object.specs.declared.request.Ask.{Ask}
use Rattle.pb_object.specs.declared.request.Op.{Op}
use Rattle.pb_object.specs.Codes.{action_of, action_side}
use Rattle.pb_object.specs.History.{Entry, Round, History, after_round, state_after}
use Rattle.pb_object.specs.Standing.{Standing, kept_list_of, newest_of}
use Rattle.pb_core.specs.Client.{Client, row_word, fresh_client}

-- who has the turn: nobody; a client, for requests of a side; or nobody, since the region is being memory_at_opening again
pub data Owner : Type 0 where
  Free : Owner
  Held : (client side : ℕ) → Owner
  Closed : Owner

-- which word of a client's request is scanned next, and those that were loaded before it
pub data Part : Type 0 where
  AtNumber : Part
  AtCode : (number : ℕ) → Part
  AtFirst : (number code : ℕ) → Part
  AtSecond : (number code a : ℕ) → Part
  AtThird : (number code a b : ℕ) → Part

-- what the holder is at
pub data Work : Type 0 where
  -- nobody holds the turn
  NoWork : Work
  -- the device calls of settling
  Settling : Work
  -- scanning a client's request; those of its side that are due so far
  Scanning : (client : ℕ) → Part → List Ask → Work
  -- the device calls of the round
  Calling : Work
  -- so many words of the next reply row are stored
  Filling : (count : ℕ) → Work
  -- the device failed, and its count rose: the count is stored next, and then the turn is given up
  Noting : (from to : ℕ) → Work
  GivingUp : (from to : ℕ) → Work

-- what is known_standing of the device: that what is recorded is sealed; that a round is, and isn't published yet; that a round's calls are being
-- made; or nothing for sure, until it is settled
pub data Engine : Type 0 where
  Resting : Engine
  Recorded : Engine
  Writing : Engine
  Doubtful : Engine

pub record Memory : Type 0 where
  -- the standing in which all began, the rounds from before the last crash, and those published since the region was memory_at_opening
  pub start : Standing
  pub past : History
  pub published : History
  -- the one round that is recorded and isn't published yet, that is being written, or that is in doubt
  pub ahead : Option Round
  -- the turn word; the device's count with which a holder last gave up; and that count
  pub turn : ℕ
  pub noted : ℕ
  pub count : ℕ
  -- the words of each client's request, and of its two reply rows
  pub requests : ℕ → ℕ → ℕ
  pub rows : ℕ → ℕ → ℕ → ℕ
  pub book : ℕ → Client
  pub owner : Owner
  pub work : Work
  pub engine : Engine
  -- the requests that were answered so far, with their replies
  pub answers : List Entry

-- another value at a place
abbrev pub with_at : {X : Type 0} → ℕ → X → (ℕ → X) → ℕ → X
with_at place value before other = if other == place then value else before other

abbrev pub with_client : ℕ → Client → Memory → Memory
with_client client b m = record m { book = with_at client b m.book }

-- how many clients there are
abbrev pub clients_of : Memory → ℕ
clients_of m = m.start.clients

-- the standing after the published rounds
abbrev pub shown : Memory → Standing
shown m = state_after m.start (m.past ++ m.published)

-- the standing after a round, where there is one
abbrev pub with_round_ahead : Option Round → Standing → Standing
with_round_ahead None s = s
with_round_ahead (Some round) s = after_round s round

-- the standing that is known_standing for sure: a recorded round counts before it is published
abbrev pub known_by : Engine → Option Round → Standing → Standing
known_by Resting ahead s = s
known_by Recorded ahead s = with_round_ahead ahead s
known_by Writing ahead s = s
known_by Doubtful ahead s = s

abbrev pub known_standing : Memory → Standing
known_standing m = known_by m.engine m.ahead (shown m)

-- the side of an operation
abbrev pub side_of_operation : Op → ℕ
side_of_operation op = unwrap_or (option_map action_side (action_of op.code)) 0

-- how many rounds a turn word counts
abbrev pub round_of_turn : ℕ → ℕ
round_of_turn turn = turn / 2

-- the round ahead as a list
abbrev pub coming : Option Round → History
coming None = []
coming (Some round) = round ∷ []

-- memory as it is made anew over a standing with these rounds
abbrev pub memory_at_opening : Standing → History → List Entry → Memory
memory_at_opening start past answers = record {
  start = start;
  past = past;
  published = [];
  ahead = None;
  turn = 0;
  noted = 0;
  count = 0;
  requests = λ client place. 0;
  rows = λ row client place. row_word (newest_of (state_after start past) client) place;
  book = λ client. fresh_client (kept_list_of (state_after start past) client);
  owner = Closed;
  work = NoWork;
  engine = Doubtful;
  answers = answers;
}
