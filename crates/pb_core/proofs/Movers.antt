-- What a change of one field of memory keeps.
use Rattle.std.proofs.Common.{ℕ, ◌<◌, List, ◌++◌, length}
use Rattle.pb_object.specs.History.{Entry}
use Rattle.pb_object.specs.Standing.{kept_list_of}
use Rattle.pb_core.specs.Client.{Client}
use Rattle.pb_core.specs.Memory.{Work, Memory, with_client, shown, known_standing}
use Rattle.pb_core.specs.MemoryParts.{IsClient, IsMemory, AreAnswered, Suits, HasCause, HasFilled, HasScan}
use Rattle.pb_core.proofs.Basics.{at_each}

-- a client in this memory
abbrev pub ClientOf : Memory → ℕ → Client → Type 0
ClientOf m c b = IsClient m.start.kind (kept_list_of (shown m) c) m.published m.ahead m.owner (m.requests c) c b

abbrev pub OwnClient : Memory → ℕ → Type 0
OwnClient m c = ClientOf m c (m.book c)

-- one client moves
pub move_client : {m : Memory} (c : ℕ) (b : Client) → IsMemory m → ClientOf m c b → IsMemory (with_client c b m)
move_client {m} c b is client = record {
  history = is.history;
  turn = is.turn;
  suits = is.suits;
  low = is.low;
  cause = is.cause;
  clients = λ d there. at_each (λ (e : ℕ) (x : Client). e < m.start.clients → ClientOf m e x) c b m.book (λ _. client) (λ e apart. is.clients e) d there;
  rows = is.rows;
  filled = is.filled;
  scan = is.scan;
  answers_are = is.answers_are;
}

-- what the holder is at changes
pub move_work : {m : Memory} (work : Work) → IsMemory m → Suits m.owner work m.engine m.ahead → HasCause work m.noted m.count → HasFilled work (known_standing m) m.start.clients (length m.published) m.rows → HasScan m.owner work (shown m) m.start.clients m.requests → IsMemory (record m { work = work })
move_work {m} work is suits cause filled scan = record {
  history = is.history;
  turn = is.turn;
  suits = suits;
  low = is.low;
  cause = cause;
  clients = is.clients;
  rows = is.rows;
  filled = filled;
  scan = scan;
  answers_are = is.answers_are;
}

-- more is answered
pub move_answers : {m : Memory} (answers : List Entry) → IsMemory m → AreAnswered (m.past ++ m.published) answers → IsMemory (record m { answers = answers })
move_answers {m} answers is answered = record {
  history = is.history;
  turn = is.turn;
  suits = is.suits;
  low = is.low;
  cause = is.cause;
  clients = is.clients;
  rows = is.rows;
  filled = is.filled;
  scan = is.scan;
  answers_are = answered;
}
