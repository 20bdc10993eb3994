-- Which memory of the core the code shows.
use Rattle.std.specs.Prelude.{◌≡◌, ℕ, ◌<◌, ◌≤◌, length, take, Option, Some, None, option_map}
use Rattle.pb_object.specs.declared.request.Kept.{Kept}
use Rattle.pb_object.specs.History.{Round, after_round}
use Rattle.pb_object.specs.Standing.{Standing, newest, newest_of}
use Rattle.pb_layout.specs.Represents.{header_for}
use Rattle.pb_layout.specs.Shape.{IsHeader}
use Rattle.pb_core.specs.Client.{Client, ask_word}
use Rattle.pb_core.specs.Memory.{Memory, clients_of, shown}
use Rattle.pb_play.specs.declared.memory.Memory.{Memory as CodeMemory}
use Rattle.pb_round_play.specs.Counts.{ShowsRounds}
use Rattle.pb_round_play.specs.declared.seat.Row.{Row}
use Rattle.pb_round_play.specs.declared.seat.Seat.{Seat}
use Rattle.pb_play.specs.Maps.{stage_of, owner_of, work_of, engine_of, word_of_row, stored_ask}
use Rattle.pb_play.specs.Seats.{seat_of}

-- a client, with the words of its request and of its rows
pub record ShowsSeat (b : Client) (words : ℕ → ℕ) (rows : ℕ → ℕ → ℕ) (seat : Seat) : Type 0 where
  pub stage : b.stage ≡ stage_of seat.stage
  pub ask : b.ask ≡ seat.ask
  pub last : (newest b.kept).number ≡ seat.last
  pub stored : (place : ℕ) → place < 5 → words place ≡ ask_word (stored_ask seat) place
  pub even : (place : ℕ) → place < 4 → rows 0 place ≡ word_of_row seat.even place
  pub odd : (place : ℕ) → place < 4 → rows 1 place ≡ word_of_row seat.odd place

-- the rows of a client
abbrev pub rows_for : (ℕ → ℕ → ℕ → ℕ) → ℕ → ℕ → ℕ → ℕ
rows_for rows client row place = rows row client place

abbrev pub ShowsClients : ℕ → (ℕ → Client) → (ℕ → ℕ → ℕ) → (ℕ → ℕ → ℕ → ℕ) → (ℕ → Seat) → Type 0
ShowsClients clients book requests rows seats =
    (c : ℕ) → c < clients → ShowsSeat (book c) (requests c) (rows_for rows c) (seats c)

-- the number and the reply of a kept request
pub record IsRowOf (kept : Kept) (row : Row) : Type 0 where
  pub number : kept.number ≡ row.number
  pub reply : kept.reply ≡ row.reply

-- the next rows are those after the round ahead
abbrev pub ShowsAhead : ℕ → Standing → Option Round → (ℕ → Seat) → Type 0
ShowsAhead clients s None seats = Unit {0}
ShowsAhead clients s (Some round) seats = (c : ℕ) → c < clients → IsRowOf (newest_of (after_round s round) c) (seats c).ahead

abbrev pub side_ahead : Option Round → Option ℕ
side_ahead ahead = option_map (λ round. round.side) ahead

-- the code's memory is this one
pub record ShowsMemory (p : CodeMemory) (m : Memory) : Type 0 where
  pub head : header_for m.start ≡ p.head
  pub valid : IsHeader p.head
  pub places : length p.seats ≡ 16
  pub clients : ShowsClients (clients_of m) m.book m.requests m.rows (seat_of p)
  pub next : ShowsAhead (clients_of m) (shown m) m.ahead (seat_of p)
  pub turn : m.turn ≡ p.turn
  pub noted : m.noted ≡ p.noted
  pub count : m.count ≡ p.count
  pub owner : m.owner ≡ owner_of p.owner
  pub room : length p.seen ≡ 16
  pub work : m.work ≡ work_of p.work (take p.met p.seen)
  pub met : p.met ≤ 16
  pub engine : m.engine ≡ engine_of p.knowledge
  pub ahead : side_ahead m.ahead ≡ p.ahead
  pub rounds : ShowsRounds (shown m) p.rounds
