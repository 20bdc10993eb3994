-- The rows that a round begins with, and its requests.
use Rattle.std.specs.Prelude.{◌≡◌, ℕ, ◌%◌, ◌<◌, List, length, take}
use Rattle.pb_object.specs.declared.request.Ask.{Ask}
use Rattle.pb_core.specs.Memory.{round_of_turn}
use Rattle.pb_round_play.specs.declared.seat.Seat.{Seat}
use Rattle.pb_round_play.specs.Seats.{row_by}
use Rattle.pb_play.specs.declared.memory.Memory.{Memory}
use Rattle.pb_play.specs.Seats.{seat_of}

-- a client's next row is the one that is published at a turn word
abbrev pub repeats : ℕ → Seat → Seat
repeats turn seat = record seat { ahead = row_by seat (round_of_turn turn % 2) }

-- so is each client's, and all else stays
pub record RepeatsRows (old new : Memory) : Type 0 where
  pub is : new ≡ record old { seats = new.seats }
  pub places : length new.seats ≡ 16
  pub each : (client : ℕ) → client < 16 → seat_of new client ≡ repeats old.turn (seat_of old client)

-- the requests that were scanned
abbrev pub scanned_asks : Memory → List Ask
scanned_asks m = take m.met m.seen
