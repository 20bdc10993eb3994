use Rattle.std.specs.Prelude.{ℕ, ◌≡◌, ◌<◌, length}
use Rattle.pb_round_play.specs.Seats.{fresh_seat}
use Rattle.pb_play.specs.Found.{found_row}
use Rattle.pb_round_play.specs.Seats.{seat_at}
use Rattle.pb_play.proofs.crash.reseat.Given as goal

abbrev pub invariant-loop-client : goal.invariant-loop-client
invariant-loop-client l = record {
  long : length l.seats ≡ 16;
  found : (k : ℕ) → k < l.client → seat_at l.seats k ≡ fresh_seat (found_row l.head.kind l.lines l.head l.rounds k);
}
