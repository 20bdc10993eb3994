use Rattle.std.proofs.Common.{◌≡◌, ◌<◌, ◌≤◌, ℕ, length}
use Rattle.pb_play.specs.Rounds.{repeats}
use Rattle.pb_play.specs.Seats.{seat_of}
use Rattle.pb_play.proofs.next.repeat_rows.Given as goal

abbrev pub invariant-loop-place : goal.invariant-loop-place
invariant-loop-place l = record {
  is : l.memory ≡ record (l.fn.memory) { seats = l.memory.seats };
  long : length l.memory.seats ≡ 16;
  done : (client : ℕ) → client < l.place → seat_of l.memory client ≡ repeats l.fn.memory.turn (seat_of l.fn.memory client);
  left : (client : ℕ) → l.place ≤ client → seat_of l.memory client ≡ seat_of l.fn.memory client;
}
