use Rattle.std.proofs.Common.{◌≡◌, ◌+◌, ◌*◌, ◌≤◌, length, take}
use Rattle.std.specs.Prelude.{vec_capacity}
use Rattle.pb_object.specs.Queue.{Waiting}
use Rattle.pb_round_play.specs.Serving.{HoldsQueue, HasAnswered}
use Rattle.pb_round_play.specs.Shape.{AreWithin}
use Rattle.pb_round_play.proofs.queue.serve_queue.Given as goal

abbrev pub invariant-loop-ask : goal.invariant-loop-ask
invariant-loop-ask l = record {
  long : length l.next ≡ length l.fn.next;
  seats : length l.seats ≡ 16;
  few : length l.plan.items ≤ length l.fn.plan.items + 2 * l.ask-index;
  within : AreWithin l.plan.items;
  capacity : vec_capacity l.fn.plan ≤ vec_capacity l.plan;
  answered : (start : Waiting) → HoldsQueue l.head l.lines l.fn.ends start
      → HasAnswered l.head l.lines l.before l.side start (take l.ask-index l.asks) l.fn.plan.items l.fn.next l.fn.seats l.ends l.plan.items l.next l.seats;
}
