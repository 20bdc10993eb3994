use Rattle.std.proofs.Common.{arith, rules}
use Rattle.pb_queue_crash_tests.proofs.queue.format.Goals as goal

pub format-requires : goal.format-requires
format-requires g c = record {
  valid = search rules;
  long = search rules;
  own = search rules;
  second_long = λ _. search rules;
  second_own = λ _. search rules;
  no_second = λ one. absurd (omega arith);
}
