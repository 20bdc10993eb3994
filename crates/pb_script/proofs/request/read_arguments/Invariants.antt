use Rattle.std.proofs.Common.{◌≡◌, ◌≤◌, ℕ, take, length, get_or}
use Rattle.pb_script.specs.Words.{words}
use Rattle.pb_script.proofs.Arguments.{HasRead}
use Rattle.pb_script.proofs.request.read_arguments.Given as goal

abbrev pub invariant-loop-i : goal.invariant-loop-i
invariant-loop-i l = record {
  three : length l.values ≡ 3;
  reads : HasRead (words l.text) (take l.i l.values) (words l.rest);
  zero_after : (k : ℕ) → l.i ≤ k → get_or l.values k 0 ≡ 0;
}
