use Rattle.std.proofs.Common.{◌≡◌, ◌*◌, ◌≤◌}
use Rattle.pb_object.specs.declared.request.TheConstants.{LAST_NUMBER}
use Rattle.pb_layout.specs.Record.{number_sum}
use Rattle.pb_layout.proofs.record.sum_numbers.Given as goal

abbrev pub invariant-loop-client : goal.invariant-loop-client
invariant-loop-client l = record {
  sum : l.sum ≡ number_sum l.lines l.client;
  few : l.sum ≤ l.client * LAST_NUMBER;
}
