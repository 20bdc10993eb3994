use Rattle.std.proofs.Common.{◌≡◌, ◌≤◌, ◌*◌, ◌^◌, take}
use Rattle.std.specs.List.{sum_by}
use Rattle.pb_report.specs.SummaryText.{new_version}
use Rattle.pb_report.proofs.summary.version_sum.Given as goal

abbrev pub invariant-loop-outcome : goal.invariant-loop-outcome
invariant-loop-outcome l = record {
  summed : l.sum ≡ sum_by new_version (take l.outcome-index l.outcomes);
  few : l.sum ≤ l.outcome-index * 2 ^ 64;
}
