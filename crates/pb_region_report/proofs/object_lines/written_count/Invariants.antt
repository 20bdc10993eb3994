use Rattle.std.proofs.Common.{◌≡◌, ◌≤◌, count_by, take}
use Rattle.pb_region_report.specs.ReportText.{is_written}
use Rattle.pb_region_report.proofs.object_lines.written_count.Given as goal

abbrev pub invariant-loop-key : goal.invariant-loop-key
invariant-loop-key l = record {
  counted : l.count ≡ count_by is_written (take l.key l.map);
  few : l.count ≤ l.key;
}
