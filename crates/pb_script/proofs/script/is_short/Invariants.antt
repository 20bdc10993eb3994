use Rattle.std.proofs.Common.{◌≡◌, ◌+◌, ◌≤◌, length}
use Rattle.pb_script.specs.declared.script.TheConstants.{MOST_REQUESTS}
use Rattle.pb_script.specs.Script.{request_lines}
use Rattle.pb_script.specs.Words.{lines}
use Rattle.pb_script.proofs.script.is_short.Given as goal

abbrev pub invariant-loop-rest : goal.invariant-loop-rest
invariant-loop-rest l = record {
  counted : l.requests + length (request_lines (lines l.rest)) ≡ length (request_lines (lines l.bytes));
  few : l.requests ≤ MOST_REQUESTS;
}

abbrev pub decreases-loop-rest : goal.decreases-loop-rest
decreases-loop-rest l = length l.rest
