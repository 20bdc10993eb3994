use Rattle.std.proofs.Common.{◌≡◌}
use Rattle.pb_report.specs.Pieces.{Passes, joined}
use Rattle.pb_report.proofs.output.put_lines.Given as goal

abbrev pub invariant-loop-place : goal.invariant-loop-place
invariant-loop-place g l = record {
  passed : Passes (g.K.Sink.bytes l.fn.sink) (g.K.Sink.bytes l.sink) l.fn.pending.items l.pending.items (joined (g.L.Lines.line_at l.lines) l.place);
  no_fault : g.K.Sink.fault_count l.sink ≡ g.K.Sink.fault_count l.fn.sink;
}
