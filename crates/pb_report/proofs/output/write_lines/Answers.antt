use Rattle.std.proofs.Common.{List, ℕ, subst}
use Rattle.std.proofs.lemmas.Result.{on_err_weaker}
use Rattle.pb_io.specs.SinkBytes.{AppendsSome}
use Rattle.pb_report.specs.Pieces.{Passes, joined}
use Rattle.pb_report.proofs.PieceLemmas.{passes_some_first}
use Rattle.pb_report.proofs.output.write_lines.Goals as goal

pub returns-clause-err : goal.returns-clause-err
returns-clause-err g c =
    let known = g.K.Sink.bytes in
    let text = joined (g.L.Lines.line_at c.args.lines.now) (g.L.Lines.line_count c.args.lines.now) in
    let pending = c.put_lines.new.pending.items in
    on_err_weaker c.send.result
    (λ (some : AppendsSome (known c.put_lines.new.sink) (known c.send.new.sink) c.as_slice.result.now).
    passes_some_first (known c.args.sink.now) (known c.put_lines.new.sink) (known c.send.new.sink) pending text
    (subst (λ (before : List ℕ). Passes (known c.args.sink.now) (known c.put_lines.new.sink) before pending text) c.new-pending.ensures c.in_ok-put_lines.ensures.ok)
    (subst (AppendsSome (known c.put_lines.new.sink) (known c.send.new.sink)) c.as_slice.ensures.value some))
    c.send.ensures.err
