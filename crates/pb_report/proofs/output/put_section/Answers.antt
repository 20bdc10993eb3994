use Rattle.std.proofs.Common.{◌++◌}
use Rattle.std.proofs.lemmas.Result.{err_from_is_err_and, on_ok_weaker, on_err_weaker}
use Rattle.pb_report.specs.Pieces.{joined, section_of}
use Rattle.pb_report.proofs.PieceLemmas.{passes_more, passes_some, some_more}
use Rattle.pb_report.proofs.output.put_section.Goals as goal

pub returns-in_err-put-clause-err : goal.returns-in_err-put-clause-err
unfolding section_of
returns-in_err-put-clause-err g c =
    let p = err_from_is_err_and c.from_residual.result c.from_residual.ensures.1 in
    let known = g.K.Sink.bytes in
    rw (p.1) (some_more (known c.args.sink.now) (known c.put.new.sink) c.args.pending.now.items (c.args.first.now.bytes ++ joined (g.L.Lines.line_at c.args.lines.now) (g.L.Lines.line_count c.args.lines.now)) c.in_err-put.ensures.err)

pub returns-clause-ok : goal.returns-clause-ok
unfolding section_of
returns-clause-ok g c =
    let known = g.K.Sink.bytes in
    on_ok_weaker c.put_lines.result
    (passes_more (known c.args.sink.now) (known c.put.new.sink) (known c.put_lines.new.sink) c.args.pending.now.items c.put.new.pending.items c.put_lines.new.pending.items
    c.args.first.now.bytes (joined (g.L.Lines.line_at c.args.lines.now) (g.L.Lines.line_count c.args.lines.now)) c.in_ok-put.ensures.ok)
    c.put_lines.ensures.ok

pub returns-clause-err : goal.returns-clause-err
unfolding section_of
returns-clause-err g c =
    let known = g.K.Sink.bytes in
    on_err_weaker c.put_lines.result
    (passes_some (known c.args.sink.now) (known c.put.new.sink) (known c.put_lines.new.sink) c.args.pending.now.items c.put.new.pending.items
    c.args.first.now.bytes (joined (g.L.Lines.line_at c.args.lines.now) (g.L.Lines.line_count c.args.lines.now)) c.in_ok-put.ensures.ok)
    c.put_lines.ensures.err
