use Rattle.std.proofs.Common.{ℕ, List, [], ◌++◌, subst}
use Rattle.std.proofs.lemmas.Result.{err_from_is_err_and, on_err_weaker}
use Rattle.pb_io.specs.SinkBytes.{AppendsSome}
use Rattle.pb_report.specs.Pieces.{Passes, section_of}
use Rattle.pb_report.proofs.PieceLemmas.{passes_more, passes_some, passes_some_first, some_more}
use Rattle.pb_report.proofs.output.write_sections.Goals as goal

pub returns-in_err-put_section-clause-err : goal.returns-in_err-put_section-clause-err
returns-in_err-put_section-clause-err g c =
    let p = err_from_is_err_and c.from_residual.result c.from_residual.ensures.1 in
    let known = g.K.Sink.bytes in
    let first = section_of c.args.first.now.bytes (g.A.Lines.line_at c.args.first_lines.now) (g.A.Lines.line_count c.args.first_lines.now) in
    let second = section_of c.args.second.now.bytes (g.B.Lines.line_at c.args.second_lines.now) (g.B.Lines.line_count c.args.second_lines.now) in
    rw (p.1) (some_more (known c.args.sink.now) (known c.put_section.new.sink) first second
    (subst (λ (before : List ℕ). AppendsSome (known c.args.sink.now) (known c.put_section.new.sink) (before ++ first)) c.new-pending.ensures c.in_err-put_section.ensures.err))

pub returns-in_err-put_section-2-clause-err : goal.returns-in_err-put_section-2-clause-err
returns-in_err-put_section-2-clause-err g c =
    let p = err_from_is_err_and c.from_residual-in_err-put_section-2.result c.from_residual-in_err-put_section-2.ensures.1 in
    let known = g.K.Sink.bytes in
    let first = section_of c.args.first.now.bytes (g.A.Lines.line_at c.args.first_lines.now) (g.A.Lines.line_count c.args.first_lines.now) in
    let second = section_of c.args.second.now.bytes (g.B.Lines.line_at c.args.second_lines.now) (g.B.Lines.line_count c.args.second_lines.now) in
    let pending = c.put_section.new.pending.items in
    rw (p.1) (passes_some (known c.args.sink.now) (known c.put_section.new.sink) (known c.put_section-2.new.sink) [] pending first second
    (subst (λ (before : List ℕ). Passes (known c.args.sink.now) (known c.put_section.new.sink) before pending first) c.new-pending.ensures c.in_ok-put_section.ensures.ok)
    c.in_err-put_section-2.ensures.err)

pub returns-clause-err : goal.returns-clause-err
returns-clause-err g c =
    let known = g.K.Sink.bytes in
    let first = section_of c.args.first.now.bytes (g.A.Lines.line_at c.args.first_lines.now) (g.A.Lines.line_count c.args.first_lines.now) in
    let second = section_of c.args.second.now.bytes (g.B.Lines.line_at c.args.second_lines.now) (g.B.Lines.line_count c.args.second_lines.now) in
    let before = c.put_section.new.pending.items in
    let pending = c.put_section-2.new.pending.items in
    let both = passes_more (known c.args.sink.now) (known c.put_section.new.sink) (known c.put_section-2.new.sink) [] before pending first second
    (subst (λ (none : List ℕ). Passes (known c.args.sink.now) (known c.put_section.new.sink) none before first) c.new-pending.ensures c.in_ok-put_section.ensures.ok)
    c.in_ok-put_section-2.ensures.ok in
    on_err_weaker c.send.result
    (λ (some : AppendsSome (known c.put_section-2.new.sink) (known c.send.new.sink) c.as_slice.result.now).
    passes_some_first (known c.args.sink.now) (known c.put_section-2.new.sink) (known c.send.new.sink) pending (first ++ second) both
    (subst (AppendsSome (known c.put_section-2.new.sink) (known c.send.new.sink)) c.as_slice.ensures.value some))
    c.send.ensures.err
