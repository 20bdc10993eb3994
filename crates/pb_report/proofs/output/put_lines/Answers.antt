use Rattle.std.proofs.Common.{◌≡◌, ℕ, ◌+◌, List, ◌++◌, sym, subst, arith, rules}
use Rattle.std.proofs.lemmas.Result.{err_from_is_err_and}
use Rattle.pb_io.specs.SinkBytes.{AppendsSome}
use Rattle.pb_report.specs.Pieces.{Passes, joined}
use Rattle.pb_report.proofs.PieceLemmas.{passes_none, passes_more, passes_some, some_more, joined-zero, joined-more_by, joined-split}
use Rattle.pb_report.proofs.output.put_lines.Goals as goal

pub loop-place-init : goal.loop-place-init
loop-place-init g c =
    let known = g.K.Sink.bytes c.args.sink.now in
    let pending = c.args.pending.now.items in
    record {
      passed = subst (Passes known known pending pending) (sym (joined-zero (g.L.Lines.line_at c.args.lines.now))) (passes_none known pending);
      no_fault = search rules;
    }

pub returns-in_err-put-clause-err : goal.returns-in_err-put-clause-err
returns-in_err-put-clause-err g c =
    let p = err_from_is_err_and c.from_residual.result c.from_residual.ensures.1 in
    let known = g.K.Sink.bytes in
    let line = g.L.Lines.line_at c.args.lines.now in
    let split = joined-split line c.loop-place.place (g.L.Lines.line_count c.args.lines.now) (omega (arith, c.count-place-end.ensures)) in
    rw (p.1) (subst (λ (text : List ℕ). AppendsSome (known c.args.sink.now) (known c.put.new.sink) (c.args.pending.now.items ++ text)) (sym split.1)
    (passes_some (known c.args.sink.now) (known c.loop-place.sink) (known c.put.new.sink) c.args.pending.now.items c.loop-place.pending.items (joined line c.loop-place.place) split.0 c.loop-place.invariant.passed
    (some_more (known c.loop-place.sink) (known c.put.new.sink) c.loop-place.pending.items split.0 c.in_err-put.ensures.err)))

pub loop-place-preserved : goal.loop-place-preserved
loop-place-preserved g c =
    let known = g.K.Sink.bytes in
    let line = g.L.Lines.line_at c.args.lines.now in
    let place = c.loop-place.place in
    let more : joined line (place + 1) ≡ joined line place ++ c.line-line.result.bytes =
    joined-more_by line place c.line-line.result.bytes c.line-line.ensures in
    record {
      passed = subst (Passes (known c.args.sink.now) (known c.put.new.sink) c.args.pending.now.items c.put.new.pending.items) (sym more)
          (passes_more (known c.args.sink.now) (known c.loop-place.sink) (known c.put.new.sink) c.args.pending.now.items c.loop-place.pending.items c.put.new.pending.items
          (joined line place) c.line-line.result.bytes c.loop-place.invariant.passed c.in_ok-put.ensures.ok);
      no_fault = search rules;
    }
