use Rattle.std.proofs.Common.{◌++◌, List, subst}
use Rattle.std.specs.Prelude.{OnErr}
use Rattle.pb_events.specs.declared.event.Stepped.{Stepped}
use Rattle.pb_io.specs.SinkBytes.{AppendsSome}
use Rattle.pb_engines.specs.AnyEngine.{view_of}
use Rattle.pb_region_report.specs.ReportText.{report_text}
use Rattle.pb_replay.specs.AnswerText.{answers_text}
use Rattle.pb_replay.proofs.Writing.{err_of_first, err_of_second}
use Rattle.pb_replay.proofs.played.write_played.Goals as goal

pub returns-in_err-write_lines-clause-err : goal.returns-in_err-write_lines-clause-err
returns-in_err-write_lines-clause-err g c =
    let report = report_text (view_of c.args.played.now.engine).standing in
    subst (λ (l : List Stepped). OnErr c.from_residual.result (AppendsSome (g.K.Sink.bytes c.args.sink.now) (g.K.Sink.bytes c.write_lines.new.sink) (answers_text l ++ report_text (view_of c.args.played.now.engine).standing))) c.as_slice-answers.ensures.value
    (err_of_first c.from_residual.result (g.K.Sink.bytes c.args.sink.now) (g.K.Sink.bytes c.write_lines.new.sink) (answers_text c.as_slice-answers.result.now) report c.in_err-write_lines.ensures.err)

pub returns-clause-err : goal.returns-clause-err
returns-clause-err g c =
    let report = report_text (view_of c.args.played.now.engine).standing in
    subst (λ (l : List Stepped). OnErr c.write_prepared.result (AppendsSome (g.K.Sink.bytes c.args.sink.now) (g.K.Sink.bytes c.write_prepared.new.sink) (answers_text l ++ report_text (view_of c.args.played.now.engine).standing))) c.as_slice-answers.ensures.value
    (err_of_second c.write_prepared.result (g.K.Sink.bytes c.args.sink.now) (g.K.Sink.bytes c.write_lines.new.sink) (g.K.Sink.bytes c.write_prepared.new.sink) (answers_text c.as_slice-answers.result.now) report c.in_ok-write_lines.ensures.ok c.write_prepared.ensures.err)
