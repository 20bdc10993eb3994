use Rattle.std.proofs.Common.{◌++◌}
use Rattle.pb_engines.specs.AnyEngine.{view_of}
use Rattle.pb_region_report.specs.ReportText.{report_text}
use Rattle.pb_replay.specs.AnswerText.{answers_text}
use Rattle.pb_broker.specs.declared.status.Status.TheVariants.{Done}
use Rattle.pb_broker.proofs.Printing.{said_by}
use Rattle.pb_broker.proofs.replays.print_played.Goals as goal

pub returns : goal.returns
returns g c =
    said_by (g.K.Sink.bytes c.args.sink.now) (g.K.Sink.bytes c.write_played-written.new.sink) (g.K.Sink.bytes c.status_of.new.sink) (g.K.Sink.fault_count c.args.sink.now) (g.K.Sink.fault_count c.write_played-written.new.sink) (g.K.Sink.fault_count c.status_of.new.sink)
    (answers_text c.args.played.now.answers.items ++ report_text (view_of c.args.played.now.engine).standing) Done c.status_of.result c.write_played-written.result
    c.write_played-written.ensures.ok c.write_played-written.ensures.err c.write_played-written.ensures.cause c.status_of.ensures.bytes c.status_of.ensures.status
