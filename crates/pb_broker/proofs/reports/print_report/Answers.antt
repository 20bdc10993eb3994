use Rattle.std.proofs.Common.{Ok, inl}
use Rattle.pb_engines.specs.AnyEngine.{view_of}
use Rattle.pb_region_report.specs.ReportText.{report_text}
use Rattle.pb_broker.specs.declared.status.Status.TheVariants.{Done}
use Rattle.pb_broker.proofs.Printing.{said_by}
use Rattle.pb_broker.proofs.reports.print_report.Goals as goal

pub returns-in-Ok : goal.returns-in-Ok
returns-in-Ok g c =
    inl (said_by (g.K.Sink.bytes c.args.sink.now) (g.K.Sink.bytes c.write_report.new.sink) (g.K.Sink.bytes c.status_of.new.sink) (g.K.Sink.fault_count c.args.sink.now) (g.K.Sink.fault_count c.write_report.new.sink) (g.K.Sink.fault_count c.status_of.new.sink) (report_text (view_of c.args.engine.now).standing) Done c.status_of.result (Ok tt) c.in-Ok.ensures.ok tt c.in-Ok.ensures.count c.status_of.ensures.bytes c.status_of.ensures.status)
