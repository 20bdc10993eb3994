use Rattle.pb_engines.specs.AnyEngine.{view_of}
use Rattle.pb_broker.specs.Stops.{stop_of_device}
use Rattle.pb_broker.proofs.NotOpened.{not_opened}
use Rattle.pb_broker.proofs.Printing.{reported_by, not_reported}
use Rattle.pb_broker.proofs.reports.report.Goals as goal
use Rattle.pb_broker.specs.Stream.{stream}

pub returns-in-Ok : goal.returns-in-Ok
returns-in-Ok g c =
    reported_by (g.P.Pmem.seen c.args.device) (g.P.Pmem.seen c.close.result) (view_of c.in-Ok.engine)
    (stream (g.K.Sink.bytes c.args.sink.now) (g.K.Sink.bytes c.print_report.new.sink) (g.K.Sink.fault_count c.args.sink.now) (g.K.Sink.fault_count c.print_report.new.sink))
    c.print_report.result c.in-Ok.ensures.ok c.close.ensures c.print_report.ensures

pub returns-in-Err : goal.returns-in-Err
returns-in-Err g c =
    not_reported (g.P.Pmem.seen c.args.device) (g.P.Pmem.seen c.in-Err.refused.device) (g.P.Pmem.seen c.refuse.result.device) (stop_of_device c.in-Err.refused.why)
    (stream (g.K.Sink.bytes c.args.sink.now) (g.K.Sink.bytes c.refuse.new.sink) (g.K.Sink.fault_count c.args.sink.now) (g.K.Sink.fault_count c.refuse.new.sink))
    c.refuse.result.status (not_opened (g.P.Pmem.seen c.args.device) (g.P.Pmem.seen c.in-Err.refused.device) c.in-Err.refused.why c.in-Err.ensures.err)
    c.refuse.ensures.device c.refuse.ensures.said
