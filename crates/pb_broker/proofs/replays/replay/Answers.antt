use Rattle.pb_broker.specs.Ending.{Stopped}
use Rattle.pb_broker.specs.Stream.{stream}
use Rattle.pb_broker.proofs.Printing.{played_by}
use Rattle.pb_broker.proofs.replays.replay.Goals as goal

pub returns-in-Ok : goal.returns-in-Ok
returns-in-Ok g c =
    played_by (record { kind = c.args.kind; clients = c.args.clients; size = c.args.size })
    (stream (g.S.Source.rest c.args.source.now) (g.S.Source.rest c.play.new.source) (g.S.Source.fault_count c.args.source.now) (g.S.Source.fault_count c.play.new.source))
    c.in-Ok.played
    (stream (g.K.Sink.bytes c.args.sink.now) (g.K.Sink.bytes c.print_played.new.sink) (g.K.Sink.fault_count c.args.sink.now) (g.K.Sink.fault_count c.print_played.new.sink))
    c.print_played.result c.in-Ok.ensures c.print_played.ensures

pub returns-in-Err : goal.returns-in-Err
returns-in-Err g c = record { ending = Stopped c.in-Err.stop; comes = c.in-Err.ensures; said = c.print_stop.ensures }
