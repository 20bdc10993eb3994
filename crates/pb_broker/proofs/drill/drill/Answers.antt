use Rattle.std.proofs.Common.{refl, inl}
use Rattle.pb_broker.specs.declared.stop.Stop.TheVariants.{Memory}
use Rattle.pb_broker.specs.Ending.{Stopped}
use Rattle.pb_broker.specs.Stream.{stream}
use Rattle.pb_broker.proofs.Drills.{drill_is_short, drilled_new}
use Rattle.pb_broker.proofs.drill.drill.Goals as goal

pub drill_new-requires-clause-few : goal.drill_new-requires-clause-few
drill_new-requires-clause-few g c κs within =
    drill_is_short c.args.seed c.args.clients c.args.count c.in-Ok.requests.asks.items c.in-Ok.ensures.script c.requires.few

pub returns-in-Ok : goal.returns-in-Ok
returns-in-Ok g c =
    drilled_new c.args.seed c.args.clients c.args.count (g.P.Pmem.seen c.args.device) (g.P.Pmem.seen c.drill_new.result.device) c.in-Ok.requests.asks.items
    (stream (g.K.Sink.bytes c.args.sink.now) (g.K.Sink.bytes c.drill_new.new.sink) (g.K.Sink.fault_count c.args.sink.now) (g.K.Sink.fault_count c.drill_new.new.sink))
    c.drill_new.result.status c.in-Ok.ensures.script c.drill_new.ensures

pub returns-in-Err : goal.returns-in-Err
returns-in-Err g c = record { ending = Stopped Memory; comes = inl refl; said = c.print_stop.ensures }
