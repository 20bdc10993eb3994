use Rattle.pb_broker.proofs.Answered.{call_of}
use Rattle.pb_broker.proofs.Endings.{fresh_by}
use Rattle.pb_broker.proofs.fresh.fresh.Goals as goal
use Rattle.pb_broker.specs.Stream.{stream}

pub returns-in-Ok : goal.returns-in-Ok
returns-in-Ok g c =
    fresh_by c.args.head.now
    (call_of (stream (g.S.Source.rest c.args.source.now) (g.S.Source.rest c.prepare.new.source) (g.S.Source.fault_count c.args.source.now) (g.S.Source.fault_count c.prepare.new.source)) (g.P.Pmem.seen c.args.device) (g.P.Pmem.seen c.run_new.result.device))
    c.in-Ok.requests.asks.items c.run_new.result.served c.in-Ok.ensures.script c.run_new.ensures.asks c.run_new.ensures.ran
