use Rattle.pb_engines.specs.AnyEngine.{view_of}
use Rattle.pb_broker.specs.declared.requests.Requests.{Requests}
use Rattle.pb_broker.specs.Serving.{ServesOn}
use Rattle.pb_broker.proofs.Endings.{opened_to}
use Rattle.pb_broker.proofs.NotOpened.{run_refused}
use Rattle.pb_broker.proofs.run.run_on.Goals as goal

pub returns-in-Ok : goal.returns-in-Ok
returns-in-Ok g c =
    opened_to c.args.bytes.now (view_of c.in-Ok.engine) (view_of c.run_found-engine.result.0) c.run_found-engine.result.1 c.in-Ok.ensures.ok
    c.close.ensures c.run_found-engine.ensures.ok c.run_found-engine.ensures.err

pub returns-in-Err : goal.returns-in-Err
returns-in-Err g c =
    run_refused (λ (served : Requests). ServesOn c.args.bytes.now (g.P.Pmem.seen c.args.device) (g.P.Pmem.seen c.refused.result.device) served.asks.items served.outcomes.items)
    c.args.bytes.now (g.P.Pmem.seen c.args.device) (g.P.Pmem.seen c.in-Err.why.device) (g.P.Pmem.seen c.refused.result.device) c.in-Err.why.why
    c.refused.result.served c.refused.ensures.served c.refused.ensures.device c.in-Err.ensures.err
