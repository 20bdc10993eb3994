use Rattle.std.proofs.Common.{inl, inr, sym, subst}
use Rattle.pb_pmem.specs.Device.{Device}
use Rattle.pb_engines.specs.AnyEngine.{view_of}
use Rattle.pb_broker.specs.declared.stop.Stop.TheVariants.{Memory}
use Rattle.pb_broker.specs.Comes.{drill_head}
use Rattle.pb_broker.specs.Serving.{IsNotMade}
use Rattle.pb_broker.specs.Stops.{stop_of_device}
use Rattle.pb_broker.proofs.Drills.{not_made}
use Rattle.pb_broker.proofs.Ran.{made_alone}
use Rattle.pb_broker.proofs.drill.drill_new.Goals as goal

pub returns-in-Ok : goal.returns-in-Ok
returns-in-Ok g c = elim c.drill_on.ensures [
  | inl drills ↦ inl (view_of c.in-Ok.engine, c.in-Ok.ensures.ok, drills)
  | inr memory ↦ inr (Memory, inr (made_alone c.in-Ok.ensures.ok memory.0), memory.1)
]

pub returns-in-Err : goal.returns-in-Err
returns-in-Err g c =
    let head = drill_head c.args.clients in
    let stop = stop_of_device c.in-Err.refused.why in
    inr (
      stop,
      subst (λ (d : Device). IsNotMade head (g.P.Pmem.seen c.args.device) d stop) (sym c.refuse.ensures.device)
          (not_made head (g.P.Pmem.seen c.args.device) (g.P.Pmem.seen c.in-Err.refused.device) c.in-Err.refused.why c.in-Err.ensures.err),
      c.refuse.ensures.said,
    )
