use Rattle.std.proofs.Common.{◌≡◌, ℕ, List, subst, sym, rules}
use Rattle.pb_broker.specs.Serving.{ReadsFew}
use Rattle.pb_broker.proofs.Answered.{call_of}
use Rattle.pb_broker.proofs.Endings.{run_by}
use Rattle.pb_broker.proofs.run.run.Goals as goal
use Rattle.pb_broker.specs.Stream.{stream}

pub returns-in-Ok : goal.returns-in-Ok
returns-in-Ok g c =
    let read = stream (g.S.Source.rest c.args.source.now) (g.S.Source.rest c.read_few.new.source) (g.S.Source.fault_count c.args.source.now) (g.S.Source.fault_count c.read_few.new.source) in
    let same : c.deref.result.now ≡ c.in-Ok.bytes.items = search rules in
    let few : ReadsFew read c.deref.result.now = subst (λ (bytes : List ℕ). ReadsFew read bytes) (sym same) c.in-Ok.ensures.ok in
    run_by (call_of read (g.P.Pmem.seen c.args.device) (g.P.Pmem.seen c.run_on.result.device)) c.deref.result.now c.run_on.result.served few ((g.met.P.Pmem g.world.𝓛 g.world.𝓜 g.world.𝓡 ((λ s x. x), (λ x. x), (λ x. x), λ x. x)).is_replay c.args.device) c.run_on.ensures
