use Rattle.std.proofs.Common.{◌≡◌, List, ℕ, subst, rules}
use Rattle.pb_broker.specs.declared.status.Status.{Status}
use Rattle.pb_broker.specs.Call.{IsSaid}
use Rattle.pb_broker.specs.Texts.{stop_text, stop_status}
use Rattle.pb_broker.proofs.Printing.{said_by}
use Rattle.pb_broker.proofs.print.print_stop.Goals as goal
use Rattle.pb_broker.specs.Stream.{stream}

pub returns : goal.returns
returns g c =
    let before = g.K.Sink.bytes c.args.sink.now in
    let mid = g.K.Sink.bytes c.send-written.new.sink in
    let after = g.K.Sink.bytes c.status_of.new.sink in
    let f0 = g.K.Sink.fault_count c.args.sink.now in
    let f1 = g.K.Sink.fault_count c.send-written.new.sink in
    let f2 = g.K.Sink.fault_count c.status_of.new.sink in
    let text : c.as_bytes.result.now ≡ stop_text c.args.stop.now = search rules in
    let status : c.stop_status.result ≡ stop_status c.args.stop.now = search rules in
    let said : IsSaid (stream before after f0 f2) c.as_bytes.result.now c.stop_status.result c.status_of.result =
    said_by before mid after f0 f1 f2 c.as_bytes.result.now c.stop_status.result c.status_of.result c.send-written.result c.send-written.ensures.ok c.send-written.ensures.err c.send-written.ensures.cause c.status_of.ensures.bytes c.status_of.ensures.status in
    subst (λ (t : List ℕ). IsSaid (stream before after f0 f2) t (stop_status c.args.stop.now) c.status_of.result) text
    (subst (λ (s : Status). IsSaid (stream before after f0 f2) c.as_bytes.result.now s c.status_of.result) status said)
