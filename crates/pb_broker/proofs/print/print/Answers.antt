use Rattle.std.proofs.Common.{◌≡◌, Result, MatchResult, List, ℕ, sym, subst, rules}
use Rattle.pb_report.specs.OutcomeText.{outcomes_text}
use Rattle.pb_broker.specs.declared.requests.Requests.{Requests}
use Rattle.pb_broker.specs.declared.status.Status.{Status}
use Rattle.pb_broker.specs.declared.stop.Stop.{Stop}
use Rattle.pb_broker.specs.Call.{IsSaid}
use Rattle.pb_broker.specs.Texts.{run_status, stop_text, stop_status}
use Rattle.pb_broker.proofs.Printing.{said_by}
use Rattle.pb_broker.proofs.print.print.Goals as goal
use Rattle.pb_broker.specs.Stream.{stream}

pub returns-in-Ok : goal.returns-in-Ok
returns-in-Ok g c =
    let before = g.K.Sink.bytes c.args.sink.now in
    let mid = g.K.Sink.bytes c.write_outcomes-written.new.sink in
    let after = g.K.Sink.bytes c.status_of.new.sink in
    let f0 = g.K.Sink.fault_count c.args.sink.now in
    let f1 = g.K.Sink.fault_count c.write_outcomes-written.new.sink in
    let f2 = g.K.Sink.fault_count c.status_of.new.sink in
    let asks = c.in-Ok.requests.asks.items in
    let list = c.in-Ok.requests.outcomes.items in
    let text : outcomes_text c.deref.result.now c.deref-in-Ok.result.now ≡ outcomes_text asks list = search rules in
    let whole : c.run_status.result ≡ run_status list = search rules in
    let said : IsSaid (stream before after f0 f2) (outcomes_text c.deref.result.now c.deref-in-Ok.result.now) c.run_status.result c.status_of.result =
    said_by before mid after f0 f1 f2 (outcomes_text c.deref.result.now c.deref-in-Ok.result.now) c.run_status.result c.status_of.result c.write_outcomes-written.result c.write_outcomes-written.ensures.ok c.write_outcomes-written.ensures.err c.write_outcomes-written.ensures.cause c.status_of.ensures.bytes c.status_of.ensures.status in
    subst (λ (r : Result Requests Stop). MatchResult r (λ requests. IsSaid (stream before after f0 f2) (outcomes_text requests.asks.items requests.outcomes.items) (run_status requests.outcomes.items) c.status_of.result) (λ stop. IsSaid (stream before after f0 f2) (stop_text stop) (stop_status stop) c.status_of.result)) (sym c.in-Ok.is)
    (subst (λ (t : List ℕ). IsSaid (stream before after f0 f2) t (run_status list) c.status_of.result) text
    (subst (λ (s : Status). IsSaid (stream before after f0 f2) (outcomes_text c.deref.result.now c.deref-in-Ok.result.now) s c.status_of.result) whole said))
