use Rattle.std.proofs.Common.{◌≡◌, List, ℕ, subst, rules}
use Rattle.pb_report.specs.SummaryText.{summary_text}
use Rattle.pb_broker.specs.declared.status.Status.{Status}
use Rattle.pb_broker.specs.Call.{IsSaid}
use Rattle.pb_broker.specs.Texts.{run_status}
use Rattle.pb_broker.specs.Stream.{stream}
use Rattle.pb_broker.proofs.Printing.{said_by}
use Rattle.pb_broker.proofs.print.print_summary.Goals as goal

pub returns : goal.returns
returns g c =
    let before = g.K.Sink.bytes c.args.sink.now in
    let mid = g.K.Sink.bytes c.write_summary-written.new.sink in
    let after = g.K.Sink.bytes c.status_of.new.sink in
    let f0 = g.K.Sink.fault_count c.args.sink.now in
    let f1 = g.K.Sink.fault_count c.write_summary-written.new.sink in
    let f2 = g.K.Sink.fault_count c.status_of.new.sink in
    let asks = c.args.requests.now.asks.items in
    let list = c.args.requests.now.outcomes.items in
    let written = summary_text c.deref.result.now c.deref-2.result.now c.args.versions in
    let text : written ≡ summary_text asks list c.args.versions = search rules in
    let whole : c.run_status.result ≡ run_status list = search rules in
    let said : IsSaid (stream before after f0 f2) written c.run_status.result c.status_of.result =
    said_by before mid after f0 f1 f2 written c.run_status.result c.status_of.result c.write_summary-written.result c.write_summary-written.ensures.ok c.write_summary-written.ensures.err c.write_summary-written.ensures.cause c.status_of.ensures.bytes c.status_of.ensures.status in
    subst (λ (t : List ℕ). IsSaid (stream before after f0 f2) t (run_status list) c.status_of.result) text
    (subst (λ (s : Status). IsSaid (stream before after f0 f2) written s c.status_of.result) whole said)
