use Rattle.std.proofs.Common.{ℕ, List, subst}
use Rattle.std.specs.Prelude.{OnOk, OnErr}
use Rattle.std.specs.Io.KnownBytes.{Appends}
use Rattle.pb_io.specs.SinkBytes.{AppendsSome}
use Rattle.pb_report.proofs.TextLemmas.{text-by_places}
use Rattle.pb_report.proofs.outcomes.write_outcomes.Goals as goal

pub returns-clause-ok : goal.returns-clause-ok
returns-clause-ok g c =
    let known = g.K.Sink.bytes in
    let same = text-by_places c.args.asks.now c.args.outcomes.now c.requires in
    subst (λ (text : List ℕ). OnOk c.write_lines.result (Appends (known c.args.sink.now) (known c.write_lines.new.sink) text)) same c.write_lines.ensures.ok

pub returns-clause-err : goal.returns-clause-err
returns-clause-err g c =
    let known = g.K.Sink.bytes in
    let same = text-by_places c.args.asks.now c.args.outcomes.now c.requires in
    subst (λ (text : List ℕ). OnErr c.write_lines.result (AppendsSome (known c.args.sink.now) (known c.write_lines.new.sink) text)) same c.write_lines.ensures.err
