use Rattle.std.proofs.Common.{ℕ, List, ◌++◌, subst}
use Rattle.std.proofs.lemmas.Result.{on_ok_weaker, on_err_weaker}
use Rattle.std.specs.Io.KnownBytes.{Appends}
use Rattle.pb_io.specs.SinkBytes.{AppendsSome}
use Rattle.pb_report.specs.Pieces.{section_of}
use Rattle.pb_region_report.proofs.ReportLemmas.{region_is}
use Rattle.pb_region_report.proofs.report.write_region.Goals as goal

pub returns-clause-ok : goal.returns-clause-ok
returns-clause-ok g c =
    let known = g.K.Sink.bytes in
    let object = section_of c.args.count.now.bytes (g.L.Lines.line_at c.args.lines.now) (g.L.Lines.line_count c.args.lines.now) in
    on_ok_weaker c.write_sections.result
    (subst (λ (region : List ℕ). Appends (known c.args.sink.now) (known c.write_sections.new.sink) (region ++ object))
    (region_is (g.E.Engine.seen c.args.engine.now).standing c.args.head.now.bytes c.requires))
    c.write_sections.ensures.ok

pub returns-clause-err : goal.returns-clause-err
returns-clause-err g c =
    let known = g.K.Sink.bytes in
    let object = section_of c.args.count.now.bytes (g.L.Lines.line_at c.args.lines.now) (g.L.Lines.line_count c.args.lines.now) in
    on_err_weaker c.write_sections.result
    (subst (λ (region : List ℕ). AppendsSome (known c.args.sink.now) (known c.write_sections.new.sink) (region ++ object))
    (region_is (g.E.Engine.seen c.args.engine.now).standing c.args.head.now.bytes c.requires))
    c.write_sections.ensures.err
