use Rattle.std.proofs.Common.{◌≡◌, [], ◌∷◌, ◌++◌, codes, slice_index, length, sym, ap, subst, rules}
use Rattle.std.proofs.lemmas.Result.{on_ok_weaker, on_err_weaker}
use Rattle.std.specs.Io.KnownBytes.{Appends}
use Rattle.pb_io.specs.SinkBytes.{AppendsSome}
use Rattle.pb_report.specs.Pieces.{section_of, numbered}
use Rattle.pb_region_report.specs.ReportText.{region_text, report_text, state_text}
use Rattle.pb_region_report.proofs.ReportLemmas.{report_is}
use Rattle.pb_region_report.proofs.report.write_stack.Goals as goal

pub returns-clause-ok : goal.returns-clause-ok
returns-clause-ok g c =
    let known = g.K.Sink.bytes in
    let s = c.args.comb.now.standing in
    let items = c.object-stack.result.now.items in
    let same : region_text s ++ section_of c.count_line-count.result.bytes (λ place. numbered (codes "item") (slice_index items place ∷ [])) (length items) ≡ report_text s =
    report_is s (codes "items") c.count_line-count.result.bytes (λ place. numbered (codes "item") (slice_index items place ∷ [])) (length items) _ (length items) (sym (ap state_text c.object-stack.ensures)) c.count_line-count.ensures (search rules) in
    on_ok_weaker c.write_region.result (subst (Appends (known c.args.sink.now) (known c.write_region.new.sink)) same) c.write_region.ensures.ok

pub returns-clause-err : goal.returns-clause-err
returns-clause-err g c =
    let known = g.K.Sink.bytes in
    let s = c.args.comb.now.standing in
    let items = c.object-stack.result.now.items in
    let same : region_text s ++ section_of c.count_line-count.result.bytes (λ place. numbered (codes "item") (slice_index items place ∷ [])) (length items) ≡ report_text s =
    report_is s (codes "items") c.count_line-count.result.bytes (λ place. numbered (codes "item") (slice_index items place ∷ [])) (length items) _ (length items) (sym (ap state_text c.object-stack.ensures)) c.count_line-count.ensures (search rules) in
    on_err_weaker c.write_region.result (subst (AppendsSome (known c.args.sink.now) (known c.write_region.new.sink)) same) c.write_region.ensures.err
