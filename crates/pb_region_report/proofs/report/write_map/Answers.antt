use Rattle.std.proofs.Common.{◌≡◌, ◌++◌, codes, count_by, length, sym, ap, subst}
use Rattle.std.proofs.lemmas.Result.{on_ok_weaker, on_err_weaker}
use Rattle.std.specs.Io.KnownBytes.{Appends}
use Rattle.pb_object.specs.Map.{register_at}
use Rattle.pb_io.specs.SinkBytes.{AppendsSome}
use Rattle.pb_report.specs.Pieces.{section_of}
use Rattle.pb_region_report.specs.ReportText.{region_text, report_text, state_text, is_written, register_line}
use Rattle.pb_region_report.proofs.ReportLemmas.{report_is}
use Rattle.pb_region_report.proofs.report.write_map.Goals as goal

pub returns-clause-ok : goal.returns-clause-ok
returns-clause-ok g c =
    let known = g.K.Sink.bytes in
    let s = c.args.comb.now.standing in
    let map = c.object-map.result.now in
    let same : region_text s ++ section_of c.count_line-count.result.bytes (λ key. register_line key (register_at map key)) (length map) ≡ report_text s =
    report_is s (codes "registers") c.count_line-count.result.bytes (λ key. register_line key (register_at map key)) (length map) _ (count_by is_written map) (sym (ap state_text c.object-map.ensures)) c.count_line-count.ensures c.written_count.ensures in
    on_ok_weaker c.write_region.result (subst (Appends (known c.args.sink.now) (known c.write_region.new.sink)) same) c.write_region.ensures.ok

pub returns-clause-err : goal.returns-clause-err
returns-clause-err g c =
    let known = g.K.Sink.bytes in
    let s = c.args.comb.now.standing in
    let map = c.object-map.result.now in
    let same : region_text s ++ section_of c.count_line-count.result.bytes (λ key. register_line key (register_at map key)) (length map) ≡ report_text s =
    report_is s (codes "registers") c.count_line-count.result.bytes (λ key. register_line key (register_at map key)) (length map) _ (count_by is_written map) (sym (ap state_text c.object-map.ensures)) c.count_line-count.ensures c.written_count.ensures in
    on_err_weaker c.write_region.result (subst (AppendsSome (known c.args.sink.now) (known c.write_region.new.sink)) same) c.write_region.ensures.err
