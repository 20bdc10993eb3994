use Rattle.std.proofs.Common.{rules, ◌+◌}
use Rattle.std.proofs.lemmas.Result.{err_from_is_err_and}
use Rattle.pb_report.proofs.PieceLemmas.{appends_more}
use Rattle.pb_report.proofs.output.send.Goals as goal

pub returns-in_err-sent-clause-err : goal.returns-in_err-sent-clause-err
returns-in_err-sent-clause-err g c =
    let p = err_from_is_err_and c.from_residual.result c.from_residual.ensures.1 in
    let failed = c.in_err-sent.ensures.err in
    rw (p.1) (c.loop-sent.sent + failed.0, appends_more _ _ _ c.args.bytes.now _ c.loop-sent.sent failed.0 c.split_at.ensures.back c.loop-sent.invariant.written failed.1)

pub loop-sent-preserved : goal.loop-sent-preserved
loop-sent-preserved g c = record {
  within = search rules;
  written = appends_more _ _ _ c.args.bytes.now _ c.loop-sent.sent _ c.split_at.ensures.back c.loop-sent.invariant.written c.in_ok-sent.ensures.ok;
  no_fault = search rules;
}
