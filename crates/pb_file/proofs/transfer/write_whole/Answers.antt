use Rattle.std.proofs.Common.{rules}
use Rattle.pb_file.proofs.Pieces.{appends_more}
use Rattle.pb_file.proofs.transfer.write_whole.Goals as goal

pub loop-sent-preserved : goal.loop-sent-preserved
loop-sent-preserved g c = record {
  within = search rules;
  written = appends_more _ _ _ c.args.bytes.now _ c.loop-sent.sent _ c.split_at.ensures.back c.loop-sent.invariant.written c.in_ok-count.ensures.bytes;
}
