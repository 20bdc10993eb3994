use Rattle.std.proofs.Common.{◌%◌, arith}
use Rattle.pb_layout.proofs.OneRecovery.{record_fits}
use Rattle.pb_round_play.proofs.place.record.Goals as goal

pub split_at-requires : goal.split_at-requires
split_at-requires c = omega (arith, c.place_of.ensures, c.requires.whole, record_fits c.args.head.now c.args.side (c.args.rounds % 2) c.record_len-length.ensures.valid c.requires.side (omega arith))
