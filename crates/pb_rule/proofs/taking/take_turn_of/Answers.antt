use Rattle.std.proofs.Common.{arith}
use Rattle.pb_rule.proofs.Takes.{takes_turn_of}
use Rattle.pb_rule.proofs.taking.take_turn_of.Goals as goal

pub compare_exchange-requires : goal.compare_exchange-requires
compare_exchange-requires g c = (
  c.requires.at.same,
  omega (arith, c.requires.at.words),
  takes_turn_of g.E.Engine.seen (g.E.Engine.seen c.args.board.now.key.value).standing.kind (g.E.Engine.seen c.args.board.now.key.value) _ c.requires.kind _ _ c.args.turn c.args.found c.args.seat.now.me c.requires.plain c.requires.stage,
)
