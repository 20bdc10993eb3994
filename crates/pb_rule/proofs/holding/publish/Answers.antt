use Rattle.std.proofs.Common.{arith}
use Rattle.pb_rule.proofs.LetsGo.{publishes}
use Rattle.pb_rule.proofs.holding.publish.Goals as goal

pub store-requires : goal.store-requires
store-requires g c = (
  c.requires.at.same,
  omega (arith, c.requires.at.words),
  publishes g.E.Engine.seen (g.E.Engine.seen c.args.board.now.key.value).standing.kind (g.E.Engine.seen c.args.board.now.key.value) _ _ c.args.turn c.args.seat.now.me c.requires.ready c.requires.filled c.requires.same c.requires.turn,
)
