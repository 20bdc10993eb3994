use Rattle.std.proofs.Common.{arith}
use Rattle.pb_rule.proofs.Holds.{notes_faults}
use Rattle.pb_rule.proofs.holding.note_faults.Goals as goal

pub store-requires : goal.store-requires
store-requires g c = (
  c.requires.at.same,
  omega (arith, c.requires.at.words),
  notes_faults g.E.Engine.seen (g.E.Engine.seen c.args.board.now.key.value).standing.kind (g.E.Engine.seen c.args.board.now.key.value) _ _ c.args.count c.args.seat.now.me c.requires.ready c.requires.count,
)
