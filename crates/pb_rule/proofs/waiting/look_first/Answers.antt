use Rattle.std.proofs.Common.{arith}
use Rattle.pb_rule.proofs.Waits.{looks_first}
use Rattle.pb_rule.proofs.waiting.look_first.Goals as goal

pub load-requires : goal.load-requires
load-requires g c =
    (c.requires.at.same, omega (arith, c.requires.at.words), looks_first g.E.Engine.seen (g.E.Engine.seen c.args.board.now.key.value).standing.kind (g.E.Engine.seen c.args.board.now.key.value) _ _ c.args.seat.now.me c.requires.plain c.requires.looking)
