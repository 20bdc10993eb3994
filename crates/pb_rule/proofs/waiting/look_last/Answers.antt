use Rattle.std.proofs.Common.{arith}
use Rattle.pb_rule.proofs.Waits.{looks_last}
use Rattle.pb_rule.proofs.waiting.look_last.Goals as goal

pub load-requires : goal.load-requires
load-requires g c =
    (c.requires.at.same, omega (arith, c.requires.at.words), looks_last g.E.Engine.seen (g.E.Engine.seen c.args.board.now.key.value).standing.kind (g.E.Engine.seen c.args.board.now.key.value) _ _ c.args.seat.now.me _ c.requires.plain c.requires.stage)
