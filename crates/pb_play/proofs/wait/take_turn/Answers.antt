use Rattle.std.proofs.Common.{arith}
use Rattle.pb_play.proofs.Storing.{takes_turn}
use Rattle.pb_play.proofs.Waiting.{misses}
use Rattle.pb_play.proofs.wait.take_turn.Goals as goal

pub returns-then-memory-turn : goal.returns-then-memory-turn
returns-then-memory-turn c = misses c.args.client c.args.turn c.args.found c.requires.at c.if-memory-turn.true c.try_again.ensures.after c.try_again.ensures.says

pub returns : goal.returns
returns c = takes_turn c.args.client c.args.turn c.args.found c.requires.at c.if-memory-turn.false (omega (arith, c.ranges.turn.fits)) c.hold_turn.ensures.after c.hold_turn.ensures.says
