use Rattle.std.proofs.Common.{arith}
use Rattle.pb_play.proofs.Waiting.{matches, lacks_held, lacks_free}
use Rattle.pb_play.proofs.wait.load_number.Goals as goal

pub returns-then-found-memory : goal.returns-then-found-memory
returns-then-found-memory c = matches c.args.client c.args.turn c.row-found.result c.row-found.ensures c.requires.at c.if-found-memory.true c.go_to.ensures.after c.go_to.ensures.says

pub returns-then-turn-eq1 : goal.returns-then-turn-eq1
returns-then-turn-eq1 c = lacks_held c.args.client c.args.turn c.row-found.result c.row-found.ensures c.requires.at c.if-found-memory.false c.if-turn-eq1.true c.go_to-then-turn-eq1.ensures.after c.go_to-then-turn-eq1.ensures.says

pub returns : goal.returns
returns c = lacks_free c.args.client c.args.turn c.row-found.result c.row-found.ensures c.requires.at c.if-found-memory.false (omega (arith, c.if-turn-eq1.false)) c.go_to-2.ensures.after c.go_to-2.ensures.says
