use Rattle.std.proofs.Common.{sym}
use Rattle.pb_script.proofs.Drawn.{first_draw}
use Rattle.pb_script.proofs.drill.Draws.new.Goals as goal

pub returns : goal.returns
returns c = sym (first_draw c.args.seed)
