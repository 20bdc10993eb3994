use Rattle.pb_core.specs.Memory as core
use Rattle.pb_play.proofs.Holding.{scan_idle}
use Rattle.pb_play.proofs.Scanning.{works_at, seen_by}
use Rattle.pb_play.proofs.Silently.{going_call}
use Rattle.pb_play.proofs.between.go_on_scanned.Goals as goal

pub returns-then-world-clause-on : goal.returns-then-world-clause-on
returns-then-world-clause-on c = λ w holder is s holds there.
    let call = going_call s.device c.if-world.true in
    absurd (scan_idle holder c.args.side c.args.world.now.head.clients core.AtNumber (seen_by c.args.world.now.memory) is holds (works_at s.memory c.requires.at) call.at)

pub returns-clause-on : goal.returns-clause-on
returns-clause-on c = c.begin_round.ensures.on
