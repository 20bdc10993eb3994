use Rattle.pb_play.proofs.Holding.{steps_on}
use Rattle.pb_play.proofs.Scanning.{holds_turn}
use Rattle.pb_play.proofs.hold.hold.Goals as goal

pub returns-clause-stepped : goal.returns-clause-stepped
returns-clause-stepped c = λ w is s there.
    steps_on c.args.client c.args.side is (holds_turn c.args.client c.args.side s.memory c.requires.holds) there (c.go_on.ensures.on w c.args.client is s (holds_turn c.args.client c.args.side s.memory c.requires.holds) there) c.act.ensures.moved
