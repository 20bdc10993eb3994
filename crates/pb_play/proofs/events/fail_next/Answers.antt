use Rattle.std.proofs.Common.{◌≡◌, ap, sym, ◌∙◌}
use Rattle.pb_core.specs.Memory as core
use Rattle.pb_core.proofs.Turns.{held-client}
use Rattle.pb_play.specs.Maps.{owner_of}
use Rattle.pb_play.proofs.Holding.{fails_on}
use Rattle.pb_play.proofs.Scanning.{holds_turn}
use Rattle.pb_play.proofs.events.fail_next.Goals as goal

pub returns-then-holder-client-clause-stepped : goal.returns-then-holder-client-clause-stepped
returns-then-holder-client-clause-stepped c = λ w is s may.
    absurd (c.if-holder-client.true (held-client c.args.holder c.args.client c.args.side may.side (sym (s.memory.owner ∙ ap owner_of c.requires.holds) ∙ may.holds)))

pub returns-clause-stepped : goal.returns-clause-stepped
returns-clause-stepped c = λ w is s may.
    let holds : w.memory.owner ≡ core.Held c.args.client c.args.side = holds_turn c.args.holder c.args.side s.memory c.requires.holds ∙ ap (λ d. core.Held d c.args.side) c.if-holder-client.false in
    fails_on c.args.client c.args.side c.args.how is holds may.there (c.go_on.ensures.on w c.args.client is s holds may.there) may.due c.fail.ensures.moved
