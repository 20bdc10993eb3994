use Rattle.std.proofs.Common.{ap, arith, subst, sym}
use Rattle.pb_core.specs.Memory as core
use Rattle.pb_play.specs.Maps.{part_of}
use Rattle.pb_play.proofs.Holding.{IsWithin, client_ready, part_ready}
use Rattle.pb_play.proofs.Scanning.{works_at, seen_by}
use Rattle.pb_play.proofs.Silently.{goes_nowhere}
use Rattle.pb_play.proofs.between.go_on_scanning.Goals as goal

pub returns-then-client-head-clause-on : goal.returns-then-client-head-clause-on
returns-then-client-head-clause-on c = λ w holder is s holds there.
    goes_nowhere (core.Scanning c.args.client (part_of c.args.part) (seen_by c.args.world.now.memory)) s (works_at s.memory c.requires.at)
    (client_ready holder c.args.side c.args.client (part_of c.args.part) (seen_by c.args.world.now.memory) is.memory_is holds (works_at s.memory c.requires.at)
    (λ same. c.if-client-head.true (omega (arith, same, ap (λ head. head.clients) c.head.view_is, ap (λ head. head.clients) s.head))))

pub returns-in-AtCode-clause-on : goal.returns-in-AtCode-clause-on
returns-in-AtCode-clause-on c = λ w holder is s holds there.
    let at = works_at s.memory c.requires.at in
    goes_nowhere (core.Scanning c.args.client (part_of c.args.part) (seen_by c.args.world.now.memory)) s at
    (part_ready holder c.args.side c.args.client (part_of c.args.part) (seen_by c.args.world.now.memory) is.memory_is holds at (subst (λ p. IsWithin (part_of p)) (sym c.in-AtCode.is) tt))

pub returns-in-AtFirst-clause-on : goal.returns-in-AtFirst-clause-on
returns-in-AtFirst-clause-on c = λ w holder is s holds there.
    let at = works_at s.memory c.requires.at in
    goes_nowhere (core.Scanning c.args.client (part_of c.args.part) (seen_by c.args.world.now.memory)) s at
    (part_ready holder c.args.side c.args.client (part_of c.args.part) (seen_by c.args.world.now.memory) is.memory_is holds at (subst (λ p. IsWithin (part_of p)) (sym c.in-AtFirst.is) tt))

pub returns-in-AtSecond-clause-on : goal.returns-in-AtSecond-clause-on
returns-in-AtSecond-clause-on c = λ w holder is s holds there.
    let at = works_at s.memory c.requires.at in
    goes_nowhere (core.Scanning c.args.client (part_of c.args.part) (seen_by c.args.world.now.memory)) s at
    (part_ready holder c.args.side c.args.client (part_of c.args.part) (seen_by c.args.world.now.memory) is.memory_is holds at (subst (λ p. IsWithin (part_of p)) (sym c.in-AtSecond.is) tt))

pub returns-in-AtThird-clause-on : goal.returns-in-AtThird-clause-on
returns-in-AtThird-clause-on c = λ w holder is s holds there.
    let at = works_at s.memory c.requires.at in
    goes_nowhere (core.Scanning c.args.client (part_of c.args.part) (seen_by c.args.world.now.memory)) s at
    (part_ready holder c.args.side c.args.client (part_of c.args.part) (seen_by c.args.world.now.memory) is.memory_is holds at (subst (λ p. IsWithin (part_of p)) (sym c.in-AtThird.is) tt))
