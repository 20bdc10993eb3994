use Rattle.std.proofs.Common.{ap, arith}
use Rattle.pb_core.specs.Memory as core
use Rattle.pb_play.specs.Maps.{part_of}
use Rattle.pb_play.proofs.Holding.{word_moves, holder_runs, ready_at}
use Rattle.pb_play.proofs.Scanning.{holds_turn, works_at, seen_by}
use Rattle.pb_play.proofs.hold.scan_next.Goals as goal

pub returns-then-scanned-head-clause-moved : goal.returns-then-scanned-head-clause-moved
returns-then-scanned-head-clause-moved c = λ w is s there ready.
    word_moves {old = c.args.world.now} c.args.client is s (holder_runs c.args.client c.args.side (holds_turn c.args.client c.args.side s.memory c.requires.holds)) there (c.scan.ensures c.args.client c.requires.holds)

pub returns-else-scanned-head-clause-moved : goal.returns-else-scanned-head-clause-moved
returns-else-scanned-head-clause-moved c = λ w is s there ready.
    absurd (omega (arith, c.if-scanned-head.false, ap (λ head. head.clients) c.head.view_is, ap (λ head. head.clients) s.memory.head, ready_at w (core.Scanning c.args.scanned (part_of c.args.part) (seen_by c.args.world.now.memory)) (works_at s.memory c.requires.at) ready))
