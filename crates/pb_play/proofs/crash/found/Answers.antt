use Rattle.std.proofs.Common.{sym, subst}
use Rattle.pb_core.specs.Memory.{memory_at_opening}
use Rattle.pb_play.specs.declared.memory.Memory.{Memory}
use Rattle.pb_play.specs.declared.work.Knowledge.TheVariants.{Doubtful}
use Rattle.pb_play.specs.declared.work.Owner.TheVariants.{Closed}
use Rattle.pb_play.specs.Shown.{ShowsMemory}
use Rattle.pb_play.proofs.Founding.{shows_found}
use Rattle.pb_play.proofs.crash.found.Goals as goal

pub returns : goal.returns
returns c = λ start past answers stands header.
    subst (λ (fresh : Memory). ShowsMemory (record fresh { seats = c.reseat.new.seats; owner = Closed; knowledge = Doubtful; rounds = c.rounds_in-rounds.result }) (memory_at_opening start past answers)) (sym c.fresh.ensures)
    (shows_found c.args.lines.now c.args.head.now c.reseat.new.seats c.rounds_in-rounds.result start past answers stands header c.rounds_in-rounds.ensures.first c.rounds_in-rounds.ensures.second c.reseat.ensures.long c.reseat.ensures.found)
