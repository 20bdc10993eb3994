use Rattle.std.proofs.Common.{refl}
use Rattle.std.proofs.lemmas.Bool.{false≢true}
use Rattle.pb_play.proofs.between.call.Goals as goal

pub returns-then-make-clause-made : goal.returns-then-make-clause-made
returns-then-make-clause-made c = λ w s due.
    let made = (c.make.ensures.made w.tale w.progress s.device due).1 in
    (refl, record { entry = made.entry; made = made.made; op = made.op; left = made.left; at = made.at; shows = record { memory = s.memory; device = made.shows; head = s.head } })

pub returns-else-make-clause-made : goal.returns-else-make-clause-made
returns-else-make-clause-made c = λ w s due. absurd (false≢true (c.if-make.ensures.made w.tale w.progress s.device due).0)
